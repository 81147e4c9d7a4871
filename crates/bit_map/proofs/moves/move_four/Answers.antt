use Rattle.std.proofs.Common.{◌≡◌, ◌+◌, ◌-◌, arith}
use Rattle.bit_map.proofs.MoveLemmas.{moved_four, put_whole}
use Rattle.bit_map.proofs.moves.move_four.Goals as goal

pub returns : goal.returns
returns c =
    let less : c.args.at + 4 - c.args.at ≡ 4 = omega arith in
    let whole = put_whole c.args.words.now c.four_of-lanes.result c.args.at c.requires.within c.four_of-lanes.ensures.all in
    rw (less, whole) (moved_four c.args.words.now c.four_of-lanes.result c.args.at c.args.near c.args.bit c.requires.within c.four_of-lanes.ensures.all c.four_of-lanes.ensures.each)
