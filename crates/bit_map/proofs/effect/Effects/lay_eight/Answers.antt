use Rattle.std.proofs.Common.{◌≡◌, ◌+◌, ◌-◌, arith}
use Rattle.bit_map.proofs.LayLemmas.{laid_eight, put_eight}
use Rattle.bit_map.proofs.effect.Effects.lay_eight.Goals as goal

pub returns : goal.returns
returns c =
    let less : c.args.at + 8 - c.args.at ≡ 8 = omega arith in
    let lanes = c.of_eight-lanes.result in
    let whole = put_eight c.args.run.now lanes c.args.at c.requires c.of_eight-lanes.ensures.all in
    rw (less, whole) (laid_eight c.args.self c.args.run.now lanes c.args.at c.requires c.of_eight-lanes.ensures.all (rw less at c.of_eight-lanes.ensures.each))
