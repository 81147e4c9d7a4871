use Rattle.std.proofs.Common.{◌+◌, ◌*◌, ◌/◌, ◌%◌, arith}
use Rattle.bit_map.proofs.MoveLemmas.{moved_down}
use Rattle.bit_map.proofs.moves.move_down.Goals as goal

pub returns : goal.returns
returns c =
    let fours = c.args.count / 4 in
    let rest = c.args.count % 4 in
    moved_down (64 * c.args.first) (64 * c.args.near + c.args.bit) (64 * (c.args.first + 4 * fours)) (64 * (c.args.near + 4 * fours) + c.args.bit) (64 * (4 * fours)) (64 * rest) (64 * c.args.count) _ _ _
    (omega (arith, c.requires.back)) (omega arith) (omega arith) (omega arith) c.down_by_four.ensures c.down_by_one.ensures
