use Rattle.std.proofs.Common.{◌+◌, ◌*◌, ◌/◌, ◌%◌, arith}
use Rattle.bit_map.proofs.MoveLemmas.{moved_up}
use Rattle.bit_map.proofs.moves.move_up.Goals as goal

pub returns : goal.returns
returns c =
    let fours = c.args.count / 4 in
    let rest = c.args.count % 4 in
    moved_up (64 * c.args.first) (64 * c.args.near + c.args.bit) (64 * (c.args.first + rest)) (64 * (c.args.near + rest) + c.args.bit) (64 * rest) (64 * (4 * fours)) (64 * c.args.count) _ _ _
    c.requires.ahead (omega arith) (omega arith) (omega arith) c.up_by_four.ensures c.up_by_one.ensures
