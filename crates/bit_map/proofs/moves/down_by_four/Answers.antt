use Rattle.std.proofs.Common.{◌+◌, ◌*◌, arith}
use Rattle.bit_map.proofs.MoveLemmas.{moved_down}
use Rattle.bit_map.proofs.moves.down_by_four.Goals as goal

pub loop-k-preserved : goal.loop-k-preserved
loop-k-preserved c =
    let k = c.loop-k.k in
    record {
      low = omega arith;
      moved = moved_down (64 * c.args.first) (64 * c.args.near + c.args.bit) (64 * (c.args.first + 4 * k)) (64 * (c.args.near + 4 * k) + c.args.bit) (256 * k) 256 _ c.args.words.now c.loop-k.words c.move_four.new.words
          (omega (arith, c.requires.back)) (omega arith) (omega arith) (omega arith) c.loop-k.invariant.moved c.move_four.ensures;
    }
