use Rattle.std.proofs.Common.{◌+◌, ◌-◌, ◌*◌, arith}
use Rattle.bit_map.proofs.MoveLemmas.{moved_up}
use Rattle.bit_map.proofs.moves.up_by_four.Goals as goal

pub loop-k-preserved : goal.loop-k-preserved
loop-k-preserved c =
    let k = c.loop-k.k - 1 in
    let low = c.loop-k.invariant.low in
    let more = c.loop-k-test.true in
    let ahead = c.requires.ahead in
    record {
      low = omega arith;
      moved = moved_up (64 * (c.args.first + 4 * k)) (64 * (c.args.near + 4 * k) + c.args.bit) (64 * (c.args.first + 4 * c.loop-k.k)) (64 * (c.args.near + 4 * c.loop-k.k) + c.args.bit) 256 (256 * (c.args.fours - c.loop-k.k)) _ c.args.words.now c.loop-k.words c.move_four.new.words
          (omega (arith, ahead)) (omega (arith, more)) (omega (arith, more)) (omega (arith, low, more)) c.loop-k.invariant.moved c.move_four.ensures;
    }
