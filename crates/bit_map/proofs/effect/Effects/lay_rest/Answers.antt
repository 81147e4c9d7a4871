use Rattle.std.proofs.Common.{◌+◌, ◌*◌, arith}
use Rattle.bit_map.proofs.LayLemmas.{laid_next}
use Rattle.bit_map.proofs.effect.Effects.lay_rest.Goals as goal

pub loop-k-preserved : goal.loop-k-preserved
loop-k-preserved c =
    let k = c.loop-k.k in
    record {
      low = omega (arith, c.loop-k.invariant.low);
      laid = laid_next c.args.self (64 * c.args.first) k c.args.run.now c.loop-k.run c.of.result (omega (arith, c.loop-k.invariant.low)) (omega arith) c.loop-k.invariant.laid c.of.ensures;
    }
