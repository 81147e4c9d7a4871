use Rattle.std.proofs.Common.{◌∙◌, arith}
use Rattle.bit_map.specs.Rules.{right_of}
use Rattle.bit_map.specs.Words.{bit_in}
use Rattle.bit_map.proofs.WordLemmas.{bit_in-none, bit_more, bit_none}
use Rattle.bit_map.proofs.rule.Rule.word.Goals as goal

pub loop-k-init : goal.loop-k-init
loop-k-init g c = record { low = omega arith; done = λ j low. absurd (omega (arith, low)); left = λ j high low. bit_in-none j }

pub loop-k-preserved : goal.loop-k-preserved
loop-k-preserved g c =
    let value = g.Self.Rule.value c.args.self.now in
    let k = c.loop-k.k in
    let here = c.value-bit.ensures ∙ (λ i. value (c.right_of.ensures i) (c.bit_in.ensures i)) in
    record {
      low = omega arith;
      done = bit_more (λ j. value (right_of c.args.start j) (bit_in c.args.old j)) k c.loop-k.new c.one_bit-new.result c.value-bit.result (omega arith) here c.one_bit-new.ensures c.loop-k.invariant.done c.loop-k.invariant.left;
      left = bit_none k c.loop-k.new c.one_bit-new.result c.value-bit.result c.one_bit-new.ensures c.loop-k.invariant.left;
    }
