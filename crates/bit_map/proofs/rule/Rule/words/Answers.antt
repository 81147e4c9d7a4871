use Rattle.std.proofs.Common.{◌≢◌, ◌*◌, ◌∙◌, ap, arith, get_or-set_other}
use Rattle.bit_map.specs.Rules.{right_of}
use Rattle.bit_map.specs.Words.{bit_in}
use Rattle.bit_map.proofs.WordLemmas.{words_step}
use Rattle.bit_map.proofs.PartLemmas.{right_of-more}
use Rattle.bit_map.proofs.rule.Rule.words.Goals as goal

pub loop-k-preserved : goal.loop-k-preserved
loop-k-preserved g c =
    let k = c.loop-k.k in
    record {
      done = words_step (λ n b. g.Self.Rule.value c.args.self.now (right_of c.args.start n) b) c.args.run.now c.loop-k.run k _ (omega arith) c.loop-k.invariant.done
          (λ r low. c.word.ensures.ruled r low ∙ (λ i. g.Self.Rule.value c.args.self.now ((ap (λ p. right_of p r) c.right_of.ensures ∙ right_of-more c.args.start (64 * k) r) i) (bit_in (c.loop-k.invariant.left k (omega arith) i) r)));
      left = λ j high. let other : j ≢ k = omega arith in rw get_or-set_other (c.loop-k.invariant.left j (omega arith));
    }
