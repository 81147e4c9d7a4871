use Rattle.std.proofs.Common.{arith, refl}
use Rattle.looks.specs.Damages.{look_damage}
use Rattle.looks.proofs.DamageLemmas.{nothing_within, reached, same-more}
use Rattle.looks.proofs.damage.damage_between.Goals as goal

pub loop-at-init : goal.loop-at-init
loop-at-init c = (λ u t same p out. refl, nothing_within _ _ refl)

pub loop-at-preserved : goal.loop-at-preserved
loop-at-preserved c = (
  λ u t same p out.
      same-more u t p c.args.old.now c.args.new.now c.loop-at.at _ _ (omega arith) (omega arith) (c.loop-at.invariant.0 u t same p (c.with_step-damage.ensures.before p out)) (λ d. c.with_step-damage.ensures.same u t same p d out),
  c.with_step-damage.ensures.small (look_damage c.args.same_text c.args.old.now c.args.new.now) c.loop-at.invariant.1
      (reached c.args.same_text c.args.old.now c.args.new.now c.loop-at.at _ _ (omega arith) (omega arith)),
)
