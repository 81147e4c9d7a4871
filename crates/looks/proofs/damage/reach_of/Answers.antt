use Rattle.std.proofs.Common.{◌∙◌, inl, inr, sym, ap, refl}
use Rattle.looks.specs.declared.step.Mark.TheVariants.{Behind, Text}
use Rattle.looks.specs.Marks.{mark_holds}
use Rattle.looks.proofs.DamageLemmas.{none_off, none_cut_off, none_off_mark, frame_in, cross_in, rounded_in, reach_off, reach_on, reach_rect}
use Rattle.looks.proofs.damage.reach_of.Goals as goal

pub returns-in-Fill-clause-none : goal.returns-in-Fill-clause-none
returns-in-Fill-clause-none c = λ t p out.
    let same = ap (λ m. mark_holds t m p) c.in-Fill.is in
    none_off_mark t c.args.step c.in-Fill.rect p (λ e. sym same ∙ e) (sym (c.sect.ensures.pixels p) ∙ out)

pub returns-in-Frame-clause-none : goal.returns-in-Frame-clause-none
returns-in-Frame-clause-none c = λ t p out.
    let same = ap (λ m. mark_holds t m p) c.in-Frame.is in
    none_off_mark t c.args.step c.in-Frame.rect p (λ e. frame_in c.in-Frame.rect p (sym same ∙ e))
    (sym (c.sect-in-Frame.ensures.pixels p) ∙ out)

pub returns-in-Cross-clause-none : goal.returns-in-Cross-clause-none
returns-in-Cross-clause-none c = λ t p out.
    let same = ap (λ m. mark_holds t m p) c.in-Cross.is in
    none_off_mark t c.args.step c.in-Cross.rect p (λ e. cross_in c.in-Cross.rect p (sym same ∙ e))
    (sym (c.sect-in-Cross.ensures.pixels p) ∙ out)

pub returns-in-Round-clause-none : goal.returns-in-Round-clause-none
returns-in-Round-clause-none c = λ t p out.
    let same = ap (λ m. mark_holds t m p) c.in-Round.is in
    none_off_mark t c.args.step c.in-Round.rounded.rect p (λ e. rounded_in c.in-Round.rounded p (sym same ∙ e))
    (sym (c.sect-in-Round.ensures.pixels p) ∙ out)

pub returns-in-Behind-clause-none : goal.returns-in-Behind-clause-none
returns-in-Behind-clause-none c = λ t p out. none_cut_off t c.args.step p out

pub returns-else-step-clause-none : goal.returns-else-step-clause-none
returns-else-step-clause-none c = λ t p out. none_off t c.args.step p c.if-step.false

pub returns-in-Fill-clause-exact : goal.returns-in-Fill-clause-exact
returns-in-Fill-clause-exact c = λ p. reach_rect c.args.step _ c.args.step.cut c.in-Fill.rect _ p c.if-step.true c.in-Fill.is refl (c.sect.ensures.pixels p)

pub returns-in-Frame-clause-exact : goal.returns-in-Frame-clause-exact
returns-in-Frame-clause-exact c = λ p. reach_rect c.args.step _ c.args.step.cut c.in-Frame.rect _ p c.if-step.true c.in-Frame.is refl (c.sect-in-Frame.ensures.pixels p)

pub returns-in-Cross-clause-exact : goal.returns-in-Cross-clause-exact
returns-in-Cross-clause-exact c = λ p. reach_rect c.args.step _ c.args.step.cut c.in-Cross.rect _ p c.if-step.true c.in-Cross.is refl (c.sect-in-Cross.ensures.pixels p)

pub returns-in-Round-clause-exact : goal.returns-in-Round-clause-exact
returns-in-Round-clause-exact c = λ p. reach_rect c.args.step _ c.args.step.cut c.in-Round.rounded.rect _ p c.if-step.true c.in-Round.is refl (c.sect-in-Round.ensures.pixels p)

pub returns-else-step-clause-exact : goal.returns-else-step-clause-exact
returns-else-step-clause-exact c = λ p. reach_off c.args.step _ p c.sides.ensures c.if-step.false

pub returns-in-Behind-clause-exact : goal.returns-in-Behind-clause-exact
returns-in-Behind-clause-exact c = λ p.
    elim c.in-Behind.is [
      | inl (plate, is) ↦ sym (reach_on c.args.step (Behind plate) p c.if-step.true is)
      | inr (place, is) ↦ sym (reach_on c.args.step (Text place) p c.if-step.true is)
    ]
