use Rattle.std.proofs.Common.{◌∙◌, sym, subst, refl, rules, SFits, w32}
use Rattle.std.proofs.lemmas.Int.{to_z-of_z}
use Rattle.scan_region.specs.Parts.{HasSides}
use Rattle.scan_region.proofs.KeptRuns.{are_kept, kept_more, until_same}
use Rattle.scan_region.proofs.WalkSteps.{sides_along}
use Rattle.scan_region.proofs.descent.keep_runs.Goals as goal

pub returns-in_default-clause-same : goal.returns-in_default-clause-same
returns-in_default-clause-same c =
    let i = c.loop-walk.invariant in
    let w = c.args.walk.now in
    let n = c.row_span.new.self in
    let fits : SFits w32 c.until.result = search rules in
    let told = c.until.ensures in
    simp to_z-of_z (λ s r. are_kept s w.v w.at w.right c.until.result c.loop-walk.kept.items _ (i.runs s r) (c.in_default.ensures.none s (i.walk s r)) (until_same n s w.v c.until.result (c.in_default.ensures.v ∙ i.v) (told s (c.in_default.ensures.walk s (i.walk s r)))))

pub loop-walk-preserved : goal.loop-walk-preserved
loop-walk-preserved c =
    let i = c.loop-walk.invariant in
    let l = c.loop-walk.walk in
    let n = c.row_span.new.self in
    let t = c.in-Some.ensures in
    let own : HasSides l c.requires.sides.0 l.right = subst (HasSides l c.requires.sides.0) (sym i.right) (i.sides c.requires.sides.0 c.requires.sides.1) in
    let fits_l : SFits w32 c.in-Some.span.left = search rules in
    let fits_r : SFits w32 c.in-Some.span.right = search rules in
    let pushed = simp to_z-of_z at c.push.ensures.items in
    record {
      sides = λ left h. sides_along l n left _ i.right (t.sides left) (i.sides left h);
      walk = λ s r. t.walk s (i.walk s r);
      v = t.v ∙ i.v;
      right = (t.sides c.requires.sides.0 own).end ∙ i.right;
      runs = λ s r. rw pushed (kept_more c.args.walk.now.v c.loop-walk.kept.items _ c.in-Some.span _ _ _ (i.runs s r) (t.some s (i.walk s r)) (t.row ∙ i.v) refl refl);
    }
