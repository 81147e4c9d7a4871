use Rattle.std.proofs.Common.{get_or, pos, map, subst, ◌∙◌, rules, refl, SFits, w32}
use Rattle.std.proofs.lemmas.Int.{to_z-of_z}
use Rattle.std.proofs.lemmas.List.{take_all}
use Rattle.region_rows.specs.Edges.{differ, inside}
use Rattle.region_rows.specs.Lines.{IsLine}
use Rattle.region_rows.specs.Seen.{sign}
use Rattle.region_rows.proofs.LayerSteps.{points_none, points_more, apart_same}
use Rattle.region_rows.proofs.layers.toggle_points.Goals as goal

pub loop-x-init : goal.loop-x-init
loop-x-init c = record { line = λ f s. points_none _ _ f s; apart = λ k o. refl; length = refl; left = refl; right = refl; base = refl }

pub loop-x-preserved : goal.loop-x-preserved
loop-x-preserved c =
    let fits : SFits w32 (get_or c.args.points.now c.loop-x.x-index (pos 0)) = search rules in
    let fits_s : SFits w32 c.signed.result = search rules in
    let e = simp to_z-of_z at c.signed.ensures in
    let now = simp e at (simp to_z-of_z at c.toggle.ensures.line) in
    let t = c.toggle.ensures in
    let s = c.loop-x.invariant in
    record {
      line = λ f r. points_more _ c.toggle.new.self f c.args.up c.args.points.now c.loop-x.x-index c.loop-x-test.true (now _ (s.line f r));
      apart = λ k o. t.apart k (apart_same c.args.line.now c.loop-x.line k s.left s.right s.base o) ∙ s.apart k o;
      length = t.length ∙ s.length;
      left = t.left ∙ s.left;
      right = t.right ∙ s.right;
      base = t.base ∙ s.base;
    }

pub returns-clause-line : goal.returns-clause-line
returns-clause-line c =
    let all = take_all c.loop-x.x-index c.args.points.now c.loop-x-test.false in
    λ f s. subst (λ xs. IsLine c.loop-x.words c.loop-x.line (λ h. differ (inside (map (sign c.args.up) xs) h) (f h))) all (c.loop-x.invariant.line f s)
