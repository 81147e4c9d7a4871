use Rattle.std.proofs.Common.{◌∙◌, ap, sym, subst, inl, inr}
use Rattle.std.proofs.lemmas.Result.{IfOk-weaker}
use Rattle.region_bytes.specs.Points.{in_rows}
use Rattle.region_bytes.proofs.Rows.{nil_has}
use Rattle.region_rows.specs.Edges.{applied_apart, differ}
use Rattle.region_rows.specs.Rows.{AreRows}
use Rattle.region_rows.proofs.Above.{in_rows-append, above_rows}
use Rattle.region_rows.proofs.Merged.{AreRows-nil}
use Rattle.region_rows.proofs.apart.apart_rows.Goals as goal

pub returns-in-Intersection-clause-pixels : goal.returns-in-Intersection-clause-pixels
returns-in-Intersection-clause-pixels c = rw (c.new.ensures.items, c.in-Intersection.is) (λ h v. nil_has h v)

pub returns-in-Intersection-clause-rows : goal.returns-in-Intersection-clause-rows
returns-in-Intersection-clause-rows c = rw c.new.ensures.items AreRows-nil

pub returns-in-Union-clause-pixels : goal.returns-in-Union-clause-pixels
returns-in-Union-clause-pixels c =
    IfOk-weaker c.copy_rows-in-Union.result _ _ (λ rows e h v. ap (λ l. in_rows l h v) e ∙ in_rows-append c.args.upper.now c.args.lower.now h v
    ∙ elim c.in-Union.is [
      | inl o ↦ sym (ap (λ o. applied_apart o (in_rows c.args.a.now h v) (differ (in_rows c.args.upper.now h v) (in_rows c.args.lower.now h v))) o)
      | inr o ↦ sym (ap (λ o. applied_apart o (in_rows c.args.a.now h v) (differ (in_rows c.args.upper.now h v) (in_rows c.args.lower.now h v))) o)
    ]) c.copy_rows-in-Union.ensures

pub returns-in-Union-clause-rows : goal.returns-in-Union-clause-rows
returns-in-Union-clause-rows c = IfOk-weaker c.copy_rows-in-Union.result _ _ (λ rows e. subst AreRows (sym e) (above_rows _ _ c.requires.upper_rows c.requires.lower_rows c.requires.above)) c.copy_rows-in-Union.ensures
