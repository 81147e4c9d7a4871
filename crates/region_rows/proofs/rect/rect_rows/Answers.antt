use Rattle.std.proofs.Common.{◌≡◌, sym, ap, ◌∙◌, subst, rules}
use Rattle.region_bytes.specs.Points.{in_rows}
use Rattle.region_rows.specs.Rows.{two_rows, AreRows}
use Rattle.region_rows.proofs.Merged.{AreRows-nil}
use Rattle.region_rows.proofs.RectRows.{none_pixels, two_pixels, two_are_rows}
use Rattle.region_rows.proofs.rect.rect_rows.Goals as goal

pub returns-then-is_empty-clause-pixels : goal.returns-then-is_empty-clause-pixels
returns-then-is_empty-clause-pixels c = rw c.new.ensures.items (λ h v. none_pixels c.args.rect h v (sym c.is_empty.ensures.sides ∙ c.if-is_empty.true))

pub returns-then-is_empty-clause-rows : goal.returns-then-is_empty-clause-rows
returns-then-is_empty-clause-rows c = rw c.new.ensures.items AreRows-nil

pub returns-clause-pixels : goal.returns-clause-pixels
returns-clause-pixels c =
    let same : c.push-2.new.self.items ≡ two_rows c.args.rect = search rules in
    λ h v. ap (λ l. in_rows l h v) same ∙ two_pixels c.args.rect h v (sym c.is_empty.ensures.sides ∙ c.if-is_empty.false)

pub returns-clause-rows : goal.returns-clause-rows
returns-clause-rows c =
    let same : c.push-2.new.self.items ≡ two_rows c.args.rect = search rules in
    subst AreRows (sym same) (two_are_rows c.args.rect (sym c.is_empty.ensures.sides ∙ c.if-is_empty.false) c.requires)
