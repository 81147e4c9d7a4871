use Rattle.std.proofs.Common.{◌≡◌, true, false, sym, ◌∙◌, refl}
use Rattle.std.proofs.lemmas.Int.{to_z-of_z}
use Rattle.pixel_rows.specs.Columns.{has_column}
use Rattle.pixel_rows.proofs.TurnedLemmas.{put_there, put_where}
use Rattle.pixel_rows.proofs.columns.Columns.put.Goals as goal

pub returns-then-not-has : goal.returns-then-not-has
returns-then-not-has c =
    let fits = c.ranges.h in
    let test = simp to_z-of_z at c.has.ensures in
    let flipped = simp to_z-of_z at c.flip.ensures in
    λ x. put_there c.args.h x c.args.self.now _ (sym test ∙ c.if-not-has.true) (flipped x)

pub returns-else-not-has : goal.returns-else-not-has
returns-else-not-has c =
    let fits = c.ranges.h in
    let test = simp to_z-of_z at c.has.ensures in
    λ x. put_where c.args.h x c.args.self.now _ (sym test ∙ c.if-not-has.false) refl
