use Rattle.std.proofs.Common.{◌≡◌, true, false, sym, ◌∙◌}
use Rattle.std.proofs.lemmas.Int.{to_z-of_z}
use Rattle.tb_geom.specs.Rects.{is_coordinate}
use Rattle.shape_strips.proofs.RangeLemmas.{coordinate_high, coordinate_low}
use Rattle.pixel_rows.specs.Columns.{has_column}
use Rattle.pixel_rows.proofs.ColumnLemmas.{bit_turned, none_turned}
use Rattle.pixel_rows.proofs.columns.Columns.flip.Goals as goal

pub returns-then-is_column : goal.returns-then-is_column
unfolding has_column
returns-then-is_column c =
    let fits = c.ranges.h in
    let test = simp to_z-of_z at c.is_column.ensures in
    let place = simp to_z-of_z at c.place_of.ensures.value in
    let in_range : is_coordinate c.args.h ≡ true = sym test ∙ c.if-is_column.true in
    λ x. bit_turned c.args.self.now.words _ c.args.h x (coordinate_low c.args.h in_range, coordinate_high c.args.h in_range) (rw place at c.flip.ensures.bits)

pub returns-else-is_column : goal.returns-else-is_column
returns-else-is_column c =
    let fits = c.ranges.h in
    let test = simp to_z-of_z at c.is_column.ensures in
    let out : is_coordinate c.args.h ≡ false = sym test ∙ c.if-is_column.false in
    λ x. none_turned c.args.h x (has_column c.args.self.now x) out
