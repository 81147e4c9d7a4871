use Rattle.std.proofs.Common.{◌≡◌, ◌&&◌, true, false, negsuc, sym, ap, ◌∙◌}
use Rattle.std.proofs.lemmas.Int.{to_z-of_z}
use Rattle.tb_geom.specs.Rects.{is_coordinate}
use Rattle.region_rows.specs.Bits.{has_bit}
use Rattle.region_rows.specs.Counts.{count_to}
use Rattle.pixel_rows.specs.Columns.{has_column}
use Rattle.pixel_rows.proofs.columns.Columns.has.Goals as goal

pub returns-then-is_column : goal.returns-then-is_column
unfolding has_column
returns-then-is_column c =
    let fits = c.ranges.h in
    let test = simp to_z-of_z at c.is_column.ensures in
    let place = simp to_z-of_z at c.place_of.ensures.value in
    let in_range : is_coordinate c.args.h ≡ true = sym test ∙ c.if-is_column.true in
    c.has_bit.ensures ∙ ap (has_bit c.args.self.now.words) place
    ∙ sym (ap (λ b. b && has_bit c.args.self.now.words (count_to (negsuc 16383) c.args.h)) in_range)

pub returns-else-is_column : goal.returns-else-is_column
unfolding has_column
returns-else-is_column c =
    let fits = c.ranges.h in
    let test = simp to_z-of_z at c.is_column.ensures in
    let out : is_coordinate c.args.h ≡ false = sym test ∙ c.if-is_column.false in
    c.if-is_column.false ∙ sym (ap (λ b. b && has_bit c.args.self.now.words (count_to (negsuc 16383) c.args.h)) out)
