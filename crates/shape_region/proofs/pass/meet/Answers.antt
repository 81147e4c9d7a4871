use Rattle.std.proofs.Common.{◌≡◌, false, sym, ap, ◌∙◌}
use Rattle.std.specs.Prelude.{int_le}
use Rattle.std.proofs.lemmas.Int.{to_z-of_z}
use Rattle.region_rows.specs.Edges.{differ, inside}
use Rattle.shape_region.proofs.PolygonRowLemmas.{edge_beside}
use Rattle.shape_region.proofs.pass.meet.Goals as goal

pub returns-then-passes_row-clause-pixels : goal.returns-then-passes_row-clause-pixels
returns-then-passes_row-clause-pixels c =
    let fits_v = c.ranges.v in
    simp to_z-of_z at c.cross.ensures.pixels

pub returns-else-passes_row-clause-pixels : goal.returns-else-passes_row-clause-pixels
returns-else-passes_row-clause-pixels c =
    let fits_v = c.ranges.v in
    let told = simp to_z-of_z at c.passes_row.ensures in
    let none : differ (int_le c.args.from.v c.args.v) (int_le c.args.to.v c.args.v) ≡ false = sym told ∙ c.if-passes_row.false in
    λ h l. sym (ap (λ t. differ t (inside c.args.columns.now.items h)) (edge_beside c.args.from c.args.to (record { h = h; v = c.args.v }) none))
