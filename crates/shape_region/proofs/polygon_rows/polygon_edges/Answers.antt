use Rattle.std.proofs.Common.{pos, ◌-ℤ◌, ◌∙◌}
use Rattle.std.proofs.lemmas.Int.{to_z-of_z}
use Rattle.region_bytes.proofs.Rows.{differ-false}
use Rattle.region_rows.specs.Edges.{differ}
use Rattle.pixel_rows.specs.Columns.{is_edge}
use Rattle.shape_region.specs.Polygons.{polygon_holds}
use Rattle.shape_region.proofs.PolygonRowLemmas.{closed_by}
use Rattle.shape_region.proofs.polygon_rows.polygon_edges.Goals as goal

pub returns-in-len1-up : goal.returns-in-len1-up
returns-in-len1-up c =
    let fits_v = c.ranges.v in
    let flipped = simp to_z-of_z at c.flip_turns.ensures in
    let closed = closed_by c.args.points.now (record { h = pos 0; v = pos 0 }) c.in-len1-up.len_at_least in
    λ h m l. flipped h m l
    ∙ (λ i. differ (differ (closed (record { h = h; v = c.args.v }) i) (closed (record { h = h -ℤ pos 1; v = c.args.v }) i)) (c.none-columns.ensures h i))
    ∙ differ-false (is_edge (polygon_holds c.args.points.now) h c.args.v)
