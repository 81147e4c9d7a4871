use Rattle.std.proofs.Common.{◌<ℤ◌, arith}
use Rattle.std.proofs.lemmas.Int.{ints, to_z-of_z}
use Rattle.shape_strips.proofs.RangeLemmas.{row_of, sides_in}
use Rattle.shape_region.specs.Polygons.{polygon_holds}
use Rattle.pixel_rows.proofs.ColumnLemmas.{beside_bounds, column_in}
use Rattle.shape_region.proofs.polygon_rows.PolygonRowsPixelRows.row.Goals as goal

pub returns : goal.returns
returns c =
    let fits_v = c.ranges.v in
    let edges = simp to_z-of_z at c.polygon_edges.ensures in
    let bounds = c.bounds.ensures in
    let last = (sides_in c.bounds.result bounds.in_range).right_high in
    c.turned.ensures (λ h. polygon_holds c.args.self.now.points.now (record { h = h; v = c.args.v })) (record {
      within = λ h out. beside_bounds (polygon_holds c.args.self.now.points.now) c.bounds.result c.args.v h bounds out;
      each = λ h e.
          let l = row_of c.bounds.result.left h c.bounds.result.right e in
          let before : h <ℤ c.bounds.result.right = l.1 in
          edges h (column_in c.bounds.result h bounds.in_range l.0 l.1) (omega (arith, ints));
    })
