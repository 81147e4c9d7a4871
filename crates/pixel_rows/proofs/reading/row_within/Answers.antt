use Rattle.std.proofs.lemmas.Int.{to_z-of_z}
use Rattle.tb_geom.specs.Pixels.{holds}
use Rattle.shape_strips.proofs.RangeLemmas.{row_of}
use Rattle.pixel_rows.proofs.ColumnLemmas.{beside_bounds, column_in}
use Rattle.pixel_rows.proofs.reading.row_within.Goals as goal

pub returns : goal.returns
returns c =
    let fits_v = c.ranges.v in
    let edges = simp to_z-of_z at c.row_edges.ensures in
    c.turned.ensures (λ h. holds c.args.region.now (record { h = h; v = c.args.v })) (record {
      within = λ h out. beside_bounds (holds c.args.region.now) c.args.bounds c.args.v h c.requires out;
      each = λ h e. let l = row_of c.args.bounds.left h c.args.bounds.right e in edges h (column_in c.args.bounds h c.requires.in_range l.0 l.1);
    })
