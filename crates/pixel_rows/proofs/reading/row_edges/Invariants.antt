use Rattle.tb_geom.specs.Pixels.{holds}
use Rattle.pixel_rows.proofs.ColumnLemmas.{AreEdgesWith}
use Rattle.pixel_rows.proofs.reading.row_edges.Given as goal

abbrev pub invariant-loop-p : goal.invariant-loop-p
invariant-loop-p l = AreEdgesWith l.edges l.p-iterator (holds l.region) l.v
