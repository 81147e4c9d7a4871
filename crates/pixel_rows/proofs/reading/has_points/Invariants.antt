use Rattle.tb_geom.specs.Pixels.{holds}
use Rattle.pixel_rows.proofs.ColumnLemmas.{AreTurnsWith}
use Rattle.pixel_rows.proofs.reading.has_points.Given as goal

abbrev pub invariant-loop-p : goal.invariant-loop-p
invariant-loop-p l = AreTurnsWith l.p-iterator (holds l.region) l.v
