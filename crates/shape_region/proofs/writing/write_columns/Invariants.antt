use Rattle.std.proofs.Common.{◌++◌, List, ℤ, take}
use Rattle.tb_geom.specs.declared.point.Point.{Point}
use Rattle.region_bytes.specs.Points.{row_points}
use Rattle.region_bytes.specs.Writing.{IsWritten}
use Rattle.shape_region.proofs.writing.write_columns.Given as goal

abbrev pub invariant-loop-h : goal.invariant-loop-h
invariant-loop-h l = (words : List ℤ) (points : List Point) → IsWritten l.fn.out words points → IsWritten l.out (words ++ take l.h-index l.columns) (points ++ row_points (l.v, take l.h-index l.columns))
