-- The columns of a run.
use Rattle.std.specs.Prelude.{Bool, ℤ}
use Rattle.tb_geom.specs.Rects.{between}
use Rattle.shape_strips.specs.declared.run.Run.{Run}

-- whether a run has the column h
abbrev pub run_holds : Run → ℤ → Bool
run_holds run h = between run.left h run.right
