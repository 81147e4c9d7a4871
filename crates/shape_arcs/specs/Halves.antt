-- Halves of a rectangle, and sectors of its oval, as they are computed.
use Rattle.std.specs.Prelude.{Bool, ◌&&◌, not, ℤ}
use Rattle.tb_geom.specs.declared.rect.Rect.{Rect}
use Rattle.tb_geom.specs.Points.{PixelSet}
use Rattle.tb_geom.specs.Rects.{rect_holds}
use Rattle.region_rows.specs.Edges.{alike}
use Rattle.shape_strips.specs.Rounds.{oval_holds}
use Rattle.shape_arcs.specs.Rays.{is_seen_from}

-- the pixels of a rectangle that are seen from a degree on, or those that are not
abbrev pub half_holds : Rect → ℤ → Bool → PixelSet
half_holds r degree from p = rect_holds r p && alike from (is_seen_from r degree p)

-- the pixels of the oval of a rectangle that are seen from one degree on and not from another one on, or the other way
-- round
abbrev pub sector_holds : Rect → ℤ → ℤ → Bool → PixelSet
sector_holds r start end narrow p =
    oval_holds r p && (alike narrow (is_seen_from r start p) && alike (not narrow) (is_seen_from r end p))
