-- Where a window may be, and its regions there.
use Rattle.std.specs.Prelude.{◌≡◌, Bool, ◌&&◌, Option, None, Some}
use Rattle.tb_geom.specs.declared.point.Point.{Point}
use Rattle.tb_geom.specs.declared.rect.Rect.{Rect}
use Rattle.tb_geom.specs.Points.{minus}
use Rattle.tb_geom.specs.Pixels.{holds}
use Rattle.tb_geom.specs.Rects.{in_plane, is_in_range, moved_rect}
use Rattle.def_iface.specs.declared.size.Size.{Size}
use Rattle.def_iface.specs.declared.window_def.WindowRegions.{WindowRegions}
use Rattle.def_iface.specs.Sizes.{is_size, rect_of}
use Rattle.def_iface.specs.WindowMeaning.{WindowDefinition, IsWithin}

-- the rectangle by which a window's place and size are judged: the box of its structure, and without a definition
-- that of its size
abbrev pub judged_rect : Option WindowDefinition → Size → Rect
judged_rect None size = rect_of size
judged_rect (Some d) size = d.bounds size

-- a window may be there: its place is a point and its size lies in the range of sizes, and the rectangle that is judged
-- lies in the range of coordinates, in the window's own and in those of the screen
unfoldable pub is_placed : Option WindowDefinition → Point → Size → Bool
is_placed d place size =
    in_plane place
    && (is_size size && (is_in_range (judged_rect d size) && is_in_range (moved_rect (judged_rect d size) place.h place.v)))

-- structure and content of a window with this definition and size, on the screen
pub record IsRegionsAt (place : Point) (size : Size) (d : WindowDefinition) (r : WindowRegions) : Type 0 where
  pub structure : (p : Point) → holds r.structure p ≡ d.structure size (minus p place)
  pub content : (p : Point) → holds r.content p ≡ d.content size (minus p place)
  pub within : IsWithin (d.content size) (d.structure size)
