-- The pixels of a rectangle that are seen from a degree on.
use Rattle.std.specs.Prelude.{Bool, ◌&&◌, ◌||◌, cond, ℤ, pos, negsuc, ◌+ℤ◌, ◌-ℤ◌, ◌*ℤ◌, int_lt}
use Rattle.std.specs.Ordering.{int_eq}
use Rattle.tb_geom.specs.declared.point.Point.{Point}
use Rattle.tb_geom.specs.declared.rect.Rect.{Rect}
use Rattle.tb_geom.specs.Points.{PixelSet}
use Rattle.tb_geom.specs.Rects.{rect_holds}
use Rattle.shape_arcs.specs.Directions.{direction}

-- how far the centre of a column or a row lies past the middle of two sides, in half pixels
abbrev pub past_middle : ℤ → ℤ → ℤ → ℤ
past_middle low high x = ((pos 2 *ℤ x) +ℤ pos 1) -ℤ (low +ℤ high)

-- where the centre of a pixel lies from the middle of a rectangle that is stretched to a square
abbrev pub stretched : Rect → Point → Point
stretched r p = record {
  h = past_middle r.left r.right p.h *ℤ (r.bottom -ℤ r.top);
  v = past_middle r.top r.bottom p.v *ℤ (r.right -ℤ r.left);
}

abbrev pub is_origin : PixelSet
is_origin p = int_eq p.h (pos 0) && int_eq p.v (pos 0)

-- where a pixel is seen from that middle; the one in the middle, straight up
unfoldable pub seen : Rect → Point → Point
seen r p = cond (is_origin (stretched r p)) (record { h = pos 0; v = negsuc 0 }) (stretched r p)

-- above 0 where the second point lies clockwise from the first one, by less than half a turn; 0 where both lie on one
-- line through 0 0
abbrev pub cross : Point → Point → ℤ
cross d p = (d.h *ℤ p.v) -ℤ (d.v *ℤ p.h)

-- above 0 where the two lie to one side, by less than a quarter of a turn
abbrev pub dot : Point → Point → ℤ
dot d p = (d.h *ℤ p.h) +ℤ (d.v *ℤ p.v)

-- whether a point lies on the ray of a direction, or clockwise from it by less than half a turn
unfoldable pub is_from : Point → Point → Bool
is_from d p = int_lt (pos 0) (cross d p) || (int_eq (cross d p) (pos 0) && int_lt (pos 0) (dot d p))

-- whether a pixel is seen from a degree on
abbrev pub is_seen_from : Rect → ℤ → PixelSet
is_seen_from r degree p = is_from (direction degree) (seen r p)

-- the pixels of a rectangle from a degree on: half of them
abbrev pub ray_holds : Rect → ℤ → PixelSet
ray_holds r degree p = rect_holds r p && is_seen_from r degree p
