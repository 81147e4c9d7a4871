-- The sides of a frame.
use Rattle.std.specs.Prelude.{◌≡◌, true, false, ◌||◌}
use Rattle.tb_geom.specs.declared.point.Point.{Point}
use Rattle.tb_geom.specs.declared.rect.Rect.{Rect}
use Rattle.tb_geom.specs.Rects.{rect_holds}
use Rattle.draw_port.specs.Ops.{frame_holds}
use Rattle.draw_port.specs.declared.frames.Sides.{Sides}

-- the sides together have the outermost pixels of the rectangle, and none of them has a pixel of one before it
pub record AreSides (s : Sides) (r : Rect) : Type 0 where
  pub all : (p : Point) → (rect_holds s.right p || (rect_holds s.left p || (rect_holds s.bottom p || rect_holds s.top p))) ≡ frame_holds r p
  pub bottom_apart : (p : Point) → rect_holds s.bottom p ≡ true → rect_holds s.top p ≡ false
  pub left_apart : (p : Point) → rect_holds s.left p ≡ true → (rect_holds s.bottom p || rect_holds s.top p) ≡ false
  pub right_apart : (p : Point) → rect_holds s.right p ≡ true → (rect_holds s.left p || (rect_holds s.bottom p || rect_holds s.top p)) ≡ false
