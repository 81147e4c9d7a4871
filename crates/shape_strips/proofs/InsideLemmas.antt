-- Insides of frames.
use Rattle.std.proofs.Common.{◌≡◌, true, false}
use Rattle.std.proofs.lemmas.Bool.{and_left, and_right}
use Rattle.tb_geom.specs.declared.point.Point.{Point}
use Rattle.tb_geom.specs.declared.rect.Rect.{Rect}
use Rattle.tb_geom.specs.Rects.{is_empty_rect}
use Rattle.tb_geom.proofs.RectLemmas.{holds_none}
use Rattle.shape_strips.specs.declared.corner.Corner.{Corner}
use Rattle.shape_strips.specs.declared.pen.Pen.{Pen}
use Rattle.shape_strips.specs.Rounds.{round_holds}
use Rattle.shape_strips.specs.Frames.{inset_rect, inset_corner, inside_holds}
use Rattle.shape_strips.proofs.RoundLemmas.{outside_rect}

-- an inside has no pixel that the shape lacks
pub inside_lacks : (r : Rect) (c : Corner) (pen : Pen) (p : Point) → round_holds r c p ≡ false → inside_holds r c pen p ≡ false
inside_lacks r c pen p out =
    and_right (round_holds (inset_rect r pen) (inset_corner c pen) p) _ (and_left (round_holds r c p) _ out)

-- a round shape of an empty rectangle has no pixel
pub round_of_none : (r : Rect) (c : Corner) → is_empty_rect r ≡ true → (p : Point) → round_holds r c p ≡ false
round_of_none r c none p = outside_rect r c p (holds_none r none p)
