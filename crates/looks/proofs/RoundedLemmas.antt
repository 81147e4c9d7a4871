-- Rectangles with rounded corners, and what their frames leave.
use Rattle.std.proofs.Common.{◌≡◌, true, false, ◌&&◌, if◌then◌else◌, sym, ap}
use Rattle.tb_geom.specs.declared.point.Point.{Point}
use Rattle.tb_geom.specs.Rects.{is_in_range}
use Rattle.shape_strips.specs.Rounds.{round_holds}
use Rattle.shape_strips.specs.Frames.{inside_holds}
use Rattle.looks.specs.declared.rounded.Rounded.{Rounded}
use Rattle.looks.specs.Rounded.{rounded_holds, one_pixel}

-- out of range it has no pixel
pub rounded_none : (r : Rounded) (p : Point) → is_in_range r.rect ≡ false → rounded_holds r p ≡ false
unfolding rounded_holds
rounded_none r p out = ap (λ t. t && (if r.inside then inside_holds r.rect r.corner one_pixel p else round_holds r.rect r.corner p)) out

-- in range it has those of the inside
pub rounded_inside_is : (r : Rounded) (p : Point) → is_in_range r.rect ≡ true → r.inside ≡ true → inside_holds r.rect r.corner one_pixel p ≡ rounded_holds r p
unfolding rounded_holds
rounded_inside_is r p in_range inside = λ i. sym in_range i && (if sym inside i then inside_holds r.rect r.corner one_pixel p else round_holds r.rect r.corner p)

-- or all
pub rounded_whole_is : (r : Rounded) (p : Point) → is_in_range r.rect ≡ true → r.inside ≡ false → round_holds r.rect r.corner p ≡ rounded_holds r p
unfolding rounded_holds
rounded_whole_is r p in_range inside = λ i. sym in_range i && (if sym inside i then inside_holds r.rect r.corner one_pixel p else round_holds r.rect r.corner p)
