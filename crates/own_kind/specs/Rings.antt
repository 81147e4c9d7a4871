-- The ring as plain data: a control of w by h with a hole, and a part at each side of it. Rectangles are box left top right
-- bottom, local to the control.
use Rattle.std.specs.Prelude.{ℕ, nat_abs, nat_eq, Bool, true, int_lt, List, [], ◌∷◌, Option, None, Some}
use Rattle.std.specs.Prelude.{ℤ, pos, ◌+ℤ◌}
use Rattle.std.specs.Int.{int_div_euclid}
use Rattle.tb_geom.specs.declared.point.Point.{Point}
use Rattle.tb_geom.specs.declared.rect.Rect.{Rect}
use Rattle.tb_geom.specs.Points.{PixelSet}
use Rattle.control_values.specs.Settings.{Setting}
use Rattle.control_values.specs.Parts.{number_of}
use Rattle.control_values.specs.declared.part.ControlPart.{ControlPart}
use Rattle.control_values.specs.declared.part.ControlPart.TheVariants.{UpButton, DownButton}
use Rattle.def_iface.specs.declared.size.Size.{Size}
use Rattle.def_iface.specs.declared.window_def.Stage.{Stage}
use Rattle.def_iface.specs.declared.control_def.ControlChange.{ControlChange}
use Rattle.def_iface.specs.declared.control_keeping.KeptControl.{KeptControl}
use Rattle.def_iface.specs.Sizes.{rect_of}
use Rattle.def_iface.specs.ControlMeaning.{ControlDefinition}
use Rattle.def_iface.specs.ControlKeeping.{kept_after, kept_control_picture, kept_control_hit, kept_thumb_value}
use Rattle.looks.specs.declared.area.Piece.{Piece}
use Rattle.looks.specs.Areas.{added_rect, removed_rect, area_holds}
use Rattle.looks.specs.declared.pen.Baseline.TheVariants.{Middle}
use Rattle.looks.specs.declared.spot.Spot.{Spot}
use Rattle.looks.specs.Spots.{first_part, spot}
use Rattle.looks.specs.declared.step.Step.{Step}
use Rattle.looks.specs.Letters.{lettering}
use Rattle.looks.specs.Marks.{box, light_gray_fill, black_frame, black_cross, text_at, inverted, grayed, when, look_bit}
use Rattle.own_kind.specs.declared.ring_control.RingControl.{RingControl}

-- n: w div 3
unfoldable pub across : Size → ℤ
across s = int_div_euclid s.width (pos 3)

-- m: h div 3
unfoldable pub down : Size → ℤ
down s = int_div_euclid s.height (pos 3)

-- n columns and m rows, with as many before them, and the rest behind: none, where w or h is 1 or 2
abbrev pub hole : Size → Rect
hole s = box (across s) (down s) (across s +ℤ across s) (down s +ℤ down s)

-- the columns to the left of the hole, those to the right of it, and its own, each in all rows
abbrev pub left_side : Size → Rect
left_side s = box (pos 0) (pos 0) (across s) s.height

abbrev pub right_side : Size → Rect
right_side s = box (across s +ℤ across s) (pos 0) s.width s.height

abbrev pub middle : Size → Rect
middle s = box (across s) (pos 0) (across s +ℤ across s) s.height

abbrev pub ring_region : Size → List Piece
ring_region s = added_rect (rect_of s) ∷ removed_rect (hole s) ∷ []

-- the value is above the minimum
abbrev pub is_raised : Setting → Bool
is_raised v = int_lt v.minimum v.value

-- both sides in a black frame, with light gray between them; a cross on the right side where the value is raised; the title
-- over all of that; the side that is highlighted inverted; all of it in gray where it is inactive
unfoldable pub ring_look : Size → Setting → ℕ → List Step
ring_look s v highlight =
    light_gray_fill (middle s)
    ∷ black_frame (left_side s)
    ∷ black_frame (right_side s)
    ∷ when (is_raised v) (black_cross (right_side s))
    ∷ text_at (rect_of s) (pos 2) (Middle (nat_abs s.height))
    ∷ when (nat_eq highlight (number_of UpButton)) (inverted (left_side s))
    ∷ when (nat_eq highlight (number_of DownButton)) (inverted (right_side s))
    ∷ when (nat_eq highlight 255) (grayed (rect_of s))
    ∷ []

-- the two sides are parts; what lies between them is of none
abbrev pub ring_spots : Size → List (Spot (Option ControlPart))
ring_spots s =
    spot true (rect_of s) (left_side s) (Some UpButton)
    ∷ spot true (rect_of s) (right_side s) (Some DownButton)
    ∷ []

abbrev pub ring_hit : Size → Point → Option ControlPart
ring_hit s p = first_part (ring_spots s) None p

-- what a ring shows and how it is hit, with all that it keeps; its value stays, for it has no thumb
abbrev pub ring_seen : KeptControl → List ℕ → PixelSet
ring_seen k font = look_bit (lettering font k.title) (ring_look k.size k.values k.highlight)

abbrev pub ring_part : KeptControl → Point → Option ControlPart
ring_part k = ring_hit k.size

abbrev pub ring_value : KeptControl → Point → Point → ℤ
ring_value k from to = k.values.value

-- what the control is, which leaves open how large its damage is
abbrev pub ring_meaning : RingControl → ControlDefinition
ring_meaning r = record {
  stage = r.stage;
  size = r.kept.size;
  region = λ s. area_holds (ring_region s);
  bounds = rect_of;
  picture = kept_control_picture ring_seen r.kept;
  hit = kept_control_hit ring_part r.kept;
  thumb_value = kept_thumb_value ring_value r.kept;
  damage = λ told more p. true;
}

-- the control after a change
abbrev pub told_ring : ControlChange → RingControl → RingControl
told_ring change r = record r { kept = kept_after change r.kept }

-- the control at another stage
abbrev pub ring_at : Stage → RingControl → RingControl
ring_at stage r = record r { stage = stage }
