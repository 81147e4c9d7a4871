-- What the standard controls look like, as lists of steps, from white.
use Rattle.std.specs.Prelude.{ℕ, ◌/◌, pos, ◌-ℤ◌, nat_abs, Bool, not, ◌&&◌, nat_eq, List, [], ◌∷◌}
use Rattle.std.specs.Ordering.{int_eq}
use Rattle.control_values.specs.Settings.{Setting}
use Rattle.control_values.specs.Parts.{number_of}
use Rattle.control_values.specs.declared.part.ControlPart.TheVariants.{Button, CheckBox, UpButton, DownButton}
use Rattle.tb_geom.specs.declared.rect.Rect.{Rect}
use Rattle.def_iface.specs.declared.size.Size.{Size}
use Rattle.def_iface.specs.Sizes.{rect_of}
use Rattle.looks.specs.declared.step.Step.{Step}
use Rattle.looks.specs.Marks.{black_fill, white_fill, black_frame, black_cross, light_gray_fill, grayed, inverted, centred_text, text_at, when, box}
use Rattle.looks.specs.Marks.{black_round, white_inside, inverted_inside}
use Rattle.shape_strips.specs.declared.corner.Corner.{Corner}
use Rattle.std_cdef.specs.declared.check.Variation.{Variation}
use Rattle.std_cdef.specs.declared.check.Variation.TheVariants as check
use Rattle.std_cdef.specs.Axes.{middle_of, is_long, first_box, last_box, track, by_box}
use Rattle.std_cdef.specs.Thumbs.{thumb, has_thumb}

abbrev pub is_inactive : ℕ → Bool
is_inactive highlight = nat_eq highlight 255

-- a button: its frame, its title in the middle; all of it inverted, or gray
unfoldable pub button_look : Size → ℕ → List Step
button_look s highlight =
    black_frame (rect_of s)
    ∷ centred_text (rect_of s) (nat_abs s.width) (middle_of s)
    ∷ when (nat_eq highlight (number_of Button)) (inverted (rect_of s))
    ∷ when (is_inactive highlight) (grayed (rect_of s))
    ∷ []

-- corners of half a button's height
abbrev pub half_corner : Size → Corner
half_corner s = record { width = nat_abs s.height / 2; height = nat_abs s.height / 2 }

-- a button with rounded corners: its frame, its title in the middle; what the frame leaves inverted, or all of it gray
unfoldable pub round_button_look : Size → ℕ → List Step
round_button_look s highlight =
    black_round (rect_of s) (half_corner s)
    ∷ white_inside (rect_of s) (half_corner s)
    ∷ centred_text (rect_of s) (nat_abs s.width) (middle_of s)
    ∷ when (nat_eq highlight (number_of Button)) (inverted_inside (rect_of s) (half_corner s))
    ∷ when (is_inactive highlight) (grayed (rect_of s))
    ∷ []

-- the rectangle of a control less so many pixels at each edge
abbrev pub inset : ℕ → Size → Rect
inset d s = box (pos d) (pos d) (s.width -ℤ pos d) (s.height -ℤ pos d)

-- a default button: the pixels less than 3 from an edge black and the others white; 4 from each edge a button, cut to that, with its
-- title in the middle of the whole; that button inverted, or all of it gray
unfoldable pub default_button_look : Size → ℕ → List Step
default_button_look s highlight =
    black_fill (rect_of s)
    ∷ white_fill (inset 3 s)
    ∷ black_frame (inset 4 s)
    ∷ centred_text (inset 4 s) (nat_abs s.width) (middle_of s)
    ∷ when (nat_eq highlight (number_of Button)) (inverted (inset 4 s))
    ∷ when (is_inactive highlight) (grayed (rect_of s))
    ∷ []

-- what both check boxes and radio buttons show: the title beside the box, a second frame in the box, and gray
abbrev pub check_text : Size → Step
check_text s = text_at (rect_of s) (pos 18) (middle_of s)

abbrev pub lit_box : Size → ℕ → Step
lit_box s highlight = when (nat_eq highlight (number_of CheckBox)) (black_frame (by_box s 3 1 13 11))

abbrev pub gray_all : Size → ℕ → Step
gray_all s highlight = when (is_inactive highlight) (grayed (rect_of s))

-- the control is on
abbrev pub is_on : Setting → Bool
is_on v = not (int_eq v.value (pos 0))

-- a check box: its box, with a cross in it where it is on
unfoldable pub check_look : Size → Setting → ℕ → List Step
check_look s v highlight =
    black_frame (by_box s 2 0 14 12)
    ∷ when (is_on v) (black_cross (by_box s 3 1 13 11))
    ∷ check_text s
    ∷ lit_box s highlight
    ∷ gray_all s highlight
    ∷ []

-- a radio button: the four sides of its box without the corners, with a black square in it where it is on
unfoldable pub radio_look : Size → Setting → ℕ → List Step
radio_look s v highlight =
    black_fill (by_box s 3 0 13 1)
    ∷ black_fill (by_box s 3 11 13 12)
    ∷ black_fill (by_box s 2 1 3 11)
    ∷ black_fill (by_box s 13 1 14 11)
    ∷ when (is_on v) (black_fill (by_box s 5 3 11 9))
    ∷ check_text s
    ∷ lit_box s highlight
    ∷ gray_all s highlight
    ∷ []

-- either of the two
abbrev pub box_look : Variation → Size → Setting → ℕ → List Step
box_look check.CheckBox s v highlight = check_look s v highlight
box_look check.RadioButton s v highlight = radio_look s v highlight

-- a scroll bar: the frames of its boxes, the track in light gray, the frame of all, the thumb, and the box that is lit
unfoldable pub scroll_look : Size → Setting → ℕ → List Step
scroll_look s v highlight =
    when (is_long s) (black_frame (first_box s))
    ∷ when (is_long s) (black_frame (last_box s))
    ∷ when (has_thumb s v highlight) (light_gray_fill (track s))
    ∷ black_frame (rect_of s)
    ∷ when (has_thumb s v highlight) (white_fill (thumb s v))
    ∷ when (has_thumb s v highlight) (black_frame (thumb s v))
    ∷ when (is_long s && nat_eq highlight (number_of UpButton)) (inverted (first_box s))
    ∷ when (is_long s && nat_eq highlight (number_of DownButton)) (inverted (last_box s))
    ∷ []
