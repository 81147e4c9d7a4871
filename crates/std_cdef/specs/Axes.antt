-- The axis of a scroll bar, and the box of a check box.
use Rattle.std.specs.Prelude.{ℕ, ◌-◌, ℤ, pos, ◌-ℤ◌, ◌+ℤ◌, nat_abs, Bool, int_le, nat_le, if◌then◌else◌}
use Rattle.std.specs.Int.{int_div_euclid}
use Rattle.tb_geom.specs.declared.rect.Rect.{Rect}
use Rattle.def_iface.specs.declared.size.Size.{Size}
use Rattle.looks.specs.Marks.{box}
use Rattle.looks.specs.declared.pen.Baseline.{Baseline}
use Rattle.looks.specs.declared.pen.Baseline.TheVariants.{Middle}

-- the baseline of a title: that of a text in the middle of the control's rows
abbrev pub middle_of : Size → Baseline
middle_of s = Middle (nat_abs s.height)

-- the axis of a scroll bar runs down where the control is at least as high as wide, and else to the right
abbrev pub is_vertical : Size → Bool
is_vertical s = int_le s.width s.height

-- how long it is
unfoldable pub axis : Size → ℕ
axis s = nat_abs (if is_vertical s then s.height else s.width)

-- a scroll bar shorter than three boxes has no parts
abbrev pub is_long : Size → Bool
is_long s = nat_le 48 (axis s)

-- how far the thumb, 16 long, can move on the track between the two boxes of 16
abbrev pub room : Size → ℕ
room s = axis s - 48

-- what lies between two places on the axis, across all of the control
unfoldable pub along : Size → ℕ → ℕ → Rect
along s from to = if is_vertical s then box (pos 0) (pos from) s.width (pos to) else box (pos from) (pos 0) (pos to) s.height

-- the boxes at both ends, and the track between them
abbrev pub first_box : Size → Rect
first_box s = along s 0 16

abbrev pub last_box : Size → Rect
last_box s = along s (axis s - 16) (axis s)

abbrev pub track : Size → Rect
track s = along s 16 (axis s - 16)

-- the first row of the box of a check box or a radio button, which is 12 high and begins at column 2
unfoldable pub box_top : Size → ℤ
box_top s = int_div_euclid (s.height -ℤ pos 12) (pos 2)

-- a rectangle with its rows counted from there
abbrev pub by_box : Size → ℕ → ℕ → ℕ → ℕ → Rect
by_box s left top right bottom = box (pos left) (box_top s +ℤ pos top) (pos right) (box_top s +ℤ pos bottom)
