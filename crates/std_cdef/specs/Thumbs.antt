-- Where the thumb of a scroll bar lies, and the value that it stands for.
use Rattle.std.specs.Prelude.{ℕ, ◌+◌, ◌-◌, ◌*◌, ◌/◌, suc, min, ℤ, pos, negsuc, ◌+ℤ◌, ◌-ℤ◌, nat_abs, Bool, not, ◌&&◌, if◌then◌else◌, nat_eq, nat_lt, int_lt}
use Rattle.std.specs.Ordering.{int_eq}
use Rattle.tb_geom.specs.declared.point.Point.{Point}
use Rattle.tb_geom.specs.declared.rect.Rect.{Rect}
use Rattle.control_values.specs.Settings.{Setting}
use Rattle.def_iface.specs.declared.size.Size.{Size}
use Rattle.std_cdef.specs.Axes.{is_vertical, axis, is_long, room, along}

-- how far the value lies above the minimum, and how far the maximum does
abbrev pub rise : Setting → ℕ
rise v = nat_abs (v.value -ℤ v.minimum)

abbrev pub reach : Setting → ℕ
reach v = nat_abs (v.maximum -ℤ v.minimum)

-- how far the thumb has moved from the first box, of its room: as far as the value of the reach, rounded down
unfoldable pub thumb_step : Size → Setting → ℕ
thumb_step s v = if nat_eq (reach v) 0 then 0 else rise v * room s / reach v

-- the thumb, and the track before and after it
abbrev pub thumb : Size → Setting → Rect
thumb s v = along s (16 + thumb_step s v) (32 + thumb_step s v)

abbrev pub before_thumb : Size → Setting → Rect
before_thumb s v = along s 16 (16 + thumb_step s v)

abbrev pub after_thumb : Size → Setting → Rect
after_thumb s v = along s (32 + thumb_step s v) (axis s - 16)

-- a scroll bar has a thumb where it is long, its value can change, and it is active
abbrev pub has_thumb : Size → Setting → ℕ → Bool
has_thumb s v highlight = is_long s && (int_lt v.minimum v.maximum && not (nat_eq highlight 255))

-- how far the second point lies from the first along the axis
unfoldable pub way : Size → Point → Point → ℤ
way s from to = if is_vertical s then to.v -ℤ from.v else to.h -ℤ from.h

-- where a thumb comes to that is dragged so far, on or back, within its room; there is no number below 0
unfoldable pub dragged_step : Size → Setting → ℤ → ℕ
dragged_step s v (pos m) = min (thumb_step s v + m) (room s)
dragged_step s v (negsuc m) = thumb_step s v - suc m

-- the value that a thumb stands for which has moved so far, rounded down
unfoldable pub value_at : Size → Setting → ℕ → ℤ
value_at s v step = v.minimum +ℤ pos (step * reach v / room s)

-- the value once the thumb was dragged so far: it stays where the thumb does not move or cannot
unfoldable pub dragged_value : Size → Setting → ℤ → ℤ
dragged_value s v m = if not (int_eq m (pos 0)) && nat_lt 0 (room s) then value_at s v (dragged_step s v m) else v.value

-- the value once it was dragged from one point to another
abbrev pub thumb_value : Size → Setting → ℕ → Point → Point → ℤ
thumb_value s v highlight from to = if has_thumb s v highlight then dragged_value s v (way s from to) else v.value
