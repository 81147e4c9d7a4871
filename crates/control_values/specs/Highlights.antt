-- How a control is highlighted: 0 not at all, 1 to 253 the part of this part code, 255 as inactive.
use Rattle.std.specs.Prelude.{◌≢◌, ℕ, ℤ, pos, Bool, ◌&&◌, ◌||◌, int_le}

-- whether a number says how a control is highlighted
abbrev pub is_highlight : ℤ → Bool
is_highlight z = (int_le (pos 0) z && int_le z (pos 253)) || (int_le (pos 255) z && int_le z (pos 255))

-- what is kept does
pub record IsHighlight (number : ℕ) : Type 0 where
  pub told : number ≢ 254
