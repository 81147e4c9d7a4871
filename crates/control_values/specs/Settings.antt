-- The setting of a control: the value that it has, and the least and the greatest that it may have.
use Rattle.std.specs.Prelude.{ℤ, pos, negsuc, Bool, ◌&&◌, int_le, ◌≤ℤ◌}
use Rattle.std.specs.Int.{int_min, int_max}

pub record Setting : Type 0 where
  pub minimum : ℤ
  pub maximum : ℤ
  pub value : ℤ

-- whether a number lies in -32768..32767, the range of what a control keeps
unfoldable pub is_in_range : ℤ → Bool
is_in_range z = int_le (negsuc 32767) z && int_le z (pos 32767)

-- of the numbers from low to high the nearest to z
abbrev pub nearest : ℤ → ℤ → ℤ → ℤ
nearest low high z = int_max low (int_min z high)

-- the setting with this minimum and this maximum, whose value is moved between them
abbrev pub settled : ℤ → ℤ → ℤ → Setting
settled low high z = record { minimum = low; maximum = high; value = nearest low high z }

-- the value lies between its bounds
pub record IsSettled (s : Setting) : Type 0 where
  pub above : s.minimum ≤ℤ s.value
  pub below : s.value ≤ℤ s.maximum
