-- Bytes that a call lends.
use Rattle.std.specs.Prelude.{ℕ, ◌+◌, ◌*◌, ◌/◌, Bool, ◌&&◌, nat_eq, ℤ, pos, int_le, nat_abs, List, length}

-- whether an image of this size has rows and columns, and the bytes are those of its rows
abbrev pub are_rows : ℤ → ℤ → List ℕ → Bool
are_rows w h rows = (int_le (pos 1) w && int_le (pos 1) h) && nat_eq (length rows) ((nat_abs w + 7) / 8 * nat_abs h)
