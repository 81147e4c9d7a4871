-- Pixels of an oval, by how far their centres lie from its middle, in half pixels.
use Rattle.std.specs.Prelude.{ℕ, ◌+◌, ◌-◌, ◌*◌, Bool, nat_le, min}

abbrev pub square : ℕ → ℕ
square n = n * n

-- whether the centre of a pixel, x and y half pixels from the middle of an oval of w by k pixels, lies in the oval
unfoldable pub in_oval : ℕ → ℕ → ℕ → ℕ → Bool
in_oval w k x y = nat_le (square (x * k) + square (y * w)) (square (w * k))

-- how far, in half pixels, the centre of a column lies from the middle of an oval of o columns that rounds the nearer
-- corner, where the shape has a columns before this one and b after it; 0 between the corners. So too with rows
abbrev pub away : ℕ → ℕ → ℕ → ℕ
away o a b = o - 1 - 2 * min a b
