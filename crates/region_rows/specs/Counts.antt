-- How many columns or rows there are from one to another.
use Rattle.std.specs.Prelude.{ℕ, zero, ℤ, pos, negsuc, ◌-ℤ◌}

-- how many numbers there are from `low` up to `high`
abbrev pub natural : ℤ → ℕ
natural (pos n) = n
natural (negsuc n) = zero

abbrev pub count_to : ℤ → ℤ → ℕ
count_to low high = natural (high -ℤ low)
