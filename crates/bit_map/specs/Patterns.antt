-- Patterns of eight by eight bits, over the whole plane.
use Rattle.std.specs.Prelude.{ℕ, ◌-◌, ◌/◌, ◌%◌, ◌^◌, ℤ, pos, negsuc, Bool, nat_eq, [], ◌∷◌, slice_index}
use Rattle.tb_geom.specs.Points.{PixelSet}
use Rattle.bit_map.specs.declared.pattern.Pattern.{Pattern}

-- black where row and column are both even or both odd
abbrev pub gray : Pattern
gray = record { rows = 0xAA ∷ 0x55 ∷ 0xAA ∷ 0x55 ∷ 0xAA ∷ 0x55 ∷ 0xAA ∷ 0x55 ∷ [] }

-- the remainder by 8, which is never negative
abbrev pub eighth_of : ℤ → ℕ
eighth_of (pos n) = n % 8
eighth_of (negsuc n) = 7 - n % 8

-- the bit of a byte at a place, place 0 being the high bit
abbrev pub bit_of : ℕ → ℕ → Bool
bit_of byte place = nat_eq (byte / 2 ^ (7 - place) % 2) 1

-- the bit of the pattern at a point
abbrev pub pattern_bit : Pattern → PixelSet
pattern_bit pattern p = bit_of (slice_index pattern.rows (eighth_of p.v)) (eighth_of p.h)
