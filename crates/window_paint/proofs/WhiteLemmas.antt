-- The white pattern.
use Rattle.std.proofs.Common.{◌≡◌, ℕ, zero, suc, false, [], ◌∷◌, refl, ap, ◌∙◌, arith}
use Rattle.std.specs.Prelude.{slice_index}
use Rattle.tb_geom.specs.declared.point.Point.{Point}
use Rattle.bit_map.specs.declared.pattern.Pattern.{Pattern}
use Rattle.bit_map.specs.Patterns.{pattern_bit, bit_of, eighth_of}

abbrev pub white : Pattern
white = record { rows = 0 ∷ 0 ∷ 0 ∷ 0 ∷ 0 ∷ 0 ∷ 0 ∷ 0 ∷ [] }

zero_at : (k : ℕ) → slice_index (0 ∷ 0 ∷ 0 ∷ 0 ∷ 0 ∷ 0 ∷ 0 ∷ 0 ∷ []) k ≡ 0
zero_at zero = refl
zero_at (suc zero) = refl
zero_at (suc (suc zero)) = refl
zero_at (suc (suc (suc zero))) = refl
zero_at (suc (suc (suc (suc zero)))) = refl
zero_at (suc (suc (suc (suc (suc zero))))) = refl
zero_at (suc (suc (suc (suc (suc (suc zero)))))) = refl
zero_at (suc (suc (suc (suc (suc (suc (suc zero))))))) = refl
zero_at (suc (suc (suc (suc (suc (suc (suc (suc k)))))))) = refl

bit_of-zero : (place : ℕ) → bit_of 0 place ≡ false
bit_of-zero place = grind arith

-- the white pattern is white
pub pattern_bit-white : (p : Point) → pattern_bit white p ≡ false
pattern_bit-white p = ap (λ n. bit_of n (eighth_of p.h)) (zero_at (eighth_of p.v)) ∙ bit_of-zero (eighth_of p.h)
