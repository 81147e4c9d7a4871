-- The remainder by which a pattern repeats.
use Rattle.std.proofs.Common.{◌≡◌, ℕ, zero, suc, ◌+◌, ◌-◌, ◌<◌, ◌%◌, ℤ, pos, negsuc, ◌+ℤ◌, refl, sym, ap, ◌∙◌, arith}
use Rattle.std.proofs.lemmas.Int.{ints}
use Rattle.bit_map.specs.Patterns.{eighth_of}

pub first_eight : (n : ℕ) → n < 8 → eighth_of (pos n) ≡ n
first_eight n low = omega arith

far : (n : ℕ) → 7 - n % 8 ≡ 7 - (n + 8) % 8
far n = omega arith

up : (n : ℕ) → negsuc (n + 8) +ℤ pos 8 ≡ negsuc n
up n = grind (arith, ints)

pub every_eight : (x : ℤ) → eighth_of (x +ℤ pos 8) ≡ eighth_of x
every_eight (pos n) = omega arith
every_eight (negsuc zero) = refl
every_eight (negsuc (suc zero)) = refl
every_eight (negsuc (suc (suc zero))) = refl
every_eight (negsuc (suc (suc (suc zero)))) = refl
every_eight (negsuc (suc (suc (suc (suc zero))))) = refl
every_eight (negsuc (suc (suc (suc (suc (suc zero)))))) = refl
every_eight (negsuc (suc (suc (suc (suc (suc (suc zero))))))) = refl
every_eight (negsuc (suc (suc (suc (suc (suc (suc (suc zero)))))))) = refl
every_eight (negsuc (suc (suc (suc (suc (suc (suc (suc (suc n))))))))) =
    let e : suc (suc (suc (suc (suc (suc (suc (suc n))))))) ≡ n + 8 = omega arith in
    ap (λ k. eighth_of (negsuc k +ℤ pos 8)) e ∙ ap eighth_of (up n) ∙ far n ∙ sym (ap (λ k. eighth_of (negsuc k)) e)

-- the remainder of a number further on
pub eighth-after : (x : ℤ) (k : ℕ) → (eighth_of x + k % 8) % 8 ≡ eighth_of (x +ℤ pos k)
eighth-after (pos n) k = omega arith
eighth-after (negsuc n) k = grind (arith, ints)
