-- How many columns there are from one to another.
use Rattle.std.proofs.Common.{◌≡◌, zero, suc, ℤ, pos, negsuc, ◌-ℤ◌, ◌≤ℤ◌, refl, arith}
use Rattle.std.proofs.lemmas.Int.{ints}
use Rattle.region_rows.specs.Counts.{natural, count_to}

natural-of : (x : ℤ) → pos 0 ≤ℤ x → pos (natural x) ≡ x
natural-of (pos n) low = refl
natural-of (negsuc n) low = absurd (omega (arith, ints))

-- how many columns there are
pub count-is : (low high : ℤ) → low ≤ℤ high → pos (count_to low high) ≡ high -ℤ low
count-is low high l = natural-of (high -ℤ low) (omega (arith, ints))

pub count-none : (low high : ℤ) → high ≤ℤ low → count_to low high ≡ zero
count-none low high l = natural-none (high -ℤ low) (omega (arith, ints))
  where
    natural-none : (x : ℤ) → x ≤ℤ pos 0 → natural x ≡ zero
    natural-none (pos zero) low = refl
    natural-none (pos (suc n)) low = absurd (omega (arith, ints))
    natural-none (negsuc n) low = refl
