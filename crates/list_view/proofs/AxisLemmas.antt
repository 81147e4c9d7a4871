-- Products and quotients of the numbers of a view.
use Rattle.std.proofs.Common.{◌≡◌, ◌≤◌, ◌<◌, ◌+◌, ◌*◌, ◌/◌, ℤ, pos, negsuc, ◌+ℤ◌, ◌≤ℤ◌, ◌<ℤ◌, arith, SFits, w32}
use Rattle.std.specs.Prelude.{◌*ℤ◌, int_div}
use Rattle.std.proofs.lemmas.Int.{ints, clamps}
use Rattle.std.proofs.lemmas.Nat.{mul-le}
use Rattle.std.proofs.Math.Nat.{div-mul-le_self, lt-div-mul-add}
use Rattle.std.specs.Int.{int_max, int_min, saturate_signed}
use Rattle.control_values.specs.Settings.{nearest}
use Rattle.list_view.specs.Axes.{IsLine}

-- so many lines of cells take no more pixels than this
pub record IsSmall (z : ℤ) : Type 0 where
  pub least : negsuc 4193279 ≤ℤ z
  pub most : z ≤ℤ pos 4193280

pub product_near : (lines cell : ℤ) → negsuc 4094 ≤ℤ lines → lines ≤ℤ pos 4095 → pos 1 ≤ℤ cell → cell ≤ℤ pos 1024 → IsSmall (lines *ℤ cell)
product_near (pos m) (pos n) a b c d =
    let h : m * n ≤ 4095 * 1024 = mul-le m n 4095 1024 (omega (arith, ints)) (omega (arith, ints)) in
    record { least = omega (arith, ints); most = omega (arith, ints) }
product_near (negsuc m) (pos n) a b c d =
    let h : (m + 1) * n ≤ 4095 * 1024 = mul-le (m + 1) n 4095 1024 (omega (arith, ints)) (omega (arith, ints)) in
    record { least = omega (arith, ints); most = omega (arith, ints) }
product_near z (negsuc n) a b c d = absurd (omega (arith, ints))

pub product_fits : (z : ℤ) → IsSmall z → SFits w32 z
product_fits z h = let l = h.least in let m = h.most in search (arith, ints)

-- how often one number goes into another
pub record IsQuotient (x d q : ℤ) : Type 0 where
  pub least : (q *ℤ d) ≤ℤ x
  pub most : x <ℤ (q *ℤ d +ℤ d)

pub quotient_is : (x d : ℤ) → pos 0 ≤ℤ x → pos 1 ≤ℤ d → IsQuotient x d (int_div x d)
quotient_is (pos a) (pos d) s c =
    let l : a / d * d ≤ a = div-mul-le_self a d in
    let m : a < a / d * d + d = lt-div-mul-add (omega (arith, ints)) in
    record { least = omega (arith, ints); most = omega (arith, ints) }
quotient_is (negsuc a) d s c = absurd (omega (arith, ints))
quotient_is (pos a) (negsuc d) s c = absurd (omega (arith, ints))

-- it is not below 0, and no greater than the number
pub record IsPart (q x : ℤ) : Type 0 where
  pub least : pos 0 ≤ℤ q
  pub most : q ≤ℤ x

pub quotient_part : (x d : ℤ) → pos 0 ≤ℤ x → pos 1 ≤ℤ d → IsPart (int_div x d) x
quotient_part (pos a) (pos d) s c =
    let some : 1 ≤ d = omega (arith, ints) in
    let l : a / d * d ≤ a = div-mul-le_self a d in
    let m : a / d * 1 ≤ a / d * d = mul-le (a / d) 1 (a / d) d (omega arith) some in
    record { least = omega (arith, ints); most = omega (arith, ints) }
quotient_part (negsuc a) d s c = absurd (omega (arith, ints))
quotient_part (pos a) (negsuc d) s c = absurd (omega (arith, ints))

-- a sum that was kept within the numbers of 32 bits lies as near to a bound as the sum itself
pub saturated_nearest : (z bound : ℤ) → IsLine bound → int_max (int_min (saturate_signed w32 z) bound) (pos 0) ≡ nearest (pos 0) bound z
saturated_nearest (pos n) bound h = let l = h.least in let m = h.most in omega (arith, ints, clamps)
saturated_nearest (negsuc n) bound h = let l = h.least in let m = h.most in omega (arith, ints, clamps)
