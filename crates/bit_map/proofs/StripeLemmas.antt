-- Rows of patterns as words.
use Rattle.std.proofs.Common.{◌≡◌, ℕ, zero, suc, ◌+◌, ◌-◌, ◌*◌, ◌/◌, ◌%◌, ◌^◌, ◌<◌, ◌≤◌, Bool, true, false, nat_eq, nat_lt, refl, sym, ap, ◌∙◌, arith}
use Rattle.std.specs.Int.{bit_at}
use Rattle.std.proofs.lemmas.Bool.Decides.{nat_tests}
use Rattle.std.proofs.lemmas.Nat.{shr-shr}
use Rattle.std.proofs.lemmas.Nat.Bits.{bit_at_cat_low, bit_at_cat_high}
use Rattle.bit_map.specs.Patterns.{bit_of}
use Rattle.bit_map.specs.Words.{bit_in}

-- ---- a row that begins at another of its places

twice_place : (row first j : ℕ) → row < 256 → first < 8 → j < 8 → bit_at (row * 2 ^ 8 + row) (15 - first - j) ≡ bit_at row (7 - (first + j) % 8)
twice_place row first j small f l = by_test (nat_lt (first + j) 8) refl
  where
    by_test : (t : Bool) → nat_lt (first + j) 8 ≡ t → bit_at (row * 2 ^ 8 + row) (15 - first - j) ≡ bit_at row (7 - (first + j) % 8)
    by_test true e =
        let low : first + j < 8 = grind (arith, nat_tests) in
        let is : 15 - first - j - 8 ≡ 7 - (first + j) % 8 = omega (arith, low, f, l) in
        bit_at_cat_high row 8 row (15 - first - j) small (omega (arith, low)) ∙ ap (bit_at row) is
    by_test false e =
        let high : 8 ≤ first + j = grind (arith, nat_tests) in
        let is : 15 - first - j ≡ 7 - (first + j) % 8 = omega (arith, high, f, l) in
        bit_at_cat_low row 8 row (15 - first - j) (omega (arith, high)) ∙ ap (bit_at row) is

-- the low eight bits of a number
low_place : (n i : ℕ) → i < 8 → bit_at (n % 2 ^ 8) i ≡ bit_at n i
low_place n i low = sym (bit_at_cat_low (n / 2 ^ 8) 8 (n % 2 ^ 8) i low) ∙ ap (λ m. bit_at m i) (whole n)
  where
    whole : (m : ℕ) → m / 2 ^ 8 * 2 ^ 8 + m % 2 ^ 8 ≡ m
    whole m = omega arith

pub turned-is : (row first j : ℕ) → row < 256 → first < 8 → j < 8 → bit_of (row * 257 / 2 ^ (8 - first) % 256) j ≡ bit_of row ((first + j) % 8)
turned-is row first j small f l =
    let is : 8 - first + (7 - j) ≡ 15 - first - j = omega arith in
    let twice : row * 257 ≡ row * 2 ^ 8 + row = omega arith in
    ap (λ n. nat_eq n 1)
    (low_place (row * 257 / 2 ^ (8 - first)) (7 - j) (omega arith)
    ∙ ap (λ n. n % 2) (shr-shr (row * 257) (8 - first) (7 - j) ∙ λ i. twice i / 2 ^ is i)
    ∙ twice_place row first j small f l)

-- ---- a row that is repeated

repeat : ℕ → ℕ → ℕ
repeat row zero = 0
repeat row (suc n) = repeat row n * 2 ^ 8 + row

repeat_place : (row n i : ℕ) → row < 256 → i < 8 * n → bit_at (repeat row n) i ≡ bit_at row (i % 8)
unfolding repeat
repeat_place row zero i small low = absurd (omega (arith, low))
repeat_place row (suc n) i small low = by_test (repeat_place row n (i - 8) small) (nat_lt i 8) refl
  where
    by_test : (i - 8 < 8 * n → bit_at (repeat row n) (i - 8) ≡ bit_at row ((i - 8) % 8)) → (t : Bool) → nat_lt i 8 ≡ t → bit_at (repeat row n * 2 ^ 8 + row) i ≡ bit_at row (i % 8)
    by_test before true e =
        let first : i < 8 = grind (arith, nat_tests) in
        let is : i ≡ i % 8 = omega (arith, first) in
        bit_at_cat_low (repeat row n) 8 row i first ∙ ap (bit_at row) is
    by_test before false e =
        let later : 8 ≤ i = grind (arith, nat_tests) in
        let is : (i - 8) % 8 ≡ i % 8 = omega (arith, later) in
        bit_at_cat_high (repeat row n) 8 row i small later ∙ before (omega (arith, low, later)) ∙ ap (bit_at row) is

eight : (row : ℕ) → row * 72340172838076673 ≡ repeat row 8
unfolding repeat
eight row = sum row
  where
    sum : (r : ℕ) → r * 72340172838076673 ≡ ((((((((0 * 2 ^ 8 + r) * 2 ^ 8 + r) * 2 ^ 8 + r) * 2 ^ 8 + r) * 2 ^ 8 + r) * 2 ^ 8 + r) * 2 ^ 8 + r) * 2 ^ 8 + r)
    sum r = omega arith

pub repeated-is : (row k : ℕ) → row < 256 → k < 64 → bit_in (row * 72340172838076673) k ≡ bit_of row (k % 8)
unfolding bit_in
repeated-is row k small low =
    let is : (63 - k) % 8 ≡ 7 - k % 8 = omega arith in
    ap (λ n. nat_eq n 1) (ap (λ n. bit_at n (63 - k)) (eight row) ∙ repeat_place row 8 (63 - k) small (omega arith) ∙ ap (bit_at row) is)
