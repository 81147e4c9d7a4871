-- Bits in words: one that is turned, and the first that is set.
use Rattle.std.proofs.Common.{◌≡◌, ℕ, zero, suc, ◌+◌, ◌-◌, ◌*◌, ◌/◌, ◌%◌, ◌^◌, ◌<◌, ◌≤◌, Bool, true, false, not, eqb, List, length, get_or, refl, sym, ap, ◌∙◌, arith, inl, inr, w64, min, Fits}
use Rattle.std.specs.Int.{bit_at, trailing_zeros}
use Rattle.std.specs.Int.RustNames.{bit_xor}
use Rattle.std.proofs.Math.ListN.{set}
use Rattle.std.proofs.Math.Facts.{Fits-lt-pow}
use Rattle.std.proofs.lemmas.Bool.{cases_eq, cases_lt, ne_eqb, eqb-false}
use Rattle.std.proofs.lemmas.List.{get_or-set_other, get_or-set_same}
use Rattle.std.proofs.lemmas.Nat.{one_shl, shr-shr, shr_le}
use Rattle.std.proofs.lemmas.Nat.Bits.{bit_at_xor, bit_at-pow_same, bit_at-pow_other, bit_at-lt, bit_at-zero, bit_at_above, bit_at-trailing_zeros}
use Rattle.region_rows.specs.Edges.{differ}
use Rattle.region_rows.specs.Bits.{has_bit}

pub same_eqb : (a : ℕ) → eqb a a ≡ true
same_eqb zero = refl
same_eqb (suc a) = by (eqb (suc a) (suc a)) refl
  where
    by : (b : Bool) → eqb (suc a) (suc a) ≡ b → b ≡ true
    by true e = refl
    by false e = absurd (eqb-false (suc a) (suc a) e refl)

-- ---- one bit is turned

turned_bit : (b : ℕ) → b < 2 → eqb ((b + 1) % 2) 1 ≡ not (eqb b 1)
turned_bit zero l = refl
turned_bit (suc zero) l = refl
turned_bit (suc (suc b)) l = absurd (omega arith)

kept_bit : (b : ℕ) → b < 2 → eqb ((b + 0) % 2) 1 ≡ eqb b 1
kept_bit zero l = refl
kept_bit (suc zero) l = refl
kept_bit (suc (suc b)) l = absurd (omega arith)

-- in its word
in_word : (w i j : ℕ) → j < 64 → eqb (bit_at (bit_xor w (1 * 2 ^ j % 2 ^ 64)) i) 1 ≡ differ (eqb i j) (eqb (bit_at w i) 1)
in_word w i j l = elim (cases_eq i j) [
  | inl e ↦
      ap (λ m. eqb (bit_at (bit_xor w m) i) 1) (one_shl j 64 l)
      ∙ ap (λ b. eqb b 1) (bit_at_xor w (2 ^ j) i)
      ∙ ap (λ b. eqb ((bit_at w i + b) % 2) 1) (ap (bit_at (2 ^ j)) e ∙ bit_at-pow_same j)
      ∙ turned_bit (bit_at w i) (bit_at-lt w i)
      ∙ sym (ap (λ b. differ b (eqb (bit_at w i) 1)) (ap (λ q. eqb q j) e ∙ same_eqb j))
  | inr n ↦
      ap (λ m. eqb (bit_at (bit_xor w m) i) 1) (one_shl j 64 l)
      ∙ ap (λ b. eqb b 1) (bit_at_xor w (2 ^ j) i)
      ∙ ap (λ b. eqb ((bit_at w i + b) % 2) 1) (bit_at-pow_other j i n)
      ∙ kept_bit (bit_at w i) (bit_at-lt w i)
      ∙ sym (ap (λ b. differ b (eqb (bit_at w i) 1)) (ne_eqb i j n))
]

same_place : (k p : ℕ) → k / 64 ≡ p / 64 → eqb (k % 64) (p % 64) ≡ eqb k p
same_place k p e = elim (cases_eq k p) [
  | inl s ↦ ap (λ q. eqb (q % 64) (p % 64)) s ∙ same_eqb (p % 64) ∙ sym (ap (λ q. eqb q p) s ∙ same_eqb p)
  | inr n ↦ ne_eqb (k % 64) (p % 64) (λ s. n (omega arith)) ∙ sym (ne_eqb k p n)
]

pub flipped : (words : List ℕ) (p k : ℕ) → p < 64 * length words → has_bit (set words (p / 64) (bit_xor (get_or words (p / 64) 0) (1 * 2 ^ (p % 64) % 2 ^ 64))) k ≡ differ (eqb k p) (has_bit words k)
unfolding has_bit
flipped words p k l = elim (cases_eq (k / 64) (p / 64)) [
  | inl e ↦
      ap (λ q. eqb (bit_at (get_or (set words (p / 64) (bit_xor (get_or words (p / 64) 0) (1 * 2 ^ (p % 64) % 2 ^ 64))) q 0) (k % 64)) 1) e
      ∙ ap (λ w. eqb (bit_at w (k % 64)) 1) (get_or-set_same words (p / 64) (bit_xor (get_or words (p / 64) 0) (1 * 2 ^ (p % 64) % 2 ^ 64)) 0 (omega arith))
      ∙ in_word (get_or words (p / 64) 0) (k % 64) (p % 64) (omega arith)
      ∙ (λ i. differ (same_place k p e i) (eqb (bit_at (get_or words (sym e i) 0) (k % 64)) 1))
  | inr n ↦
      ap (λ w. eqb (bit_at w (k % 64)) 1) (get_or-set_other words (p / 64) (k / 64) (bit_xor (get_or words (p / 64) 0) (1 * 2 ^ (p % 64) % 2 ^ 64)) 0 n)
      ∙ sym (ap (λ b. differ b (eqb (bit_at (get_or words (k / 64) 0) (k % 64)) 1)) (ne_eqb k p (λ e. n (ap (λ q. q / 64) e))))
]

-- ---- the first bit that is set

-- a bit of what is left of a word
shifted : (w s i : ℕ) → bit_at (w / 2 ^ s) i ≡ bit_at w (s + i)
shifted w s i = ap (λ n. n % 2) (shr-shr w s i)

-- a place in the word of another one
in_same : (at k : ℕ) → at ≤ k → k < (at / 64 + 1) * 64 → (k / 64 ≡ at / 64) × (k % 64 ≡ at % 64 + (k - at))
in_same at k a b = (omega arith, omega arith)

bit_of : (words : List ℕ) (at k : ℕ) → at ≤ k → k < (at / 64 + 1) * 64 → has_bit words k ≡ eqb (bit_at (get_or words (at / 64) 0 / 2 ^ (at % 64)) (k - at)) 1
unfolding has_bit
bit_of words at k a b =
    let s = in_same at k a b in
    (λ i. eqb (bit_at (get_or words (s.0 i) 0) (s.1 i)) 1) ∙ ap (λ n. eqb n 1) (sym (shifted (get_or words (at / 64) 0) (at % 64) (k - at)))

-- where the rest of a word is 0, none of its bits is set
pub none_in_rest : (words : List ℕ) (at k : ℕ) → get_or words (at / 64) 0 / 2 ^ (at % 64) ≡ 0 → at ≤ k → k < (at / 64 + 1) * 64 → has_bit words k ≡ false
none_in_rest words at k e a b = bit_of words at k a b ∙ ap (λ w. eqb (bit_at w (k - at)) 1) e ∙ ap (λ n. eqb n 1) (bit_at-zero (k - at))

-- and else the first that is set is in the word
module _ (words : List ℕ) (at : ℕ) (fits : get_or words (at / 64) 0 < 2 ^ 64) (some : 0 < get_or words (at / 64) 0 / 2 ^ (at % 64)) where
  abbrev rest : ℕ
  rest = get_or words (at / 64) 0 / 2 ^ (at % 64)

  rest_fits : rest < 2 ^ 64
  rest_fits = let l = shr_le (get_or words (at / 64) 0) (at % 64) in omega arith

  found : (trailing_zeros w64 rest < 64) × (bit_at rest (trailing_zeros w64 rest) ≡ 1) × ((i : ℕ) → i < trailing_zeros w64 rest → bit_at rest i ≡ 0)
  found = bit_at-trailing_zeros w64 rest some rest_fits

  within : at % 64 + trailing_zeros w64 rest < 64
  within = elim (cases_lt (at % 64 + trailing_zeros w64 rest) 64) [
    | inl l ↦ l
    | inr l ↦ absurd (let none = bit_at_above (get_or words (at / 64) 0) 64 (at % 64 + trailing_zeros w64 rest) fits l in let one = sym (shifted (get_or words (at / 64) 0) (at % 64) (trailing_zeros w64 rest)) ∙ found.1 in omega arith)
  ]

  pub first_here : has_bit words (at + trailing_zeros w64 rest) ≡ true
  first_here =
      let z = within in
      bit_of words at (at + trailing_zeros w64 rest) (omega arith) (omega arith)
      ∙ ap (λ i. eqb (bit_at rest i) 1) (same at (trailing_zeros w64 rest))
      ∙ ap (λ n. eqb n 1) found.1
    where
      same : (a b : ℕ) → a + b - a ≡ b
      same a b = omega arith

  pub none_before : (k : ℕ) → at ≤ k → k < at + trailing_zeros w64 rest → has_bit words k ≡ false
  none_before k a b =
      let z = within in
      bit_of words at k a (omega arith) ∙ ap (λ n. eqb n 1) (found.2 (k - at) (omega arith))

-- ---- numbers

pub not_zero : (n : ℕ) → (n ≡ 0 → ⊥) → 0 < n
not_zero n f = omega arith

pub fits_word : (words : List ℕ) → ((i : ℕ) → Fits w64 (get_or words i 0)) → (i : ℕ) → get_or words i 0 < 2 ^ 64
fits_word words f i = Fits-lt-pow (f i)

pub below_min : (k a b : ℕ) → k < min a b → (k < a) × (k < b)
below_min k a b l = (omega arith, omega arith)

pub first_min : (a b : ℕ) → min a b < a → min a b ≡ b
first_min a b l = omega arith
