-- Columns by their multiples.
use Rattle.std.proofs.Common.{◌≡◌, ◌&&◌, true, false, ℕ, ◌<◌, ◌^◌, ℤ, pos, ◌+ℤ◌, ◌-ℤ◌, ◌*ℤ◌, ◌≤ℤ◌, ◌<ℤ◌, ◌⊎◌, sym, ap, ◌∙◌, inl, inr, arith, unsigned_abs, SFits, w32, w64}
use Rattle.std.specs.Prelude.{int_le, int_div, int_rem}
use Rattle.std.specs.Int.{int_min, int_max}
use Rattle.std.proofs.lemmas.Int.{ints, clamps, by_lt_z, quot-rem, rem_below}
use Rattle.std.proofs.lemmas.Bool.{cases_Bool}
use Rattle.std.proofs.Math.IntN.{*ℤ_comm}
use Rattle.tb_geom.specs.Rects.{between}
use Rattle.shape_strips.proofs.RangeLemmas.{row_of}
use Rattle.shape_strips.proofs.Products.{times_le, times_next}

le_true : (a b : ℤ) → a ≤ℤ b → int_le a b ≡ true
le_true a b l = grind (arith, ints)

le_false : (a b : ℤ) → b <ℤ a → int_le a b ≡ false
le_false a b l = grind (arith, ints)

-- q is the least number whose multiple is not below n
pub least_at : (s n q : ℤ) → pos 0 <ℤ s → n ≤ℤ (s *ℤ q) → (s *ℤ (q -ℤ pos 1)) <ℤ n → (x : ℤ) → int_le q x ≡ int_le n (s *ℤ x)
least_at s n q rising reached before x =
    by_lt_z x q
    (λ less.
    let step : (s *ℤ x) ≤ℤ (s *ℤ (q -ℤ pos 1)) = times_le s x (q -ℤ pos 1) (omega (arith, ints)) (omega (arith, ints)) in
    le_false q x less ∙ sym (le_false n (s *ℤ x) (between_two (s *ℤ x) (s *ℤ (q -ℤ pos 1)) n step before)))
    (λ from.
    let step : (s *ℤ q) ≤ℤ (s *ℤ x) = times_le s q x (omega (arith, ints)) from in
    le_true q x from ∙ sym (le_true n (s *ℤ x) (up_to n (s *ℤ q) (s *ℤ x) reached step)))
  where
    between_two : (a b c : ℤ) → a ≤ℤ b → b <ℤ c → a <ℤ c
    between_two a b c l m = omega (arith, ints)

    up_to : (a b c : ℤ) → a ≤ℤ b → b ≤ℤ c → a ≤ℤ c
    up_to a b c l m = omega (arith, ints)

abs_low : (r : ℤ) (m : ℕ) → unsigned_abs r < m → (pos 0 -ℤ pos m) <ℤ r
abs_low r m l = search (arith, ints)

abs_high : (r : ℤ) (m : ℕ) → unsigned_abs r < m → r <ℤ pos m
abs_high r m l = search (arith, ints)

abs_of : (s : ℤ) → pos 0 <ℤ s → pos (unsigned_abs s) ≡ s
abs_of s l = grind (arith, ints)

-- what a quotient toward zero leaves
pub record IsQuotient (n s q r : ℤ) : Type 0 where
  pub whole : (s *ℤ q) +ℤ r ≡ n
  pub low : (pos 0 -ℤ s) <ℤ r
  pub high : r <ℤ s

pub quotient : (n s : ℤ) → pos 0 <ℤ s → IsQuotient n s (int_div n s) (int_rem n s)
quotient n s rising =
    let some : 0 < unsigned_abs s = search (arith, ints) in
    let rest = rem_below n s some in
    let size = abs_of s rising in
    let low = abs_low (int_rem n s) (unsigned_abs s) rest in
    let high = abs_high (int_rem n s) (unsigned_abs s) rest in
    record {
      whole = (λ i. *ℤ_comm s (int_div n s) i +ℤ int_rem n s) ∙ quot-rem n s;
      low = omega (arith, ints);
      high = omega (arith, ints);
    }

-- the quotient, where nothing is left above it
pub least_even : (n s q r : ℤ) → pos 0 <ℤ s → IsQuotient n s q r → r ≤ℤ pos 0 → (x : ℤ) → int_le q x ≡ int_le n (s *ℤ x)
least_even n s q r rising is none =
    let whole = is.whole in
    let low = is.low in
    let one : s *ℤ q ≡ (s *ℤ (q -ℤ pos 1)) +ℤ s = last s q in
    least_at s n q rising (reached (s *ℤ q) r n s whole none) (before (s *ℤ q) (s *ℤ (q -ℤ pos 1)) r n s whole low one)
  where
    last : (s q : ℤ) → s *ℤ q ≡ (s *ℤ (q -ℤ pos 1)) +ℤ s
    last s q = let same : q ≡ (q -ℤ pos 1) +ℤ pos 1 = omega (arith, ints) in ap (λ z. s *ℤ z) same ∙ times_next s (q -ℤ pos 1)

    reached : (m r n s : ℤ) → m +ℤ r ≡ n → r ≤ℤ pos 0 → n ≤ℤ m
    reached m r n s e l = omega (arith, ints)

    before : (m p r n s : ℤ) → m +ℤ r ≡ n → (pos 0 -ℤ s) <ℤ r → m ≡ p +ℤ s → p <ℤ n
    before m p r n s e l f = omega (arith, ints)

-- and one more, where something is
pub least_odd : (n s q r : ℤ) → pos 0 <ℤ s → IsQuotient n s q r → pos 0 <ℤ r → (x : ℤ) → int_le (q +ℤ pos 1) x ≡ int_le n (s *ℤ x)
least_odd n s q r rising is some =
    let whole = is.whole in
    let high = is.high in
    least_at s n (q +ℤ pos 1) rising (reached (s *ℤ q) (s *ℤ (q +ℤ pos 1)) r n s whole high (times_next s q))
    (before (s *ℤ q) (s *ℤ ((q +ℤ pos 1) -ℤ pos 1)) r n whole some (ap (λ z. s *ℤ z) (back q)))
  where
    back : (q : ℤ) → (q +ℤ pos 1) -ℤ pos 1 ≡ q
    back q = omega (arith, ints)

    reached : (m p r n s : ℤ) → m +ℤ r ≡ n → r <ℤ s → p ≡ m +ℤ s → n ≤ℤ p
    reached m p r n s e l f = omega (arith, ints)

    before : (m p r n : ℤ) → m +ℤ r ≡ n → pos 0 <ℤ r → p ≡ m → p <ℤ n
    before m p r n e l f = omega (arith, ints)

-- a quotient is not far above what is divided
pub quotient_small : (n s q r : ℤ) → pos 0 <ℤ s → IsQuotient n s q r → (q ≤ℤ pos 0) ⊎ (q ≤ℤ (n +ℤ s))
quotient_small n s q r rising is = by_lt_z q (pos 0)
    (λ less. inl (omega (arith, ints)))
    (λ from.
    let whole = is.whole in
    let low = is.low in
    let more : (q *ℤ pos 1) ≤ℤ (q *ℤ s) = times_le q (pos 1) s from (omega (arith, ints)) in
    inr (small (q *ℤ s) (s *ℤ q) q r n s (*ℤ_comm q s) whole low (once q more)))
  where
    once : (q : ℤ) {m : ℤ} → (q *ℤ pos 1) ≤ℤ m → q ≤ℤ m
    once q l = omega (arith, ints)

    small : (m p q r n s : ℤ) → m ≡ p → p +ℤ r ≡ n → (pos 0 -ℤ s) <ℤ r → q ≤ℤ m → q ≤ℤ (n +ℤ s)
    small m p q r n s e f l k = omega (arith, ints)

-- a column by its distance from the origin
pub edge_from : (o f h n s : ℤ) → ((x : ℤ) → int_le f x ≡ int_le n (s *ℤ x)) → int_le (o +ℤ f) h ≡ int_le n (s *ℤ (h -ℤ o))
edge_from o f h n s e = moved o f h ∙ e (h -ℤ o)
  where
    moved : (o f h : ℤ) → int_le (o +ℤ f) h ≡ int_le f (h -ℤ o)
    moved o f h = grind (arith, ints)

-- two edges make a run
pub run_between : (l r f g h n m z : ℤ) → (l ≤ℤ h → h <ℤ r → int_le f h ≡ int_le n z) → (l ≤ℤ h → h <ℤ r → int_le g h ≡ int_le m z)
    → l ≤ℤ f → g ≤ℤ r → between f h g ≡ (between l h r && between n z m)
run_between l r f g h n m z e d low high = elim (cases_Bool (between l h r)) [
  | inl t ↦
      let columns = row_of l h r t in
      inner f g h n m z (e columns.0 columns.1) (d columns.0 columns.1) ∙ sym (ap (λ b. b && between n z m) t)
  | inr t ↦ outer l r f g h t low high ∙ sym (ap (λ b. b && between n z m) t)
]
  where
    inner : (f g h n m z : ℤ) → int_le f h ≡ int_le n z → int_le g h ≡ int_le m z → between f h g ≡ between n z m
    inner f g h n m z e d = grind (arith, ints)

    outer : (l r f g h : ℤ) → between l h r ≡ false → l ≤ℤ f → g ≤ℤ r → between f h g ≡ false
    outer l r f g h t low high = grind (arith, ints)

-- one more than a quotient is a number of 64 bits
pub next_fits : (n s q r : ℤ) → pos 0 <ℤ s → IsQuotient n s q r → SFits w64 q → unsigned_abs n < 2 ^ 62 → unsigned_abs s < 2 ^ 32 → SFits w64 (q +ℤ pos 1)
next_fits n s q r rising is fits n_small s_small =
    let n_high = abs_high n (2 ^ 62) n_small in
    let s_high = abs_high s (2 ^ 32) s_small in
    near n s q fits n_high s_high (quotient_small n s q r rising is)
  where
    near : (n s q : ℤ) → SFits w64 q → n <ℤ pos (2 ^ 62) → s <ℤ pos (2 ^ 32) → (q ≤ℤ pos 0) ⊎ (q ≤ℤ (n +ℤ s)) → SFits w64 (q +ℤ pos 1)
    near n s q fits l m (inl low) = search (arith, ints)
    near n s q fits l m (inr low) = search (arith, ints)

-- a distance of two columns, and a column at such a distance
pub record AreNear (o l r : ℤ) : Type 0 where
  pub low : SFits w64 (l -ℤ o)
  pub high : SFits w64 (r -ℤ o)

pub near_columns : (o l r : ℤ) → unsigned_abs o < 2 ^ 16 → unsigned_abs l < 2 ^ 16 → unsigned_abs r < 2 ^ 16 → AreNear o l r
near_columns o l r p q s =
    let o_low = abs_low o 65536 p in
    let o_high = abs_high o 65536 p in
    let l_low = abs_low l 65536 q in
    let l_high = abs_high l 65536 q in
    let r_low = abs_low r 65536 s in
    let r_high = abs_high r 65536 s in
    record { low = search (arith, ints); high = search (arith, ints) }

pub record IsNear (o f : ℤ) : Type 0 where
  pub wide : SFits w64 (o +ℤ f)
  pub narrow : SFits w32 (o +ℤ f)

pub near_column : (o l r f : ℤ) → unsigned_abs o < 2 ^ 16 → unsigned_abs l < 2 ^ 16 → unsigned_abs r < 2 ^ 16
    → (l -ℤ o) ≤ℤ f → f ≤ℤ (r -ℤ o) → IsNear o f
near_column o l r f p q s low high =
    let o_low = abs_low o 65536 p in
    let o_high = abs_high o 65536 p in
    let l_low = abs_low l 65536 q in
    let r_high = abs_high r 65536 s in
    record { wide = search (arith, ints); narrow = search (arith, ints) }

-- a column that is kept within others
pub clamped : (o l r q h : ℤ) → l ≤ℤ h → h <ℤ r → int_le (o +ℤ int_max (l -ℤ o) (int_min q (r -ℤ o))) h ≡ int_le (o +ℤ q) h
clamped o l r q h from to = grind (arith, ints, clamps)
