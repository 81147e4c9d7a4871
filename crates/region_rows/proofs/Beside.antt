-- Rows of which one ends before the other begins.
use Rattle.std.proofs.Common.{◌≡◌, ℕ, zero, suc, ◌-◌, ◌%◌, Bool, true, false, not, ◌&&◌, ◌⊎◌, inl, inr, List, [], ◌∷◌, length, get_or, ℤ, pos, negsuc, ◌-ℤ◌, ◌<ℤ◌, ◌≤ℤ◌, refl, sym, ap, ◌∙◌, arith}
use Rattle.std.proofs.lemmas.Int.{ints, by_lt_z}
use Rattle.std.proofs.Math.Bool.{and-false}
use Rattle.std.proofs.lemmas.List.{nil_from_length}
use Rattle.region_bytes.proofs.Edges.{inside_right}
use Rattle.region_rows.specs.Edges.{inside, is_odd, kept, IsEdges}
use Rattle.region_rows.specs.declared.kernel.Kept.{Kept}
use Rattle.region_rows.specs.declared.kernel.Kept.TheVariants.{Alone, All}
use Rattle.region_rows.proofs.Climbs.{inside_below, rising_from}
use Rattle.region_rows.proofs.Edges.{none_in}
use Rattle.region_rows.proofs.Hulls.{from_first}

-- left of its first edge a row has no pixel
pub before : (xs : List ℤ) (h : ℤ) → IsEdges xs → h <ℤ get_or xs 0 (pos 0) → inside xs h ≡ false
before [] h e l = none_in [] h refl
before (x ∷ xs) h e l = inside_below (x -ℤ pos 1) (x ∷ xs) (pos 16383) h (omega (arith, ints), e.1) (omega (arith, ints))

-- and from its last edge on what their number says
pub after : (xs : List ℤ) (h : ℤ) → IsEdges xs → get_or xs (length xs - 1) (pos 0) ≤ℤ h → inside xs h ≡ is_odd (length xs)
after xs h e l = inside_right xs h (λ k m. let in_order = (from_first xs k (pos 0) (rising_from (negsuc 16384) xs (pos 16383) e) m).1 in omega (arith, ints))

-- a number that two divides is even
pub even_halves : (n : ℕ) → n % 2 ≡ 0 → is_odd n ≡ false
unfolding is_odd
even_halves zero e = refl
even_halves (suc zero) e = absurd (omega arith)
even_halves (suc (suc n)) e = twice_not (is_odd n) ∙ even_halves n (omega arith)
  where
    twice_not : (b : Bool) → not (not b) ≡ b
    twice_not true = refl
    twice_not false = refl

apart_at : (a b : Bool) → (a ≡ false) ⊎ (b ≡ false) → (a && b) ≡ false
apart_at a b (inl e) = ap (λ t. t && b) e
apart_at a b (inr e) = ap (λ t. a && t) e ∙ and-false a

-- so a row that ends where another begins, or further left, shares no pixel with it
pub ends_before : (xs ys : List ℤ) (h : ℤ) → IsEdges xs → IsEdges ys → is_odd (length xs) ≡ false → get_or xs (length xs - 1) (pos 0) ≤ℤ get_or ys 0 (pos 0) → (inside xs h && inside ys h) ≡ false
ends_before xs ys h e f even l =
    let first : ℤ = get_or ys 0 (pos 0) in
    apart_at (inside xs h) (inside ys h) (by_lt_z h first (λ m. inr (before ys h f m)) (λ m. inl (after xs h e (omega (arith, ints)) ∙ even)))

-- and neither does one that begins where the other ends, or further right
pub begins_after : (xs ys : List ℤ) (h : ℤ) → IsEdges xs → IsEdges ys → is_odd (length ys) ≡ false → get_or ys (length ys - 1) (pos 0) ≤ℤ get_or xs 0 (pos 0) → (inside xs h && inside ys h) ≡ false
begins_after xs ys h e f even l = and_swapped (inside xs h) (inside ys h) ∙ ends_before ys xs h f e even l
  where
    and_swapped : (a b : Bool) → (a && b) ≡ (b && a)
    and_swapped true true = refl
    and_swapped true false = refl
    and_swapped false true = refl
    and_swapped false false = refl

-- and so it is beside a row of no edge
pub beside_none : (xs ys : List ℤ) (h : ℤ) → length ys ≡ 0 → (inside xs h && inside ys h) ≡ false
beside_none xs ys h e = apart_at (inside xs h) (inside ys h) (inr (none_in ys h (nil_from_length ys e)))

-- what is kept of a row beside another one with which it shares no pixel
pub kept_beside : (k : Kept) (a b : Bool) → (k ≡ Alone) ⊎ (k ≡ All) → (a && b) ≡ false → a ≡ kept k a b
kept_beside k a b (inl e) apart = all_alone a b apart ∙ sym (λ i. kept (e i) a b)
  where
    all_alone : (a b : Bool) → (a && b) ≡ false → a ≡ (a && not b)
    all_alone true true apart = apart
    all_alone true false apart = refl
    all_alone false b apart = refl
kept_beside k a b (inr e) apart = sym (λ i. kept (e i) a b)
