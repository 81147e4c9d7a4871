-- The edges of a row, and what one more edge changes.
use Rattle.std.proofs.Common.{◌≡◌, ℕ, zero, suc, ◌+◌, ◌<◌, Bool, true, false, not, List, [], ◌∷◌, ◌++◌, length, get_or, take, ℤ, pos, ◌<ℤ◌, ◌≤ℤ◌, refl, sym, ap, ◌∙◌, arith}
use Rattle.std.specs.Prelude.{int_le}
use native.Mathlib.Numerals.{unary_clauses}
use Rattle.std.proofs.lemmas.Int.{ints, by_lt_z}
use Rattle.std.proofs.lemmas.Bool.{true≢false, false≢true}
use Rattle.std.proofs.lemmas.List.{take_more}
use Rattle.region_bytes.specs.Edges.{differ, inside, is_odd, IsRising, IsRow}

pub differ_swap : (a b c : Bool) → differ a (differ b c) ≡ differ b (differ a c)
differ_swap true true c = refl
differ_swap true false c = refl
differ_swap false true c = refl
differ_swap false false c = refl

-- one more edge turns the columns from it on
pub inside-push : (xs : List ℤ) (x h : ℤ) → inside (xs ++ x ∷ []) h ≡ differ (int_le x h) (inside xs h)
unfolding inside
inside-push [] x h = refl
inside-push (y ∷ xs) x h = ap (differ (int_le y h)) (inside-push xs x h) ∙ differ_swap (int_le y h) (int_le x h) _

-- left of it nothing changes
pub inside-push_before : (xs : List ℤ) (x h : ℤ) → h <ℤ x → inside (xs ++ x ∷ []) h ≡ inside xs h
inside-push_before xs x h l = let e : int_le x h ≡ false = grind (arith, ints) in inside-push xs x h ∙ ap (λ b. differ b (inside xs h)) e

-- from it on each column turns
pub inside-push_after : (xs : List ℤ) (x h : ℤ) → x ≤ℤ h → inside (xs ++ x ∷ []) h ≡ not (inside xs h)
inside-push_after xs x h l = let e : int_le x h ≡ true = grind (arith, ints) in inside-push xs x h ∙ ap (λ b. differ b (inside xs h)) e

-- the next number is odd where this one is not
pub is_odd-more : (n : ℕ) → is_odd (n + 1) ≡ not (is_odd n)
unfolding is_odd
is_odd-more n = simp unary_clauses

-- one more edge that is read turns the columns from it on
pub inside-more : (xs : List ℤ) (i : ℕ) (h : ℤ) → i < length xs → inside (take (i + 1) xs) h ≡ differ (int_le (get_or xs i (pos 0)) h) (inside (take i xs) h)
inside-more xs i h l = ap (λ l. inside l h) (take_more xs i (pos 0) l) ∙ inside-push (take i xs) (get_or xs i (pos 0)) h

-- left of all its edges a row has no pixel
pub inside_left : (xs : List ℤ) (h : ℤ) → ((k : ℕ) → k < length xs → h <ℤ get_or xs k (pos 0)) → inside xs h ≡ false
unfolding inside
inside_left [] h all = refl
inside_left (x ∷ xs) h all =
    let first = all 0 (omega arith) in
    let e : int_le x h ≡ false = grind (arith, ints) in
    (λ i. differ (e i) (inside xs h)) ∙ inside_left xs h (λ k l. all (suc k) (omega arith))

-- right of all its edges, it has none either, if their number is even
pub inside_right : (xs : List ℤ) (h : ℤ) → ((k : ℕ) → k < length xs → get_or xs k (pos 0) ≤ℤ h) → inside xs h ≡ is_odd (length xs)
unfolding inside is_odd
inside_right [] h all = refl
inside_right (x ∷ xs) h all =
    let first = all 0 (omega arith) in
    let e : int_le x h ≡ true = grind (arith, ints) in
    (λ i. differ (e i) (inside xs h)) ∙ ap not (inside_right xs h (λ k l. all (suc k) (omega arith)))

-- the empty row has no pixel
pub inside-nil : (h : ℤ) → inside [] h ≡ false
unfolding inside
inside-nil h = refl

-- it is a row
pub IsRow-nil : IsRow []
unfolding is_odd
IsRow-nil = record { rising = record { rises = λ i j m n. absurd (omega arith) }; even = refl; in_range = λ k m. absurd (omega arith) }

pub rising_tail : (x : ℤ) (xs : List ℤ) → IsRising (x ∷ xs) → IsRising xs
rising_tail x xs r = record { rises = λ i j m n. r.rises (suc i) (suc j) (omega arith) (omega arith) }

pub int_le-true : (x h : ℤ) → x ≤ℤ h → int_le x h ≡ true
int_le-true x h l = grind (arith, ints)

pub int_le-false : (x h : ℤ) → h <ℤ x → int_le x h ≡ false
int_le-false x h l = grind (arith, ints)

pub rising_head : (x : ℤ) (xs : List ℤ) → IsRising (x ∷ xs) → (k : ℕ) → k < length xs → x <ℤ get_or xs k (pos 0)
rising_head x xs r k n = r.rises zero (suc k) (omega arith) (omega arith)

-- at its first edge a row is in
pub first_in : (x : ℤ) (xs : List ℤ) → IsRising (x ∷ xs) → inside (x ∷ xs) x ≡ true
unfolding inside
first_in x xs r = (λ i. differ (int_le-true x x (omega (arith, ints)) i) (inside_left xs x (rising_head x xs r) i))

-- left of it the row is out
pub left_out : (x h : ℤ) (xs : List ℤ) → IsRising (x ∷ xs) → h <ℤ x → inside (x ∷ xs) h ≡ false
unfolding inside
left_out x h xs r l = (λ i. differ (int_le-false x h l i) (inside_left xs h (λ k n. let f = rising_head x xs r k n in omega (arith, ints)) i))

pub differ_cancel : (b c d : Bool) → differ b c ≡ differ b d → c ≡ d
differ_cancel true true true e = refl
differ_cancel true true false e = sym e
differ_cancel true false true e = sym e
differ_cancel true false false e = refl
differ_cancel false c d e = e

edge_tails : (x : ℤ) (xs ys : List ℤ) → ((h : ℤ) → inside (x ∷ xs) h ≡ inside (x ∷ ys) h) → (h : ℤ) → inside xs h ≡ inside ys h
unfolding inside
edge_tails x xs ys e h = differ_cancel (int_le x h) _ _ (e h)

-- rows with the same pixels have the same edges
pub same_edges : (xs ys : List ℤ) → IsRising xs → IsRising ys → ((h : ℤ) → inside xs h ≡ inside ys h) → xs ≡ ys
same_edges [] [] r s e = refl
same_edges [] (y ∷ ys) r s e = absurd (false≢true (sym (inside-nil y) ∙ e y ∙ first_in y ys s))
same_edges (x ∷ xs) [] r s e = absurd (true≢false (sym (first_in x xs r) ∙ e x ∙ inside-nil x))
same_edges (x ∷ xs) (y ∷ ys) r s e =
    let same : x ≡ y = by_lt_z x y
    (λ l. absurd (true≢false (sym (first_in x xs r) ∙ e x ∙ left_out y x ys s l)))
    (λ l. by_lt_z y x
    (λ m. absurd (false≢true (sym (left_out x y xs r m) ∙ e y ∙ first_in y ys s)))
    (λ m. omega (arith, ints))) in
    let rest = same_edges xs ys (rising_tail x xs r) (rising_tail y ys s) (edge_tails x xs ys (λ h. e h ∙ ap (λ z. inside (z ∷ ys) h) (sym same))) in
    λ i. same i ∷ rest i
