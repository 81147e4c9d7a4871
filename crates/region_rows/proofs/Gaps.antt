-- Two columns among the edges of a row, and a row that is turned at both.
use Rattle.std.proofs.Common.{◌≡◌, inl, inr, ℕ, ◌+◌, zero, suc, ◌<◌, ◌≤◌, Bool, true, false, not, List, [], ◌∷◌, ◌++◌, length, get_or, set, take, drop, ℤ, pos, negsuc, ◌-ℤ◌, ◌<ℤ◌, ◌≤ℤ◌, refl, sym, ap, ◌∙◌, arith}
use Rattle.std.proofs.lemmas.Int.{ints}
use Rattle.std.proofs.lemmas.Bool.{cases_lt}
use Rattle.std.specs.Int.{from_bool}
use Rattle.std.proofs.lemmas.List.{take-append-drop}
use Rattle.region_rows.specs.declared.turning.Gap.{Gap}
use Rattle.region_rows.specs.Edges.{differ, inside, only, IsClimb, IsCoordinate, IsEdges}
use Rattle.region_rows.specs.Gaps.{after, across, IsFree, IsGap, IsPlace}
use Rattle.region_rows.proofs.Climbs.{above_low, below_high, climb_append, climb_take, climb_drop, rising_from, inside-append, differ_of}

-- ---- the place of two columns

-- how many edges lie left of a column or in it, by how many lie left of it and whether it is one
abbrev pub past : ℕ → Bool → ℕ
past p b = p + from_bool b

-- one more edge left of a column
pub one_more_left : (xs : List ℤ) (n : ℕ) (x : ℤ) → ((k : ℕ) → k < n → get_or xs k (pos 0) <ℤ x) → get_or xs n (pos 0) <ℤ x → (k : ℕ) → k < n + 1 → get_or xs k (pos 0) <ℤ x
one_more_left xs n x left here k l =
    elim (cases_lt k n) [
      | inl m ↦ left k m
      | inr m ↦ (let same : k ≡ n = omega arith in rw same here)
    ]

-- where the second column lies, with no edge between them
pub record IsNext (xs : List ℤ) (r : ℤ) (q : ℕ) (e : Bool) : Type 0 where
  pub there : e ≡ true → (q < length xs) × (get_or xs q (pos 0) ≡ r)
  pub apart : e ≡ false → q < length xs → r <ℤ get_or xs q (pos 0)

-- the edge past the first column lies right of it
pub past_right : (xs : List ℤ) (l : ℤ) (p : ℕ) (b : Bool) → IsEdges xs → IsPlace xs l p b → past p b < length xs → l <ℤ get_or xs (past p b) (pos 0)
past_right xs l p true c s m = rw (sym (s.there refl).1) ((rising_from (negsuc 16384) xs (pos 16383) c).rises p (p + 1) (omega arith) m)
past_right xs l p false c s m =
    let here : p + 0 ≡ p = omega arith in
    rw here (s.apart refl (omega arith))

from_place : (xs : List ℤ) (k : ℕ) → k < length xs → drop k xs ≡ get_or xs k (pos 0) ∷ drop (suc k) xs
from_place [] k l = absurd (omega arith)
from_place (x ∷ xs) zero l = refl
from_place (x ∷ xs) (suc k) l = from_place xs k (omega arith)

-- the edges from a place on, where the first of them is known
from_edge : (xs : List ℤ) (k : ℕ) (x : ℤ) → k < length xs → get_or xs k (pos 0) ≡ x → drop k xs ≡ x ∷ drop (k + 1) xs
from_edge xs k x l e =
    let next : k + 1 ≡ suc k = omega arith in
    from_place xs k l ∙ (λ i. e i ∷ drop (sym next i) xs)

pub gap_is : (xs : List ℤ) (l r : ℤ) (p : ℕ) (b e : Bool) → IsEdges xs → IsPlace xs l p b → IsNext xs r (past p b) e → IsGap xs l r (record { place = p; begins = b; ends = e })
gap_is xs l r p true true c s n =
    let two : p + 1 + 1 ≡ p + 2 = omega arith in
    let first = from_edge xs p l (s.there refl).0 (s.there refl).1 in
    let second = from_edge xs (p + 1) r (n.there refl).0 (n.there refl).1 in
    record {
      within = let m = (n.there refl).0 in omega arith;
      edges_left = s.left;
      columns = sym (take-append-drop p xs) ∙ ap (λ ys. take p xs ++ ys) (first ∙ ap (λ ys. l ∷ ys) (second ∙ ap (λ k. r ∷ drop k xs) two));
      edges_right = λ m. rw (sym (n.there refl).1) ((rising_from (negsuc 16384) xs (pos 16383) c).rises (p + 1) (p + 2) (omega arith) m);
    }
gap_is xs l r p true false c s n =
    let first = from_edge xs p l (s.there refl).0 (s.there refl).1 in
    record {
      within = let m = (s.there refl).0 in omega arith;
      edges_left = s.left;
      columns = sym (take-append-drop p xs) ∙ ap (λ ys. take p xs ++ ys) first;
      edges_right = n.apart refl;
    }
gap_is xs l r p false true c s n =
    let here : p + 0 ≡ p = omega arith in
    let first = from_edge xs p r (rw (sym here) (n.there refl).0) (rw (sym here) (n.there refl).1) in
    record {
      within = let m = (n.there refl).0 in omega arith;
      edges_left = s.left;
      columns = sym (take-append-drop p xs) ∙ ap (λ ys. take p xs ++ ys) first;
      edges_right = λ m. rw (sym (n.there refl).1, here) ((rising_from (negsuc 16384) xs (pos 16383) c).rises p (p + 1) (omega arith) m);
    }
gap_is xs l r p false false c s n =
    let here : p + 0 ≡ p = omega arith in
    record {
      within = s.within;
      edges_left = s.left;
      columns = sym (take-append-drop p xs);
      edges_right = λ m. rw (sym here) (n.apart refl (rw here m));
    }

-- a number that none from a place on lies left of
from_on : (xs : List ℤ) (r : ℤ) (q k : ℕ) → IsEdges xs → r ≤ℤ get_or xs q (pos 0) → q ≤ k → k < length xs → r ≤ℤ get_or xs k (pos 0)
from_on xs r q k c e l m =
    elim (cases_lt q k) [
      | inl n ↦ (let up = (rising_from (negsuc 16384) xs (pos 16383) c).rises q k n m in omega (arith, ints))
      | inr n ↦ (let same : k ≡ q = omega arith in rw same e)
    ]

-- those before the edge past the first column do not lie right of it
before_past : (xs : List ℤ) (l : ℤ) (p : ℕ) (b : Bool) (k : ℕ) → IsPlace xs l p b → k < past p b → get_or xs k (pos 0) ≤ℤ l
before_past xs l p true k s m =
    elim (cases_lt k p) [
      | inl n ↦ (let left = s.left k n in omega (arith, ints))
      | inr n ↦ (let same : k ≡ p = omega arith in let here = (s.there refl).1 in rw same (omega (arith, ints)))
    ]
before_past xs l p false k s m = let left = s.left k (omega arith) in omega (arith, ints)

pub free_is : (xs : List ℤ) (l r : ℤ) (p : ℕ) (b : Bool) → IsEdges xs → IsPlace xs l p b → (past p b < length xs → r ≤ℤ get_or xs (past p b) (pos 0)) → IsFree xs l r
free_is xs l r p b c s n k m =
    elim (cases_lt k (past p b)) [
      | inl before ↦ inl (before_past xs l p b k s before)
      | inr on ↦ inr (from_on xs r (past p b) k c (n (omega arith)) (omega arith) m)
    ]

pub not_free : (xs : List ℤ) (l r : ℤ) (p : ℕ) (b : Bool) → IsEdges xs → IsPlace xs l p b → past p b < length xs → get_or xs (past p b) (pos 0) <ℤ r → IsFree xs l r → ⊥
not_free xs l r p b c s m before free =
    let right = past_right xs l p b c s m in
    elim (free (past p b) m) [
      | inl w ↦ omega (arith, ints)
      | inr w ↦ omega (arith, ints)
    ]

-- ---- a row that is turned at both

set_next : (xs : List ℤ) (k : ℕ) (x : ℤ) → k < length xs → set xs k x ≡ take k xs ++ x ∷ drop (suc k) xs
set_next [] k x l = absurd (omega arith)
set_next (y ∷ xs) zero x l = refl
set_next (y ∷ xs) (suc k) x l = ap (λ ys. y ∷ ys) (set_next xs k x (omega arith))

-- another number in a place
pub set_at : (xs : List ℤ) (k : ℕ) (x : ℤ) → k + 1 ≤ length xs → set xs k x ≡ take k xs ++ x ∷ drop (k + 1) xs
set_at xs k x l =
    let next : k + 1 ≡ suc k = omega arith in
    rw next (set_next xs k x (omega arith))

itself : (b : Bool) → differ b b ≡ false
itself true = refl
itself false = refl

swapped : (a b c : Bool) → differ (differ a b) c ≡ differ (differ a c) b
swapped true true true = refl
swapped true true false = refl
swapped true false true = refl
swapped true false false = refl
swapped false true true = refl
swapped false true false = refl
swapped false false true = refl
swapped false false false = refl

-- a column that is no edge more, or no longer one
turned_one : (b : Bool) (x h : ℤ) → inside (only (not b) x) h ≡ differ (inside (only b x) h) (inside (x ∷ []) h)
unfolding inside
turned_one true x h = sym (itself (inside (x ∷ []) h))
turned_one false x h = refl

-- two parts that are turned
turned_parts : (t b l e r s : Bool) → differ t (differ (differ b l) (differ (differ e r) s)) ≡ differ (differ t (differ b (differ e s))) (differ l r)
turned_parts t b l e r s =
    ap (λ y. differ t (differ (differ b l) y)) (swapped e r s)
    ∙ ap (differ t) (sym (differ_of (differ b l) (differ e s) r) ∙ ap (λ y. differ y r) (swapped b l (differ e s)) ∙ differ_of (differ b (differ e s)) l r)
    ∙ sym (differ_of t (differ b (differ e s)) (differ l r))

parts : (ts bs es ss : List ℤ) (h : ℤ) → inside (ts ++ (bs ++ (es ++ ss))) h ≡ differ (inside ts h) (differ (inside bs h) (differ (inside es h) (inside ss h)))
parts ts bs es ss h =
    inside-append ts (bs ++ (es ++ ss)) h ∙ ap (differ (inside ts h)) (inside-append bs (es ++ ss) h ∙ ap (differ (inside bs h)) (inside-append es ss h))

pub turned_pixels : (xs : List ℤ) (l r : ℤ) (gap : Gap) (h : ℤ) → IsGap xs l r gap → inside (across xs gap (only (not gap.begins) l) (only (not gap.ends) r)) h ≡ differ (inside xs h) (inside (l ∷ r ∷ []) h)
turned_pixels xs l r gap h g =
    let ts = take gap.place xs in
    let ss = drop (after gap) xs in
    parts ts (only (not gap.begins) l) (only (not gap.ends) r) ss h
    ∙ (λ i. differ (inside ts h) (differ (turned_one gap.begins l h i) (differ (turned_one gap.ends r h i) (inside ss h))))
    ∙ turned_parts (inside ts h) (inside (only gap.begins l) h) (inside (l ∷ []) h) (inside (only gap.ends r) h) (inside (r ∷ []) h) (inside ss h)
    ∙ (λ i. differ (sym (ap (λ ys. inside ys h) g.columns ∙ parts ts (only gap.begins l) (only gap.ends r) ss h) i) (sym (inside-append (l ∷ []) (r ∷ []) h) i))

-- the edges for the columns, and those right of both
climb_from_left : (xs : List ℤ) (l r : ℤ) (n : ℕ) (b e : Bool) → IsEdges xs → l <ℤ r → r ≤ℤ pos 16383 → (n < length xs → r <ℤ get_or xs n (pos 0)) → IsClimb (l -ℤ pos 1) (only b l ++ (only e r ++ drop n xs)) (pos 16383)
climb_from_left xs l r n true true c order high right = (omega (arith, ints), (order, climb_drop (negsuc 16384) xs (pos 16383) n r c high right))
climb_from_left xs l r n true false c order high right = (omega (arith, ints), climb_drop (negsuc 16384) xs (pos 16383) n l c (omega (arith, ints)) (λ m. let up = right m in omega (arith, ints)))
climb_from_left xs l r n false true c order high right = (omega (arith, ints), climb_drop (negsuc 16384) xs (pos 16383) n r c high right)
climb_from_left xs l r n false false c order high right = climb_drop (negsuc 16384) xs (pos 16383) n (l -ℤ pos 1) c (omega (arith, ints)) (λ m. let up = right m in omega (arith, ints))

place_first : (p : ℕ) (b e : Bool) → p ≤ after (record { place = p; begins = b; ends = e })
place_first p true true = omega arith
place_first p true false = omega arith
place_first p false true = omega arith
place_first p false false = omega arith

pub turned_edges : (xs : List ℤ) (l r : ℤ) (gap : Gap) (b e : Bool) → IsEdges xs → IsCoordinate l → IsCoordinate r → l <ℤ r → IsGap xs l r gap → IsEdges (across xs gap (only b l) (only e r))
turned_edges xs l r gap b e c (low, high_l) (low_r, high) order g =
    climb_append (negsuc 16384) (take gap.place xs) (l -ℤ pos 1) (only b l ++ (only e r ++ drop (after gap) xs)) (pos 16383)
    (climb_take (negsuc 16384) xs (pos 16383) gap.place (l -ℤ pos 1) c (omega (arith, ints)) (λ j m. let left = g.edges_left j m in omega (arith, ints)) (let first = place_first gap.place gap.begins gap.ends in let all = g.within in omega arith))
    (climb_from_left xs l r (after gap) b e c order high g.edges_right)

-- ---- the two columns of a turn

-- each column of a row is a coordinate
pub is_coordinate : (columns : List ℤ) (k : ℕ) → IsEdges columns → k < length columns → IsCoordinate (get_or columns k (pos 0))
is_coordinate columns k c l =
    let a = above_low (negsuc 16384) columns (pos 16383) k c l in
    (omega (arith, ints), below_high (negsuc 16384) columns (pos 16383) k c l)

pub two_columns : (xs : List ℤ) → length xs ≡ 2 → xs ≡ get_or xs 0 (pos 0) ∷ get_or xs 1 (pos 0) ∷ []
two_columns [] e = absurd (omega arith)
two_columns (x ∷ []) e = absurd (omega arith)
two_columns (x ∷ y ∷ []) e = refl
two_columns (x ∷ y ∷ z ∷ xs) e = absurd (omega arith)
