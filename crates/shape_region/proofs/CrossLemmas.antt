-- The columns that the edges of a polygon turn in a row.
use Rattle.std.proofs.Common.{◌≡◌, Bool, true, false, not, ℕ, ◌+◌, ◌%◌, zero, suc, ◌<◌, ◌≤◌, List, [], ◌∷◌, ◌++◌, length, get_or, take, drop, ℤ, pos, negsuc, ◌-ℤ◌, ◌<ℤ◌, ◌≤ℤ◌, refl, sym, ap, ◌∙◌, subst, arith}
use Rattle.std.specs.Prelude.{int_le, nat_eq}
use Rattle.std.proofs.Math.Nat.{add-mod_right}
use Rattle.std.proofs.lemmas.Int.{ints, by_lt_z}
use Rattle.std.proofs.lemmas.List.{take-append-drop}
use Rattle.std.specs.List.{list_all}
use Rattle.std.proofs.lemmas.Bool.{and_parts, and_from}
use Rattle.tb_geom.specs.declared.point.Point.{Point}
use Rattle.region_bytes.proofs.Edges.{differ_swap, inside-nil, inside-push_after, inside-push_before, is_odd-more}
use Rattle.region_bytes.proofs.Rows.{differ_assoc, differ-false}
use Rattle.region_rows.specs.Edges.{differ, inside, is_odd, IsClimb, IsRow}
use Rattle.region_rows.proofs.Climbs.{climb_append, climb_drop, climb_take, differ_of, higher, inside-append, inside_above, lower, row_of}
use Rattle.shape_strips.specs.Bands.{edge_turns, passes}
use Rattle.shape_region.specs.Polygons.{odd_edges}
use Rattle.shape_region.proofs.PolygonLemmas.{or_turned}

-- ---- a column that is put in, or taken away

inside-cons : (x : ℤ) (xs : List ℤ) (h : ℤ) → inside (x ∷ xs) h ≡ differ (int_le x h) (inside xs h)
unfolding inside
inside-cons x xs h = refl

pub put_pixels : (xs : List ℤ) (p : ℕ) (x h : ℤ) → inside (take p xs ++ x ∷ drop p xs) h ≡ differ (int_le x h) (inside xs h)
put_pixels xs p x h =
    inside-append (take p xs) (x ∷ drop p xs) h
    ∙ ap (differ (inside (take p xs) h)) (inside-cons x (drop p xs) h)
    ∙ differ_swap (inside (take p xs) h) (int_le x h) (inside (drop p xs) h)
    ∙ ap (differ (int_le x h)) (sym (inside-append (take p xs) (drop p xs) h) ∙ ap (λ ys. inside ys h) (take-append-drop p xs))

pub put_climbs : (xs : List ℤ) (p : ℕ) (x low high : ℤ) → IsClimb low xs high → p ≤ length xs → low <ℤ x → x ≤ℤ high
    → ((k : ℕ) → k < p → get_or xs k (pos 0) <ℤ x) → (p < length xs → x <ℤ get_or xs p (pos 0)) → IsClimb low (take p xs ++ x ∷ drop p xs) high
put_climbs xs p x low high c w m n l r =
    climb_append low (take p xs) (x -ℤ pos 1) (x ∷ drop p xs) high
    (climb_take low xs high p (x -ℤ pos 1) c (omega (arith, ints)) (λ k o. let b = l k o in omega (arith, ints)) w)
    (omega (arith, ints), climb_drop low xs high p x c n r)

from_place : (xs : List ℤ) (k : ℕ) (x : ℤ) → k < length xs → get_or xs k (pos 0) ≡ x → drop k xs ≡ x ∷ drop (suc k) xs
from_place [] k x l e = absurd (omega arith)
from_place (y ∷ ys) zero x l e = ap (λ z. z ∷ ys) e
from_place (y ∷ ys) (suc k) x l e = from_place ys k x (omega arith) e

twice : (a b x : Bool) → differ a b ≡ differ x (differ a (differ x b))
twice true true true = refl
twice true true false = refl
twice true false true = refl
twice true false false = refl
twice false true true = refl
twice false true false = refl
twice false false true = refl
twice false false false = refl

pub taken_pixels : (xs : List ℤ) (p : ℕ) (x h : ℤ) → p < length xs → get_or xs p (pos 0) ≡ x
    → inside (take p xs ++ drop (suc p) xs) h ≡ differ (int_le x h) (inside xs h)
taken_pixels xs p x h l e =
    inside-append (take p xs) (drop (suc p) xs) h
    ∙ twice (inside (take p xs) h) (inside (drop (suc p) xs) h) (int_le x h)
    ∙ ap (λ b. differ (int_le x h) (differ (inside (take p xs) h) b)) (sym (inside-cons x (drop (suc p) xs) h) ∙ ap (λ ys. inside ys h) (sym (from_place xs p x l e)))
    ∙ ap (differ (int_le x h)) (sym (inside-append (take p xs) (drop p xs) h) ∙ ap (λ ys. inside ys h) (take-append-drop p xs))

pub taken_climbs : (xs : List ℤ) (p : ℕ) (x low high : ℤ) → IsClimb low xs high → p < length xs → low <ℤ x → x ≤ℤ high
    → ((k : ℕ) → k < p → get_or xs k (pos 0) <ℤ x) → get_or xs p (pos 0) ≡ x → IsClimb low (take p xs ++ drop (suc p) xs) high
taken_climbs xs p x low high c w m n l e =
    climb_append low (take p xs) (x -ℤ pos 1) (drop (suc p) xs) high
    (climb_take low xs high p (x -ℤ pos 1) c (omega (arith, ints)) (λ k o. let b = l k o in omega (arith, ints)) (omega arith))
    (lower x (x -ℤ pos 1) (drop (suc p) xs) high (omega (arith, ints)) after.1)
  where
    after : IsClimb (x -ℤ pos 1) (x ∷ drop (suc p) xs) high
    after = subst (λ ys. IsClimb (x -ℤ pos 1) ys high) (from_place xs p x w e) (climb_drop low xs high p (x -ℤ pos 1) c (omega (arith, ints)) (λ o. omega (arith, ints)))

-- ---- the edges of a way

-- the edges that are left turn, with the columns so far, what all turn
pub record AreCrossed (from : Point) (xs : List Point) (to : Point) (v : ℤ) (last : Point) (rest : List Point) (columns : List ℤ) : Type 0 where
  pub each : (h : ℤ) → h <ℤ pos 16383
      → differ (odd_edges last rest to (record { h = h; v = v })) (inside columns h) ≡ odd_edges from xs to (record { h = h; v = v })

pub none_crossed : (from : Point) (xs : List Point) (to : Point) (v : ℤ) → AreCrossed from xs to v from xs []
none_crossed from xs to v = record {
  each = λ h l.
      let p : Point = record { h = h; v = v } in
      ap (differ (odd_edges from xs to p)) (inside-nil h) ∙ differ-false (odd_edges from xs to p);
}

module _ (from : Point) (xs : List Point) (to : Point) (v : ℤ) (last : Point) (rest : List Point) (old new : List ℤ) (so_far : AreCrossed from xs to v last rest old) where
  pub one_crossed : (x : Point) (after : List Point) → rest ≡ x ∷ after
      → ((h : ℤ) → h <ℤ pos 16383 → inside new h ≡ differ (edge_turns last x (record { h = h; v = v })) (inside old h))
      → AreCrossed from xs to v x after new
  one_crossed x after e turn = record {
    each = λ h l.
        let p : Point = record { h = h; v = v } in
        ap (differ (odd_edges x after to p)) (turn h l)
        ∙ differ_swap (odd_edges x after to p) (edge_turns last x p) (inside old h)
        ∙ sym (differ_of (edge_turns last x p) (odd_edges x after to p) (inside old h))
        ∙ sym (ap (λ ys. differ (odd_edges last ys to p) (inside old h)) e)
        ∙ so_far.each h l;
  }

  pub all_crossed : rest ≡ []
      → ((h : ℤ) → h <ℤ pos 16383 → inside new h ≡ differ (edge_turns last to (record { h = h; v = v })) (inside old h))
      → (h : ℤ) → h <ℤ pos 16383 → inside new h ≡ odd_edges from xs to (record { h = h; v = v })
  all_crossed e turn h l =
      turn h l ∙ sym (ap (λ ys. differ (odd_edges last ys to (record { h = h; v = v })) (inside old h)) e) ∙ so_far.each h l

-- ---- a whole row

length-push : (xs : List ℤ) (x : ℤ) → length (xs ++ x ∷ []) ≡ length xs + 1
length-push [] x = refl
length-push (y ∷ ys) x = let more = length-push ys x in omega (arith, more)

-- the columns of a row that has no pixel in the last column of all, with that one where they are odd in number
module _ (xs : List ℤ) (row : ℤ → Bool) (climbs : IsClimb (negsuc 16384) xs (pos 16382)) (pixels : (h : ℤ) → h <ℤ pos 16383 → inside xs h ≡ row h)
    (past : (h : ℤ) → pos 16383 ≤ℤ h → row h ≡ false) where
  all_left : (h : ℤ) → pos 16383 ≤ℤ h → inside xs h ≡ is_odd (length xs)
  all_left h l = inside_above (negsuc 16384) xs (pos 16382) h climbs (omega (arith, ints))

  pub even_row : is_odd (length xs) ≡ false → IsRow xs
  even_row even = row_of xs (higher (negsuc 16384) xs (pos 16382) (pos 16383) (omega (arith, ints)) climbs) even

  pub even_pixels : is_odd (length xs) ≡ false → (h : ℤ) → inside xs h ≡ row h
  even_pixels even h = by_lt_z h (pos 16383) (λ l. pixels h l) (λ l. all_left h l ∙ even ∙ sym (past h l))

  pub odd_row : is_odd (length xs) ≡ true → IsRow (xs ++ pos 16383 ∷ [])
  odd_row odd = row_of (xs ++ pos 16383 ∷ [])
      (climb_append (negsuc 16384) xs (pos 16382) (pos 16383 ∷ []) (pos 16383) climbs (omega (arith, ints), omega (arith, ints)))
      (ap is_odd (length-push xs (pos 16383)) ∙ is_odd-more (length xs) ∙ ap not odd)

  pub odd_pixels : is_odd (length xs) ≡ true → (h : ℤ) → inside (xs ++ pos 16383 ∷ []) h ≡ row h
  odd_pixels odd h = by_lt_z h (pos 16383)
      (λ l. inside-push_before xs (pos 16383) h l ∙ pixels h l)
      (λ l. inside-push_after xs (pos 16383) h l ∙ ap not (all_left h l ∙ odd) ∙ sym (past h l))

-- ---- odd numbers

pub odd_rest : (n : ℕ) → nat_eq (n % 2) 1 ≡ is_odd n
unfolding is_odd
odd_rest zero = refl
odd_rest (suc zero) = refl
odd_rest (suc (suc n)) = ap (λ k. nat_eq k 1) (ap (λ k. k % 2) two ∙ add-mod_right n 2) ∙ odd_rest n ∙ sym (not_not (is_odd n))
  where
    two : suc (suc n) ≡ n + 2
    two = omega arith

    not_not : (b : Bool) → not (not b) ≡ b
    not_not true = refl
    not_not false = refl

-- ---- a polygon in two parts

by_chord : (a b c d : Bool) → d ≡ c → differ a b ≡ differ (differ a c) (differ d b)
by_chord a b c d e = sums a b c ∙ ap (λ t. differ (differ a c) (differ t b)) (sym e)
  where
    sums : (a b c : Bool) → differ a b ≡ differ (differ a c) (differ c b)
    sums true true true = refl
    sums true true false = refl
    sums true false true = refl
    sums true false false = refl
    sums false true true = refl
    sums false true false = refl
    sums false false true = refl
    sums false false false = refl

-- a way that goes to a point is the odd sum of two: one that takes a chord there from a point of its own, and one that takes
-- the chord back and goes on
pub parted_by_chord : (from : Point) (xs : List Point) (m : ℕ) (to p : Point) → m < length xs
    → odd_edges from xs to p ≡ differ (odd_edges from (take (suc m) xs) to p) (odd_edges to (drop m xs) to p)
parted_by_chord from [] m to p l = absurd (omega arith)
parted_by_chord from (x ∷ xs) zero to p l =
    by_chord (edge_turns from x p) (odd_edges x xs to p) (edge_turns x to p) (edge_turns to x p) (or_turned (passes to x p) (passes x to p))
parted_by_chord from (x ∷ xs) (suc m) to p l =
    ap (differ (edge_turns from x p)) (parted_by_chord x xs m to p (omega arith))
    ∙ sym (differ_assoc (edge_turns from x p) (odd_edges x (take (suc m) xs) to p) (odd_edges to (drop m xs) to p))

pub all_taken : (test : Point → Bool) (xs : List Point) (n : ℕ) → list_all test xs ≡ true → list_all test (take n xs) ≡ true
all_taken test xs zero e = refl
all_taken test [] (suc n) e = refl
all_taken test (x ∷ xs) (suc n) e = let both = and_parts (test x) (list_all test xs) e in and_from _ _ both.0 (all_taken test xs n both.1)

pub all_dropped : (test : Point → Bool) (xs : List Point) (n : ℕ) → list_all test xs ≡ true → list_all test (drop n xs) ≡ true
all_dropped test xs zero e = e
all_dropped test [] (suc n) e = refl
all_dropped test (x ∷ xs) (suc n) e = all_dropped test xs n (and_parts (test x) (list_all test xs) e).1
