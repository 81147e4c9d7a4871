-- The rows of two regions of which the one lies above the other.
use Rattle.std.proofs.Common.{◌≡◌, ◌⊎◌, ℕ, suc, ◌+◌, ◌-◌, ◌<◌, Bool, true, false, ◌&&◌, List, [], ◌∷◌, ◌++◌, length, get_or, map, ℤ, pos, negsuc, ◌<ℤ◌, ◌≤ℤ◌, refl, sym, ap, ◌∙◌, subst, inl, inr, arith}
use Rattle.std.specs.List.{All}
use Rattle.std.specs.Prelude.{int_le}
use Rattle.std.proofs.lemmas.Int.{ints, by_lt_z}
use Rattle.std.proofs.lemmas.Bool.{cases_lt}
use Rattle.std.proofs.lemmas.List.{get_or-map, length-map, map-append, length-append, get_or_append_left, get_or-append_right}
use Rattle.std.proofs.lemmas.List.Elements.{All-append}
use Rattle.region_bytes.specs.Points.{IsPointRow, IsInRange, in_rows, top_of}
use Rattle.region_bytes.proofs.Edges.{int_le-false}
use Rattle.region_bytes.proofs.Rows.{differ_assoc, inverted-points_of}
use Rattle.region_bytes.proofs.Written.{closed_rows}
use Rattle.region_rows.specs.declared.operator.Operator.{Operator}
use Rattle.region_rows.specs.declared.operator.Operator.TheVariants.{Union, Intersection, Difference, SymmetricDifference}
use Rattle.region_rows.specs.Edges.{applied, applied_apart, differ, inside, IsRising}
use Rattle.region_rows.specs.Rows.{EdgeRow, AreRows, AreAbove}
use Rattle.region_rows.proofs.Hulls.{from_first}

-- rows after rows turn twice
pub in_rows-append : (a b : List EdgeRow) (h v : ℤ) → in_rows (a ++ b) h v ≡ differ (in_rows a h v) (in_rows b h v)
unfolding in_rows
in_rows-append [] b h v = refl
in_rows-append (row ∷ a) b h v = ap (differ (int_le row.0 v && inside row.1 h)) (in_rows-append a b h v) ∙ sym (differ_assoc (int_le row.0 v && inside row.1 h) (in_rows a h v) (in_rows b h v))

-- above all rows no pixel is in
pub none_above : (b : List EdgeRow) (h v : ℤ) → All (λ row. v <ℤ row.0) b → in_rows b h v ≡ false
unfolding in_rows
none_above [] h v all = refl
none_above (row ∷ b) h v all = (λ i. differ (int_le-false row.0 v (all 0 row (omega arith)) i && inside row.1 h) (in_rows b h v)) ∙ none_above b h v (λ k d m. all (suc k) d (omega arith))

-- no pixel is in both
pub one_out : (a b : List EdgeRow) → AreRows a → AreAbove a b → (h v : ℤ) → (in_rows a h v ≡ false) ⊎ (in_rows b h v ≡ false)
one_out a b r s h v =
    by_lt_z v s.line
    (λ m. inr (none_above b h v (λ k d l. let w = s.lower k d l in omega (arith, ints))))
    (λ m. inl (closed_rows a r.canonical h v (λ k d l. let u = s.upper k d l in omega (arith, ints))))

-- the places of rows rise through both
rising_through : (xs ys : List ℤ) (line : ℤ) → IsRising xs → IsRising ys → ((k : ℕ) → k < length xs → get_or xs k (pos 0) ≤ℤ line) → ((k : ℕ) → k < length ys → line <ℤ get_or ys k (pos 0)) → IsRising (xs ++ ys)
rising_through xs ys line r q below above =
    record {
      rises = λ i j m n.
          let e : length (xs ++ ys) ≡ length xs + length ys = length-append xs ys in
          elim (cases_lt j (length xs)) [
            | inl w ↦ rw (get_or_append_left xs ys (pos 0) i (omega arith), get_or_append_left xs ys (pos 0) j w) (r.rises i j m w)
            | inr w ↦ elim (cases_lt i (length xs)) [
              | inl u ↦ rw (get_or_append_left xs ys (pos 0) i u, get_or-append_right xs ys (length xs) j (pos 0) refl w) (let b = below i u in let c = above (j - length xs) (omega arith) in omega (arith, ints))
              | inr u ↦ rw (get_or-append_right xs ys (length xs) i (pos 0) refl u, get_or-append_right xs ys (length xs) j (pos 0) refl w) (q.rises (i - length xs) (j - length xs) (omega arith) (omega arith))
            ]
          ];
    }

-- the rows of both are those of a region
pub above_rows : (a b : List EdgeRow) → AreRows a → AreRows b → AreAbove a b → AreRows (a ++ b)
above_rows a b ra rb s =
    record {
      canonical = record {
        are_rows = record {
          rising = rw (map-append top_of a b) (rising_through (map top_of a) (map top_of b) s.line ra.canonical.are_rows.rising rb.canonical.are_rows.rising
              (λ k l. let m : k < length a = subst (λ n. k < n) (length-map a top_of) l in subst (λ z. z ≤ℤ s.line) (sym (get_or-map top_of a k (pos 0, []) (pos 0) m)) (s.upper k (pos 0, []) m))
              (λ k l. let m : k < length b = subst (λ n. k < n) (length-map b top_of) l in subst (λ z. s.line <ℤ z) (sym (get_or-map top_of b k (pos 0, []) (pos 0) m)) (s.lower k (pos 0, []) m)));
          each = All-append IsPointRow a b ra.canonical.are_rows.each rb.canonical.are_rows.each;
        };
        closed = λ p over.
            inverted-points_of (a ++ b) p ∙ in_rows-append a b p.h p.v
            ∙ (λ i. differ (closed_rows a ra.canonical p.h p.v (λ k d l. subst (λ (row : EdgeRow). row.0 ≤ℤ p.v) (get_or_append_left a b d k l) (over k d (let e = length-append a b in omega arith))) i)
            (closed_rows b rb.canonical p.h p.v (λ k d l. subst (λ (row : EdgeRow). row.0 ≤ℤ p.v) (after a b k d) (over (length a + k) d (let e = length-append a b in omega arith))) i));
      };
      in_range = All-append IsInRange a b ra.in_range rb.in_range;
    }
  where
    after : (a b : List EdgeRow) (k : ℕ) (d : EdgeRow) → get_or (a ++ b) (length a + k) d ≡ get_or b k d
    after a b k d = get_or-append_right a b (length a) (length a + k) d refl (omega arith) ∙ ap (λ n. get_or b n d) (left (length a) k)
      where
        left : (n k : ℕ) → (n + k) - n ≡ k
        left n k = omega arith

-- what is kept of two regions that share no pixel
pub kept_apart : (o : Operator) (x y : Bool) → (x ≡ false) ⊎ (y ≡ false) → applied_apart o x (differ x y) ≡ applied o x y
kept_apart Union true true (inl e) = sym e
kept_apart Union true true (inr e) = sym e
kept_apart Union true false s = refl
kept_apart Union false true s = refl
kept_apart Union false false s = refl
kept_apart Intersection true true (inl e) = sym e
kept_apart Intersection true true (inr e) = sym e
kept_apart Intersection true false s = refl
kept_apart Intersection false y s = refl
kept_apart Difference true true (inl e) = e
kept_apart Difference true true (inr e) = e
kept_apart Difference true false s = refl
kept_apart Difference false y s = refl
kept_apart SymmetricDifference x y s = refl

differ_comm : (a b : Bool) → differ a b ≡ differ b a
differ_comm true true = refl
differ_comm true false = refl
differ_comm false true = refl
differ_comm false false = refl

-- the same where the second one lies above
pub kept_under : (o : Operator) (x y : Bool) → (y ≡ false) ⊎ (x ≡ false) → applied_apart o x (differ y x) ≡ applied o x y
kept_under o x y s = ap (applied_apart o x) (differ_comm y x) ∙ kept_apart o x y (elim s [ inl e ↦ inr e | inr e ↦ inl e ])

-- ---- by their ends

place : (rows : List EdgeRow) (k : ℕ) (d : EdgeRow) → k < length rows → get_or (map top_of rows) k (pos 0) ≡ (get_or rows k d).0
place rows k d l = get_or-map top_of rows k d (pos 0) l

pub above_by_ends : (a b : List EdgeRow) (p q : EdgeRow) → AreRows a → AreRows b → 0 < length a → 0 < length b → p ≡ get_or a (length a - 1) p → q ≡ get_or b 0 q → p.0 <ℤ q.0 → AreAbove a b
above_by_ends a b p q ra rb some_a some_b ep eq l =
    record {
      line = p.0;
      upper = λ k d m.
          let ends = from_first (map top_of a) k (pos 0) ra.canonical.are_rows.rising (subst (λ n. k < n) (sym (length-map a top_of)) m) in
          let here = place a k d m in
          let last : get_or (map top_of a) (length (map top_of a) - 1) (pos 0) ≡ p.0 = ap (λ n. get_or (map top_of a) (n - 1) (pos 0)) (length-map a top_of) ∙ place a (length a - 1) p (omega arith) ∙ ap (λ (r : EdgeRow). r.0) (sym ep) in
          let low = ends.1 in
          omega (arith, ints);
      lower = λ k d m.
          let ends = from_first (map top_of b) k (pos 0) rb.canonical.are_rows.rising (subst (λ n. k < n) (sym (length-map b top_of)) m) in
          let here = place b k d m in
          let first : get_or (map top_of b) 0 (pos 0) ≡ q.0 = place b 0 q some_b ∙ ap (λ (r : EdgeRow). r.0) (sym eq) in
          let high = ends.0 in
          omega (arith, ints);
    }

-- and then the last one of the upper lies above the first one of the lower
pub ends_of_above : (a b : List EdgeRow) (p q : EdgeRow) → 0 < length a → 0 < length b → p ≡ get_or a (length a - 1) p → q ≡ get_or b 0 q → AreAbove a b → p.0 <ℤ q.0
ends_of_above a b p q some_a some_b ep eq r =
    let up : p.0 ≤ℤ r.line = subst (λ (row : EdgeRow). row.0 ≤ℤ r.line) (sym ep) (r.upper (length a - 1) p (omega arith)) in
    let low : r.line <ℤ q.0 = subst (λ (row : EdgeRow). r.line <ℤ row.0) (sym eq) (r.lower 0 q some_b) in
    omega (arith, ints)

-- no rows lie above all, and below
pub none_first : (a b : List EdgeRow) → AreRows b → length a ≡ 0 → AreAbove a b
none_first a b rb e = record {
  line = negsuc 16384;
  upper = λ k d m. absurd (omega arith);
  lower = λ k d m. let c = (rb.in_range k d m).0.0 in omega (arith, ints);
}

pub none_second : (a b : List EdgeRow) → AreRows a → length b ≡ 0 → AreAbove a b
none_second a b ra e = record {
  line = pos 16383;
  upper = λ k d m. let c = (ra.in_range k d m).0.1 in omega (arith, ints);
  lower = λ k d m. absurd (omega arith);
}
