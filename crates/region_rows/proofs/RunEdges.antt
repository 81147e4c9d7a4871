-- The edges of a run of pixels that are kept beside a row.
use Rattle.std.proofs.Common.{◌≡◌, ℕ, ◌+◌, ◌-◌, ◌<◌, ◌≤◌, Bool, true, false, not, ◌&&◌, List, [], ◌∷◌, ◌++◌, length, get_or, take, drop, ℤ, pos, negsuc, ◌-ℤ◌, ◌<ℤ◌, ◌≤ℤ◌, refl, sym, ap, ◌∙◌, subst, inl, inr, arith}
use Rattle.std.specs.Prelude.{int_le}
use Rattle.std.proofs.lemmas.Int.{ints, by_lt_z}
use Rattle.std.proofs.lemmas.Bool.{cases_lt}
use Rattle.std.proofs.lemmas.List.{append_assoc, get_or-drop, length-take-le, length-drop, take-append-drop, take_all}
use Rattle.tb_geom.specs.Rects.{between}
use Rattle.region_rows.specs.Edges.{alike, differ, inside, is_odd, only, IsClimb, IsEdges, IsRow, IsCoordinate}
use Rattle.region_rows.specs.Cursor.{IsCountTo, IsCount}
use Rattle.region_rows.proofs.Climbs.{higher, low_high, climb_append, climb_take, climb_drop, edges_of, row_of, inside_below, inside_above, inside-append}
use Rattle.region_bytes.proofs.Edges.{inside-nil, int_le-true, int_le-false}

-- the edges from the place n up to the place m
abbrev pub part : List ℤ → ℕ → ℕ → List ℤ
part xs n m = take (m - n) (drop n xs)

-- ---- one edge or none

inside-only : (b : Bool) (x h : ℤ) → inside (only b x) h ≡ (b && int_le x h)
unfolding inside
inside-only true x h = differ-none (int_le x h)
  where
    differ-none : (b : Bool) → differ b false ≡ b
    differ-none true = refl
    differ-none false = refl
inside-only false x h = refl

climb-only : (b : Bool) (low x : ℤ) → low <ℤ x → IsClimb low (only b x) x
climb-only true low x l = (l, omega (arith, ints))
climb-only false low x l = omega (arith, ints)

-- ---- Bool

kept_within : (k o p e : Bool) → differ (alike k o && true) (differ (differ o e) (alike k p && false)) ≡ (true && alike k e)
kept_within true true true true = refl
kept_within true true true false = refl
kept_within true true false true = refl
kept_within true true false false = refl
kept_within true false true true = refl
kept_within true false true false = refl
kept_within true false false true = refl
kept_within true false false false = refl
kept_within false true true true = refl
kept_within false true true false = refl
kept_within false true false true = refl
kept_within false true false false = refl
kept_within false false true true = refl
kept_within false false true false = refl
kept_within false false false true = refl
kept_within false false false false = refl

none_right : (k o p e : Bool) → differ (alike k o && true) (differ (differ o p) (alike k p && true)) ≡ (false && alike k e)
none_right true true true true = refl
none_right true true true false = refl
none_right true true false true = refl
none_right true true false false = refl
none_right true false true true = refl
none_right true false true false = refl
none_right true false false true = refl
none_right true false false false = refl
none_right false true true true = refl
none_right false true true false = refl
none_right false true false true = refl
none_right false true false false = refl
none_right false false true true = refl
none_right false false true false = refl
none_right false false false true = refl
none_right false false false false = refl

none_left : (a c : Bool) → differ (a && false) (differ false (c && false)) ≡ false
none_left true true = refl
none_left true false = refl
none_left false true = refl
none_left false false = refl

-- what turns twice is not turned
pub twice : (t m : Bool) → differ t (differ t m) ≡ m
twice true true = refl
twice true false = refl
twice false true = refl
twice false false = refl

differ-none : (b : Bool) → differ b false ≡ b
differ-none true = refl
differ-none false = refl

-- ---- the edges up to a column

-- so many edges up to a column say whether it is in
pub count_inside : (xs : List ℤ) (n : ℕ) (x : ℤ) → IsEdges xs → IsCount xs n x → negsuc 16384 ≤ℤ x → x ≤ℤ pos 16383 → inside xs x ≡ is_odd n
count_inside xs n x c s l m =
    sym (ap (λ ys. inside ys x) (take-append-drop n xs)) ∙ inside-append (take n xs) (drop n xs) x
    ∙ (λ i. differ
    ((inside_above (negsuc 16384) (take n xs) x x (climb_take (negsuc 16384) xs (pos 16383) n x c l s.counted.before s.counted.within) (omega (arith, ints)) ∙ ap is_odd (length-take-le n xs s.counted.within)) i)
    (inside_below x (drop n xs) (pos 16383) x (climb_drop (negsuc 16384) xs (pos 16383) n x c m s.ahead) (omega (arith, ints)) i))
    ∙ differ-none (is_odd n)

-- one more
pub count_more : (xs : List ℤ) (n : ℕ) (x : ℤ) → IsCountTo xs n x → n < length xs → get_or xs n (pos 0) ≤ℤ x → IsCountTo xs (n + 1) x
count_more xs n x s l here = record {
  within = omega arith;
  before = λ k m. elim (cases_lt k n) [ inl w ↦ s.before k w | inr w ↦ subst (λ q. get_or xs q (pos 0) ≤ℤ x) (same n k m w) here ];
}
  where
    same : (n k : ℕ) → k < n + 1 → n ≤ k → n ≡ k
    same n k m w = omega arith

-- before any edge is counted
pub count_none : (xs : List ℤ) (x : ℤ) → IsCountTo xs 0 x
count_none xs x = record { within = omega arith; before = λ k m. absurd (omega arith) }

pub zero_even : is_odd 0 ≡ false
unfolding is_odd
zero_even = refl

-- ---- a run

module _ (xs : List ℤ) (n m : ℕ) (o p k : Bool) (left right : ℤ) (c : IsEdges xs) (cn : IsCount xs n left) (cm : IsCount xs m (right -ℤ pos 1)) (nm : n ≤ m) (on : is_odd n ≡ o) (om : is_odd m ≡ p) (order : left <ℤ right) (left_in : IsCoordinate left) (right_in : IsCoordinate right) where
  abbrev run : List ℤ
  run = only (alike k o) left ++ (part xs n m ++ only (alike k p) right)

  low : negsuc 16384 ≤ℤ left
  low = let a = left_in.0 in omega (arith, ints)

  rest_climb : IsClimb left (drop n xs) (pos 16383)
  rest_climb = climb_drop (negsuc 16384) xs (pos 16383) n left c left_in.1 cn.ahead

  before_climb : IsClimb (negsuc 16384) (take n xs) left
  before_climb = climb_take (negsuc 16384) xs (pos 16383) n left c low cn.counted.before cn.counted.within

  m_in : m ≤ length xs
  m_in = cm.counted.within

  mid_climb : IsClimb left (part xs n m) (right -ℤ pos 1)
  mid_climb =
      let long : length (drop n xs) ≡ length xs - n = length-drop n xs in
      let within = m_in in
      climb_take left (drop n xs) (pos 16383) (m - n) (right -ℤ pos 1) rest_climb (omega (arith, ints, order))
      (λ j l. subst (λ z. z ≤ℤ (right -ℤ pos 1)) (sym (get_or-drop n xs j (pos 0))) (cm.counted.before (n + j) (omega arith)))
      (omega arith)

  after_climb : IsClimb (right -ℤ pos 1) (drop (m - n) (drop n xs)) (pos 16383)
  after_climb =
      let long : length (drop n xs) ≡ length xs - n = length-drop n xs in
      let high = right_in.1 in
      let same : n + (m - n) ≡ m = omega arith in
      climb_drop left (drop n xs) (pos 16383) (m - n) (right -ℤ pos 1) rest_climb (omega (arith, ints))
      (λ l. subst (λ z. (right -ℤ pos 1) <ℤ z) (sym (get_or-drop n xs (m - n) (pos 0) ∙ ap (λ q. get_or xs q (pos 0)) same)) (cm.ahead (omega arith)))

  -- climbs from below its first column up to its end
  pub run_climb : (t : ℤ) → t <ℤ left → IsClimb t run right
  run_climb t l =
      climb_append t (only (alike k o) left) left (part xs n m ++ only (alike k p) right) right (climb-only (alike k o) t left l)
      (climb_append left (part xs n m) (right -ℤ pos 1) (only (alike k p) right) right mid_climb (climb-only (alike k p) (right -ℤ pos 1) right (omega (arith, ints))))

  inside-run : (h : ℤ) → inside run h ≡ differ (alike k o && int_le left h) (differ (inside (part xs n m) h) (alike k p && int_le right h))
  inside-run h =
      inside-append (only (alike k o) left) (part xs n m ++ only (alike k p) right) h
      ∙ (λ i. differ (inside-only (alike k o) left h i) ((inside-append (part xs n m) (only (alike k p) right) h ∙ ap (differ (inside (part xs n m) h)) (inside-only (alike k p) right h)) i))

  whole : (h : ℤ) → inside xs h ≡ differ (inside (take n xs) h) (differ (inside (part xs n m) h) (inside (drop (m - n) (drop n xs)) h))
  whole h =
      sym (ap (λ ys. inside ys h) (take-append-drop n xs)) ∙ inside-append (take n xs) (drop n xs) h
      ∙ ap (differ (inside (take n xs) h)) (sym (ap (λ ys. inside ys h) (take-append-drop (m - n) (drop n xs))) ∙ inside-append (part xs n m) (drop (m - n) (drop n xs)) h)

  taken : (h : ℤ) → left ≤ℤ h → inside (take n xs) h ≡ o
  taken h l = inside_above (negsuc 16384) (take n xs) left h before_climb l ∙ ap is_odd (length-take-le n xs cn.counted.within) ∙ on

  mid_within : (h : ℤ) → left ≤ℤ h → h <ℤ right → inside (part xs n m) h ≡ differ o (inside xs h)
  mid_within h l r =
      let none = inside_below (right -ℤ pos 1) (drop (m - n) (drop n xs)) (pos 16383) h after_climb (omega (arith, ints)) in
      sym (twice o (inside (part xs n m) h))
      ∙ ap (differ o) (sym (whole h ∙ (λ i. differ (taken h l i) (differ (inside (part xs n m) h) (none i))) ∙ ap (differ o) (differ-none (inside (part xs n m) h))))

  mid_after : (h : ℤ) → right ≤ℤ h → inside (part xs n m) h ≡ differ o p
  mid_after h l =
      let last : ℤ = right -ℤ pos 1 in
      let r = right_in.1 in
      let q = left_in.0 in
      inside_above left (part xs n m) last h mid_climb (omega (arith, ints)) ∙ sym (inside_above left (part xs n m) last last mid_climb (omega (arith, ints)))
      ∙ mid_within (right -ℤ pos 1) (omega (arith, ints)) (omega (arith, ints))
      ∙ ap (differ o) (count_inside xs m (right -ℤ pos 1) c cm (omega (arith, ints)) (omega (arith, ints)) ∙ om)

  -- and has the kept pixels
  pub run_pixels : (h : ℤ) → inside run h ≡ (between left h right && alike k (inside xs h))
  run_pixels h = inside-run h ∙ by_lt_z h left
      (λ l. (λ i. differ (alike k o && int_le-false left h l i) (differ (inside_below left (part xs n m) (right -ℤ pos 1) h mid_climb (omega (arith, ints)) i) (alike k p && int_le-false right h (omega (arith, ints)) i)))
      ∙ none_left (alike k o) (alike k p) ∙ sym (λ i. out_left left h right l i && alike k (inside xs h)))
      (λ l. by_lt_z h right
      (λ r. (λ i. differ (alike k o && int_le-true left h l i) (differ (mid_within h l r i) (alike k p && int_le-false right h r i)))
      ∙ kept_within k o p (inside xs h) ∙ sym (λ i. within left h right l r i && alike k (inside xs h)))
      (λ r. (λ i. differ (alike k o && int_le-true left h l i) (differ (mid_after h r i) (alike k p && int_le-true right h r i)))
      ∙ none_right k o p (inside xs h) ∙ sym (λ i. out_right left h right r i && alike k (inside xs h))))
    where
      out_left : (a h b : ℤ) → h <ℤ a → between a h b ≡ false
      out_left a h b l = grind (arith, ints)

      out_right : (a h b : ℤ) → b ≤ℤ h → between a h b ≡ false
      out_right a h b l = grind (arith, ints)

      within : (a h b : ℤ) → a ≤ℤ h → h <ℤ b → between a h b ≡ true
      within a h b l r = grind (arith, ints)

-- a run that is added to edges left of it
pub record IsAdded (out new : List ℤ) (k : Bool) (xs : List ℤ) (left right : ℤ) : Type 0 where
  pub climb : (low high : ℤ) → IsClimb low out high → high <ℤ left → IsClimb low new right
  pub pixels : (h : ℤ) → inside new h ≡ differ (inside out h) (between left h right && alike k (inside xs h))

pub run_added : (out new xs : List ℤ) (n m : ℕ) (o p k b d : Bool) (left right : ℤ) → IsEdges xs → IsCount xs n left → IsCount xs m (right -ℤ pos 1) → n ≤ m → is_odd n ≡ o → is_odd m ≡ p → left <ℤ right → IsCoordinate left → IsCoordinate right
    → b ≡ alike k o → d ≡ alike k p → new ≡ ((out ++ only b left) ++ part xs n m) ++ only d right → IsAdded out new k xs left right
run_added out new xs n m o p k b d left right c cn cm nm on om order left_in right_in eb ed e =
    let whole : List ℤ = only (alike k o) left ++ (part xs n m ++ only (alike k p) right) in
    let same : new ≡ out ++ (only (alike k o) left ++ (part xs n m ++ only (alike k p) right)) =
    e ∙ (λ i. ((out ++ only (eb i) left) ++ part xs n m) ++ only (ed i) right)
    ∙ append_assoc (out ++ only (alike k o) left) (part xs n m) (only (alike k p) right) ∙ append_assoc out (only (alike k o) left) (part xs n m ++ only (alike k p) right) in
    record {
      climb = λ low high f l. subst (λ r. IsClimb low r right) (sym same) (climb_append low out high whole right f (run_climb xs n m o p k left right c cn cm nm on om order left_in right_in high l));
      pixels = λ h. ap (λ r. inside r h) same ∙ inside-append out whole h ∙ ap (differ (inside out h)) (run_pixels xs n m o p k left right c cn cm nm on om order left_in right_in h);
    }

-- ---- run after run

-- what is kept of a row up to some column, and the edges of the row after it
pub record RunsTo (row rest out : List ℤ) (k : Bool) (other : List ℤ) : Type 0 where
  pub upto : ℤ
  pub climbs : IsClimb (negsuc 16384) out upto
  pub ahead : IsClimb upto rest (pos 16383)
  pub even : is_odd (length rest) ≡ false
  pub pixels : (h : ℤ) → differ (inside out h) (inside rest h && alike k (inside other h)) ≡ (inside row h && alike k (inside other h))

none_kept : (b : Bool) → differ false b ≡ b
none_kept b = refl

pub RunsTo-none : (row : List ℤ) (k : Bool) (other : List ℤ) → IsRow row → RunsTo row row [] k other
RunsTo-none row k other r = record {
  upto = negsuc 16384;
  climbs = omega (arith, ints);
  ahead = edges_of row r;
  even = r.even;
  pixels = λ h. ap (λ b. differ b (inside row h && alike k (inside other h))) (inside-nil h);
}

regroup : (o b f a : Bool) → differ (differ o (b && f)) (a && f) ≡ differ o (differ b a && f)
regroup true true true true = refl
regroup true true true false = refl
regroup true true false true = refl
regroup true true false false = refl
regroup true false true true = refl
regroup true false true false = refl
regroup true false false true = refl
regroup true false false false = refl
regroup false true true true = refl
regroup false true true false = refl
regroup false true false true = refl
regroup false true false false = refl
regroup false false true true = refl
regroup false false true false = refl
regroup false false false true = refl
regroup false false false false = refl

two_first : (x y h : ℤ) (rest : List ℤ) → x <ℤ y → inside (x ∷ y ∷ rest) h ≡ differ (between x h y) (inside rest h)
unfolding inside
two_first x y h rest l = by (int_le y h) refl
  where
    both : (x y h : ℤ) → x <ℤ y → int_le y h ≡ true → (int_le x h ≡ true) × (between x h y ≡ false)
    both x y h l e = (grind (arith, ints), grind (arith, ints))

    one : (x y h : ℤ) → x <ℤ y → int_le y h ≡ false → int_le x h ≡ between x h y
    one x y h l e = grind (arith, ints)

    not_not : (b : Bool) → not (not b) ≡ b
    not_not true = refl
    not_not false = refl

    by : (t : Bool) → int_le y h ≡ t → differ (int_le x h) (differ (int_le y h) (inside rest h)) ≡ differ (between x h y) (inside rest h)
    by true e = (λ i. differ ((both x y h l e).0 i) (differ (e i) (inside rest h))) ∙ not_not (inside rest h) ∙ sym (λ i. differ ((both x y h l e).1 i) (inside rest h))
    by false e = (λ i. differ (one x y h l e i) (differ (e i) (inside rest h)))

even_rest : (x y : ℤ) (rest : List ℤ) → is_odd (length (x ∷ y ∷ rest)) ≡ false → is_odd (length rest) ≡ false
unfolding is_odd
even_rest x y rest e = sym (not_twice (is_odd (length rest))) ∙ e
  where
    not_twice : (b : Bool) → not (not b) ≡ b
    not_twice true = refl
    not_twice false = refl

-- one more run
pub RunsTo-more : (row rest out new : List ℤ) (k : Bool) (other : List ℤ) (x y : ℤ) (after : List ℤ) → rest ≡ x ∷ y ∷ after → RunsTo row rest out k other
    → ((low high : ℤ) → IsClimb low out high → high <ℤ x → IsClimb low new y) → ((h : ℤ) → inside new h ≡ differ (inside out h) (between x h y && alike k (inside other h)))
    → RunsTo row after new k other
RunsTo-more row rest out new k other x y after e s climb pixels =
    let ahead : IsClimb s.upto (x ∷ y ∷ after) (pos 16383) = subst (λ r. IsClimb s.upto r (pos 16383)) e s.ahead in
    let order = ahead.1.0 in
    record {
      upto = y;
      climbs = climb (negsuc 16384) s.upto s.climbs ahead.0;
      ahead = ahead.1.1;
      even = even_rest x y after (ap (λ r. is_odd (length r)) (sym e) ∙ s.even);
      pixels = λ h.
          (λ i. differ (pixels h i) (inside after h && alike k (inside other h)))
          ∙ regroup (inside out h) (between x h y) (alike k (inside other h)) (inside after h)
          ∙ (λ i. differ (inside out h) ((sym (ap (λ r. inside r h) e ∙ two_first x y h after order)) i && alike k (inside other h)))
          ∙ s.pixels h;
    }

-- the next run is in range
pub run_in : (row rest out : List ℤ) (k : Bool) (other : List ℤ) (x y : ℤ) (after : List ℤ) → rest ≡ x ∷ y ∷ after → RunsTo row rest out k other → IsCoordinate x × IsCoordinate y × (x <ℤ y)
run_in row rest out k other x y after e s =
    let ahead : IsClimb s.upto (x ∷ y ∷ after) (pos 16383) = subst (λ r. IsClimb s.upto r (pos 16383)) e s.ahead in
    let low = low_high (negsuc 16384) out s.upto s.climbs in
    let a = ahead.0 in
    let b = ahead.1.0 in
    let high = low_high y after (pos 16383) ahead.1.1 in
    ((omega (arith, ints), omega (arith, ints)), (omega (arith, ints), omega (arith, ints)), b)

short_none : (xs : List ℤ) → length xs < 2 → is_odd (length xs) ≡ false → xs ≡ []
unfolding is_odd
short_none [] l e = refl
short_none (x ∷ []) l e = cc
short_none (x ∷ y ∷ xs) l e = absurd (omega arith)

and-none : (f : Bool) (o : Bool) → differ o (false && f) ≡ o
and-none f true = refl
and-none f false = refl

-- after the last run all of the row is gone through
pub runs_pixels : (row rest out : List ℤ) (k : Bool) (other : List ℤ) → RunsTo row rest out k other → length rest < 2 → (h : ℤ) → inside out h ≡ (inside row h && alike k (inside other h))
runs_pixels row rest out k other s l h =
    let nil = short_none rest l s.even in
    sym (and-none (alike k (inside other h)) (inside out h)) ∙ (λ i. differ (inside out h) (sym (ap (λ r. inside r h) nil ∙ inside-nil h) i && alike k (inside other h))) ∙ s.pixels h

pub runs_row : (row rest out : List ℤ) (k : Bool) (other : List ℤ) → IsRow row → RunsTo row rest out k other → length rest < 2 → IsRow out
runs_row row rest out k other r s l =
    let within = low_high s.upto rest (pos 16383) s.ahead in
    let edges : IsEdges out = higher (negsuc 16384) out s.upto (pos 16383) within s.climbs in
    row_of out edges
    (sym (inside_above (negsuc 16384) out (pos 16383) (pos 16383) edges (omega (arith, ints))) ∙ runs_pixels row rest out k other s l (pos 16383)
    ∙ (λ i. (inside_above (negsuc 16384) row (pos 16383) (pos 16383) (edges_of row r) (omega (arith, ints)) ∙ r.even) i && alike k (inside other (pos 16383))))

-- a row that goes on has two edges, and others
pub two_parts : (xs : List ℤ) → 2 ≤ length xs → xs ≡ get_or xs 0 (pos 0) ∷ get_or xs 1 (pos 0) ∷ take (length xs - 2) (drop 2 xs)
two_parts [] l = absurd (omega arith)
two_parts (x ∷ []) l = absurd (omega arith)
two_parts (x ∷ y ∷ xs) l = ap (λ r. x ∷ y ∷ r) (sym (take_all (length (x ∷ y ∷ xs) - 2) xs (omega arith)))
