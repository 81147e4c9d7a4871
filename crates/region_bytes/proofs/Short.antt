-- The rows of a rectangle and of no pixel, whose box says all.
use Rattle.std.proofs.Common.{◌≡◌, ℕ, zero, suc, ◌<◌, Bool, true, false, ◌&&◌, cond, List, [], ◌∷◌, ◌++◌, get_or, ℤ, pos, negsuc, ◌<ℤ◌, ◌≤ℤ◌, refl, sym, ap, ◌∙◌, arith, All}
use Rattle.std.specs.Prelude.{Option, Some, None, int_le}
use Rattle.std.specs.Int.{int_min, int_max}
use Rattle.std.proofs.lemmas.Int.{ints, clamps}
use Rattle.std.proofs.lemmas.Bool.{true≢false, false≢true}
use Rattle.std.proofs.lemmas.List.Elements.{All-head, All-tail, All-nil, All-cons}
use Rattle.tb_geom.specs.declared.point.Point.{Point}
use Rattle.tb_geom.specs.declared.rect.Rect.{Rect}
use Rattle.tb_geom.specs.Rects.{rect_holds, between, empty_rect}
use Rattle.region_bytes.specs.Edges.{differ, inside, is_odd, IsRising}
use Rattle.region_bytes.specs.Points.{PointRow, inverted, points_of, in_rows, IsPointRow, IsCanonical}
use Rattle.region_bytes.specs.Words.{box_of, box_words, words_of}
use Rattle.region_bytes.specs.Bytes.{IsWord, IsOfWords}
use Rattle.region_bytes.specs.Text.{IsText}
use Rattle.region_bytes.proofs.Edges.{int_le-true, same_edges}
use Rattle.region_bytes.proofs.Rows.{inverted-points_of}
use Rattle.region_bytes.proofs.Ranges.{square, IsRectIn}

unfoldable pub rect_rows : Rect → List PointRow
rect_rows r = (r.top, r.left ∷ r.right ∷ []) ∷ (r.bottom, r.left ∷ r.right ∷ []) ∷ []

-- ---- they are canonical

rising_two : (x y : ℤ) → x <ℤ y → IsRising (x ∷ y ∷ [])
rising_two x y l = record { rises = up }
  where
    up : (i j : ℕ) → i < j → j < 2 → get_or (x ∷ y ∷ []) i (pos 0) <ℤ get_or (x ∷ y ∷ []) j (pos 0)
    up zero zero m n = absurd (omega arith)
    up zero (suc zero) m n = l
    up zero (suc (suc j)) m n = absurd (omega arith)
    up (suc i) zero m n = absurd (omega arith)
    up (suc i) (suc j) m n = absurd (omega arith)

two_even : is_odd 2 ≡ false
unfolding is_odd
two_even = refl

two_points : (v x y : ℤ) → x <ℤ y → IsPointRow (v, x ∷ y ∷ [])
two_points v x y l = record { rising = rising_two x y l; even = two_even; some = omega arith }

twice : (b : Bool) → differ b (differ b false) ≡ false
twice true = refl
twice false = refl

rect_in_rows : (r : Rect) (h v : ℤ) → in_rows (rect_rows r) h v ≡ differ (int_le r.top v && inside (r.left ∷ r.right ∷ []) h) (differ (int_le r.bottom v && inside (r.left ∷ r.right ∷ []) h) false)
unfolding in_rows rect_rows
rect_in_rows r h v = refl

pub rect_canonical : (r : Rect) → r.left <ℤ r.right → r.top <ℤ r.bottom → IsCanonical (rect_rows r)
unfolding rect_rows
rect_canonical r l t = record {
  are_rows = record {
    rising = rising_two r.top r.bottom t;
    each = All-cons IsPointRow (r.top, r.left ∷ r.right ∷ []) ((r.bottom, r.left ∷ r.right ∷ []) ∷ []) (two_points r.top r.left r.right l)
        (All-cons IsPointRow (r.bottom, r.left ∷ r.right ∷ []) [] (two_points r.bottom r.left r.right l) (All-nil IsPointRow));
  };
  closed = λ p all.
      let first : r.top ≤ℤ p.v = All-head (λ (row : PointRow). row.0 ≤ℤ p.v) (r.top, r.left ∷ r.right ∷ []) ((r.bottom, r.left ∷ r.right ∷ []) ∷ []) all in
      let second : r.bottom ≤ℤ p.v = All-head (λ (row : PointRow). row.0 ≤ℤ p.v) (r.bottom, r.left ∷ r.right ∷ []) [] (All-tail (λ (row : PointRow). row.0 ≤ℤ p.v) (r.top, r.left ∷ r.right ∷ []) ((r.bottom, r.left ∷ r.right ∷ []) ∷ []) all) in
      inverted-points_of (rect_rows r) p ∙ rect_in_rows r p.h p.v
      ∙ (λ i. differ (int_le-true r.top p.v first i && inside (r.left ∷ r.right ∷ []) p.h) (differ (int_le-true r.bottom p.v second i && inside (r.left ∷ r.right ∷ []) p.h) false))
      ∙ twice (inside (r.left ∷ r.right ∷ []) p.h);
}

-- their box is the rectangle
least_left : (x y : ℤ) → x <ℤ y → int_min (int_min (int_min x y) x) y ≡ x
least_left x y l = omega (arith, ints, clamps)

least_top : (x y : ℤ) → x <ℤ y → int_min (int_min (int_min x x) y) y ≡ x
least_top x y l = omega (arith, ints, clamps)

most_right : (x y : ℤ) → x <ℤ y → int_max (int_max (int_max x y) x) y ≡ y
most_right x y l = omega (arith, ints, clamps)

most_bottom : (x y : ℤ) → x <ℤ y → int_max (int_max (int_max x x) y) y ≡ y
most_bottom x y l = omega (arith, ints, clamps)

pub rect_box : (r : Rect) → r.left <ℤ r.right → r.top <ℤ r.bottom → box_of (rect_rows r) ≡ Some r
unfolding box_of points_of rect_rows
rect_box r l t = λ i. Some (record { left = least_left r.left r.right l i; top = least_top r.top r.bottom t i; right = most_right r.left r.right l i; bottom = most_bottom r.top r.bottom t i })

-- and their pixels are those of the rectangle
rect_pixel : (h x y : ℤ) → x <ℤ y → inside (x ∷ y ∷ []) h ≡ between x h y
unfolding inside
rect_pixel h x y l = grind (arith, ints)

turned_twice : (s t u : Bool) → (t ≡ true → s ≡ true) → differ (s && u) (differ (t && u) false) ≡ (u && cond t false s)
turned_twice true true true f = refl
turned_twice true true false f = refl
turned_twice true false true f = refl
turned_twice true false false f = refl
turned_twice false true u f = absurd (false≢true (f refl))
turned_twice false false true f = refl
turned_twice false false false f = refl

rows_between : (x h y : ℤ) → cond (int_le y h) false (int_le x h) ≡ between x h y
rows_between x h y = grind (arith, ints)

above_too : (x y h : ℤ) → x <ℤ y → int_le y h ≡ true → int_le x h ≡ true
above_too x y h l e = grind (arith, ints)

pub rect_pixels : (r : Rect) → r.left <ℤ r.right → r.top <ℤ r.bottom → (p : Point) → inverted (points_of (rect_rows r)) p ≡ rect_holds r p
rect_pixels r l t p =
    inverted-points_of (rect_rows r) p ∙ rect_in_rows r p.h p.v
    ∙ turned_twice (int_le r.top p.v) (int_le r.bottom p.v) (inside (r.left ∷ r.right ∷ []) p.h) (above_too r.top r.bottom p.v t)
    ∙ (λ i. rect_pixel p.h r.left r.right l i && rows_between r.top p.v r.bottom i)

-- ---- what is short

append_nil : (xs : List ℤ) → xs ++ [] ≡ xs
append_nil [] = refl
append_nil (x ∷ xs) = ap (λ l. x ∷ l) (append_nil xs)

pub rect_text : (r : Rect) → IsRectIn (square (negsuc 32767) (pos 32767)) r → r.left <ℤ r.right → r.top <ℤ r.bottom → IsText r [] (rect_rows r)
unfolding rect_rows words_of
rect_text r w l t = record {
  canonical = rect_canonical r l t;
  words = All-cons IsOfWords (r.top, r.left ∷ r.right ∷ []) ((r.bottom, r.left ∷ r.right ∷ []) ∷ []) (w.top_in, columns)
      (All-cons IsOfWords (r.bottom, r.left ∷ r.right ∷ []) [] (w.bottom_in, columns) (All-nil IsOfWords));
  told = λ e. absurd (true≢false e);
  written = append_nil (box_words (box_of (rect_rows r))) ∙ ap box_words (rect_box r l t);
}
  where
    columns : All IsWord (r.left ∷ r.right ∷ [])
    columns = All-cons IsWord r.left (r.right ∷ []) w.left_in (All-cons IsWord r.right [] w.right_in (All-nil IsWord))

pub none_canonical : IsCanonical []
unfolding inverted points_of
none_canonical = record {
  are_rows = record { rising = record { rises = λ i j m n. absurd (omega arith) }; each = All-nil IsPointRow };
  closed = λ p all. refl;
}

pub none_text : IsText empty_rect [] []
unfolding words_of box_of points_of
none_text = record {
  canonical = none_canonical;
  words = All-nil IsOfWords;
  told = λ e. absurd (true≢false e);
  written = refl;
}

-- ---- nothing else is

-- words that are parted into a box and the rest
pub parted : (b : Option Rect) (top left bottom right : ℤ) (xs ys : List ℤ) → box_words b ++ xs ≡ top ∷ left ∷ bottom ∷ right ∷ ys → (box_words b ≡ top ∷ left ∷ bottom ∷ right ∷ []) × (xs ≡ ys)
parted None top left bottom right xs ys e = (cc, cc)
parted (Some r) top left bottom right xs ys e = (cc, cc)

from_differ : (a b : Bool) → differ a (differ b false) ≡ false → a ≡ b
from_differ true true e = refl
from_differ true false e = e
from_differ false true e = sym e
from_differ false false e = refl

-- below two rows no pixel is in: they have the same columns
pub same_columns : (v w : ℤ) (xs ys : List ℤ) → IsCanonical ((v, xs) ∷ (w, ys) ∷ []) → xs ≡ ys
unfolding in_rows
same_columns v w xs ys c =
    let first = All-head IsPointRow (v, xs) ((w, ys) ∷ []) c.are_rows.each in
    let second = All-head IsPointRow (w, ys) [] (All-tail IsPointRow (v, xs) ((w, ys) ∷ []) c.are_rows.each) in
    let up : v <ℤ w = c.are_rows.rising.rises 0 1 (omega arith) (omega arith) in
    let all : All (λ (row : PointRow). row.0 ≤ℤ w) ((v, xs) ∷ (w, ys) ∷ []) =
    All-cons (λ (row : PointRow). row.0 ≤ℤ w) (v, xs) ((w, ys) ∷ []) (omega (arith, ints)) (All-cons (λ (row : PointRow). row.0 ≤ℤ w) (w, ys) [] (omega (arith, ints)) (All-nil (λ (row : PointRow). row.0 ≤ℤ w))) in
    same_edges xs ys first.rising second.rising (λ h.
    from_differ (inside xs h) (inside ys h)
    (sym (λ i. differ (int_le-true v w (omega (arith, ints)) i && inside xs h) (differ (int_le-true w w (omega (arith, ints)) i && inside ys h) false))
    ∙ sym (inverted-points_of ((v, xs) ∷ (w, ys) ∷ []) (record { h = h; v = w })) ∙ c.closed (record { h = h; v = w }) all))
