-- The diagonals of a square, row by row.
use Rattle.std.proofs.Common.{◌≡◌, ℕ, ◌+◌, ℤ, pos, ◌+ℤ◌, ◌-ℤ◌, ◌≤ℤ◌, Bool, true, false, cond, ◌&&◌, ◌||◌, refl, sym, ap, ◌∙◌, arith}
use Rattle.std.specs.Ordering.{int_eq}
use Rattle.std.proofs.lemmas.Int.{ints}
use Rattle.std.proofs.lemmas.Bool.{true≢false, and_parts}
use Rattle.std.proofs.lemmas.Bool.Decides.{Decides-int_eq}
use Rattle.tb_geom.specs.declared.point.Point.{Point}
use Rattle.tb_geom.specs.declared.rect.Rect.{Rect}
use Rattle.tb_geom.specs.Points.{PixelSet, minus}
use Rattle.tb_geom.specs.Rects.{between, rect_holds}
use Rattle.tb_geom.proofs.RectLemmas.{IsInside, sides_of, holds_in}
use Rattle.bit_map.specs.Bits.{Bits}
use Rattle.bit_blit.specs.Draws.{Draws}
use Rattle.bit_blit.proofs.DrawsLemmas.{Draws-over, Draws-same}
use Rattle.scan_region.specs.Cuts.{cut_holds}
use Rattle.draw_port.specs.declared.canvas.Canvas.{Canvas}
use Rattle.draw_port.specs.Canvases.{canvas_holds, canvas_point, SameFrame}
use Rattle.draw_port.specs.Ops.{shade_value}
use Rattle.looks.specs.Marks.{all_black, on_diagonals, cross_holds}
use Rattle.looks.specs.Diagonals.{is_row, is_before, falls, rises}

-- two tests that hold in each other's case
same_tests : (a b : Bool) → (a ≡ true → b ≡ true) → (b ≡ true → a ≡ true) → a ≡ b
same_tests true b f g = sym (f refl)
same_tests false true f g = g refl
same_tests false false f g = refl

all_three : (a b c : Bool) → a ≡ true → b ≡ true → c ≡ true → (a && (b && c)) ≡ true
all_three a b c x y z = λ i. x i && (y i && z i)

-- the rectangle of one pixel
abbrev pub pixel_at : ℤ → ℤ → Rect
pixel_at h v = record { left = h; top = v; right = h +ℤ pos 1; bottom = v +ℤ pos 1 }

-- what it says of a pixel that the rectangle has it
pub within_is : (r : Rect) (h v : ℤ) → (between r.left h r.right && between r.top v r.bottom) ≡ true → IsInside r (record { h = h; v = v })
within_is r h v e = sides_of r (record { h = h; v = v }) e

-- a pixel of the rectangle
pub pixel_one : (r : Rect) (h v : ℤ) → (between r.left h r.right && between r.top v r.bottom) ≡ true
    → (p : Point) → rect_holds (pixel_at h v) p ≡ (rect_holds r p && (int_eq p.h h && int_eq p.v v))
pixel_one r h v inside p = same_tests _ _ there back
  where
    there : rect_holds (pixel_at h v) p ≡ true → (rect_holds r p && (int_eq p.h h && int_eq p.v v)) ≡ true
    there e =
        let s = sides_of (pixel_at h v) p e in
        let a = within_is r h v inside in
        all_three _ _ _ (holds_in r p (omega (arith, ints)) (omega (arith, ints)) (omega (arith, ints)) (omega (arith, ints)))
        ((Decides-int_eq p.h h).1 (omega (arith, ints))) ((Decides-int_eq p.v v).1 (omega (arith, ints)))

    back : (rect_holds r p && (int_eq p.h h && int_eq p.v v)) ≡ true → rect_holds (pixel_at h v) p ≡ true
    back e =
        let b = and_parts (int_eq p.h h) (int_eq p.v v) (and_parts (rect_holds r p) (int_eq p.h h && int_eq p.v v) e).1 in
        let column = (Decides-int_eq p.h h).0 b.0 in
        let row = (Decides-int_eq p.v v).0 b.1 in
        holds_in (pixel_at h v) p (omega (arith, ints)) (omega (arith, ints)) (omega (arith, ints)) (omega (arith, ints))

-- one that the rectangle does not have
pub pixel_none : (r : Rect) (h v : ℤ) → (between r.left h r.right && between r.top v r.bottom) ≡ false
    → (p : Point) → rect_holds (record { left = pos 0; top = pos 0; right = pos 0; bottom = pos 0 }) p ≡ (rect_holds r p && (int_eq p.h h && int_eq p.v v))
pixel_none r h v out p = same_tests _ _ there back
  where
    there : rect_holds (record { left = pos 0; top = pos 0; right = pos 0; bottom = pos 0 }) p ≡ true → (rect_holds r p && (int_eq p.h h && int_eq p.v v)) ≡ true
    there e = let s = sides_of (record { left = pos 0; top = pos 0; right = pos 0; bottom = pos 0 }) p e in absurd (omega (arith, ints))

    back : (rect_holds r p && (int_eq p.h h && int_eq p.v v)) ≡ true → rect_holds (record { left = pos 0; top = pos 0; right = pos 0; bottom = pos 0 }) p ≡ true
    back e =
        let a = and_parts (rect_holds r p) (int_eq p.h h && int_eq p.v v) e in
        let b = and_parts (int_eq p.h h) (int_eq p.v v) a.1 in
        let column = (Decides-int_eq p.h h).0 b.0 in
        let row = (Decides-int_eq p.v v).0 b.1 in
        absurd (true≢false (sym a.0 ∙ (λ i. between r.left (column i) r.right && between r.top (row i) r.bottom) ∙ out))

-- a diagonal's pixel in a row
pub falls_is : (r : Rect) (k : ℕ) (h v : ℤ) → h ≡ r.left +ℤ pos k → v ≡ r.top +ℤ pos k → (p : Point) → (rect_holds r p && (int_eq p.h h && int_eq p.v v)) ≡ falls r k p
falls_is r k h v column row p = ap (λ x. rect_holds r p && x) (λ i. across i && down i)
  where
    across : int_eq p.h h ≡ int_eq (p.h -ℤ r.left) (pos k)
    across = same_tests _ _ (λ e. let s = (Decides-int_eq p.h h).0 e in (Decides-int_eq (p.h -ℤ r.left) (pos k)).1 (omega (arith, ints)))
        (λ e. let s = (Decides-int_eq (p.h -ℤ r.left) (pos k)).0 e in (Decides-int_eq p.h h).1 (omega (arith, ints)))

    down : int_eq p.v v ≡ is_row r k p
    down = same_tests _ _ (λ e. let s = (Decides-int_eq p.v v).0 e in (Decides-int_eq (p.v -ℤ r.top) (pos k)).1 (omega (arith, ints)))
        (λ e. let s = (Decides-int_eq (p.v -ℤ r.top) (pos k)).0 e in (Decides-int_eq p.v v).1 (omega (arith, ints)))

pub rises_is : (r : Rect) (k : ℕ) (h v : ℤ) → h ≡ r.right -ℤ pos 1 -ℤ pos k → v ≡ r.top +ℤ pos k → (p : Point) → (rect_holds r p && (int_eq p.h h && int_eq p.v v)) ≡ rises r k p
rises_is r k h v column row p = ap (λ x. rect_holds r p && x) (λ i. across i && down i)
  where
    across : int_eq p.h h ≡ int_eq (r.right -ℤ pos 1 -ℤ p.h) (pos k)
    across = same_tests _ _ (λ e. let s = (Decides-int_eq p.h h).0 e in (Decides-int_eq (r.right -ℤ pos 1 -ℤ p.h) (pos k)).1 (omega (arith, ints)))
        (λ e. let s = (Decides-int_eq (r.right -ℤ pos 1 -ℤ p.h) (pos k)).0 e in (Decides-int_eq p.h h).1 (omega (arith, ints)))

    down : int_eq p.v v ≡ is_row r k p
    down = same_tests _ _ (λ e. let s = (Decides-int_eq p.v v).0 e in (Decides-int_eq (p.v -ℤ r.top) (pos k)).1 (omega (arith, ints)))
        (λ e. let s = (Decides-int_eq (p.v -ℤ r.top) (pos k)).0 e in (Decides-int_eq p.v v).1 (omega (arith, ints)))

-- ---- on a canvas

-- black on pixels of a canvas of the same frame
same_black : (c d : Canvas) (s : PixelSet) (a b : Bits) → SameFrame c d
    → Draws (λ p. canvas_holds d p && s (canvas_point d p)) (λ p old. shade_value all_black (canvas_point d p) old) a b
    → Draws (λ p. canvas_holds c p && s (canvas_point c p)) (λ p old. shade_value all_black (canvas_point c p) old) a b
same_black c d s a b f drawn =
    Draws-same _ _ _ _ a b (λ p old on. λ i. cond ((rect_holds (f.clip i) p && cut_holds ((f.cut i).now) p) && s (minus p (f.origin i))) (shade_value all_black (minus p (f.origin i)) old) old) drawn

-- black on some pixels and then on others is black on both
pub black_more : (c d : Canvas) (s t u : PixelSet) (a b e : Bits) → SameFrame c d
    → ((q : Point) → u q ≡ (t q || s q))
    → Draws (λ p. canvas_holds c p && s (canvas_point c p)) (λ p old. shade_value all_black (canvas_point c p) old) a b
    → Draws (λ p. canvas_holds d p && t (canvas_point d p)) (λ p old. shade_value all_black (canvas_point d p) old) b e
    → Draws (λ p. canvas_holds c p && u (canvas_point c p)) (λ p old. shade_value all_black (canvas_point c p) old) a e
black_more c d s t u a b e f both first second =
    Draws-over _ _ _ _ _ _ a b e
    (λ p old on. table (canvas_holds c p) (s (canvas_point c p)) (t (canvas_point c p)) (shade_value all_black (canvas_point c p) old) old
    ∙ ap (λ x. cond (canvas_holds c p && x) (shade_value all_black (canvas_point c p) old) old) (sym (both (canvas_point c p))))
    first (same_black c d t b e f second)
  where
    table : (k x y v d : Bool) → cond (k && y) v (cond (k && x) v d) ≡ cond (k && (y || x)) v d
    table true x true v d = refl
    table true x false v d = refl
    table false x y v d = refl

-- the two pixels of a row are those of the diagonals in it
pub row_is : (r : Rect) (k : ℕ) (p : Point) → (is_row r k p && cross_holds r p) ≡ (rises r k p || falls r k p)
unfolding on_diagonals
row_is r k p = by_row (is_row r k p) refl
  where
    table : (h x y : Bool) → (h && (x || y)) ≡ ((h && (y && true)) || (h && (x && true)))
    table true true true = refl
    table true true false = refl
    table true false true = refl
    table true false false = refl
    table false x y = refl

    none : (h x y : Bool) → false ≡ ((h && (y && false)) || (h && (x && false)))
    none true true true = refl
    none true true false = refl
    none true false true = refl
    none true false false = refl
    none false x y = refl

    by_row : (e : Bool) → is_row r k p ≡ e → (is_row r k p && cross_holds r p) ≡ (rises r k p || falls r k p)
    by_row true is =
        let row = (Decides-int_eq (p.v -ℤ r.top) (pos k)).0 is in
        (λ i. is i && (rect_holds r p && (int_eq (p.h -ℤ r.left) (row i) || int_eq (r.right -ℤ pos 1 -ℤ p.h) (row i))))
        ∙ table (rect_holds r p) (int_eq (p.h -ℤ r.left) (pos k)) (int_eq (r.right -ℤ pos 1 -ℤ p.h) (pos k))
        ∙ (λ i. (rect_holds r p && (int_eq (r.right -ℤ pos 1 -ℤ p.h) (pos k) && sym is i)) || (rect_holds r p && (int_eq (p.h -ℤ r.left) (pos k) && sym is i)))
    by_row false is =
        (λ i. is i && cross_holds r p)
        ∙ none (rect_holds r p) (int_eq (p.h -ℤ r.left) (pos k)) (int_eq (r.right -ℤ pos 1 -ℤ p.h) (pos k))
        ∙ (λ i. (rect_holds r p && (int_eq (r.right -ℤ pos 1 -ℤ p.h) (pos k) && sym is i)) || (rect_holds r p && (int_eq (p.h -ℤ r.left) (pos k) && sym is i)))

-- the rows so far, and one more
pub rows_more : (r : Rect) (k : ℕ) (p : Point) → (cross_holds r p && is_before r (k + 1) p) ≡ ((is_row r k p && cross_holds r p) || (cross_holds r p && is_before r k p))
rows_more r k p = ap (λ x. cross_holds r p && x) next ∙ table (cross_holds r p) (is_row r k p) (is_before r k p)
  where
    next : is_before r (k + 1) p ≡ (is_row r k p || is_before r k p)
    next = same_tests _ _ (λ e. grind (arith, ints)) (λ e. grind (arith, ints))

    table : (h e l : Bool) → (h && (e || l)) ≡ ((e && h) || (h && l))
    table true true l = refl
    table true false l = refl
    table false true l = refl
    table false false l = refl

-- no row yet
pub rows_none : (r : Rect) (p : Point) → (cross_holds r p && is_before r 0 p) ≡ false
rows_none r p = same_tests _ _ there (λ e. absurd (cc))
  where
    there : (cross_holds r p && is_before r 0 p) ≡ true → false ≡ true
    there e =
        let a = and_parts (cross_holds r p) (is_before r 0 p) e in
        let b = and_parts (rect_holds r p) (on_diagonals r p) a.0 in
        let s = sides_of r p b.0 in
        absurd (grind (arith, ints))

-- every row
pub rows_all : (r : Rect) (k : ℕ) (p : Point) → r.bottom ≤ℤ (r.top +ℤ pos k) → (cross_holds r p && is_before r k p) ≡ cross_holds r p
rows_all r k p past = same_tests _ _ (λ e. (and_parts (cross_holds r p) (is_before r k p) e).0) there
  where
    there : cross_holds r p ≡ true → (cross_holds r p && is_before r k p) ≡ true
    there e =
        let s = sides_of r p (and_parts (rect_holds r p) (on_diagonals r p) e).0 in
        let below : is_before r k p ≡ true = grind (arith, ints) in
        λ i. e i && below i

pub held_none : (a : Bool) → (a && false) ≡ false
held_none true = refl
held_none false = refl
