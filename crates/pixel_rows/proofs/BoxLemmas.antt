-- The boxes of sets of pixels in range: of the pixels of region bytes, of two sets, and of a set that is moved.
use Rattle.std.proofs.Common.{◌≡◌, ◌&&◌, ◌||◌, Bool, true, false, inl, inr, pos, negsuc, ◌-ℤ◌, ◌+ℤ◌, ◌≤ℤ◌, refl, sym, ap, ◌∙◌, subst, arith, List, ℕ}
use Rattle.std.proofs.lemmas.Bool.{and_parts, cases_Bool, false≢true}
use Rattle.std.proofs.lemmas.Int.{ints}
use Rattle.tb_geom.specs.declared.point.Point.{Point}
use Rattle.tb_geom.specs.declared.rect.Rect.{Rect}
use Rattle.tb_geom.specs.Points.{PixelSet, minus}
use Rattle.tb_geom.specs.Pixels.{Pixels, holds}
use Rattle.tb_geom.specs.Rects.{between, empty_rect, is_empty_rect, is_in_range, moved_rect, rect_holds, IsBoxOf}
use Rattle.tb_geom.proofs.RectLemmas.{between-in, holds_in, holds_none, is_around, or_left, or_right, sides_of, sides_rise}
use Rattle.region_bytes.specs.Forms.{IsRectOf, IsRowsOf}
use Rattle.region_bytes.proofs.Ranges.{square}
use Rattle.region_bytes.proofs.Said.{pixel_within}
use Rattle.region_rows.specs.Moves.{StaysInRange}
use Rattle.shape_strips.proofs.RangeLemmas.{in_range_from, row_of, sides_in}
use Rattle.pixel_rows.specs.declared.combination.Combination.{Combination}
use Rattle.pixel_rows.specs.declared.combination.Combination.TheVariants.{Union, Sect, Diff, Xor}
use Rattle.pixel_rows.specs.Combined.{combined, means, moved}
use Rattle.pixel_rows.specs.Bounds.{AreBounds}

-- the rectangle of all pixels whose sides are in range
abbrev whole : Rect
whole = square (negsuc 16383) (pos 16383)

pub from_false : (b : Bool) → (b ≡ true → ⊥) → b ≡ false
from_false true f = absurd (f refl)
from_false false f = refl

-- the box of pixels in range
module _ (s : PixelSet) (r : Rect) (box : IsBoxOf r s) where
  pub box_in_range : (is_empty_rect r ≡ true → r ≡ empty_rect) → ((p : Point) → s p ≡ true → rect_holds whole p ≡ true) → is_in_range r ≡ true
  box_in_range none inside = elim (cases_Bool (is_empty_rect r)) [
    | inl e ↦ subst (λ q. is_in_range q ≡ true) (sym (none e)) refl
    | inr e ↦
        let some = sides_rise r e in
        let across = some.across in
        let down = some.down in
        let w = is_around r whole some (box.smallest whole inside) in
        let left = w.left in
        let top = w.top in
        let right = w.right in
        let bottom = w.bottom in
        in_range_from r (record {
          left_low = omega (arith, ints);
          left_high = omega (arith, ints);
          top_low = omega (arith, ints);
          top_high = omega (arith, ints);
          right_low = omega (arith, ints);
          right_high = omega (arith, ints);
          bottom_low = omega (arith, ints);
          bottom_high = omega (arith, ints);
        })
  ]

  pub box_around : (p : Point) → rect_holds r p ≡ false → s p ≡ false
  box_around p out = from_false (s p) (λ e. false≢true (sym out ∙ box.holds p e))

-- ---- region bytes

rows_inside : (s : Pixels) (bytes : List ℕ) → IsRowsOf s bytes → (p : Point) → holds s p ≡ true → rect_holds whole p ≡ true
rows_inside s bytes r p e =
    let w = pixel_within whole r.rows r.canonical r.in_range p (sym (r.pixels p) ∙ e) in
    holds_in whole p w.0.0 w.0.1 w.1.0 w.1.1

pub rows_bounds : (s : Pixels) (bytes : List ℕ) (r : Rect) → IsRowsOf s bytes → IsBoxOf r (holds s) → (is_empty_rect r ≡ true → r ≡ empty_rect) → AreBounds (holds s) r
rows_bounds s bytes r rows box none =
    record { in_range = box_in_range (holds s) r box none (rows_inside s bytes rows); around = box_around (holds s) r box }

pub rect_bounds : (s : Pixels) (r : Rect) → IsRectOf s r → AreBounds (holds s) r
rect_bounds s r i = record { in_range = i.in_range; around = λ p out. i.pixels p ∙ out }

pub rect_box : (s : Pixels) (r : Rect) → IsRectOf s r → IsBoxOf r (holds s)
rect_box s r i = record { holds = λ p e. sym (i.pixels p) ∙ e; smallest = λ q f p e. f p (i.pixels p ∙ e) }

-- ---- two sets

none_meant : (how : Combination) (a b : Bool) → a ≡ false → b ≡ false → means how a b ≡ false
none_meant how a b e f = (λ i. means how (e i) (f i)) ∙ none how
  where
    none : (how : Combination) → means how false false ≡ false
    none Union = refl
    none Sect = refl
    none Diff = refl
    none Xor = refl

in_whole : (r : Rect) → is_in_range r ≡ true → (p : Point) → rect_holds r p ≡ true → rect_holds whole p ≡ true
in_whole r e p h =
    let s = sides_in r e in
    let i = sides_of r p h in
    let a = s.left_low in
    let b = s.right_high in
    let c = s.top_low in
    let d = s.bottom_high in
    let j = i.left in
    let k = i.right in
    let l = i.top in
    let m = i.bottom in
    holds_in whole p (omega (arith, ints)) (omega (arith, ints)) (omega (arith, ints)) (omega (arith, ints))

either : (a b : Bool) → (a || b) ≡ true → (a ≡ false → ⊥) → a ≡ true
either true b e f = refl
either false b e f = absurd (f refl)

-- the box of the bounds of both is the bounds of what they make together
pub both_bounds : (how : Combination) (s t : PixelSet) (a b r : Rect) → AreBounds s a → AreBounds t b → IsBoxOf r (λ p. rect_holds a p || rect_holds b p)
    → (is_empty_rect r ≡ true → r ≡ empty_rect) → AreBounds (combined how s t) r
both_bounds how s t a b r x y box none = record {
  in_range = box_in_range (λ p. rect_holds a p || rect_holds b p) r box none inside;
  around = λ p out.
      let neither = box_around (λ p. rect_holds a p || rect_holds b p) r box p out in
      none_meant how (s p) (t p)
      (x.around p (from_false (rect_holds a p) (λ e. false≢true (sym neither ∙ or_left (rect_holds a p) (rect_holds b p) e))))
      (y.around p (from_false (rect_holds b p) (λ e. false≢true (sym neither ∙ or_right (rect_holds a p) (rect_holds b p) e))));
}
  where
    inside : (p : Point) → (rect_holds a p || rect_holds b p) ≡ true → rect_holds whole p ≡ true
    inside p e = elim (cases_Bool (rect_holds a p)) [
      | inl f ↦ in_whole a x.in_range p f
      | inr f ↦ in_whole b y.in_range p (sym (ap (λ c. c || rect_holds b p) f) ∙ e)
    ]

-- ---- a set that is moved

-- what is moved from there is in range
abbrev moved_back : Point → Rect
moved_back d = record { left = negsuc 16383 -ℤ d.h; top = negsuc 16383 -ℤ d.v; right = pos 16383 -ℤ d.h; bottom = pos 16383 -ℤ d.v }

-- a box that has pixels stays in range with them
pub stays_with : (s : Pixels) (r : Rect) (d : Point) → IsBoxOf r (holds s) → is_empty_rect r ≡ false → StaysInRange s d → is_in_range (moved_rect r d.h d.v) ≡ true
stays_with s r d box e stays =
    let some = sides_rise r e in
    let across = some.across in
    let down = some.down in
    let w = is_around r (moved_back d) some (box.smallest (moved_back d) inside) in
    let left = w.left in
    let top = w.top in
    let right = w.right in
    let bottom = w.bottom in
    in_range_from (moved_rect r d.h d.v) (record {
      left_low = omega (arith, ints);
      left_high = omega (arith, ints);
      top_low = omega (arith, ints);
      top_high = omega (arith, ints);
      right_low = omega (arith, ints);
      right_high = omega (arith, ints);
      bottom_low = omega (arith, ints);
      bottom_high = omega (arith, ints);
    })
  where
    inside : (p : Point) → holds s p ≡ true → rect_holds (moved_back d) p ≡ true
    inside p f =
        let parts = and_parts (between (negsuc 16383) (p.h +ℤ d.h) (pos 16383)) (between (negsuc 16383) (p.v +ℤ d.v) (pos 16383)) (stays p f) in
        let columns = row_of (negsuc 16383) (p.h +ℤ d.h) (pos 16383) parts.0 in
        let rows = row_of (negsuc 16383) (p.v +ℤ d.v) (pos 16383) parts.1 in
        let a = columns.0 in
        let b = columns.1 in
        let c = rows.0 in
        let e = rows.1 in
        holds_in (moved_back d) p (omega (arith, ints)) (omega (arith, ints)) (omega (arith, ints)) (omega (arith, ints))

-- and they with it
pub stays_from : (s : Pixels) (r : Rect) (d : Point) → IsBoxOf r (holds s) → is_in_range (moved_rect r d.h d.v) ≡ true → StaysInRange s d
stays_from s r d box e p f =
    let i = sides_of r p (box.holds p f) in
    let m = sides_in (moved_rect r d.h d.v) e in
    let a : negsuc 16383 ≤ℤ (r.left +ℤ d.h) = m.left_low in
    let b : (r.right +ℤ d.h) ≤ℤ pos 16383 = m.right_high in
    let c : negsuc 16383 ≤ℤ (r.top +ℤ d.v) = m.top_low in
    let g : (r.bottom +ℤ d.v) ≤ℤ pos 16383 = m.bottom_high in
    let j = i.left in
    let k = i.right in
    let l = i.top in
    let n = i.bottom in
    λ q. between-in (negsuc 16383) (p.h +ℤ d.h) (pos 16383) (omega (arith, ints)) (omega (arith, ints)) q && between-in (negsuc 16383) (p.v +ℤ d.v) (pos 16383) (omega (arith, ints)) (omega (arith, ints)) q

no_pixel : (s : PixelSet) (r : Rect) → IsBoxOf r s → is_empty_rect r ≡ true → (p : Point) → s p ≡ false
no_pixel s r box e p = box_around s r box p (holds_none r e p)

pub none_stays : (s : Pixels) (r : Rect) (d : Point) → IsBoxOf r (holds s) → is_empty_rect r ≡ true → StaysInRange s d
none_stays s r d box e p f = absurd (false≢true (sym (no_pixel (holds s) r box e p) ∙ f))

-- the bounds move too
pub moved_bounds : (s : PixelSet) (r to : Rect) (d : Point) → AreBounds s r → to ≡ moved_rect r d.h d.v → is_in_range (moved_rect r d.h d.v) ≡ true
    → ((p : Point) → rect_holds to p ≡ rect_holds r (minus p d)) → AreBounds (moved s d) to
moved_bounds s r to d b same e pixels = record {
  in_range = subst (λ q. is_in_range q ≡ true) (sym same) e;
  around = λ p out. b.around (minus p d) (sym (pixels p) ∙ out);
}

-- where they cannot there is no pixel, and they may stay
pub still_bounds : (s : Pixels) (r : Rect) (d : Point) → AreBounds (holds s) r → IsBoxOf r (holds s) → StaysInRange s d → is_in_range (moved_rect r d.h d.v) ≡ false → AreBounds (moved (holds s) d) r
still_bounds s r d b box stays out = record { in_range = b.in_range; around = λ p _. no_pixel (holds s) r box is_empty (minus p d) }
  where
    is_empty : is_empty_rect r ≡ true
    is_empty = elim (cases_Bool (is_empty_rect r)) [
      | inl e ↦ e
      | inr e ↦ absurd (false≢true (sym out ∙ stays_with s r d box e stays))
    ]
