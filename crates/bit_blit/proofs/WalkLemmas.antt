-- The walk over a rectangle: rows of pixels, and rows after rows.
use Rattle.std.proofs.Common.{◌≡◌, ℤ, pos, ◌+ℤ◌, ◌≤ℤ◌, ◌<ℤ◌, Bool, true, false, ◌&&◌, ◌||◌, refl, sym, ap, ◌∙◌, arith}
use Rattle.std.specs.Int.{int_min, int_max}
use Rattle.std.proofs.lemmas.Int.{ints, clamps}
use Rattle.tb_geom.specs.declared.point.Point.{Point}
use Rattle.tb_geom.specs.declared.rect.Rect.{Rect}
use Rattle.tb_geom.specs.Points.{PixelSet}
use Rattle.tb_geom.specs.Rects.{between, rect_holds}
use Rattle.bit_map.specs.Bits.{Bits, on_map}
use Rattle.bit_blit.specs.Draws.{DrawsOnce, in_row}
use Rattle.bit_blit.proofs.OnceLemmas.{Once-more}

-- where a loop over a row ended
pub in_row-end : (v left h right : ℤ) (x : Point) → right ≤ℤ h → (left ≤ℤ right → h ≤ℤ right) → (right ≤ℤ left → h ≡ left) → in_row v left h x ≡ in_row v left right x
in_row-end v left h right x a b c = grind (arith, ints)

-- a pixel of a row
pub in_row-at : (v left h right : ℤ) → left ≤ℤ h → h <ℤ right → in_row v left right (record { h = h; v = v }) ≡ true
in_row-at v left h right a b = grind (arith, ints)

-- the pixels of the rows from top down to bottom, each from left up to right
abbrev pub in_rows : ℤ → ℤ → ℤ → ℤ → PixelSet
in_rows left right top bottom x = between left x.h right && between top x.v bottom

-- a pixel of a row is not in the rows above it
pub in_rows-apart : (left right top v : ℤ) (x : Point) → in_row v left right x ≡ true → in_rows left right top v x ≡ false
in_rows-apart left right top v x e = grind (arith, ints)

-- one more row
pub in_rows-more : (left right top v : ℤ) (x : Point) → top ≤ℤ v → in_rows left right top (v +ℤ pos 1) x ≡ (in_row v left right x || in_rows left right top v x)
in_rows-more left right top v x l = grind (arith, ints)

-- no row yet
pub in_rows-none : (left right top : ℤ) (x : Point) → in_rows left right top top x ≡ false
in_rows-none left right top x = grind (arith, ints)

-- where a loop over rows ended
pub in_rows-end : (left right top v bottom : ℤ) (x : Point) → bottom ≤ℤ v → (top ≤ℤ bottom → v ≤ℤ bottom) → (bottom ≤ℤ top → v ≡ top) → in_rows left right top v x ≡ in_rows left right top bottom x
in_rows-end left right top v bottom x a b c = grind (arith, ints)

-- rows and one more row
pub rows_step : (f : Point → Bool → Bool) (a b c : Bits) (left right top v : ℤ) → top ≤ℤ v → DrawsOnce (in_rows left right top v) f a b → DrawsOnce (in_row v left right) f b c → DrawsOnce (in_rows left right top (v +ℤ pos 1)) f a c
rows_step f a b c left right top v low drawn row =
    Once-more (in_rows left right top v) (in_row v left right) (in_rows left right top (v +ℤ pos 1)) f a b c (in_rows-apart left right top v) (λ x. in_rows-more left right top v x low) drawn row

-- a pixel of a row lies in the rectangle whose row it is
pub row-in_rect : (r : Rect) (v : ℤ) (x : Point) → r.top ≤ℤ v → v <ℤ r.bottom → in_row v r.left r.right x ≡ true → rect_holds r x ≡ true
row-in_rect r v x a b e = grind (arith, ints)

first_of_both : (a b : Bool) → (a && b) ≡ true → a ≡ true
first_of_both true b e = refl
first_of_both false b e = e

-- what the bounds of a map share with a rectangle lies on the map
pub shared-on_map : (m : Bits) (bounds r shared : Rect) → ((x : Point) → rect_holds shared x ≡ (rect_holds bounds x && rect_holds r x)) → ((x : Point) → rect_holds bounds x ≡ on_map m x)
    → (x : Point) → rect_holds shared x ≡ true → on_map m x ≡ true
shared-on_map m bounds r shared both on x e = sym (on x) ∙ first_of_both (rect_holds bounds x) (rect_holds r x) (sym (both x) ∙ e)

-- and on the map it is the rectangle
pub shared-where : (m : Bits) (bounds r shared : Rect) → ((x : Point) → rect_holds shared x ≡ (rect_holds bounds x && rect_holds r x)) → ((x : Point) → rect_holds bounds x ≡ on_map m x)
    → (x : Point) → on_map m x ≡ true → rect_holds shared x ≡ rect_holds r x
shared-where m bounds r shared both on x e = both x ∙ ap (λ t. t && rect_holds r x) (on x ∙ e)

-- first and last are the sides of a row that is cut at the sides of a rectangle
pub record IsCut (r : Rect) (v left right first last : ℤ) : Type 0 where
  pub below : r.top ≤ℤ v
  pub above : v <ℤ r.bottom
  pub first_is : first ≡ int_max left r.left
  pub last_is : last ≡ int_min right r.right

-- a pixel of the cut row lies in the rectangle
pub cut_row-in_rect : (r : Rect) (v left right first last : ℤ) → IsCut r v left right first last → (x : Point) → in_row v first last x ≡ true → rect_holds r x ≡ true
cut_row-in_rect r v left right first last cut x e =
    let below = cut.below in
    let above = cut.above in
    let inside : in_row v (int_max left r.left) (int_min right r.right) x ≡ true = rw (← cut.first_is, ← cut.last_is) e in
    grind (arith, ints, clamps)

-- and the cut takes no pixel of the rectangle from the row
pub cut_row-where : (r : Rect) (v left right first last : ℤ) → IsCut r v left right first last → (x : Point) → rect_holds r x ≡ true → in_row v first last x ≡ in_row v left right x
cut_row-where r v left right first last cut x e = (λ i. in_row v (cut.first_is i) (cut.last_is i) x) ∙ kept
  where
    kept : in_row v (int_max left r.left) (int_min right r.right) x ≡ in_row v left right x
    kept = grind (arith, ints, clamps)
