-- The pixels of a window's frame, within a rectangle of the window, or over white.
use Rattle.std.proofs.Common.{◌≡◌, ℕ, List, Bool, true, false, ◌&&◌, if◌then◌else◌, ℤ, pos, ◌+ℤ◌, ◌≤ℤ◌, ◌<ℤ◌, refl, ap, ◌∙◌, arith}
use Rattle.std.proofs.lemmas.Bool.{and_parts}
use Rattle.std.proofs.lemmas.Int.{ints}
use Rattle.tb_geom.specs.declared.point.Point.{Point}
use Rattle.tb_geom.specs.declared.rect.Rect.{Rect}
use Rattle.tb_geom.specs.Points.{PixelSet, minus}
use Rattle.tb_geom.specs.Pixels.{Pixels, holds}
use Rattle.tb_geom.specs.Rects.{rect_holds, is_in_range, is_coordinate, in_plane, moved_rect, is_empty_rect, empty_rect}
use Rattle.tb_geom.proofs.RectLemmas.{sides_of, sides_rise, is_around}
use Rattle.bit_map.specs.Bits.{Bits}
use Rattle.bit_blit.specs.Draws.{Draws, IsWritten}
use Rattle.bit_blit.proofs.DrawsLemmas.{Draws-where, Draws-on_map}
use Rattle.bit_blit.proofs.WrittenLemmas.{written_in}
use Rattle.def_iface.specs.WindowMeaning.{WindowDefinition}
use Rattle.def_iface.specs.WindowNews.{no_news}
use Rattle.window_paint.specs.Frames.{IsPainted}

-- ---- the range of coordinates

-- a side between two that stay in range stays in range too
between_stays : (low high d x : ℤ) → is_coordinate (low +ℤ d) ≡ true → is_coordinate (high +ℤ d) ≡ true → low ≤ℤ x → x ≤ℤ high → is_coordinate (x +ℤ d) ≡ true
between_stays low high d x a b l m = grind (arith, ints)

no_side : (d : ℤ) → is_coordinate d ≡ true → is_coordinate (pos 0 +ℤ d) ≡ true
no_side d e = grind (arith, ints)

pub shared_stays : (shared box : Rect) (place : Point)
    → ((p : Point) → rect_holds shared p ≡ true → rect_holds box p ≡ true)
    → (is_empty_rect shared ≡ true → shared ≡ empty_rect)
    → in_plane place ≡ true
    → is_in_range (moved_rect box place.h place.v) ≡ true
    → is_in_range (moved_rect shared place.h place.v) ≡ true
shared_stays shared box place within none placed stays = by_empty (is_empty_rect shared) refl
  where
    by_empty : (b : Bool) → is_empty_rect shared ≡ b → is_in_range (moved_rect shared place.h place.v) ≡ true
    by_empty true e =
        let at = and_parts (is_coordinate place.h) (is_coordinate place.v) placed in
        let h = no_side place.h at.0 in
        let v = no_side place.v at.1 in
        ap (λ r. is_in_range (moved_rect r place.h place.v)) (none e) ∙ (λ i. h i && (v i && (h i && v i)))
    by_empty false e =
        let some = sides_rise shared e in
        let around = is_around shared box some within in
        let l = and_parts (is_coordinate (box.left +ℤ place.h)) _ stays in
        let t = and_parts (is_coordinate (box.top +ℤ place.v)) _ l.1 in
        let r = and_parts (is_coordinate (box.right +ℤ place.h)) _ t.1 in
        let across = some.across in
        let down = some.down in
        let left = around.left in
        let top = around.top in
        let right = around.right in
        let bottom = around.bottom in
        λ i. between_stays box.left box.right place.h shared.left l.0 r.0 left (omega (arith, ints)) i
        && (between_stays box.top box.bottom place.v shared.top t.0 r.1 top (omega (arith, ints)) i
        && (between_stays box.left box.right place.h shared.right l.0 r.0 (omega (arith, ints)) right i
        && between_stays box.top box.bottom place.v shared.bottom t.0 r.1 (omega (arith, ints)) bottom i))

-- a pixel of a rectangle in range is a point
between_sides : (low high x : ℤ) → is_coordinate low ≡ true → is_coordinate high ≡ true → low ≤ℤ x → x <ℤ high → is_coordinate x ≡ true
between_sides low high x a b l m = grind (arith, ints)

pub inside_is_point : (box : Rect) (p : Point) → is_in_range box ≡ true → rect_holds box p ≡ true → in_plane p ≡ true
inside_is_point box p ranged inside =
    let sides = sides_of box p inside in
    let l = and_parts (is_coordinate box.left) _ ranged in
    let t = and_parts (is_coordinate box.top) _ l.1 in
    let r = and_parts (is_coordinate box.right) _ t.1 in
    λ i. between_sides box.left box.right p.h l.0 r.0 sides.left sides.right i && between_sides box.top box.bottom p.v t.0 r.1 sides.top sides.bottom i

-- ---- drawing

-- what the box has, the shared rectangle has where the first of the two does
pub shared_is : (a b : Bool) → b ≡ true → (a && b) ≡ a
shared_is true b e = e
shared_is false b e = refl

-- the pixels of a clip and of a region, where the clip has of those of the region just these
turned : (h c t : Bool) → (h ≡ true → c ≡ t) → (c && h) ≡ (h && t)
turned true true t e = e refl
turned true false t e = e refl
turned false true t e = refl
turned false false t e = refl

-- what was drawn on them
pub framed_within : (region : Pixels) (clip : Rect) (these : PixelSet) (f : Point → Bool → Bool) (old new : Bits)
    → ((p : Point) → holds region p ≡ true → rect_holds clip p ≡ these p)
    → Draws (λ p. rect_holds clip p && holds region p) f old new
    → Draws (λ p. holds region p && these p) f old new
framed_within region clip these f old new clips drawn =
    Draws-where _ (λ p. holds region p && these p) f old new (λ p on. turned (holds region p) (rect_holds clip p) (these p) (clips p)) drawn

-- and written
pub written_within : (region : Pixels) (clip : Rect) (these : PixelSet) (old new : Bits)
    → ((p : Point) → holds region p ≡ true → rect_holds clip p ≡ these p)
    → IsWritten (λ p. rect_holds clip p && holds region p) old new
    → IsWritten (λ p. holds region p && these p) old new
written_within region clip these old new clips written =
    written_in _ (λ p. holds region p && these p) old new (λ p on out. turned (holds region p) (rect_holds clip p) (these p) (clips p) ∙ out) written

-- white where content is new, and a frame drawn over that
pub painted_by : (font : List ℕ) (d : WindowDefinition) (place : Point) (new frame : Pixels) (old mid end : Bits)
    → Draws (holds new) (λ p value. false) old mid
    → Draws (holds frame) (λ p _. d.picture no_news font (minus p place)) mid end
    → IsPainted font d place new frame old end
painted_by font d place new frame old mid end filled drawn = record {
  pixels = λ p on.
      drawn.pixels p (Draws-on_map _ _ old mid filled p ∙ on)
      ∙ ap (λ b. if holds frame p then d.picture no_news font (minus p place) else b)
      (filled.pixels p on);
  width = drawn.width ∙ filled.width;
  height = drawn.height ∙ filled.height;
}
