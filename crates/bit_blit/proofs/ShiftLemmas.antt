-- Shifts within one map: what is read still has its old bit.
use Rattle.std.proofs.Common.{◌≡◌, ℕ, ◌≤◌, ℤ, pos, negsuc, ◌+ℤ◌, ◌-ℤ◌, ◌≤ℤ◌, ◌<ℤ◌, Bool, true, false, ◌&&◌, ◌||◌, cond, inl, inr, ◌⊎◌, ◌+◌, suc, List, [], ◌∷◌, ◌++◌, length, get_or, length-append, append_assoc, refl, sym, ap, ◌∙◌, subst, arith, w32, SFits, nat_abs, ◌<◌}
use Rattle.std.specs.Prelude.{reverse, int_le, int_lt}
use Rattle.std.specs.Int.{saturate_signed}
use Rattle.std.specs.Ordering.{int_eq}
use Rattle.std.specs.List.{list_any, All, AllPairs}
use Rattle.std.proofs.lemmas.Int.{ints, clamps, by_lt_z}
use Rattle.std.proofs.lemmas.List.{reverse-append, append-nil, get_or_append_left, get_or-append-add}
use Rattle.std.proofs.lemmas.List.Folds.{list_any-append, list_any_none}
use Rattle.std.proofs.Math.Bool.{and-false}
use Rattle.std.proofs.lemmas.Bool.Decides.{Decides-int_eq}
use Rattle.std.proofs.Math.Seq.{get_or-append_seam}
use Rattle.std.proofs.lemmas.Bool.{and_parts}
use Rattle.tb_geom.specs.declared.point.Point.{Point}
use Rattle.tb_geom.specs.declared.rect.Rect.{Rect}
use Rattle.tb_geom.specs.Points.{PixelSet, minus}
use Rattle.tb_geom.specs.Rects.{between, rect_holds}
use Rattle.tb_geom.specs.Pixels.{Pixels, holds}
use Rattle.bit_map.specs.Bits.{Bits, on_map, bit, count}
use Rattle.bit_map.proofs.BitsLemmas.{on_map-same, on_map-sides, bit-off, rect_holds-bounds_of}
use Rattle.scan_region.specs.declared.spans.Span.{Span}
use Rattle.scan_region.specs.Scan.{IsScan, Precedes, span_holds}
use Rattle.bit_blit.specs.Draws.{DrawsOnce, in_row}
use Rattle.bit_blit.specs.Shifts.{shift_holds, shifted, is_onward}
use Rattle.bit_blit.proofs.OnceLemmas.{Once-on_map, Once-where, once_more}
use Rattle.bit_blit.proofs.SpansLemmas.{spans_hold, spans-apart}
use Rattle.bit_blit.proofs.WalkLemmas.{IsCut, cut_row-in_rect, cut_row-where}

-- a pixel that was not drawn has its old bit, and so has a point off the map
kept : (p : PixelSet) (f : Point → Bool → Bool) (old mid : Bits) → DrawsOnce p f old mid → (x : Point) → (on_map old x ≡ true → p x ≡ false) → bit mid x ≡ bit old x
kept p f old mid drawn x none = by_place (on_map old x) refl
  where
    by_place : (t : Bool) → on_map old x ≡ t → bit mid x ≡ bit old x
    by_place true on = drawn.pixels x on ∙ ap (λ t. cond t (f x (bit old x)) (bit old x)) (none on)
    by_place false off = bit-off mid x (Once-on_map p f old mid drawn x ∙ off) ∙ sym (bit-off old x off)

-- further pixels, whose sources are none of those before
pub shift-more : (old mid new : Bits) (d : Point) (p q r : PixelSet)
    → ((x : Point) → q x ≡ true → on_map old (minus x d) ≡ true → p (minus x d) ≡ false)
    → ((x : Point) → q x ≡ true → p x ≡ false)
    → ((x : Point) → r x ≡ (q x || p x))
    → DrawsOnce p (shifted old d) old mid → DrawsOnce q (shifted mid d) mid new → DrawsOnce r (shifted old d) old new
shift-more old mid new d p q r clean apart e first second = record {
  pixels = λ x on. second.pixels x (Once-on_map p (shifted old d) old mid first x ∙ on) ∙ one (q x) (p x) (r x) _ _ _ _ (λ t. kept p (shifted old d) old mid first (minus x d) (clean x t)) (first.pixels x on) (e x);
  width = second.width ∙ first.width;
  height = second.height ∙ first.height;
  once = λ x on. once_more (p x) (q x) (r x) (count old x) (count mid x) (count new x) (apart x) (e x) (first.once x on) (second.once x (Once-on_map p (shifted old d) old mid first x ∙ on));
}
  where
    one : (q p r : Bool) (a b m o : Bool) → (q ≡ true → a ≡ b) → m ≡ cond p b o → r ≡ (q || p) → cond q a m ≡ cond r b o
    one true p r a b m o f g h = rw h (f refl)
    one false p r a b m o f g h = rw h g

-- both points lie on a map with the same sides
pub both-on : (a b : Bits) (p q : Point) → b.width ≡ a.width → b.height ≡ a.height → (on_map b p && on_map b q) ≡ (on_map a p && on_map a q)
both-on a b p q w h = λ i. on_map-same a b p w h i && on_map-same a b q w h i

-- ---- the pixels whose source is on the map

lt-stopped : (high o x : ℤ) → negsuc 2147483647 ≤ℤ x → x <ℤ pos 2147483647 → int_lt x (saturate_signed w32 (high +ℤ o)) ≡ int_lt (x -ℤ o) high
lt-stopped high o x l m = grind (arith, ints, clamps)

le-moved : (o x : ℤ) → int_le o x ≡ int_le (pos 0) (x -ℤ o)
le-moved o x = grind (arith, ints)

side : (limit : ℕ) (o x : ℤ) → limit ≤ 32767 → pos 0 ≤ℤ x → nat_abs x < limit → between o x (saturate_signed w32 (pos limit +ℤ o)) ≡ between (pos 0) (x -ℤ o) (pos limit)
side limit o (pos n) l a b = λ i. le-moved o (pos n) i && lt-stopped (pos limit) o (pos n) (omega (arith, ints)) (omega (arith, ints)) i
side limit o (negsuc n) l a b = absurd (omega (arith, ints))

-- what the bounds of a map share with the moved bounds, whose last sides stop at the ends of 32 bits
pub source_area : (m : Bits) (d : Point) (bounds moved shared : Rect) → m.width ≤ 32767 → m.height ≤ 32767
    → ((x : Point) → rect_holds shared x ≡ (rect_holds bounds x && rect_holds moved x)) → ((x : Point) → rect_holds bounds x ≡ on_map m x)
    → moved ≡ record { left = d.h; top = d.v; right = saturate_signed w32 (pos m.width +ℤ d.h); bottom = saturate_signed w32 (pos m.height +ℤ d.v) }
    → (x : Point) → rect_holds shared x ≡ (on_map m x && on_map m (minus x d))
source_area m d bounds moved shared w h both on e x = both x ∙ ap (λ t. t && rect_holds moved x) (on x) ∙ by_test (on_map m x) refl
  where
    there : on_map m x ≡ true → rect_holds moved x ≡ on_map m (minus x d)
    there held =
        let at = on_map-sides m x held in
        ap (λ r. rect_holds r x) e
        ∙ (λ i. side m.width d.h x.h w at.right at.across i && side m.height d.v x.v h at.below at.down i)
        ∙ rect_holds-bounds_of m (minus x d)

    by_test : (t : Bool) → on_map m x ≡ t → (t && rect_holds moved x) ≡ (t && on_map m (minus x d))
    by_test true held = there held
    by_test false off = refl

-- ---- the pixels of a span

-- whether the area has the pixels whose source is on the map
abbrev pub IsSourceArea : Bits → Point → Rect → Type 0
IsSourceArea m d area = (x : Point) → rect_holds area x ≡ (on_map m x && on_map m (minus x d))

-- the row that is cut at the area is what the shift has of the span
pub span-cut : (m : Bits) (span : Span) (d : Point) (area : Rect) (first last : ℤ) → IsSourceArea m d area → IsCut area span.v span.left span.right first last
    → (x : Point) → on_map m x ≡ true → in_row span.v first last x ≡ shift_holds m (span_holds span) d x
span-cut m span d area first last is cut x on = by_test (on_map m (minus x d)) refl
  where
    area_is : rect_holds area x ≡ on_map m (minus x d)
    area_is = is x ∙ ap (λ t. t && on_map m (minus x d)) on

    outside : (t : Bool) → in_row span.v first last x ≡ t → rect_holds area x ≡ false → t ≡ false
    outside false e f = refl
    outside true e f = sym (cut_row-in_rect area span.v span.left span.right first last cut x e) ∙ f

    and-true : (t : Bool) → t ≡ (t && true)
    and-true true = refl
    and-true false = refl

    by_test : (t : Bool) → on_map m (minus x d) ≡ t → in_row span.v first last x ≡ (span_holds span x && on_map m (minus x d))
    by_test true e = cut_row-where area span.v span.left span.right first last cut x (area_is ∙ e) ∙ and-true _ ∙ ap (λ t. span_holds span x && t) (sym e)
    by_test false e = outside _ refl (area_is ∙ e) ∙ sym (and-false _) ∙ ap (λ t. span_holds span x && t) (sym e)

-- a span in a row that the area has not has no pixel with a source
pub span-off : (m : Bits) (span : Span) (d : Point) (area : Rect) → IsSourceArea m d area → between area.top span.v area.bottom ≡ false
    → (x : Point) → on_map m x ≡ true → shift_holds m (span_holds span) d x ≡ false
span-off m span d area is off x on = by_test (int_eq span.v x.v) refl
  where
    area_is : rect_holds area x ≡ on_map m (minus x d)
    area_is = is x ∙ ap (λ t. t && on_map m (minus x d)) on

    same_row : int_eq span.v x.v ≡ true → between area.top x.v area.bottom ≡ false
    same_row e = let s : x.v ≡ span.v = sym ((Decides-int_eq span.v x.v).0 e) in ap (λ y. between area.top y area.bottom) s ∙ off

    by_test : (t : Bool) → int_eq span.v x.v ≡ t → ((int_eq span.v x.v && between span.left x.h span.right) && on_map m (minus x d)) ≡ false
    by_test true e = ap (λ t. (int_eq span.v x.v && between span.left x.h span.right) && t) (sym area_is ∙ ap (λ t. between area.left x.h area.right && t) (same_row e) ∙ and-false _) ∙ and-false _
    by_test false e = ap (λ t. (t && between span.left x.h span.right) && on_map m (minus x d)) e

pub above_rows : (top v bottom : ℤ) → v <ℤ top → between top v bottom ≡ false
above_rows top v bottom l = grind (arith, ints)

pub below_rows : (top v bottom : ℤ) → bottom ≤ℤ v → between top v bottom ≡ false
below_rows top v bottom l = grind (arith, ints)

-- a number on a map is a number of 32 bits
pub near_fits : (x : ℤ) (limit : ℕ) → pos 0 ≤ℤ x → nat_abs x < limit → limit ≤ 32767 → SFits w32 x
near_fits (pos n) limit a b c = search (arith, ints)
near_fits (negsuc n) limit a b c = absurd (omega (arith, ints))

-- ---- span after span

-- where the pixels of a span lie
pub record IsHeld (s : Span) (x : Point) : Type 0 where
  pub row : s.v ≡ x.v
  pub left : s.left ≤ℤ x.h
  pub right : x.h <ℤ s.right

held : (s : Span) (x : Point) → span_holds s x ≡ true → IsHeld s x
held s x e =
    let t = and_parts (int_eq s.v x.v) (between s.left x.h s.right) e in
    let b = t.1 in
    record { row = (Decides-int_eq s.v x.v).0 t.0; left = grind (arith, ints); right = grind (arith, ints) }

off_row : (s : Span) (x : Point) → (s.v ≡ x.v → ⊥) → span_holds s x ≡ false
off_row s x apart = by_test (int_eq s.v x.v) refl
  where
    by_test : (t : Bool) → int_eq s.v x.v ≡ t → (t && between s.left x.h s.right) ≡ false
    by_test true e = absurd (apart ((Decides-int_eq s.v x.v).0 e))
    by_test false e = refl

off_right : (s : Span) (x : Point) → s.right ≤ℤ x.h → span_holds s x ≡ false
off_right s x l = let e : int_lt x.h s.right ≡ false = grind (arith, ints) in ap (λ t. int_eq s.v x.v && (int_le s.left x.h && t)) e ∙ ap (λ t. int_eq s.v x.v && t) (and-false _) ∙ and-false _

off_left : (s : Span) (x : Point) → x.h <ℤ s.left → span_holds s x ≡ false
off_left s x l = let e : int_le s.left x.h ≡ false = grind (arith, ints) in ap (λ t. int_eq s.v x.v && (t && int_lt x.h s.right)) e ∙ and-false _

-- which way a distance leads
not_onward : (d : Point) → is_onward d ≡ false → (d.v <ℤ pos 0) ⊎ ((d.v ≡ pos 0) × (d.h ≤ℤ pos 0))
not_onward d e = by_lt_z d.v (pos 0) (λ l. inl l) (λ l. let low : d.v ≡ pos 0 = grind (arith, ints) in inr (low, grind (arith, ints)))

onward : (d : Point) → is_onward d ≡ true → (pos 0 <ℤ d.v) ⊎ ((d.v ≡ pos 0) × (pos 0 <ℤ d.h))
onward d e = by_lt_z (pos 0) d.v (λ l. inl l) (λ l. let low : d.v ≡ pos 0 = grind (arith, ints) in inr (low, grind (arith, ints)))

-- the source of a pixel lies in no span before its own, where the distance does not lead onward
source_after : (b s : Span) (x d : Point) → is_onward d ≡ false → Precedes b s → span_holds s x ≡ true → span_holds b (minus x d) ≡ false
source_after b s x d e order on = cases (not_onward d e) order (held s x on)
  where
    cases : (d.v <ℤ pos 0) ⊎ ((d.v ≡ pos 0) × (d.h ≤ℤ pos 0)) → Precedes b s → IsHeld s x → span_holds b (minus x d) ≡ false
    cases (inl up) (inl above) at = let row = at.row in off_row b (minus x d) (λ same. absurd (omega (arith, ints)))
    cases (inl up) (inr (same_row, gap)) at = let row = at.row in off_row b (minus x d) (λ same. absurd (omega (arith, ints)))
    cases (inr (level, back)) (inl above) at = let row = at.row in off_row b (minus x d) (λ same. absurd (omega (arith, ints)))
    cases (inr (level, back)) (inr (same_row, gap)) at = let left = at.left in off_right b (minus x d) (omega (arith, ints))

-- and in none after it, where the distance leads onward
source_before : (b s : Span) (x d : Point) → is_onward d ≡ true → Precedes s b → span_holds s x ≡ true → span_holds b (minus x d) ≡ false
source_before b s x d e order on = cases (onward d e) order (held s x on)
  where
    cases : (pos 0 <ℤ d.v) ⊎ ((d.v ≡ pos 0) × (pos 0 <ℤ d.h)) → Precedes s b → IsHeld s x → span_holds b (minus x d) ≡ false
    cases (inl down) (inl below) at = let row = at.row in off_row b (minus x d) (λ same. absurd (omega (arith, ints)))
    cases (inl down) (inr (same_row, gap)) at = let row = at.row in off_row b (minus x d) (λ same. absurd (omega (arith, ints)))
    cases (inr (level, on)) (inl below) at = let row = at.row in off_row b (minus x d) (λ same. absurd (omega (arith, ints)))
    cases (inr (level, on)) (inr (same_row, gap)) at = let right = at.right in off_left b (minus x d) (omega (arith, ints))

-- of a list whose pairs are ordered, what the elements before one and after it are
before-pairs : {X : Type 0} (R : X → X → Type 0) (before : List X) (s : X) (after : List X) → AllPairs R (before ++ s ∷ after) → All (λ b. R b s) before
before-pairs R before s after order k d l =
    subst (λ y. R (get_or before k d) y) (get_or-append_seam before s after d)
    (subst (λ y. R y (get_or (before ++ s ∷ after) (length before) d)) (get_or_append_left before (s ∷ after) d k l)
    (order k (length before) d l (omega (arith, length-append before (s ∷ after)))))

after-pairs : {X : Type 0} (R : X → X → Type 0) (before : List X) (s : X) (after : List X) → AllPairs R (before ++ s ∷ after) → All (λ b. R s b) after
after-pairs R before s after order k d l =
    subst (λ y. R y (get_or after k d)) (get_or-append_seam before s after d)
    (subst (λ y. R (get_or (before ++ s ∷ after) (length before) d) y) (get_or-append-add before (s ∷ after) (suc k) d)
    (order (length before) (length before + suc k) d (omega arith) (omega (arith, length-append before (s ∷ after)))))

or_swap : (s t : Bool) → (t || (s || false)) ≡ (s || t)
or_swap true true = refl
or_swap true false = refl
or_swap false true = refl
or_swap false false = refl

any-reverse : (p : Span → Bool) (spans : List Span) → list_any p (reverse spans) ≡ list_any p spans
any-reverse p [] = refl
any-reverse p (s ∷ spans) =
    ap (list_any p) (reverse-append (s ∷ []) spans) ∙ list_any-append p (reverse spans) (s ∷ [])
    ∙ ap (λ t. t || (p s || false)) (any-reverse p spans) ∙ or_swap (p s) (list_any p spans)

-- the spans before one that comes, from the top down, have no source of its pixels
pub clean_down : (set : Pixels) (before : List Span) (span : Span) (rest after : List Span) (d : Point) → is_onward d ≡ false → rest ≡ span ∷ after → IsScan (before ++ rest) set
    → (x : Point) → span_holds span x ≡ true → spans_hold before (minus x d) ≡ false
clean_down set before span rest after d way e scan x on =
    let order = before-pairs Precedes before span after (subst (λ l. AllPairs Precedes (before ++ l)) e scan.order) in
    list_any_none (λ s. span_holds s (minus x d)) before (λ k s l. source_after (get_or before k s) span x d way (order k s l) on)

-- and from the bottom up
pub clean_up : (set : Pixels) (before : List Span) (span : Span) (rest after : List Span) (d : Point) → is_onward d ≡ true → rest ≡ span ∷ after → IsScan (reverse (before ++ rest)) set
    → (x : Point) → span_holds span x ≡ true → spans_hold before (minus x d) ≡ false
clean_up set before span rest after d way e scan x on =
    let turned : reverse (before ++ rest) ≡ reverse after ++ span ∷ reverse before =
    ap (λ l. reverse (before ++ l)) e ∙ reverse-append before (span ∷ after) ∙ ap (λ l. l ++ reverse before) (reverse-append (span ∷ []) after) ∙ append_assoc (reverse after) (span ∷ []) (reverse before) in
    let order = after-pairs Precedes (reverse after) span (reverse before) (subst (λ l. AllPairs Precedes l) turned scan.order) in
    sym (any-reverse (λ s. span_holds s (minus x d)) before)
    ∙ list_any_none (λ s. span_holds s (minus x d)) (reverse before) (λ k s l. source_before (get_or (reverse before) k s) span x d way (order k s l) on)

-- the spans before one that comes, from the top down, have none of its pixels
pub apart_down : (set : Pixels) (before : List Span) (span : Span) (rest after : List Span) → rest ≡ span ∷ after → IsScan (before ++ rest) set → (x : Point) → span_holds span x ≡ true → spans_hold before x ≡ false
apart_down set before span rest after e scan = spans-apart before span after (subst (λ l. AllPairs Precedes (before ++ l)) e scan.order)

apart_next : (a b : Span) (p : Point) → Precedes a b → span_holds a p ≡ true → span_holds b p ≡ false
apart_next a b p (inl above) e = grind (arith, ints)
apart_next a b p (inr left) e = let row = left.0 in let gap = left.1 in grind (arith, ints)

-- and from the bottom up
pub apart_up : (set : Pixels) (before : List Span) (span : Span) (rest after : List Span) → rest ≡ span ∷ after → IsScan (reverse (before ++ rest)) set → (x : Point) → span_holds span x ≡ true → spans_hold before x ≡ false
apart_up set before span rest after e scan x on =
    let turned : reverse (before ++ rest) ≡ reverse after ++ span ∷ reverse before =
    ap (λ l. reverse (before ++ l)) e ∙ reverse-append before (span ∷ after) ∙ ap (λ l. l ++ reverse before) (reverse-append (span ∷ []) after) ∙ append_assoc (reverse after) (span ∷ []) (reverse before) in
    let order = after-pairs Precedes (reverse after) span (reverse before) (subst (λ l. AllPairs Precedes l) turned scan.order) in
    sym (any-reverse (λ s. span_holds s x) before)
    ∙ list_any_none (λ s. span_holds s x) (reverse before) (λ k s l. apart_next span (get_or (reverse before) k s) x (order k s l) on)

-- one more span
pub shift_step : (old mid new : Bits) (d : Point) (before : List Span) (span : Span)
    → ((x : Point) → span_holds span x ≡ true → spans_hold before (minus x d) ≡ false)
    → ((x : Point) → span_holds span x ≡ true → spans_hold before x ≡ false)
    → DrawsOnce (shift_holds old (spans_hold before) d) (shifted old d) old mid → DrawsOnce (shift_holds mid (span_holds span) d) (shifted mid d) mid new
    → DrawsOnce (shift_holds old (spans_hold (before ++ span ∷ [])) d) (shifted old d) old new
shift_step old mid new d before span clean alone first second =
    shift-more old mid new d (shift_holds old (spans_hold before) d) (shift_holds mid (span_holds span) d) (shift_holds old (spans_hold (before ++ span ∷ [])) d)
    (λ x e on. ap (λ t. t && on_map old (minus (minus x d) d)) (clean x (and_parts (span_holds span x) (on_map mid (minus x d)) e).0))
    (λ x e. ap (λ t. t && on_map old (minus x d)) (alone x (and_parts (span_holds span x) (on_map mid (minus x d)) e).0))
    (λ x. ap (λ t. t && on_map old (minus x d)) (list_any-append (λ s. span_holds s x) before (span ∷ []) ∙ or_swap (span_holds span x) (spans_hold before x))
    ∙ or_and (span_holds span x) (spans_hold before x) (on_map old (minus x d))
    ∙ ap (λ t. (span_holds span x && t) || (spans_hold before x && on_map old (minus x d))) (sym (on_map-same old mid (minus x d) first.width first.height)))
    first second
  where
    or_and : (s t u : Bool) → ((s || t) && u) ≡ ((s && u) || (t && u))
    or_and true true true = refl
    or_and true true false = refl
    or_and true false true = refl
    or_and true false false = refl
    or_and false t u = refl

-- all spans, which have the pixels of the region
pub shift_all : (set : Pixels) (spans all : List Span) (old new : Bits) (d : Point) → IsScan all set → ((x : Point) → spans_hold all x ≡ spans_hold spans x)
    → DrawsOnce (shift_holds old (spans_hold spans) d) (shifted old d) old new → DrawsOnce (shift_holds old (holds set) d) (shifted old d) old new
shift_all set spans all old new d scan same drawn =
    Once-where _ _ _ _ _ (λ x on. ap (λ t. t && on_map old (minus x d)) (sym (scan.pixels x ∙ same x))) drawn

pub same_down : (spans rest : List Span) (x : Point) → rest ≡ [] → spans_hold (spans ++ rest) x ≡ spans_hold spans x
same_down spans rest x e = ap (λ l. spans_hold (spans ++ l) x) e ∙ ap (λ l. spans_hold l x) (append-nil spans)

pub same_up : (spans rest : List Span) (x : Point) → rest ≡ [] → spans_hold (reverse (spans ++ rest)) x ≡ spans_hold spans x
same_up spans rest x e = any-reverse (λ s. span_holds s x) (spans ++ rest) ∙ same_down spans rest x e

-- the spans drawn, the one that comes and those after it are those of the region still, from the bottom up
pub scan_up_step : (set : Pixels) (before : List Span) (span : Span) (rest after : List Span) → rest ≡ span ∷ after → IsScan (reverse (before ++ rest)) set → IsScan (reverse ((before ++ span ∷ []) ++ after)) set
scan_up_step set before span rest after e scan =
    subst (λ spans. IsScan (reverse spans) set) (ap (λ l. before ++ l) e ∙ sym (append_assoc before (span ∷ []) after)) scan
