-- Drawing the spans of a set of pixels, one after another.
use Rattle.std.proofs.Common.{◌≡◌, zero, suc, inl, inr, Bool, true, false, ◌&&◌, ◌||◌, List, [], ◌∷◌, ◌++◌, length, append_assoc, length-append, refl, sym, ap, ◌∙◌, subst, arith}
use Rattle.std.specs.Borrow.{Bor}
use Rattle.std.specs.List.{list_any, AllPairs}
use Rattle.std.proofs.lemmas.Int.{ints}
use Rattle.std.proofs.lemmas.List.Folds.{list_any-append}
use Rattle.std.proofs.Math.Seq.{get_or-append_seam}
use Rattle.tb_geom.specs.declared.point.Point.{Point}
use Rattle.tb_geom.specs.declared.rect.Rect.{Rect}
use Rattle.tb_geom.specs.Points.{PixelSet}
use Rattle.tb_geom.specs.Pixels.{Pixels, holds}
use Rattle.tb_geom.specs.Rects.{rect_holds, IsBoxOf}
use Rattle.bit_map.specs.Bits.{Bits}
use Rattle.scan_region.specs.declared.spans.Span.{Span}
use Rattle.scan_region.specs.Cuts.{cut_inside, cut_holds}
use Rattle.scan_region.specs.Scan.{IsScanOf, Precedes, span_holds}
use Rattle.bit_blit.specs.Draws.{DrawsOnce}
use Rattle.bit_blit.proofs.OnceLemmas.{Once-more}

-- whether one of the spans has a pixel
abbrev pub spans_hold : List Span → PixelSet
spans_hold spans p = list_any (λ span. span_holds span p) spans

-- a span has no pixel of one before it
apart : (a b : Span) (p : Point) → Precedes a b → span_holds b p ≡ true → span_holds a p ≡ false
apart a b p (inl above) e = grind (arith, ints)
apart a b p (inr left) e = let row = left.0 in let gap = left.1 in grind (arith, ints)

or_none : (s t : Bool) → s ≡ false → t ≡ false → (s || t) ≡ false
or_none true t e f = e
or_none false t e f = f

-- a span has no pixel of those before it
pub spans-apart : (before : List Span) (span : Span) (after : List Span) → AllPairs Precedes (before ++ span ∷ after) → (p : Point) → span_holds span p ≡ true → spans_hold before p ≡ false
spans-apart [] span after order p e = refl
spans-apart (first ∷ before) span after order p e =
    or_none (span_holds first p) (spans_hold before p) (apart first span p precedes e)
    (spans-apart before span after (λ i j d l m. order (suc i) (suc j) d (omega arith) (omega arith)) p e)
  where
    precedes : Precedes first span
    precedes = subst (Precedes first) (get_or-append_seam before span after span) (order zero (suc (length before)) span (omega arith) (omega (arith, length-append before (span ∷ after))))

or_swap : (s t : Bool) → (t || (s || false)) ≡ (s || t)
or_swap true true = refl
or_swap true false = refl
or_swap false true = refl
or_swap false false = refl

-- one more span of a set
pub spans_step : (f : Point → Bool → Bool) (a b c : Bits) (set : PixelSet) (before : List Span) (span : Span) (rest after : List Span) → rest ≡ span ∷ after → IsScanOf (before ++ rest) set
    → DrawsOnce (spans_hold before) f a b → DrawsOnce (span_holds span) f b c → DrawsOnce (spans_hold (before ++ span ∷ [])) f a c
spans_step f a b c set before span rest after e scan first second =
    Once-more (spans_hold before) (span_holds span) (spans_hold (before ++ span ∷ [])) f a b c
    (spans-apart before span after (subst (λ l. AllPairs Precedes (before ++ l)) e scan.order))
    (λ p. list_any-append (λ s. span_holds s p) before (span ∷ []) ∙ or_swap (span_holds span p) (spans_hold before p))
    first second

-- the spans drawn, the one that comes and those after it are the spans of the set still
pub scan_step : (set : PixelSet) (before : List Span) (span : Span) (rest after : List Span) → rest ≡ span ∷ after → IsScanOf (before ++ rest) set → IsScanOf ((before ++ span ∷ []) ++ after) set
scan_step set before span rest after e scan =
    subst (λ spans. IsScanOf spans set) (ap (λ l. before ++ l) e ∙ sym (append_assoc before (span ∷ []) after)) scan

-- a cut of one region alone leaves that region, and all of it lies in the box around it
pub one-part : (r : Bor Pixels) (box : Rect) → IsBoxOf box (holds r.now) → (p : Point) → (rect_holds box p && cut_holds (cut_inside r) p) ≡ holds r.now p
unfolding cut_holds
one-part r box around p = by_held (holds r.now p) (rect_holds box p) (around.holds p)
  where
    by_held : (held boxed : Bool) → (held ≡ true → boxed ≡ true) → (boxed && ((held && true) && true)) ≡ held
    by_held true true f = refl
    by_held true false f = absurd (cc (f refl))
    by_held false true f = refl
    by_held false false f = refl
