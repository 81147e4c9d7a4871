-- Drawing on what a cut or a clip leaves of a rectangle, block by block.
use Rattle.std.proofs.Common.{◌≡◌, ◌≤◌, ℤ, pos, negsuc, ◌+ℤ◌, ◌-ℤ◌, ◌≤ℤ◌, ◌<ℤ◌, Bool, true, false, not, ◌&&◌, ◌||◌, cond, List, [], ◌∷◌, ◌++◌, Option, Some, None, refl, sym, ap, ◌∙◌, subst, arith, SFits, w32}
use Rattle.std.specs.Borrow.{Bor}
use Rattle.std.specs.List.{All}
use Rattle.std.specs.Option.{option_copied}
use Rattle.std.specs.Ordering.{int_eq}
use Rattle.std.proofs.lemmas.Int.{ints}
use Rattle.std.proofs.lemmas.List.Elements.{All-head, All-tail}
use Rattle.std.proofs.lemmas.List.Folds.{list_any-append}
use Rattle.tb_geom.specs.declared.point.Point.{Point}
use Rattle.tb_geom.specs.declared.rect.Rect.{Rect}
use Rattle.tb_geom.specs.Points.{PixelSet, minus}
use Rattle.tb_geom.specs.Pixels.{Pixels, holds}
use Rattle.tb_geom.specs.Rects.{between, rect_holds, empty_rect, IsBoxOf}
use Rattle.tb_geom.proofs.RectLemmas.{holds_none, sides_of}
use Rattle.bit_map.specs.Bits.{Bits, on_map}
use Rattle.bit_blit.specs.Draws.{Draws}
use Rattle.bit_blit.proofs.DrawsLemmas.{Draws-more, Draws-none, Draws-same, Draws-where}
use Rattle.bit_blit.proofs.SpansLemmas.{spans_hold, spans-apart}
use Rattle.scan_region.specs.declared.spans.Span.{Span}
use Rattle.scan_region.specs.declared.cut.Cut.{Cut}
use Rattle.scan_region.specs.Cuts.{cut_inside, cut_holds, in_part}
use Rattle.scan_region.specs.Scan.{IsScanOf, IsRun, span_holds}
use Rattle.draw_port.specs.Canvases.{canvas_holds, canvas_point, SameFrame}
use Rattle.draw_port.specs.Ops.{clip_holds}
use Rattle.draw_port.specs.Origins.{is_near_origin}
use Rattle.draw_port.specs.Places.{is_far}
use Rattle.draw_port.specs.declared.canvas.Canvas.{Canvas}
use Rattle.draw_port.proofs.CanvasLemmas.{seen_near}

-- ---- the rectangle around a canvas

first_of : (a b : Bool) → (a && b) ≡ true → a ≡ true
first_of true b e = refl
first_of false b e = e

back_again : (x o b : ℤ) → b +ℤ o ≡ pos 0 → (x -ℤ o) -ℤ b ≡ x
back_again x o b e = omega (arith, ints)

-- a near origin can be seen from itself as far away on the other side
pub fits_back : (o : ℤ) → between (negsuc 999999999) o (pos 1000000000) ≡ true → SFits w32 (pos 0 -ℤ o)
fits_back o e = record { sfits = grind (arith, ints) }

-- what a canvas has on its map, moved to the canvas's own coordinates
pub reach_around : (c : Canvas) (m : Bits) (bounds shared reach : Rect) (back : Point) → m.width ≤ 32767 → m.height ≤ 32767 → is_near_origin c.origin ≡ true
    → back.h +ℤ c.origin.h ≡ pos 0 → back.v +ℤ c.origin.v ≡ pos 0
    → ((x : Point) → rect_holds shared x ≡ (rect_holds c.clip x && rect_holds bounds x)) → ((x : Point) → rect_holds bounds x ≡ on_map m x)
    → ((q : Point) → is_far q ≡ false → rect_holds reach q ≡ rect_holds shared (minus q back))
    → (p : Point) → on_map m p ≡ true → canvas_holds c p ≡ true → rect_holds reach (canvas_point c p) ≡ true
reach_around c m bounds shared reach back w h near bh bv both mapped moved p on held =
    moved (canvas_point c p) (seen_near m p c.origin w h near on)
    ∙ (λ i. rect_holds shared (record { h = back_again p.h c.origin.h back.h bh i; v = back_again p.v c.origin.v back.v bv i }))
    ∙ both p
    ∙ (λ i. first_of (rect_holds c.clip p) (cut_holds c.cut.now p) held i && (mapped p ∙ on) i)

-- what a cut leaves of the rectangle is drawn where it is drawn of what the canvas can have of it
pub reached : (c : Canvas) (cut : PixelSet) (rect reach shared : Rect) (value : Point → Bool → Bool) (a b : Bits)
    → ((p : Point) → on_map a p ≡ true → canvas_holds c p ≡ true → rect_holds reach (canvas_point c p) ≡ true)
    → ((q : Point) → rect_holds shared q ≡ (rect_holds reach q && rect_holds rect q))
    → Draws (λ p. canvas_holds c p && (rect_holds shared (canvas_point c p) && cut (canvas_point c p))) value a b
    → Draws (λ p. canvas_holds c p && (cut (canvas_point c p) && rect_holds rect (canvas_point c p))) value a b
reached c cut rect reach shared value a b around both drawn = Draws-where _ _ value a b one drawn
  where
    table : (k e t u : Bool) → (k ≡ true → e ≡ true) → (k && ((e && t) && u)) ≡ (k && (u && t))
    table false e t u f = refl
    table true true true true f = refl
    table true true true false f = refl
    table true true false true f = refl
    table true true false false f = refl
    table true false t u f = absurd (cc (f refl))

    one : (p : Point) → on_map a p ≡ true → (canvas_holds c p && (rect_holds shared (canvas_point c p) && cut (canvas_point c p))) ≡ (canvas_holds c p && (cut (canvas_point c p) && rect_holds rect (canvas_point c p)))
    one p on = ap (λ t. canvas_holds c p && (t && cut (canvas_point c p))) (both (canvas_point c p))
        ∙ table (canvas_holds c p) (rect_holds reach (canvas_point c p)) (rect_holds rect (canvas_point c p)) (cut (canvas_point c p)) (around p on)

-- ---- cuts of clips

and_true : (a : Bool) → ((a && true) && true) ≡ a
and_true true = refl
and_true false = refl

-- a cut of one region leaves that region
pub one_region : (cut : Cut) (r : Bor Pixels) → cut ≡ cut_inside r → (q : Point) → cut_holds cut q ≡ holds r.now q
unfolding cut_holds
one_region cut r e q = ap (λ k. cut_holds k q) e ∙ and_true (holds r.now q)

-- ---- blocks of spans

pub row-here : (v x : ℤ) → between v x (v +ℤ pos 1) ≡ int_eq v x
row-here v x = grind (arith, ints)

pub row-more : (top v x : ℤ) → top ≤ℤ v → between top x (v +ℤ pos 1) ≡ (between top x v || int_eq v x)
row-more top v x l = grind (arith, ints)

-- the rectangle of one row that a span is
abbrev pub row_rect : Span → Rect
row_rect s = record { left = s.left; top = s.v; right = s.right; bottom = s.v +ℤ pos 1 }

row-holds : (s : Span) (q : Point) → rect_holds (row_rect s) q ≡ span_holds s q
row-holds s q = ap (λ t. between s.left q.h s.right && t) (row-here s.v q.v) ∙ swap (between s.left q.h s.right) (int_eq s.v q.v)
  where
    swap : (a b : Bool) → (a && b) ≡ (b && a)
    swap true true = refl
    swap true false = refl
    swap false true = refl
    swap false false = refl

-- the block with one row more
abbrev pub grown : Rect → Rect
grown r = record { left = r.left; top = r.top; right = r.right; bottom = r.bottom +ℤ pos 1 }

grown-holds : (r : Rect) (s : Span) (q : Point) → r.top ≤ℤ r.bottom → (s.left ≡ r.left) × ((s.right ≡ r.right) × (s.v ≡ r.bottom)) → rect_holds (grown r) q ≡ (rect_holds r q || span_holds s q)
grown-holds r s q l e =
    ap (λ t. between r.left q.h r.right && t) (row-more r.top r.bottom q.v l)
    ∙ split (between r.left q.h r.right) (between r.top q.v r.bottom) (int_eq r.bottom q.v)
    ∙ (λ i. rect_holds r q || (int_eq (sym e.1.1 i) q.v && between (sym e.0 i) q.h (sym e.1.0 i)))
  where
    split : (a b d : Bool) → (a && (b || d)) ≡ ((a && b) || (d && a))
    split true true d = refl
    split true false true = refl
    split true false false = refl
    split false true true = refl
    split false true false = refl
    split false false true = refl
    split false false false = refl

-- a span that comes is one of the set's, and has a pixel
pub span_run : (before : List Span) (span : Span) (after : List Span) → All IsRun (before ++ span ∷ after) → IsRun span
span_run [] span after all = All-head IsRun span after all
span_run (first ∷ before) span after all = span_run before span after (All-tail IsRun first (before ++ span ∷ after) all)

or_second : (a b d : Bool) → b ≡ true → (a || (b || d)) ≡ true
or_second true b d e = refl
or_second false b d e = ap (λ t. t || d) e

-- the spans before the one that comes, and the rest
pub record IsNext (before : List Span) (span : Span) (rest : List Span) (set : PixelSet) : Type 0 where
  pub after : List Span
  pub rest_is : rest ≡ span ∷ after
  pub scan : IsScanOf (before ++ rest) set

-- it lies in the rectangle that the set lies in
pub span_row : (before : List Span) (span : Span) (rest : List Span) (rect : Rect) (cut : PixelSet) → IsNext before span rest (λ p. rect_holds rect p && cut p) → SFits w32 rect.bottom → (span.v +ℤ pos 1) ≤ℤ pos 2147483647
span_row before span rest rect cut next fits =
    let scan : IsScanOf (before ++ span ∷ next.after) (λ p. rect_holds rect p && cut p) = subst (λ l. IsScanOf (before ++ l) (λ p. rect_holds rect p && cut p)) next.rest_is next.scan in
    let first : Point = record { h = span.left; v = span.v } in
    let run : span.left <ℤ span.right = span_run before span next.after scan.runs in
    let has : span_holds span first ≡ true = grind (arith, ints) in
    let one : (rect_holds rect first && cut first) ≡ true = scan.pixels first ∙ list_any-append (λ s. span_holds s first) before (span ∷ next.after) ∙ or_second (spans_hold before first) (span_holds span first) (spans_hold next.after first) has in
    let inside = sides_of rect first (first_of (rect_holds rect first) (cut first) one) in
    let below : span.v <ℤ rect.bottom = inside.bottom in
    let limit = fits.sfits in
    omega (arith, ints)

-- so a block that it lies below can have one row more
pub grown_row : (v bottom : ℤ) → v ≡ bottom → (v +ℤ pos 1) ≤ℤ pos 2147483647 → (bottom +ℤ pos 1) ≤ℤ pos 2147483647
grown_row v bottom e l = subst (λ x. (x +ℤ pos 1) ≤ℤ pos 2147483647) e l

next-apart : (before : List Span) (span : Span) (rest : List Span) (set : PixelSet) → IsNext before span rest set → (q : Point) → span_holds span q ≡ true → spans_hold before q ≡ false
next-apart before span rest set next q e = spans-apart before span next.after (subst (λ l. IsScanOf (before ++ l) set) next.rest_is next.scan).order q e

more-holds : (before : List Span) (span : Span) (q : Point) → spans_hold (before ++ span ∷ []) q ≡ (spans_hold before q || (span_holds span q || false))
more-holds before span q = list_any-append (λ s. span_holds s q) before (span ∷ [])

-- no block yet
pub nothing-within : (q : Point) → rect_holds empty_rect q ≡ true → false ≡ true
nothing-within q e = sym (holds_none empty_rect refl q) ∙ e

pub no_block : (c : Canvas) (value : Point → Bool → Bool) (block : Rect) (a : Bits) → Draws (λ p. canvas_holds c p && (false && not (rect_holds block (canvas_point c p)))) value a a
no_block c value block a = Draws-none _ value a (λ p on. none (canvas_holds c p))
  where
    none : (k : Bool) → (k && false) ≡ false
    none true = refl
    none false = refl

-- the block grows by the span that comes
pub block_more : (c : Canvas) (value : Point → Bool → Bool) (before : List Span) (span : Span) (rest : List Span) (set : PixelSet) (block : Rect) (a b : Bits)
    → IsNext before span rest set → block.top ≤ℤ block.bottom → (span.left ≡ block.left) × ((span.right ≡ block.right) × (span.v ≡ block.bottom))
    → Draws (λ p. canvas_holds c p && (spans_hold before (canvas_point c p) && not (rect_holds block (canvas_point c p)))) value a b
    → Draws (λ p. canvas_holds c p && (spans_hold (before ++ span ∷ []) (canvas_point c p) && not (rect_holds (grown block) (canvas_point c p)))) value a b
block_more c value before span rest set block a b next upright below drawn = Draws-where _ _ value a b (λ p on. ap (λ t. canvas_holds c p && t) (one (canvas_point c p))) drawn
  where
    table : (y s k : Bool) → (s ≡ true → y ≡ false) → (y && not k) ≡ ((y || (s || false)) && not (k || s))
    table true true k f = absurd (cc (f refl))
    table true false true f = refl
    table true false false f = refl
    table false true true f = refl
    table false true false f = refl
    table false false k f = refl

    one : (q : Point) → (spans_hold before q && not (rect_holds block q)) ≡ (spans_hold (before ++ span ∷ []) q && not (rect_holds (grown block) q))
    one q = table (spans_hold before q) (span_holds span q) (rect_holds block q) (next-apart before span rest set next q)
        ∙ (λ i. sym (more-holds before span q) i && not (sym (grown-holds block span q upright below) i))

pub block_more-within : (before : List Span) (span : Span) (block : Rect) → block.top ≤ℤ block.bottom → (span.left ≡ block.left) × ((span.right ≡ block.right) × (span.v ≡ block.bottom))
    → ((q : Point) → rect_holds block q ≡ true → spans_hold before q ≡ true)
    → (q : Point) → rect_holds (grown block) q ≡ true → spans_hold (before ++ span ∷ []) q ≡ true
block_more-within before span block upright below within q e =
    more-holds before span q ∙ table (rect_holds block q) (span_holds span q) (spans_hold before q) (within q) (sym (grown-holds block span q upright below) ∙ e)
  where
    table : (k s y : Bool) → (k ≡ true → y ≡ true) → (k || s) ≡ true → (y || (s || false)) ≡ true
    table true s y f e = ap (λ t. t || (s || false)) (f refl)
    table false true y f e = or_second y true false refl
    table false false y f e = absurd (cc)

-- the block is drawn
pub block_drawn : (old mid : Canvas) (value : Point → Bool → Bool) (set : PixelSet) (block : Rect) (a b c : Bits) → SameFrame old mid
    → ((q : Point) → rect_holds block q ≡ true → set q ≡ true)
    → Draws (λ p. canvas_holds old p && (set (canvas_point old p) && not (rect_holds block (canvas_point old p)))) (λ p d. value (canvas_point old p) d) a b
    → Draws (λ p. canvas_holds mid p && rect_holds block (canvas_point mid p)) (λ p d. value (canvas_point mid p) d) b c
    → Draws (λ p. canvas_holds old p && set (canvas_point old p)) (λ p d. value (canvas_point old p) d) a c
block_drawn old mid value set block a b c frame within first second =
    Draws-more _ _ _ (λ p d. value (canvas_point old p) d) a b c
    (λ p e. apart (canvas_holds old p) (rect_holds block (canvas_point old p)) (set (canvas_point old p)) e)
    (λ p. joined (canvas_holds old p) (rect_holds block (canvas_point old p)) (set (canvas_point old p)) (within (canvas_point old p)))
    first
    (Draws-same _ _ _ _ b c (λ p d on. λ i. cond ((rect_holds (frame.clip i) p && cut_holds ((frame.cut i).now) p) && rect_holds block (minus p (frame.origin i))) (value (minus p (frame.origin i)) d) d) second)
  where
    apart : (k t s : Bool) → (k && t) ≡ true → (k && (s && not t)) ≡ false
    apart true true true e = refl
    apart true true false e = refl
    apart true false s e = absurd (cc)
    apart false t s e = refl

    joined : (k t s : Bool) → (t ≡ true → s ≡ true) → (k && s) ≡ ((k && t) || (k && (s && not t)))
    joined true true true f = refl
    joined true true false f = f refl
    joined true false true f = refl
    joined true false false f = refl
    joined false t s f = refl

-- the span that comes is the next block
pub block_next : (c : Canvas) (value : Point → Bool → Bool) (before : List Span) (span : Span) (rest : List Span) (set : PixelSet) (a b : Bits)
    → IsNext before span rest set
    → Draws (λ p. canvas_holds c p && spans_hold before (canvas_point c p)) value a b
    → Draws (λ p. canvas_holds c p && (spans_hold (before ++ span ∷ []) (canvas_point c p) && not (rect_holds (row_rect span) (canvas_point c p)))) value a b
block_next c value before span rest set a b next drawn = Draws-where _ _ value a b (λ p on. ap (λ t. canvas_holds c p && t) (one (canvas_point c p))) drawn
  where
    table : (y s : Bool) → (s ≡ true → y ≡ false) → y ≡ ((y || (s || false)) && not s)
    table true true f = f refl
    table true false f = refl
    table false true f = refl
    table false false f = refl

    one : (q : Point) → spans_hold before q ≡ (spans_hold (before ++ span ∷ []) q && not (rect_holds (row_rect span) q))
    one q = table (spans_hold before q) (span_holds span q) (next-apart before span rest set next q)
        ∙ (λ i. sym (more-holds before span q) i && not (sym (row-holds span q) i))

pub block_next-within : (before : List Span) (span : Span) (q : Point) → rect_holds (row_rect span) q ≡ true → spans_hold (before ++ span ∷ []) q ≡ true
block_next-within before span q e = more-holds before span q ∙ or_second (spans_hold before q) (span_holds span q) false (sym (row-holds span q) ∙ e)

-- ---- filled regions

part-holds : (part : Option (Bor Pixels)) (clip : Option Pixels) → option_copied part ≡ clip → (q : Point) → in_part part q ≡ clip_holds clip q
part-holds part clip e q = by_part part ∙ ap (λ k. clip_holds k q) e
  where
    by_part : (part : Option (Bor Pixels)) → in_part part q ≡ clip_holds (option_copied part) q
    by_part None = refl
    by_part (Some r) = refl

-- what a region and a clip leave is drawn where the cut of both is
pub region_drawn : (c : Canvas) (r : Bor Pixels) (part : Option (Bor Pixels)) (clip : Option Pixels) (box : Rect) (value : Point → Bool → Bool) (a b : Bits)
    → option_copied part ≡ clip → IsBoxOf box (holds r.now)
    → Draws (λ p. canvas_holds c p && (cut_holds (record { inside = Some r ∷ part ∷ None ∷ []; outside = None }) (canvas_point c p) && rect_holds box (canvas_point c p))) value a b
    → Draws (λ p. canvas_holds c p && (clip_holds clip (canvas_point c p) && holds r.now (canvas_point c p))) value a b
unfolding cut_holds
region_drawn c r part clip box value a b is_clip around drawn = Draws-where _ _ value a b (λ p on. ap (λ t. canvas_holds c p && t) (one (canvas_point c p))) drawn
  where
    table : (held part boxed : Bool) → (held ≡ true → boxed ≡ true) → (((held && (part && true)) && true) && boxed) ≡ (part && held)
    table true true true f = refl
    table true true false f = absurd (cc (f refl))
    table true false boxed f = refl
    table false true boxed f = refl
    table false false boxed f = refl

    one : (q : Point) → (cut_holds (record { inside = Some r ∷ part ∷ None ∷ []; outside = None }) q && rect_holds box q) ≡ (clip_holds clip q && holds r.now q)
    one q = table (holds r.now q) (in_part part q) (rect_holds box q) (around.holds q) ∙ ap (λ t. t && holds r.now q) (part-holds part clip is_clip q)
