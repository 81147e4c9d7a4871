-- Drawing on the pixels of a strip, row by row.
use Rattle.std.proofs.Common.{◌≡◌, ℤ, pos, ◌+ℤ◌, ◌≤ℤ◌, Bool, true, false, ◌&&◌, ◌||◌, cond, refl, sym, ap, ◌∙◌, arith}
use Rattle.std.specs.Ordering.{int_eq}
use Rattle.std.specs.Int.{int_max}
use Rattle.std.proofs.lemmas.Int.{ints, clamps}
use Rattle.std.proofs.lemmas.Bool.Decides.{Decides-int_eq}
use Rattle.tb_geom.specs.declared.point.Point.{Point}
use Rattle.tb_geom.specs.declared.rect.Rect.{Rect}
use Rattle.tb_geom.specs.Points.{PixelSet, minus}
use Rattle.tb_geom.specs.Rects.{between, rect_holds}
use Rattle.tb_geom.proofs.RectLemmas.{sides_of}
use Rattle.bit_map.specs.Bits.{Bits, on_map}
use Rattle.bit_blit.specs.Draws.{Draws}
use Rattle.bit_blit.proofs.DrawsLemmas.{Draws-more, Draws-none, Draws-same, Draws-where}
use Rattle.scan_region.specs.Cuts.{cut_holds}
use Rattle.draw_port.specs.Canvases.{canvas_holds, canvas_point, SameFrame}
use Rattle.draw_port.specs.declared.canvas.Canvas.{Canvas}
use Rattle.draw_port.proofs.ClippedLemmas.{row-more}

-- the pixels of a set in the rows from one to another
abbrev pub in_rows : PixelSet → ℤ → ℤ → PixelSet
in_rows s top v q = s q && between top q.v v

-- none lies in no row
pub no_rows : (c : Canvas) (value : Point → Bool → Bool) (s : PixelSet) (top : ℤ) (a : Bits)
    → Draws (λ p. canvas_holds c p && in_rows s top top (canvas_point c p)) value a a
no_rows c value s top a = Draws-none _ value a (λ p on. ap (λ t. canvas_holds c p && (s (canvas_point c p) && t)) (none (canvas_point c p).v) ∙ table (canvas_holds c p) (s (canvas_point c p)))
  where
    none : (x : ℤ) → between top x top ≡ false
    none x = grind (arith, ints)

    table : (k t : Bool) → (k && (t && false)) ≡ false
    table true true = refl
    table true false = refl
    table false t = refl

-- the pixels of a row, by the columns of the set in it
pub in_row : (s : PixelSet) (v : ℤ) (q : Point) → (s (record { h = q.h; v = v }) && int_eq v q.v) ≡ (s q && int_eq v q.v)
in_row s v q = by_row (int_eq v q.v) refl
  where
    none : (x y : Bool) → (x && false) ≡ (y && false)
    none true true = refl
    none true false = refl
    none false true = refl
    none false false = refl

    by_row : (e : Bool) → int_eq v q.v ≡ e → (s (record { h = q.h; v = v }) && int_eq v q.v) ≡ (s q && int_eq v q.v)
    by_row true is = ap (λ x. s (record { h = q.h; v = x }) && int_eq v q.v) ((Decides-int_eq v q.v).0 is)
    by_row false is = ap (λ e. s (record { h = q.h; v = v }) && e) is ∙ none (s (record { h = q.h; v = v })) (s q) ∙ ap (λ e. s q && e) (sym is)

-- once the rows are through, all of them were
pub rows_through : (top bottom v x : ℤ) → top ≤ℤ v → bottom ≤ℤ v → v ≤ℤ int_max top bottom → between top x v ≡ between top x bottom
rows_through top bottom v x low past within = grind (arith, ints, clamps)

-- one row more
pub one_row : (c d : Canvas) (value : Point → Bool → Bool) (s : PixelSet) (top v : ℤ) (r : Rect) (a b e : Bits) → SameFrame c d → top ≤ℤ v
    → ((q : Point) → rect_holds r q ≡ (s (record { h = q.h; v = v }) && int_eq v q.v))
    → Draws (λ p. canvas_holds c p && in_rows s top v (canvas_point c p)) (λ p old. value (canvas_point c p) old) a b
    → Draws (λ p. canvas_holds d p && rect_holds r (canvas_point d p)) (λ p old. value (canvas_point d p) old) b e
    → Draws (λ p. canvas_holds c p && in_rows s top (v +ℤ pos 1) (canvas_point c p)) (λ p old. value (canvas_point c p) old) a e
one_row c d value s top v r a b e frame low row first second =
    Draws-more _ _ _ (λ p old. value (canvas_point c p) old) a b e apart joined first
    (Draws-same _ _ _ _ b e (λ p old on. λ i. cond ((rect_holds (frame.clip i) p && cut_holds ((frame.cut i).now) p) && rect_holds r (minus p (frame.origin i))) (value (minus p (frame.origin i)) old) old) second)
  where
    its : (q : Point) → rect_holds r q ≡ (s q && int_eq v q.v)
    its q = row q ∙ in_row s v q

    other : (x : ℤ) → int_eq v x ≡ true → between top x v ≡ false
    other x is = grind (arith, ints)

    only : (k t n o : Bool) → (n ≡ true → o ≡ false) → (k && (t && n)) ≡ true → (k && (t && o)) ≡ false
    only true true true o f is = f refl
    only true true false o f is = absurd (cc)
    only true false n o f is = refl
    only false t n o f is = refl

    apart : (p : Point) → (canvas_holds c p && rect_holds r (canvas_point c p)) ≡ true → (canvas_holds c p && in_rows s top v (canvas_point c p)) ≡ false
    apart p is =
        let q = canvas_point c p in
        only (canvas_holds c p) (s q) (int_eq v q.v) (between top q.v v) (other q.v)
        (ap (λ t. canvas_holds c p && t) (sym (its q)) ∙ is)

    table : (k t o n : Bool) → (k && (t && (o || n))) ≡ ((k && (t && n)) || (k && (t && o)))
    table true true true true = refl
    table true true true false = refl
    table true true false true = refl
    table true true false false = refl
    table true false o n = refl
    table false t o n = refl

    joined : (p : Point) → (canvas_holds c p && in_rows s top (v +ℤ pos 1) (canvas_point c p))
        ≡ ((canvas_holds c p && rect_holds r (canvas_point c p)) || (canvas_holds c p && in_rows s top v (canvas_point c p)))
    joined p =
        let q = canvas_point c p in
        ap (λ t. canvas_holds c p && (s q && t)) (row-more top v q.v low)
        ∙ table (canvas_holds c p) (s q) (between top q.v v) (int_eq v q.v)
        ∙ ap (λ t. (canvas_holds c p && t) || (canvas_holds c p && in_rows s top v q)) (sym (its q))

-- all rows that a canvas can have of the set
pub all_rows : (c : Canvas) (value : Point → Bool → Bool) (s : PixelSet) (reach bounds rows : Rect) (a b : Bits)
    → ((p : Point) → on_map a p ≡ true → canvas_holds c p ≡ true → rect_holds reach (canvas_point c p) ≡ true)
    → ((q : Point) → rect_holds bounds q ≡ false → s q ≡ false)
    → ((q : Point) → rect_holds rows q ≡ (rect_holds reach q && rect_holds bounds q))
    → Draws (λ p. canvas_holds c p && in_rows s rows.top rows.bottom (canvas_point c p)) value a b
    → Draws (λ p. canvas_holds c p && s (canvas_point c p)) value a b
all_rows c value s reach bounds rows a b around bounded both drawn = Draws-where _ _ value a b one drawn
  where
    table : (k t n : Bool) → (k ≡ true → t ≡ true → n ≡ true) → (k && (t && n)) ≡ (k && t)
    table true true n f = f refl refl
    table true false n f = refl
    table false t n f = refl

    held : (x y : Bool) → (x ≡ false → y ≡ false) → y ≡ true → x ≡ true
    held true y f is = refl
    held false y f is = absurd (cc (f refl))

    one : (p : Point) → on_map a p ≡ true → (canvas_holds c p && in_rows s rows.top rows.bottom (canvas_point c p)) ≡ (canvas_holds c p && s (canvas_point c p))
    one p on =
        let q = canvas_point c p in
        table (canvas_holds c p) (s q) (between rows.top q.v rows.bottom) (λ k_true t_true.
        let in_reach = around p on k_true in
        let in_bounds = held (rect_holds bounds q) (s q) (bounded q) t_true in
        let inside = sides_of rows q (both q ∙ (λ i. in_reach i && in_bounds i)) in
        let top = inside.top in
        let bottom = inside.bottom in
        grind (arith, ints))
