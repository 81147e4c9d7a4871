-- Drawing a frame side by side.
use Rattle.std.proofs.Common.{◌≡◌, ℤ, pos, negsuc, ◌+ℤ◌, ◌-ℤ◌, ◌≤ℤ◌, ◌<ℤ◌, Bool, true, false, not, ◌&&◌, ◌||◌, cond, refl, sym, ap, ◌∙◌, arith, w32}
use Rattle.std.specs.Prelude.{int_lt}
use Rattle.std.specs.Int.{saturate_signed, int_min, int_max}
use Rattle.std.proofs.lemmas.Int.{ints, clamps}
use Rattle.tb_geom.specs.declared.point.Point.{Point}
use Rattle.tb_geom.specs.declared.rect.Rect.{Rect}
use Rattle.tb_geom.specs.Points.{PixelSet, minus}
use Rattle.tb_geom.specs.Rects.{between, rect_holds}
use Rattle.tb_geom.proofs.RectLemmas.{sides_of}
use Rattle.bit_map.specs.Bits.{Bits}
use Rattle.bit_blit.specs.Draws.{Draws}
use Rattle.bit_blit.proofs.DrawsLemmas.{Draws-more, Draws-same, Draws-where}
use Rattle.draw_port.specs.Canvases.{canvas_holds, canvas_point, SameFrame}
use Rattle.scan_region.specs.Cuts.{cut_holds}
use Rattle.draw_port.specs.Ops.{is_end, frame_holds}
use Rattle.draw_port.specs.declared.canvas.Canvas.{Canvas}
use Rattle.draw_port.proofs.PlacedLemmas.{IsNear}

-- ---- sides

joined : (k n u : Bool) → (k && (n && u)) ≡ ((k && n) && u)
joined true n u = refl
joined false n u = refl

turned : (n u k : Bool) → ((n && u) && k) ≡ ((n && k) && u)
turned true true true = refl
turned true true false = refl
turned true false true = refl
turned true false false = refl
turned false u k = refl

lower : (low high cut x : ℤ) → between low x (int_min high cut) ≡ (between low x high && int_lt x cut)
lower low high cut x = grind (arith, ints, clamps)

higher : (low high cut x : ℤ) → between (int_max low cut) x high ≡ (between low x high && not (int_lt x cut))
higher low high cut x = grind (arith, ints, clamps)

-- the rows above v, and the others; the columns left of h, and the others
pub cut_above : (l t r b v : ℤ) (p : Point) → rect_holds (record { left = l; top = t; right = r; bottom = int_min b v }) p ≡ (rect_holds (record { left = l; top = t; right = r; bottom = b }) p && int_lt p.v v)
cut_above l t r b v p = ap (λ k. between l p.h r && k) (lower t b v p.v) ∙ joined (between l p.h r) (between t p.v b) (int_lt p.v v)

pub cut_below : (l t r b v : ℤ) (p : Point) → rect_holds (record { left = l; top = int_max t v; right = r; bottom = b }) p ≡ (rect_holds (record { left = l; top = t; right = r; bottom = b }) p && not (int_lt p.v v))
cut_below l t r b v p = ap (λ k. between l p.h r && k) (higher t b v p.v) ∙ joined (between l p.h r) (between t p.v b) (not (int_lt p.v v))

pub cut_left : (l t r b h : ℤ) (p : Point) → rect_holds (record { left = l; top = t; right = int_min r h; bottom = b }) p ≡ (rect_holds (record { left = l; top = t; right = r; bottom = b }) p && int_lt p.h h)
cut_left l t r b h p = ap (λ k. k && between t p.v b) (lower l r h p.h) ∙ turned (between l p.h r) (int_lt p.h h) (between t p.v b)

pub cut_right : (l t r b h : ℤ) (p : Point) → rect_holds (record { left = int_max l h; top = t; right = r; bottom = b }) p ≡ (rect_holds (record { left = l; top = t; right = r; bottom = b }) p && not (int_lt p.h h))
cut_right l t r b h p = ap (λ k. k && between t p.v b) (higher l r h p.h) ∙ turned (between l p.h r) (not (int_lt p.h h)) (between t p.v b)

-- R: the rectangle has the pixel; a: above the second row; b: above the last row; c: left of the second column; d: left of the last
bottom_apart : (R a b : Bool) → ((R && not a) && not b) ≡ true → (R && a) ≡ false
bottom_apart true true b e = absurd (cc)
bottom_apart true false b e = refl
bottom_apart false a b e = refl

left_apart : (R a b c : Bool) → (((R && not a) && b) && c) ≡ true → (((R && not a) && not b) || (R && a)) ≡ false
left_apart true true b c e = absurd (cc)
left_apart true false true c e = refl
left_apart true false false c e = absurd (cc)
left_apart false a b c e = refl

right_apart : (R a b c d : Bool) → ((((R && not a) && b) && not c) && not d) ≡ true → ((((R && not a) && b) && c) || (((R && not a) && not b) || (R && a))) ≡ false
right_apart true true b c d e = absurd (cc)
right_apart true false true true d e = absurd (cc)
right_apart true false true false d e = refl
right_apart true false false c d e = absurd (cc)
right_apart false a b c d e = refl

-- a number is an end where it lies before the second or not before the last
end_is : (low x high : ℤ) → negsuc 2147483647 ≤ℤ low → high ≤ℤ pos 2147483647 → low ≤ℤ x → x <ℤ high → is_end low x high ≡ (int_lt x (saturate_signed w32 (low +ℤ pos 1)) || not (int_lt x (saturate_signed w32 (high -ℤ pos 1))))
unfolding is_end
end_is low x high near far l m = grind (arith, ints, clamps)

any_side : (a b c d : Bool) → ((((not a && b) && not c) && not d) || (((not a && b) && c) || ((not a && not b) || a))) ≡ ((c || not d) || (a || not b))
any_side true b true d = refl
any_side true b false true = refl
any_side true b false false = refl
any_side false true true d = refl
any_side false true false true = refl
any_side false true false false = refl
any_side false false true d = refl
any_side false false false true = refl
any_side false false false false = refl

sides_table : (R E a b c d : Bool) → (R ≡ true → E ≡ ((c || not d) || (a || not b)))
    → (((((R && not a) && b) && not c) && not d) || ((((R && not a) && b) && c) || (((R && not a) && not b) || (R && a)))) ≡ (R && E)
sides_table false E a b c d f = refl
sides_table true E a b c d f = any_side a b c d ∙ sym (f refl)

-- the sides together have the pixels of the frame
together : (r : Rect) (t b l m : ℤ) (p : Point) → IsNear r → t ≡ saturate_signed w32 (r.top +ℤ pos 1) → b ≡ saturate_signed w32 (r.bottom -ℤ pos 1) → l ≡ saturate_signed w32 (r.left +ℤ pos 1) → m ≡ saturate_signed w32 (r.right -ℤ pos 1)
    → (((((rect_holds r p && not (int_lt p.v t)) && int_lt p.v b) && not (int_lt p.h l)) && not (int_lt p.h m)) || ((((rect_holds r p && not (int_lt p.v t)) && int_lt p.v b) && int_lt p.h l) || (((rect_holds r p && not (int_lt p.v t)) && not (int_lt p.v b)) || (rect_holds r p && int_lt p.v t)))) ≡ frame_holds r p
together r t b l m p near is_t is_b is_l is_m =
    sides_table (rect_holds r p) (is_end r.left p.h r.right || is_end r.top p.v r.bottom) (int_lt p.v t) (int_lt p.v b) (int_lt p.h l) (int_lt p.h m) ends
  where
    ends : rect_holds r p ≡ true → (is_end r.left p.h r.right || is_end r.top p.v r.bottom) ≡ ((int_lt p.h l || not (int_lt p.h m)) || (int_lt p.v t || not (int_lt p.v b)))
    ends held =
        let s = sides_of r p held in
        (λ i. end_is r.left p.h r.right near.left near.right s.left s.right i || end_is r.top p.v r.bottom near.top near.bottom s.top s.bottom i)
        ∙ (λ i. (int_lt p.h (sym is_l i) || not (int_lt p.h (sym is_m i))) || (int_lt p.v (sym is_t i) || not (int_lt p.v (sym is_b i))))

-- the rectangles into which r is cut at the rows t and b and at the columns l and m
pub record AreCut (r top below between bottom left beside right : Rect) (t b l m : ℤ) : Type 0 where
  pub top_is : (p : Point) → rect_holds top p ≡ (rect_holds r p && int_lt p.v t)
  pub below_is : (p : Point) → rect_holds below p ≡ (rect_holds r p && not (int_lt p.v t))
  pub between_is : (p : Point) → rect_holds between p ≡ (rect_holds below p && int_lt p.v b)
  pub bottom_is : (p : Point) → rect_holds bottom p ≡ (rect_holds below p && not (int_lt p.v b))
  pub left_is : (p : Point) → rect_holds left p ≡ (rect_holds between p && int_lt p.h l)
  pub beside_is : (p : Point) → rect_holds beside p ≡ (rect_holds between p && not (int_lt p.h l))
  pub right_is : (p : Point) → rect_holds right p ≡ (rect_holds beside p && not (int_lt p.h m))

module _ {r top below between bottom left beside right : Rect} {t b l m : ℤ} where
  bottom_holds : AreCut r top below between bottom left beside right t b l m → (p : Point) → rect_holds bottom p ≡ ((rect_holds r p && not (int_lt p.v t)) && not (int_lt p.v b))
  bottom_holds cut p = cut.bottom_is p ∙ ap (λ k. k && not (int_lt p.v b)) (cut.below_is p)

  between_holds : AreCut r top below between bottom left beside right t b l m → (p : Point) → rect_holds between p ≡ ((rect_holds r p && not (int_lt p.v t)) && int_lt p.v b)
  between_holds cut p = cut.between_is p ∙ ap (λ k. k && int_lt p.v b) (cut.below_is p)

  left_holds : AreCut r top below between bottom left beside right t b l m → (p : Point) → rect_holds left p ≡ (((rect_holds r p && not (int_lt p.v t)) && int_lt p.v b) && int_lt p.h l)
  left_holds cut p = cut.left_is p ∙ ap (λ k. k && int_lt p.h l) (between_holds cut p)

  right_holds : AreCut r top below between bottom left beside right t b l m → (p : Point) → rect_holds right p ≡ ((((rect_holds r p && not (int_lt p.v t)) && int_lt p.v b) && not (int_lt p.h l)) && not (int_lt p.h m))
  right_holds cut p = cut.right_is p ∙ ap (λ k. k && not (int_lt p.h m)) (cut.beside_is p ∙ ap (λ k. k && not (int_lt p.h l)) (between_holds cut p))

  pub bottom_alone : AreCut r top below between bottom left beside right t b l m → (p : Point) → rect_holds bottom p ≡ true → rect_holds top p ≡ false
  bottom_alone cut p e = cut.top_is p ∙ bottom_apart (rect_holds r p) (int_lt p.v t) (int_lt p.v b) (sym (bottom_holds cut p) ∙ e)

  pub left_alone : AreCut r top below between bottom left beside right t b l m → (p : Point) → rect_holds left p ≡ true → (rect_holds bottom p || rect_holds top p) ≡ false
  left_alone cut p e = (λ i. bottom_holds cut p i || cut.top_is p i) ∙ left_apart (rect_holds r p) (int_lt p.v t) (int_lt p.v b) (int_lt p.h l) (sym (left_holds cut p) ∙ e)

  pub right_alone : AreCut r top below between bottom left beside right t b l m → (p : Point) → rect_holds right p ≡ true → (rect_holds left p || (rect_holds bottom p || rect_holds top p)) ≡ false
  right_alone cut p e = (λ i. left_holds cut p i || (bottom_holds cut p i || cut.top_is p i)) ∙ right_apart (rect_holds r p) (int_lt p.v t) (int_lt p.v b) (int_lt p.h l) (int_lt p.h m) (sym (right_holds cut p) ∙ e)

  pub frame_whole : AreCut r top below between bottom left beside right t b l m → IsNear r → t ≡ saturate_signed w32 (r.top +ℤ pos 1) → b ≡ saturate_signed w32 (r.bottom -ℤ pos 1) → l ≡ saturate_signed w32 (r.left +ℤ pos 1) → m ≡ saturate_signed w32 (r.right -ℤ pos 1)
      → (p : Point) → (rect_holds right p || (rect_holds left p || (rect_holds bottom p || rect_holds top p))) ≡ frame_holds r p
  frame_whole cut near is_t is_b is_l is_m p = (λ i. right_holds cut p i || (left_holds cut p i || (bottom_holds cut p i || cut.top_is p i))) ∙ together r t b l m p near is_t is_b is_l is_m

-- ---- one side after another

-- on a canvas of the same frame a rectangle is drawn at the same pixels, and alike
same_part : (old mid : Canvas) (u : PixelSet) (value : Point → Bool → Bool) (r : Rect) (a b : Bits) → SameFrame old mid
    → Draws (λ p. canvas_holds mid p && (u (canvas_point mid p) && rect_holds r (canvas_point mid p))) (λ p d. value (canvas_point mid p) d) a b
    → Draws (λ p. canvas_holds old p && (u (canvas_point old p) && rect_holds r (canvas_point old p))) (λ p d. value (canvas_point old p) d) a b
same_part old mid u value r a b f drawn =
    Draws-same _ _ _ _ a b (λ p d on. λ i. cond ((rect_holds (f.clip i) p && cut_holds ((f.cut i).now) p) && (u (minus p (f.origin i)) && rect_holds r (minus p (f.origin i)))) (value (minus p (f.origin i)) d) d) drawn

-- a rectangle that shares no pixel with what was drawn
pub more_part : (old mid : Canvas) (u : PixelSet) (value : Point → Bool → Bool) (s : PixelSet) (r : Rect) (a b c : Bits) → SameFrame old mid
    → ((q : Point) → rect_holds r q ≡ true → s q ≡ false)
    → Draws (λ p. canvas_holds old p && (u (canvas_point old p) && s (canvas_point old p))) (λ p d. value (canvas_point old p) d) a b
    → Draws (λ p. canvas_holds mid p && (u (canvas_point mid p) && rect_holds r (canvas_point mid p))) (λ p d. value (canvas_point mid p) d) b c
    → Draws (λ p. canvas_holds old p && (u (canvas_point old p) && (rect_holds r (canvas_point old p) || s (canvas_point old p)))) (λ p d. value (canvas_point old p) d) a c
more_part old mid u value s r a b c frame apart first second =
    Draws-more _ _ _ (λ p d. value (canvas_point old p) d) a b c
    (λ p e. none (canvas_holds old p) (u (canvas_point old p)) (rect_holds r (canvas_point old p)) (s (canvas_point old p)) (apart (canvas_point old p)) e)
    (λ p. split (canvas_holds old p) (u (canvas_point old p)) (rect_holds r (canvas_point old p)) (s (canvas_point old p)))
    first (same_part old mid u value r b c frame second)
  where
    none : (k u t s : Bool) → (t ≡ true → s ≡ false) → (k && (u && t)) ≡ true → (k && (u && s)) ≡ false
    none true true t s f e = f e
    none true false t s f e = refl
    none false u t s f e = refl

    split : (k u t s : Bool) → (k && (u && (t || s))) ≡ ((k && (u && t)) || (k && (u && s)))
    split true true t s = refl
    split true false t s = refl
    split false u t s = refl

-- the same pixels by another test
pub same_clipped : (c : Canvas) (u : PixelSet) (value : Point → Bool → Bool) (s t : PixelSet) (a b : Bits)
    → ((q : Point) → s q ≡ t q)
    → Draws (λ p. canvas_holds c p && (u (canvas_point c p) && s (canvas_point c p))) (λ p d. value (canvas_point c p) d) a b
    → Draws (λ p. canvas_holds c p && (u (canvas_point c p) && t (canvas_point c p))) (λ p d. value (canvas_point c p) d) a b
same_clipped c u value s t a b same drawn = Draws-where _ _ _ a b (λ p on. ap (λ x. canvas_holds c p && (u (canvas_point c p) && x)) (same (canvas_point c p))) drawn
