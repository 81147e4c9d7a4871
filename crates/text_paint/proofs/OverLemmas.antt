-- One drawing on a canvas over another.
use Rattle.std.proofs.Common.{◌≡◌, ℕ, Bool, true, false, cond, ◌&&◌, List, refl, ap, ◌∙◌}
use Rattle.tb_geom.specs.declared.point.Point.{Point}
use Rattle.tb_geom.specs.Points.{PixelSet, minus}
use Rattle.tb_geom.specs.Rects.{rect_holds}
use Rattle.tb_geom.specs.declared.rect.Rect.{Rect}
use Rattle.bit_map.specs.Bits.{Bits}
use Rattle.bit_blit.specs.Draws.{Draws}
use Rattle.bit_blit.proofs.DrawsLemmas.{Draws-over, Draws-where, Draws-same}
use Rattle.scan_region.specs.Cuts.{cut_holds}
use Rattle.draw_port.specs.Canvases.{canvas_holds, canvas_point, SameFrame}
use Rattle.draw_port.specs.declared.canvas.Canvas.{Canvas}

-- nothing drawn leaves every bit
pub drawn_not : (holds : PixelSet) (a : Bits) → Draws holds (λ p x. x) a a
drawn_not holds a = record { pixels = λ p on. kept (holds p) _; width = refl; height = refl }
  where
    kept : (t d : Bool) → d ≡ cond t d d
    kept true d = refl
    kept false d = refl

-- what is drawn on a part of a canvas, over what was drawn on all of it
pub part_over : (c d : Canvas) (part : List ℕ → PixelSet) (g : List ℕ → Point → Bool → Bool) (f : List ℕ → Point → Bool → Bool) (first middle last : Bits)
    → SameFrame c d
    → Draws (canvas_holds c) (λ p x. f c.font.now (canvas_point c p) x) first middle
    → Draws (λ p. canvas_holds d p && part d.font.now (canvas_point d p)) (λ p x. g d.font.now (canvas_point d p) x) middle last
    → Draws (canvas_holds c) (λ p x. cond (part c.font.now (canvas_point c p)) (g c.font.now (canvas_point c p) (f c.font.now (canvas_point c p) x)) (f c.font.now (canvas_point c p) x)) first last
part_over c d part g f first middle last same drawn over =
    Draws-over (canvas_holds c) (λ p. canvas_holds c p && part c.font.now (canvas_point c p)) (canvas_holds c) _ (λ p x. g c.font.now (canvas_point c p) x) _ first middle last
    (λ p x on. by_test p x (canvas_holds c p))
    drawn
    (Draws-same _ _ _ _ middle last (λ p x on. same_pixel p x) over)
  where
    same_pixel : (p : Point) (x : Bool) → cond (canvas_holds d p && part d.font.now (canvas_point d p)) (g d.font.now (canvas_point d p) x) x ≡ cond (canvas_holds c p && part c.font.now (canvas_point c p)) (g c.font.now (canvas_point c p) x) x
    same_pixel p x = λ i. cond ((rect_holds (same.clip i) p && cut_holds ((same.cut i).now) p) && part ((same.font i).now) (minus p (same.origin i))) (g ((same.font i).now) (minus p (same.origin i)) x) x

    by_test : (p : Point) (x held : Bool)
        → cond (held && part c.font.now (canvas_point c p)) (g c.font.now (canvas_point c p) (cond held (f c.font.now (canvas_point c p) x) x)) (cond held (f c.font.now (canvas_point c p) x) x)
        ≡ cond held (cond (part c.font.now (canvas_point c p)) (g c.font.now (canvas_point c p) (f c.font.now (canvas_point c p) x)) (f c.font.now (canvas_point c p) x)) x
    by_test p x true = refl
    by_test p x false = refl

-- what is drawn on all of a canvas, over what was drawn on all of it
pub all_over : (c d : Canvas) (f g : List ℕ → Point → Bool → Bool) (first middle last : Bits) → SameFrame c d
    → Draws (canvas_holds c) (λ p x. f c.font.now (canvas_point c p) x) first middle
    → Draws (canvas_holds d) (λ p x. g d.font.now (canvas_point d p) x) middle last
    → Draws (canvas_holds c) (λ p x. g c.font.now (canvas_point c p) (f c.font.now (canvas_point c p) x)) first last
all_over c d f g first middle last same drawn over =
    Draws-over (canvas_holds c) (canvas_holds c) (canvas_holds c) _ (λ p x. g c.font.now (canvas_point c p) x) _ first middle last
    (λ p x on. by_test p x (canvas_holds c p))
    drawn
    (Draws-same _ _ _ _ middle last (λ p x on i. cond (rect_holds (same.clip i) p && cut_holds ((same.cut i).now) p) (g ((same.font i).now) (minus p (same.origin i)) x) x) over)
  where
    by_test : (p : Point) (x held : Bool)
        → cond held (g c.font.now (canvas_point c p) (cond held (f c.font.now (canvas_point c p) x) x)) (cond held (f c.font.now (canvas_point c p) x) x)
        ≡ cond held (g c.font.now (canvas_point c p) (f c.font.now (canvas_point c p) x)) x
    by_test p x true = refl
    by_test p x false = refl

turned : (a b t : Bool) → ((a && b) && t) ≡ ((a && t) && b)
turned true b true = ends b
  where
    ends : (b : Bool) → (b && true) ≡ b
    ends true = refl
    ends false = refl
turned true b false = ends b
  where
    ends : (b : Bool) → (b && false) ≡ false
    ends true = refl
    ends false = refl
turned false b t = refl

-- a drawing on a canvas whose clip is what a rectangle has of this one's draws the rectangle's pixels of this one
pub placed_over : (c : Canvas) (clip rect : Rect) (f : Point → Bool → Bool) (first last : Bits)
    → ((p : Point) → rect_holds clip p ≡ (rect_holds c.clip p && rect_holds rect (canvas_point c p)))
    → Draws (λ p. rect_holds clip p && cut_holds c.cut.now p) f first last
    → Draws (λ p. canvas_holds c p && rect_holds rect (canvas_point c p)) f first last
placed_over c clip rect f first last shared drawn =
    Draws-where _ _ f first last (λ p on. ap (λ t. t && cut_holds c.cut.now p) (shared p) ∙ turned (rect_holds c.clip p) (rect_holds rect (canvas_point c p)) (cut_holds c.cut.now p)) drawn
