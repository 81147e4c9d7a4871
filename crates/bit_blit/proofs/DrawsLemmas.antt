-- One drawing after another, and drawings pixel by pixel.
use Rattle.std.proofs.Common.{◌≡◌, Bool, true, false, cond, ◌||◌, refl, sym, ap, ◌∙◌}
use Rattle.tb_geom.specs.declared.point.Point.{Point}
use Rattle.tb_geom.specs.Points.{PixelSet}
use Rattle.bit_map.specs.Bits.{Bits, on_map, bit}
use Rattle.bit_map.proofs.BitsLemmas.{on_map-same}
use Rattle.bit_blit.specs.Draws.{Draws, DrawsOnce}

-- a pixel of the map after a drawing and before it are on the map alike
pub Draws-on_map : (holds : PixelSet) (f : Point → Bool → Bool) (a b : Bits) → Draws holds f a b → (p : Point) → on_map b p ≡ on_map a p
Draws-on_map holds f a b drawn p = on_map-same a b p drawn.width drawn.height

-- a drawing that writes each of its pixels once
pub Draws-once : (holds : PixelSet) (f : Point → Bool → Bool) (a b : Bits) → DrawsOnce holds f a b → Draws holds f a b
Draws-once holds f a b drawn = record { pixels = drawn.pixels; width = drawn.width; height = drawn.height }

-- a second drawing over a first is one drawing
pub Draws-over : (p q r : PixelSet) (f g e : Point → Bool → Bool) (a b c : Bits)
    → ((x : Point) (d : Bool) → on_map a x ≡ true → cond (q x) (g x (cond (p x) (f x d) d)) (cond (p x) (f x d) d) ≡ cond (r x) (e x d) d)
    → Draws p f a b → Draws q g b c → Draws r e a c
Draws-over p q r f g e a b c one first second = record {
  pixels = λ x on. second.pixels x (Draws-on_map p f a b first x ∙ on) ∙ ap (λ d. cond (q x) (g x d) d) (first.pixels x on) ∙ one x (bit a x) on;
  width = second.width ∙ first.width;
  height = second.height ∙ first.height;
}

-- the same drawing by other pixels and values that are the same on the map
pub Draws-same : (p q : PixelSet) (f g : Point → Bool → Bool) (a b : Bits)
    → ((x : Point) (d : Bool) → on_map a x ≡ true → cond (p x) (f x d) d ≡ cond (q x) (g x d) d)
    → Draws p f a b → Draws q g a b
Draws-same p q f g a b same drawn = record {
  pixels = λ x on. drawn.pixels x on ∙ same x (bit a x) on;
  width = drawn.width;
  height = drawn.height;
}

-- the same pixels by another test
pub Draws-where : (p q : PixelSet) (f : Point → Bool → Bool) (a b : Bits) → ((x : Point) → on_map a x ≡ true → p x ≡ q x) → Draws p f a b → Draws q f a b
Draws-where p q f a b same drawn = Draws-same p q f f a b (λ x d on. ap (λ t. cond t (f x d) d) (same x on)) drawn

-- the same values by another function
pub Draws-value : (p : PixelSet) (f g : Point → Bool → Bool) (a b : Bits) → ((x : Point) (d : Bool) → f x d ≡ g x d) → Draws p f a b → Draws p g a b
Draws-value p f g a b same drawn = Draws-same p p f g a b (λ x d on. ap (λ t. cond (p x) t d) (same x d)) drawn

-- a drawing that has no pixel of the map changes nothing
pub Draws-none : (p : PixelSet) (f : Point → Bool → Bool) (a : Bits) → ((x : Point) → on_map a x ≡ true → p x ≡ false) → Draws p f a a
Draws-none p f a none = record {
  pixels = λ x on. ap (λ t. cond t (f x (bit a x)) (bit a x)) (sym (none x on));
  width = refl;
  height = refl;
}

both : (p q r : Bool) (f : Bool → Bool) (d : Bool) → (q ≡ true → p ≡ false) → r ≡ (q || p) → cond q (f (cond p (f d) d)) (cond p (f d) d) ≡ cond r (f d) d
both p true r f d apart e = rw (e, apart refl)
both p false r f d apart e = rw e

-- a drawing of further pixels, apart from those before
pub Draws-more : (p q r : PixelSet) (f : Point → Bool → Bool) (a b c : Bits)
    → ((x : Point) → q x ≡ true → p x ≡ false)
    → ((x : Point) → r x ≡ (q x || p x))
    → Draws p f a b → Draws q f b c → Draws r f a c
Draws-more p q r f a b c apart e first second =
    Draws-over p q r f f f a b c (λ x d on. both (p x) (q x) (r x) (f x) d (apart x) (e x)) first second
