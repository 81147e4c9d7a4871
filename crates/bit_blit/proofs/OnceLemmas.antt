-- Drawings that write each of their pixels once: one after another, and pixel by pixel.
use Rattle.std.proofs.Common.{◌≡◌, ◌+◌, ℕ, Bool, true, false, cond, ◌||◌, refl, sym, ap, ◌∙◌}
use Rattle.tb_geom.specs.declared.point.Point.{Point}
use Rattle.tb_geom.specs.Points.{PixelSet}
use Rattle.bit_map.specs.Bits.{Bits, on_map, bit, count}
use Rattle.bit_map.proofs.BitsLemmas.{on_map-same}
use Rattle.bit_blit.specs.Draws.{DrawsOnce}

-- a pixel of the map after a drawing and before it are on the map alike
pub Once-on_map : (holds : PixelSet) (f : Point → Bool → Bool) (a b : Bits) → DrawsOnce holds f a b → (p : Point) → on_map b p ≡ on_map a p
Once-on_map holds f a b drawn p = on_map-same a b p drawn.width drawn.height

-- a drawing that says each bit and each number, also off the map
pub Once-of : (holds : PixelSet) (f : Point → Bool → Bool) (a b : Bits) → ((x : Point) → bit b x ≡ cond (holds x) (f x (bit a x)) (bit a x))
    → ((x : Point) → count b x ≡ cond (holds x) (count a x + 1) (count a x)) → b.width ≡ a.width → b.height ≡ a.height → DrawsOnce holds f a b
Once-of holds f a b bits counts width height = record { pixels = λ x on. bits x; width = width; height = height; once = λ x on. counts x }

-- the same pixels by another test
pub Once-where : (p q : PixelSet) (f : Point → Bool → Bool) (a b : Bits) → ((x : Point) → on_map a x ≡ true → p x ≡ q x) → DrawsOnce p f a b → DrawsOnce q f a b
Once-where p q f a b same drawn = record {
  pixels = λ x on. drawn.pixels x on ∙ ap (λ t. cond t (f x (bit a x)) (bit a x)) (same x on);
  width = drawn.width;
  height = drawn.height;
  once = λ x on. drawn.once x on ∙ ap (λ t. cond t (count a x + 1) (count a x)) (same x on);
}

-- a drawing that has no pixel of the map changes nothing
pub Once-none : (p : PixelSet) (f : Point → Bool → Bool) (a : Bits) → ((x : Point) → on_map a x ≡ true → p x ≡ false) → DrawsOnce p f a a
Once-none p f a none = record {
  pixels = λ x on. ap (λ t. cond t (f x (bit a x)) (bit a x)) (sym (none x on));
  width = refl;
  height = refl;
  once = λ x on. ap (λ t. cond t (count a x + 1) (count a x)) (sym (none x on));
}

both : (p q r : Bool) (f : Bool → Bool) (d : Bool) → (q ≡ true → p ≡ false) → r ≡ (q || p) → cond q (f (cond p (f d) d)) (cond p (f d) d) ≡ cond r (f d) d
both p true r f d apart e = rw (e, apart refl)
both p false r f d apart e = rw e

-- the number of a pixel that one of two drawings has, which are apart
pub once_more : (p q r : Bool) (k m n : ℕ) → (q ≡ true → p ≡ false) → r ≡ (q || p) → m ≡ cond p (k + 1) k → n ≡ cond q (m + 1) m → n ≡ cond r (k + 1) k
once_more p true r k m n apart e first second = second ∙ ap (λ t. t + 1) (first ∙ ap (λ t. cond t (k + 1) k) (apart refl)) ∙ ap (λ t. cond t (k + 1) k) (sym e)
once_more p false r k m n apart e first second = second ∙ first ∙ ap (λ t. cond t (k + 1) k) (sym e)

-- a drawing of further pixels, apart from those before
pub Once-more : (p q r : PixelSet) (f : Point → Bool → Bool) (a b c : Bits)
    → ((x : Point) → q x ≡ true → p x ≡ false)
    → ((x : Point) → r x ≡ (q x || p x))
    → DrawsOnce p f a b → DrawsOnce q f b c → DrawsOnce r f a c
Once-more p q r f a b c apart e first second = record {
  pixels = λ x on. second.pixels x (Once-on_map p f a b first x ∙ on) ∙ ap (λ d. cond (q x) (f x d) d) (first.pixels x on) ∙ both (p x) (q x) (r x) (f x) (bit a x) (apart x) (e x);
  width = second.width ∙ first.width;
  height = second.height ∙ first.height;
  once = λ x on. once_more (p x) (q x) (r x) (count a x) (count b x) (count c x) (apart x) (e x) (first.once x on) (second.once x (Once-on_map p f a b first x ∙ on));
}
