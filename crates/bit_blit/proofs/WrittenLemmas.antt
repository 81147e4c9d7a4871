-- What was written on a map, and how often.
use Rattle.std.proofs.Common.{◌≡◌, ◌≢◌, ◌+◌, ◌<◌, ◌≤◌, ℕ, ◌⊎◌, inl, inr, Bool, true, false, cond, refl, ap, ◌∙◌, arith}
use Rattle.tb_geom.specs.declared.point.Point.{Point}
use Rattle.tb_geom.specs.Points.{PixelSet}
use Rattle.bit_map.specs.Bits.{Bits, on_map, bit, count}
use Rattle.bit_blit.specs.Draws.{DrawsOnce, IsWritten}

-- a bit that changed in the end changed at first or later
changed_when : (s t u : Bool) → u ≢ s → (t ≢ s) ⊎ (u ≢ t)
changed_when true true u ne = inr ne
changed_when true false u ne = inl (λ e. absurd (cc e))
changed_when false false u ne = inr ne
changed_when false true u ne = inl (λ e. absurd (cc e))

-- what was written before and later was written
pub written_over : (p q r : PixelSet) (a b c : Bits) → ((x : Point) → on_map b x ≡ on_map a x)
    → ((x : Point) → on_map a x ≡ true → r x ≡ false → (p x ≡ false) × (q x ≡ false))
    → IsWritten p a b → IsWritten q b c → IsWritten r a c
written_over p q r a b c same wider first second = record {
  outside = λ x on out. second.outside x (same x ∙ on) (wider x on out).1 ∙ first.outside x on (wider x on out).0;
  rises = λ x on. omega (arith, first.rises x on, second.rises x (same x ∙ on));
  changed = λ x on ne. grows x on (changed_when (bit a x) (bit b x) (bit c x) ne);
}
  where
    grows : (x : Point) → on_map a x ≡ true → (bit b x ≢ bit a x) ⊎ (bit c x ≢ bit b x) → count a x < count c x
    grows x on (inl ne) = omega (arith, first.changed x on ne, second.rises x (same x ∙ on))
    grows x on (inr ne) = omega (arith, first.rises x on, second.changed x (same x ∙ on) ne)

-- and it lies in a larger set
pub written_in : (p q : PixelSet) (a b : Bits) → ((x : Point) → on_map a x ≡ true → q x ≡ false → p x ≡ false) → IsWritten p a b → IsWritten q a b
written_in p q a b wider written = record { outside = λ x on out. written.outside x on (wider x on out); rises = written.rises; changed = written.changed }

-- nothing was written
pub written_none : (p : PixelSet) (a : Bits) → IsWritten p a a
written_none p a = record { outside = λ x on out. refl; rises = λ x on. omega arith; changed = λ x on ne. absurd (ne refl) }

-- a drawing that writes each of its pixels once
pub written_once : (holds : PixelSet) (f : Point → Bool → Bool) (a b : Bits) → DrawsOnce holds f a b → IsWritten holds a b
written_once holds f a b drawn = record {
  outside = λ x on out. drawn.once x on ∙ ap (λ t. cond t (count a x + 1) (count a x)) out;
  rises = λ x on. rises (holds x) (count a x) (count b x) (drawn.once x on);
  changed = λ x on ne. grows (holds x) (count a x) (count b x) (f x (bit a x)) (bit a x) (bit b x) (drawn.pixels x on) (drawn.once x on) ne;
}
  where
    rises : (t : Bool) (m n : ℕ) → n ≡ cond t (m + 1) m → m ≤ n
    rises true m n e = omega (arith, e)
    rises false m n e = omega (arith, e)

    grows : (t : Bool) (m n : ℕ) (v d w : Bool) → w ≡ cond t v d → n ≡ cond t (m + 1) m → w ≢ d → m < n
    grows true m n v d w e is ne = omega (arith, is)
    grows false m n v d w e is ne = absurd (ne e)
