-- How often pixels were written, one drawing after another.
use Rattle.std.proofs.Common.{◌≡◌, ◌≢◌, ℕ, ◌+◌, ◌<◌, ◌≤◌, ◌⊎◌, inl, inr, Bool, true, false, cond, ◌&&◌, Some, refl, ◌∙◌, arith}
use Rattle.tb_geom.specs.declared.point.Point.{Point}
use Rattle.tb_geom.specs.Points.{PixelSet, minus}
use Rattle.tb_geom.specs.Pixels.{Pixels, holds}
use Rattle.bit_map.specs.Bits.{Bits, on_map, bit, count}
use Rattle.bit_blit.specs.Draws.{DrawsOnce, IsWritten}
use Rattle.bit_blit.specs.Shifts.{shift_holds, shifted}
use Rattle.bit_blit.proofs.WrittenLemmas.{written_once}
use Rattle.window_paint.specs.Writes.{IsWrittenBy, one, nowhere, arrives}

-- a drawing that writes each of its pixels once
pub by_once : (holds : PixelSet) (f : Point → Bool → Bool) (times : Point → ℕ) (a b : Bits) → ((p : Point) → holds p ≡ true → 1 ≤ times p) → DrawsOnce holds f a b → IsWrittenBy times nowhere a b
by_once holds f times a b enough drawn = let written = written_once holds f a b drawn in record {
  at_most = λ p on _. at_most (holds p) (count a p) (count b p) (times p) (enough p) (drawn.once p on);
  rises = written.rises;
  changed = written.changed;
}
  where
    at_most : (t : Bool) (m n k : ℕ) → (t ≡ true → 1 ≤ k) → n ≡ cond t (m + 1) m → n ≤ m + k
    at_most true m n k e is = let low = e refl in omega (arith, is)
    at_most false m n k e is = omega (arith, is)

-- a drawing of pixels that may be written more often
pub by_often : (often : PixelSet) (a b : Bits) → IsWritten often a b → IsWrittenBy (λ p. 0) often a b
by_often often a b written = record {
  at_most = λ p on out. let same = written.outside p on out in omega (arith, same);
  rises = written.rises;
  changed = written.changed;
}

pub by_nothing : (times : Point → ℕ) (often : PixelSet) (a : Bits) → IsWrittenBy times often a a
by_nothing times often a = record { at_most = λ p on out. omega arith; rises = λ p on. omega arith; changed = λ p on ne. absurd (ne refl) }

-- a bit that changed in the end changed at first or later
changed_when : (s t u : Bool) → u ≢ s → (t ≢ s) ⊎ (u ≢ t)
changed_when true true u ne = inr ne
changed_when true false u ne = inl (λ e. absurd (cc e))
changed_when false false u ne = inr ne
changed_when false true u ne = inl (λ e. absurd (cc e))

-- one drawing after another
pub by_over : (t u v : Point → ℕ) (f g h : PixelSet) (a b c : Bits) → ((p : Point) → on_map b p ≡ on_map a p)
    → ((p : Point) → h p ≡ false → (f p ≡ false) × (g p ≡ false)) → ((p : Point) → t p + u p ≤ v p)
    → IsWrittenBy t f a b → IsWrittenBy u g b c → IsWrittenBy v h a c
by_over t u v f g h a b c same wider enough first second = record {
  at_most = λ p on out. omega (arith, first.at_most p on (wider p out).0, second.at_most p (same p ∙ on) (wider p out).1, enough p);
  rises = λ p on. omega (arith, first.rises p on, second.rises p (same p ∙ on));
  changed = λ p on ne. grows p on (changed_when (bit a p) (bit b p) (bit c p) ne);
}
  where
    grows : (p : Point) → on_map a p ≡ true → (bit b p ≢ bit a p) ⊎ (bit c p ≢ bit b p) → count a p < count c p
    grows p on (inl ne) = omega (arith, first.changed p on ne, second.rises p (same p ∙ on))
    grows p on (inr ne) = omega (arith, first.rises p on, second.changed p (same p ∙ on) ne)

one_low : (b : Bool) → b ≡ true → 1 ≤ one b
one_low true e = omega arith
one_low false e = absurd (cc e)

and_first : (a b : Bool) → (a && b) ≡ true → a ≡ true
and_first true b e = refl
and_first false b e = absurd (cc e)

-- pixels that arrive are written once
pub shift_written : (arriving : Pixels) (by : Point) (a b : Bits) → DrawsOnce (shift_holds a (holds arriving) by) (shifted a by) a b → IsWrittenBy (arrives arriving (Some by)) nowhere a b
shift_written arriving by a b drawn =
    by_once (shift_holds a (holds arriving) by) (shifted a by) (arrives arriving (Some by)) a b (λ p e. one_low (holds arriving p) (and_first (holds arriving p) (on_map a (minus p by)) e)) drawn

-- so are those of a region
pub region_written : (region : Pixels) (f : Point → Bool → Bool) (a b : Bits) → DrawsOnce (holds region) f a b → IsWrittenBy (λ p. one (holds region p)) nowhere a b
region_written region f a b drawn = by_once (holds region) f (λ p. one (holds region p)) a b (λ p e. one_low (holds region p) e) drawn

-- white where content is new, and a frame drawn over that
pub anew_written : (new frame : Pixels) (f : Point → Bool → Bool) (a b c : Bits) → DrawsOnce (holds new) f a b → IsWritten (holds frame) b c → ((p : Point) → on_map b p ≡ on_map a p)
    → IsWrittenBy (λ p. one (holds new p)) (holds frame) a c
anew_written new frame f a b c filled drawn same =
    by_over (λ p. one (holds new p)) (λ p. 0) (λ p. one (holds new p)) nowhere (holds frame) (holds frame) a b c same (λ p out. (refl, out)) (λ p. omega arith)
    (region_written new f a b filled) (by_often (holds frame) b c drawn)
