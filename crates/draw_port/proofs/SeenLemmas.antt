-- Runs as seen from an origin.
use Rattle.std.proofs.Common.{◌≡◌, ℕ, ◌<◌, ◌≤◌, ℤ, pos, ◌+ℤ◌, ◌-ℤ◌, ◌*◌, Bool, List, length, sym, ap, ◌∙◌, arith, SFits, w32}
use Rattle.std.specs.Int.{saturate_signed}
use Rattle.std.proofs.lemmas.Int.{ints, clamps}
use Rattle.tb_geom.specs.declared.point.Point.{Point}
use Rattle.bit_map.specs.Rules.{IsRuled, IsRuledWord}
use Rattle.bit_map.specs.Words.{bit_in, place_bit}
use Rattle.draw_port.specs.Places.{stopped, IsSeenRun}

kept : (x o h : ℤ) (k count : ℕ) → SFits w32 h → SFits w32 (h +ℤ pos count) → h ≡ x -ℤ o → k < count → saturate_signed w32 ((x +ℤ pos k) -ℤ o) ≡ h +ℤ pos k
kept x o h k count low high e l =
    let a = low.sfits in
    let b = high.sfits in
    grind (arith, ints, clamps)

-- a run whose first column and the one past its last are numbers of 32 bits is seen whole
pub seen_run : (origin start : Point) (count : ℕ) (h v : ℤ) → count ≤ 2147483647 → SFits w32 h → SFits w32 (h +ℤ pos count) → h ≡ start.h -ℤ origin.h → v ≡ saturate_signed w32 (start.v -ℤ origin.v) → IsSeenRun origin start count (record { h = h; v = v })
seen_run origin start count h v short low high eh ev = record {
  columns = record { short = short; near = let b = high.sfits in grind (arith, ints) };
  each = λ k l. λ i. record { h = kept start.h origin.h h k count low high eh l i; v = sym ev i };
}

-- a rule that is asked for a word of a run that is seen is asked as seen
pub word_as_seen : (value : Point → Bool → Bool) (origin start seen : Point) (count old new : ℕ) → IsSeenRun origin start count seen → IsRuledWord value seen count old new → IsRuledWord (λ p d. value (stopped p origin) d) start count old new
word_as_seen value origin start seen count old new run ruled = λ k l. ruled k l ∙ sym (ap (λ p. value p (bit_in old k)) (run.each k l))

-- and one that is applied to words
pub ruled_as_seen : (value : Point → Bool → Bool) (origin start seen : Point) (count : ℕ) (old new : List ℕ) → count ≡ 64 * length old → IsSeenRun origin start count seen → IsRuled value seen old new → IsRuled (λ p d. value (stopped p origin) d) start old new
ruled_as_seen value origin start seen count old new e run ruled = record {
  all = ruled.all;
  each = λ k l. ruled.each k l ∙ sym (ap (λ p. value p (place_bit old k)) (run.each k (omega (arith, e, l))));
}
