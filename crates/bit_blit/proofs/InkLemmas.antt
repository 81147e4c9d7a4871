-- A pattern with its origin elsewhere, along a run.
use Rattle.std.proofs.Common.{◌≡◌, ℕ, ◌+◌, ◌%◌, ℤ, pos, ◌+ℤ◌, ◌-ℤ◌, Bool, true, false, not, refl, sym, ap, ◌∙◌, arith}
use Rattle.std.proofs.lemmas.Int.{ints}
use Rattle.tb_geom.specs.declared.point.Point.{Point}
use Rattle.tb_geom.specs.Points.{minus}
use Rattle.bit_map.specs.declared.pattern.Pattern.{Pattern}
use Rattle.std.specs.Prelude.{slice_index}
use Rattle.bit_map.specs.Patterns.{bit_of, eighth_of, pattern_bit}
use Rattle.bit_map.specs.Rules.{right_of, effect_bit}
use Rattle.bit_map.proofs.PatternLemmas.{eighth-after}

moved : (x o : ℤ) (k : ℕ) → ((x -ℤ o) +ℤ pos k) ≡ ((x +ℤ pos k) -ℤ o)
moved x o k = omega (arith, ints)

-- numbers with one remainder have one further on
eighth-further : (x y o : ℤ) (k : ℕ) → eighth_of x ≡ eighth_of (y -ℤ o) → eighth_of (x +ℤ pos k) ≡ eighth_of ((y +ℤ pos k) -ℤ o)
eighth-further x y o k e = sym (eighth-after x k) ∙ ap (λ n. (n + k % 8) % 8) e ∙ eighth-after (y -ℤ o) k ∙ ap eighth_of (moved y o k)

-- the pattern from a point near its origin, k columns to the right, is the pattern with its origin elsewhere
pub pattern-moved : (pattern : Pattern) (near start o : Point) → eighth_of near.h ≡ eighth_of (start.h -ℤ o.h) → eighth_of near.v ≡ eighth_of (start.v -ℤ o.v)
    → (k : ℕ) → pattern_bit pattern (right_of near k) ≡ pattern_bit pattern (minus (right_of start k) o)
pattern-moved pattern near start o across down k = λ i. bit_of (slice_index pattern.rows (down i)) (eighth-further near.h start.h o.h k across i)

-- what turns each bit that it keeps, and keeps each, inverts
pub inverts : (old : Bool) → effect_bit (record { keeps = true; turns = true }) old ≡ not old
inverts true = refl
inverts false = refl
