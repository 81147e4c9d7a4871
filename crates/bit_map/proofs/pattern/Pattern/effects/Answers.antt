use Rattle.std.proofs.Common.{◌≡◌, ◌+◌, ◌%◌, ◌∙◌, ap, arith, rules, SFits, w32, slice_index, ℕ}
use Rattle.std.proofs.lemmas.Int.{to_z-of_z}
use Rattle.bit_map.specs.Modes.{mode_bit}
use Rattle.bit_map.specs.Patterns.{bit_of, eighth_of}
use Rattle.bit_map.proofs.PatternLemmas.{eighth-after}
use Rattle.bit_map.proofs.pattern.Pattern.effects.Goals as goal

eighths : (k : ℕ) → k % 64 % 8 ≡ k % 8
eighths k = omega arith

pub returns : goal.returns
returns c =
    let fits_h : SFits w32 c.args.start.h = search rules in
    let fits_v : SFits w32 c.args.start.v = search rules in
    let down = simp to_z-of_z at c.eighth.ensures.value in
    let across = simp to_z-of_z at c.eighth-2.ensures.value in
    λ k old. c.effects.ensures (k % 64) old (omega arith)
    ∙ ap (λ b. mode_bit c.args.mode b old)
    (c.repeated.ensures (k % 64) (omega arith) ∙ c.turned-row.ensures (k % 64 % 8) (omega arith)
    ∙ (λ i. bit_of (slice_index c.args.self.rows (down i)) ((across i + eighths k i) % 8))
    ∙ ap (bit_of (slice_index c.args.self.rows (eighth_of c.args.start.v))) (eighth-after c.args.start.h k))
