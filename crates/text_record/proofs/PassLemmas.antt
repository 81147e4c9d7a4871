-- Bytes that a point passes.
use Rattle.std.proofs.Common.{◌≡◌, ℕ, ◌+◌, ◌<◌, true, List, length, drop, get_or, ℤ, pos, ◌+ℤ◌, ◌-ℤ◌, ◌≤ℤ◌, refl, ◌∙◌, arith}
use Rattle.std.specs.Prelude.{int_le}
use Rattle.std.proofs.lemmas.Int.{ints}
use Rattle.std.proofs.lemmas.List.{at_drop_more}
use Rattle.text_lines.specs.Widths.{byte_width}
use Rattle.text_record.specs.Places.{passed_bytes}

reaches : (wide : ℕ) (left : ℤ) → pos wide ≤ℤ (left +ℤ left) → int_le (pos wide) (left +ℤ left) ≡ true
reaches wide left p = grind (arith, ints)

-- one byte passed, and those behind it
pub passes : (widths bytes : List ℕ) (i passed wide whole : ℕ) (left : ℤ) → i < length bytes → wide ≡ byte_width widths (get_or bytes i 0) → pos wide ≤ℤ (left +ℤ left)
    → passed + passed_bytes widths left (drop i bytes) ≡ whole → passed + 1 + passed_bytes widths (left -ℤ pos wide) (drop (i + 1) bytes) ≡ whole
passes widths bytes i passed wide whole left p e q h =
    let more = at_drop_more (passed_bytes widths left) bytes i 0 p in
    let yes = reaches wide left q in
    let here : passed_bytes widths left (drop i bytes) ≡ 1 + passed_bytes widths (left -ℤ pos wide) (drop (i + 1) bytes) = more ∙ rw (← e, yes) refl in
    omega (arith, h, here)
