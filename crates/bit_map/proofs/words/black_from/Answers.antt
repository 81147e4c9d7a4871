use Rattle.std.proofs.Common.{◌≡◌, ◌≤◌, ◌<◌, ℕ, false, ◌∙◌, sym, arith, nat_le}
use Rattle.std.proofs.lemmas.Bool.Decides.{nat_tests}
use Rattle.bit_map.proofs.WordLemmas.{black_from-is, bit_in-none}
use Rattle.bit_map.proofs.words.black_from.Goals as goal

pub returns-then-place-lt64 : goal.returns-then-place-lt64
returns-then-place-lt64 c = λ k low. black_from-is c.args.place k (omega arith) low

past : (place k : ℕ) → 64 ≤ place → k < 64 → nat_le place k ≡ false
past place k high low = grind (arith, nat_tests)

pub returns-else-place-lt64 : goal.returns-else-place-lt64
returns-else-place-lt64 c = λ k low. bit_in-none k ∙ sym (past c.args.place k c.if-place-lt64.false low)
