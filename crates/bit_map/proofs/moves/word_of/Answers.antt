use Rattle.std.proofs.Common.{◌≡◌, ◌+◌, ◌-◌, ◌*◌, ◌∙◌, sym, ap, cond, nat_lt, get_or, arith}
use Rattle.bit_map.specs.Words.{bit_in, place_bit}
use Rattle.bit_map.proofs.WordLemmas.{place_bit-in}
use Rattle.bit_map.proofs.MoveLemmas.{joined_place}
use Rattle.bit_map.proofs.moves.word_of.Goals as goal

pub returns-then-bit-eq0 : goal.returns-then-bit-eq0
returns-then-bit-eq0 c =
    λ k low. let at : 64 * c.args.near + k ≡ 64 * c.args.near + c.args.bit + k = omega arith in
    sym (place_bit-in c.args.words.now c.args.near k low) ∙ ap (place_bit c.args.words.now) at

pub returns-else-bit-eq0 : goal.returns-else-bit-eq0
returns-else-bit-eq0 c =
    λ k low. let next : c.args.near + 1 ≡ 1 + c.args.near = omega arith in
    c.joined.ensures k low
    ∙ ap (λ n. cond (nat_lt (c.args.bit + k) 64) (bit_in (get_or c.args.words.now c.args.near 0) (c.args.bit + k)) (bit_in (get_or c.args.words.now n 0) (c.args.bit + k - 64))) next
    ∙ joined_place c.args.words.now c.args.near c.args.bit k c.requires.bit_in low
