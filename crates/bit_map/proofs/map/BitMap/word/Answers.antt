use Rattle.std.proofs.Common.{◌≡◌, ◌+◌, ◌*◌, ℕ, List, nat_abs, ◌∙◌, ap, false, SFits, w32, rules}
use Rattle.bit_map.specs.Bits.{Bits, is_below}
use Rattle.bit_map.specs.Rules.{right_of}
use Rattle.bit_map.specs.Words.{place_bit, words_across}
use Rattle.bit_map.proofs.BitsLemmas.{of_words}
use Rattle.bit_map.proofs.RunLemmas.{word_on, row_off}
use Rattle.bit_map.proofs.map.BitMap.word.Goals as goal

pub returns-then-is_below : goal.returns-then-is_below
returns-then-is_below c =
    let h : SFits w32 c.args.start.h = search rules in
    let v : SFits w32 c.args.start.v = search rules in
    let words = c.self.inside.words.items in
    let of = of_words c.args.self.now c.self.inside.width c.self.inside.height words c.self.view_is c.self.invariant in
    let width : c.self.inside.width ≡ c.args.self.now.width = ap (λ (m : Bits). m.width) c.self.view_is in
    let down : c.natural.result ≡ nat_abs c.args.start.v = search rules in
    let across : c.natural-then-is_below.result ≡ nat_abs c.args.start.h = search rules in
    let stride : c.words_across.result ≡ words_across c.args.self.now.width = c.words_across.ensures ∙ ap words_across width in
    let place : c.natural.result * (64 * c.words_across.result) + c.natural-then-is_below.result ≡ nat_abs c.args.start.v * (64 * words_across c.args.self.now.width) + nat_abs c.args.start.h = λ i. down i * (64 * stride i) + across i in
    λ k low on. c.word_from.ensures k low ∙ ap (λ (l : List ℕ). place_bit l (c.natural.result * (64 * c.words_across.result) + c.natural-then-is_below.result + k)) c.as_slice.ensures.value ∙ word_on c.args.self.now words c.args.start (c.natural.result * (64 * c.words_across.result) + c.natural-then-is_below.result) k of c.requires place on

pub returns-else-is_below : goal.returns-else-is_below
returns-else-is_below c =
    let off : is_below c.args.self.now.height c.args.start.v ≡ false = search rules in
    λ k low on. absurd (cc (on, row_off c.args.self.now (right_of c.args.start k) off))
