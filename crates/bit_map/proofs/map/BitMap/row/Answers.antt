use Rattle.std.proofs.Common.{◌≡◌, ◌+◌, ◌-◌, ◌*◌, ◌/◌, ◌%◌, ◌<◌, ℕ, pos, List, get_or, drop, sym, ap, ◌∙◌, arith, true}
use Rattle.std.proofs.lemmas.Bool.Decides.{nat_tests}
use Rattle.std.proofs.lemmas.List.{get_or-take, get_or-drop}
use Rattle.bit_map.specs.Bits.{Bits, on_map}
use Rattle.bit_map.specs.Words.{bit_in, place_bit, words_across}
use Rattle.bit_map.proofs.BitsLemmas.{of_words, bit-on}
use Rattle.bit_map.proofs.map.BitMap.row.Goals as goal

pub returns-clause-bits : goal.returns-clause-bits
unfolding place_bit on_map
returns-clause-bits c h low =
    let map = c.args.self.now in
    let words = c.self.inside.words.items in
    let across = c.words_across-across.result in
    let first = c.from.result * across in
    let of = of_words map c.self.inside.width c.self.inside.height words c.self.view_is c.self.invariant in
    let width : across ≡ words_across map.width = c.words_across-across.ensures ∙ ap (λ (m : Bits). words_across m.width) c.self.view_is in
    let on : on_map map (record { h = pos h; v = pos c.args.v }) ≡ true = grind (arith, nat_tests, low, c.requires) in
    let small : h / 64 < first + across - first = omega (arith, low, width) in
    let turn : c.args.v * (64 * words_across map.width) ≡ 64 * first = turned c.args.v (words_across map.width) ∙ λ i. 64 * (sym c.from.ensures i * sym width i) in
    let place : first + h / 64 ≡ (c.args.v * (64 * words_across map.width) + h) / 64 = omega (arith, turn) in
    let bit : h % 64 ≡ (c.args.v * (64 * words_across map.width) + h) % 64 = omega (arith, turn) in
    ap (λ (n : ℕ). bit_in n (h % 64)) (get_or-take (first + across - first) (drop first c.deref.result.now) (h / 64) 0 small ∙ get_or-drop first c.deref.result.now (h / 64) 0)
    ∙ (λ i. bit_in (get_or (c.deref.ensures.value i) (place i) 0) (bit i))
    ∙ sym (bit-on map words (record { h = pos h; v = pos c.args.v }) of on)
  where
    turned : (v n : ℕ) → v * (64 * n) ≡ 64 * (v * n)
    turned v n = grind arith
