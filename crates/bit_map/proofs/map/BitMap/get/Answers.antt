use Rattle.std.proofs.Common.{◌<◌, ◌*◌, ◌%◌, ◌/◌, ◌∙◌, ap, sym, length, arith}
use Rattle.std.proofs.lemmas.List.{get_or_default}
use Rattle.bit_map.specs.Words.{bit_in, place_bit}
use Rattle.bit_map.proofs.BitsLemmas.{of_words, on_map-sides, place_in, bit-on}
use Rattle.bit_map.proofs.map.BitMap.get.Goals as goal

pub index-requires : goal.index-requires
index-requires c =
    let of = of_words c.args.self.now c.self.inside.width c.self.inside.height c.self.inside.words.items c.self.view_is c.self.invariant in
    let within = place_in c.args.self.now c.self.inside.words.items c.args.point of.whole (on_map-sides c.args.self.now c.args.point c.requires) in
    let place = c.place-place.ensures.value in
    let low : c.place-place.result < 64 * length c.self.inside.words.items = rw place within in
    omega (arith, low)

pub returns : goal.returns
unfolding place_bit
returns c =
    let words = c.self.inside.words.items in
    let of = of_words c.args.self.now c.self.inside.width c.self.inside.height words c.self.view_is c.self.invariant in
    let within = place_in c.args.self.now words c.args.point of.whole (on_map-sides c.args.self.now c.args.point c.requires) in
    let place = c.place-place.ensures.value in
    let low : c.place-place.result < 64 * length words = rw place within in
    c.bit_in.ensures
    ∙ ap (λ w. bit_in w (c.place-place.result % 64)) (c.index.ensures ∙ get_or_default words (c.place-place.result / 64) c.index.result.now 0 (omega (arith, low)))
    ∙ ap (place_bit words) place
    ∙ sym (bit-on c.args.self.now words c.args.point of c.requires)
