use Rattle.std.proofs.Common.{◌<◌, ◌*◌, ◌%◌, ◌/◌, ◌∙◌, ap, refl, SFits, w32, rules, cond, nat_eq, pos, ◌+ℤ◌, set, length, arith}
use Rattle.std.proofs.lemmas.Int.{to_z-of_z}
use Rattle.std.proofs.lemmas.List.{get_or_default, length-set}
use Rattle.bit_map.specs.Words.{bit_in}
use Rattle.bit_map.proofs.RunLemmas.{whole_after}
use Rattle.bit_map.specs.Bits.{Bits, in_row}
use Rattle.bit_map.specs.Counts.{raised}
use Rattle.bit_map.proofs.BitsLemmas.{of_words, on_map-sides, place_in, bit_written, bit-set}
use Rattle.bit_map.proofs.CountLemmas.{counts-of, count-set}
use Rattle.bit_map.proofs.map.BitMap.set.Goals as goal

pub index-requires : goal.index-requires
index-requires c =
    let of = of_words c.args.self.now c.self.inside.width c.self.inside.height c.self.inside.words.items c.self.view_is c.self.invariant in
    let within = place_in c.args.self.now c.self.inside.words.items c.args.point of.whole (on_map-sides c.args.self.now c.args.point c.requires) in
    let low : c.place-place.result < 64 * length c.self.inside.words.items = rw c.place-place.ensures.value within in
    omega (arith, low)

pub index_mut-requires : goal.index_mut-requires
index_mut-requires c =
    let of = of_words c.args.self.now c.self.inside.width c.self.inside.height c.self.inside.words.items c.self.view_is c.self.invariant in
    let within = place_in c.args.self.now c.self.inside.words.items c.args.point of.whole (on_map-sides c.args.self.now c.args.point c.requires) in
    let low : c.place-place.result < 64 * length c.self.inside.words.items = rw c.place-place.ensures.value within in
    omega (arith, low)

pub returns-clause-bits : goal.returns-clause-bits
returns-clause-bits c =
    let words = c.self.inside.words.items in
    let place = c.place-place.result in
    let of = of_words c.args.self.now c.self.inside.width c.self.inside.height words c.self.view_is c.self.invariant in
    let within = place_in c.args.self.now words c.args.point of.whole (on_map-sides c.args.self.now c.args.point c.requires) in
    let low : place < 64 * length words = rw c.place-place.ensures.value within in
    let word_in : place / 64 < length words = omega (arith, low) in
    let was = c.index.ensures ∙ get_or_default words (place / 64) c.index.result.now 0 word_in in
    let written = bit_written words place c.with_bit.result c.args.value word_in
    (λ k l. c.with_bit.ensures k l ∙ ap (λ w. cond (nat_eq k (place % 64)) c.args.value (bit_in w k)) was) in
    bit-set c.args.self.now _ words (set words (place / 64) c.with_bit.result) c.args.point c.args.value of
    (record { whole = whole_after c.self.inside.width c.self.inside.height words (set words (place / 64) c.with_bit.result) (length-set words (place / 64) c.with_bit.result) c.self.invariant; black = refl })
    c.requires (rw (← c.place-place.ensures.value) written) (ap (λ (m : Bits). m.width) c.self.view_is) (ap (λ (m : Bits). m.height) c.self.view_is)

pub returns-clause-counts : goal.returns-clause-counts
returns-clause-counts c =
    let width = ap (λ (m : Bits). m.width) c.self.view_is in
    let height = ap (λ (m : Bits). m.height) c.self.view_is in
    let h : SFits w32 c.args.point.h = search rules in
    let v : SFits w32 c.args.point.v = search rules in
    count-set c.args.self.now _ c.self.inside.writes.tag.numbers c.add.new.self.tag.numbers c.args.point
    (counts-of c.args.self.now c.self.inside.width c.self.inside.height c.self.inside.writes.tag.numbers c.self.view_is) refl
    (simp to_z-of_z at c.add.ensures ∙ (λ i. raised (width i) (height i) (in_row c.args.point.v c.args.point.h (c.args.point.h +ℤ pos 1)) c.self.inside.writes.tag.numbers))
    width height c.requires
