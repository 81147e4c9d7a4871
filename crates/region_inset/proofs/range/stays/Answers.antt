use Rattle.std.proofs.Common.{◌≡◌, ◌&&◌, true, ℤ, pos, negsuc, ◌+ℤ◌, ◌-ℤ◌, sym, ap, ◌∙◌, rules, SFits, w32}
use Rattle.std.specs.Prelude.{int_le}
use Rattle.std.proofs.lemmas.Int.{to_z-of_z}
use Rattle.region_inset.specs.Near.{widening}
use Rattle.region_inset.proofs.ReachLemmas.{ends_of}
use Rattle.region_inset.proofs.range.stays.Goals as goal

pub returns-then-first-widening-ge-FIRST_SIDE : goal.returns-then-first-widening-ge-FIRST_SIDE
returns-then-first-widening-ge-FIRST_SIDE c =
    let fits_first = c.ranges.first in
    let fits_last = c.ranges.last in
    let fits_d = c.ranges.d in
    let w : ℤ = c.widening-widening.result in
    let fits_w : SFits w32 c.widening-widening.result = search rules in
    let is : w ≡ widening c.args.d = simp to_z-of_z at c.widening-widening.ensures in
    let fits_1 = (ends_of c.args.first c.args.d w c.requires.first is c.requires.distance).less_fits in
    let fits_2 = (ends_of c.args.last c.args.d w c.requires.last is c.requires.distance).more_fits in
    let low : int_le (negsuc 16383) (c.args.first -ℤ w) ≡ true = simp to_z-of_z at c.if-first-widening-ge-FIRST_SIDE.true in
    simp to_z-of_z (
    ap (λ z. int_le (c.args.last +ℤ z) (pos 16383)) is
    ∙ sym (ap (λ t. t && int_le (c.args.last +ℤ widening c.args.d) (pos 16383)) (sym (ap (λ z. int_le (negsuc 16383) (c.args.first -ℤ z)) is) ∙ low)))
