use Rattle.std.proofs.Common.{◌≡◌, ◌+◌, ◌*◌, ◌/◌, ◌≤◌, nat_abs, true, SFits, w32, rules, arith, sym, ap, ◌∙◌}
use Rattle.std.proofs.lemmas.Int.{to_z-of_z}
use Rattle.tb_geom.specs.declared.rect.Rect.{Rect}
use Rattle.bit_map.specs.Bits.{on_map}
use Rattle.bit_map.proofs.BitsLemmas.{on_map-sides}
use Rattle.overlay.proofs.BaseLemmas.{words_there}
use Rattle.overlay.proofs.base.words_at.Goals as goal

pub returns-clause-bits : goal.returns-clause-bits
returns-clause-bits c k low =
    let fits_h : SFits w32 c.args.start.h = search rules in
    let fits_v : SFits w32 c.args.start.v = search rules in
    let fits_r : SFits w32 c.bounds-bounds.result.right = search rules in
    let on : on_map c.args.map.now c.args.start ≡ true = sym (c.bounds-bounds.ensures.pixels c.args.start) ∙ sym c.contains.ensures ∙ c.if-not-contains.false in
    let at = on_map-sides c.args.map.now c.args.start on in
    let even = simp to_z-of_z at c.if-column-ne0.false in
    let room = simp to_z-of_z at c.if-whole-first.false in
    let wide : nat_abs c.bounds-bounds.result.right ≡ c.args.map.now.width = ap (λ (r : Rect). nat_abs r.right) c.bounds-bounds.ensures.sides in
    let begins : nat_abs c.args.start.h ≡ 64 * (nat_abs c.args.start.h / 64) = omega (arith, even) in
    let within : 64 * (nat_abs c.args.start.h / 64 + c.args.count) ≤ c.args.map.now.width = omega (arith, room, wide, at.across) in
    simp to_z-of_z (words_there c.args.map.now c.args.start.h c.args.start.v (nat_abs c.args.start.h / 64) c.args.count c.row.result.now on begins within (simp to_z-of_z at c.row.ensures.bits) k low)
