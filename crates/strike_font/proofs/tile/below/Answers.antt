use Rattle.std.proofs.Common.{◌≡◌, ◌∙◌, ◌≤ℤ◌, ◌-ℤ◌, ℤ, pos, negsuc, nat_abs, refl, SFits, w64, rules, arith}
use Rattle.std.proofs.lemmas.Int.{ints, to_z-of_z}
use Rattle.strike_font.proofs.tile.below.Goals as goal

abs_is : (x : ℤ) → pos 0 ≤ℤ x → pos (nat_abs x) ≡ x
abs_is (pos n) low = refl
abs_is (negsuc n) low = absurd (omega (arith, ints))

pub returns : goal.returns
returns c =
    let x = c.args.x in
    let high = c.args.high in
    let near_x = c.requires.x_near in
    let near_h = c.requires.high_near in
    let fx : SFits w64 x = search rules in
    let fh : SFits w64 high = search rules in
    let fl : SFits w64 c.args.limit = search rules in
    let fd : SFits w64 (high -ℤ x) = search (rules, ints) in
    let fr : SFits w64 c.clamp.result = search rules in
    let low : pos 0 ≤ℤ c.clamp.result = search (rules, c.clamp.ensures.lower_bound) in
    let e = simp to_z-of_z at c.clamp.ensures.value in
    simp to_z-of_z (abs_is c.clamp.result low ∙ e)
