use Rattle.std.proofs.Common.{◌∙◌, ◌&&◌, sym, arith, SFits, w32, rules}
use Rattle.std.proofs.lemmas.Int.{ints, clamps, to_z-of_z}
use Rattle.scan_region.proofs.walk.Walk.until.Goals as goal

pub returns : goal.returns
returns c =
    let w = c.args.self.now in
    let fits_v : SFits w32 c.args.self.now.v = search rules in
    let fits_1 : SFits w32 c.until-until.result = search rules in
    let fits_2 : SFits w32 c.until.result = search rules in
    let fits_3 : SFits w32 c.until-2.result = search rules in
    let fits_4 : SFits w32 c.until-3.result = search rules in
    let fits_5 : SFits w32 c.min-until.result = search rules in
    let fits_6 : SFits w32 c.min-until-2.result = search rules in
    let fits_7 : SFits w32 c.min.result = search rules in
    let e1 = simp to_z-of_z at c.until-until.ensures in
    let e2 = simp to_z-of_z at c.until.ensures in
    let e3 = simp to_z-of_z at c.until-2.ensures in
    let e4 = simp to_z-of_z at c.until-3.ensures in
    let m1 = simp to_z-of_z at c.min-until.ensures.value in
    let m2 = simp to_z-of_z at c.min-until-2.ensures.value in
    let m3 = simp to_z-of_z at c.min.ensures.value in
    simp to_z-of_z (λ s r h v a b.
    r.all h v ∙ (λ i. e1 w.words r.first_set w.at r.first h v a (omega (arith, ints, clamps)) i && (e2 w.words r.second_set w.at r.second h v a (omega (arith, ints, clamps)) i
    && (e3 w.words r.third_set w.at r.third h v a (omega (arith, ints, clamps)) i && e4 w.words r.hole_set w.at r.hole h v a (omega (arith, ints, clamps)) i)))
    ∙ sym (r.all h w.v))
