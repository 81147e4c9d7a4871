use Rattle.std.proofs.Common.{inl, inr, ◌&&◌, ◌≤ℤ◌, ◌<ℤ◌, sym, ◌∙◌, arith, SFits, w32, rules}
use Rattle.std.proofs.lemmas.Int.{ints, to_z-of_z}
use Rattle.tb_geom.specs.Rects.{between}
use Rattle.std_wdef.proofs.RoundBoxes.{beside_rows, cut_row}
use Rattle.std_wdef.proofs.cut_inside.CutInsideStrip.run.Goals as goal
use Rattle.std_wdef.proofs.cut_inside.CutInsideStrip.run.Goals.{then-v-cut-via-then-v-cut, then-v-cut-via-else-v-cut+then-cut-v}

pub returns-then-v-cut : goal.returns-then-v-cut
returns-then-v-cut c =
    let fits_v = c.ranges.v in
    let fits_top : SFits w32 c.args.self.now.cut.top = search rules in
    let fits_bottom : SFits w32 c.args.self.now.cut.bottom = search rules in
    λ h. c.empty.ensures h ∙ sym (beside_rows c.args.self.now.cut h c.args.v _ (elim c.then-v-cut.branch [
      | then-v-cut-via-then-v-cut w ↦ inl (let test = simp to_z-of_z at w.if-v-cut.true in grind (arith, ints))
      | then-v-cut-via-else-v-cut+then-cut-v w ↦ inr (let test = simp to_z-of_z at w.if-cut-v.true in grind (arith, ints))
    ]))

pub returns : goal.returns
returns c =
    let fits_v = c.ranges.v in
    let fits_top : SFits w32 c.args.self.now.cut.top = search rules in
    let fits_bottom : SFits w32 c.args.self.now.cut.bottom = search rules in
    let below = c.if-v-cut.false in
    let above = c.if-cut-v.false in
    let top : c.args.self.now.cut.top ≤ℤ c.args.v = omega (arith, ints) in
    let bottom : c.args.v <ℤ c.args.self.now.cut.bottom = omega (arith, ints) in
    let fits_left : SFits w32 c.args.self.now.cut.left = search rules in
    let fits_right : SFits w32 c.args.self.now.cut.right = search rules in
    let row = simp to_z-of_z at c.run.ensures in
    let both = simp to_z-of_z at c.sect.ensures in
    λ h. both h ∙ (λ i. between c.args.self.now.cut.left h c.args.self.now.cut.right && row h i)
    ∙ cut_row c.args.self.now.cut h c.args.v _ top bottom
