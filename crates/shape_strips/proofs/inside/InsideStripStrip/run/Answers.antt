use Rattle.std.proofs.Common.{inl, inr, ◌&&◌, pos, ◌+ℤ◌, ◌-ℤ◌, ◌≤ℤ◌, ◌<ℤ◌, sym, ◌∙◌, arith, SFits, w32, rules}
use Rattle.std.proofs.lemmas.Int.{ints, to_z-of_z}
use Rattle.tb_geom.proofs.Steps.{fits_next}
use Rattle.shape_strips.proofs.RangeLemmas.{sides_in}
use Rattle.shape_strips.proofs.RoundLemmas.{outside_rows}
use Rattle.shape_strips.proofs.InsideLemmas.{inside_lacks}
use Rattle.shape_strips.proofs.inside.InsideStripStrip.run.Goals as goal
use Rattle.shape_strips.proofs.inside.InsideStripStrip.run.Goals.{then-v-self-via-then-v-self, then-v-self-via-else-v-self+then-self-v}

pub returns-then-v-self : goal.returns-then-v-self
returns-then-v-self c =
    let fits_v = c.ranges.v in
    let fits_top : SFits w32 c.args.self.now.rect.top = search rules in
    let fits_bottom : SFits w32 c.args.self.now.rect.bottom = search rules in
    λ h. c.empty.ensures h ∙ sym (inside_lacks c.args.self.now.rect c.args.self.now.corner c.args.self.now.pen (record { h = h; v = c.args.v })
    (outside_rows c.args.self.now.rect c.args.self.now.corner (record { h = h; v = c.args.v }) (elim c.then-v-self.branch [
      | then-v-self-via-then-v-self w ↦ inl (let test = simp to_z-of_z at w.if-v-self.true in grind (arith, ints))
      | then-v-self-via-else-v-self+then-self-v w ↦ inr (let test = simp to_z-of_z at w.if-self-v.true in grind (arith, ints))
    ])))

pub returns : goal.returns
returns c =
    let s = sides_in c.args.self.now.rect c.args.self.now.in_range in
    let fits_v = c.ranges.v in
    let fits_top : SFits w32 c.args.self.now.rect.top = search rules in
    let fits_bottom : SFits w32 c.args.self.now.rect.bottom = search rules in
    let below = c.if-v-self.false in
    let above = c.if-self-v.false in
    let top : c.args.self.now.rect.top ≤ℤ c.args.v = omega (arith, ints) in
    let bottom : c.args.v <ℤ c.args.self.now.rect.bottom = omega (arith, ints) in
    let fits_next_row : SFits w32 (c.args.v +ℤ pos 1) = fits_next c.args.v c.args.self.now.rect.bottom fits_v fits_bottom bottom in
    let fits_last_row : SFits w32 (c.args.v -ℤ pos 1) = search (arith, ints) in
    let smaller = simp to_z-of_z at c.inset_run.ensures in
    let own = simp to_z-of_z at c.run-own.ensures in
    let last = simp to_z-of_z at c.run-above.ensures in
    let next = simp to_z-of_z at c.run-below.ensures in
    λ h. c.sect-3.ensures h
    ∙ (λ i. smaller h i && (c.sect-2.ensures h
    ∙ (λ j. own h j && (c.sect-beside.ensures h
    ∙ (λ k. (c.inner.ensures h ∙ (λ m. own (h -ℤ pos 1) m && own (h +ℤ pos 1) m)) k
    && (c.sect.ensures h ∙ (λ m. last h m && next h m)) k)) j)) i)
