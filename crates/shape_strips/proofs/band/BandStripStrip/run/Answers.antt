use Rattle.std.proofs.Common.{◌∙◌, ◌≤ℤ◌, ◌<ℤ◌, sym, SFits, w32, rules}
use Rattle.std.specs.Prelude.{int_lt}
use Rattle.std.proofs.lemmas.Int.{ints, to_z-of_z}
use Rattle.shape_strips.proofs.BandLemmas.{one_way, other_way}
use Rattle.shape_strips.proofs.band.BandStripStrip.run.Goals as goal

pub returns-then-self : goal.returns-then-self
returns-then-self c = λ h.
    let fits_v = c.ranges.v in
    let fits_f : SFits w32 c.args.self.now.from.v = search rules in
    let fits_t : SFits w32 c.args.self.now.to.v = search rules in
    let fits_r : SFits w32 c.args.self.now.right = search rules in
    let test : c.args.self.now.from.v ≤ℤ c.args.self.now.to.v = search (rules, ints) in
    let told = simp to_z-of_z at c.band_run.ensures in
    told h ∙ sym (one_way c.args.self.now.from c.args.self.now.to (record { h = h; v = c.args.v }) (int_lt h c.args.self.now.right) test)

pub returns-else-self : goal.returns-else-self
returns-else-self c = λ h.
    let fits_v = c.ranges.v in
    let fits_f : SFits w32 c.args.self.now.from.v = search rules in
    let fits_t : SFits w32 c.args.self.now.to.v = search rules in
    let fits_r : SFits w32 c.args.self.now.right = search rules in
    let test : c.args.self.now.to.v <ℤ c.args.self.now.from.v = search (rules, ints) in
    let told = simp to_z-of_z at c.band_run-else-self.ensures in
    told h ∙ sym (other_way c.args.self.now.from c.args.self.now.to (record { h = h; v = c.args.v }) (int_lt h c.args.self.now.right) test)
