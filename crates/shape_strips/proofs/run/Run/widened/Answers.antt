use Rattle.std.proofs.Common.{◌≡◌, ◌<◌, ◌∙◌, pos, ◌+ℤ◌, ◌-ℤ◌, ◌≤ℤ◌, ◌<ℤ◌, sym, arith, SFits, w32, rules}
use Rattle.std.proofs.lemmas.Int.{ints, to_z-of_z}
use Rattle.shape_strips.proofs.LineNumbers.{wider_fits, less_fits}
use Rattle.shape_strips.proofs.JoinLemmas.{widened, none_widened}
use Rattle.shape_strips.proofs.run.Run.widened.Goals as goal

pub returns-then-self : goal.returns-then-self
returns-then-self c =
    let fits_l : SFits w32 c.args.self.left = search rules in
    let fits_r : SFits w32 c.args.self.right = search rules in
    let test = c.if-self.true in
    let none : c.args.self.right ≤ℤ c.args.self.left = omega (arith, ints) in
    λ h. c.empty.ensures h ∙ sym (none_widened c.args.self.left c.args.self.right h c.args.columns none)

pub returns : goal.returns
returns c =
    let fits_l : SFits w32 c.args.self.left = search rules in
    let fits_r : SFits w32 c.args.self.right = search rules in
    let test = c.if-self.false in
    let less : c.args.self.left <ℤ c.args.self.right = omega (arith, ints) in
    let few : c.args.columns < 65536 = search rules in
    let columns : c.from.result ≡ pos c.args.columns = search rules in
    let fits_c : SFits w32 c.from.result = search rules in
    let fits_d : SFits w32 (c.from.result -ℤ pos 1) = rw columns (less_fits c.args.columns c.requires.some few) in
    let fits_e : SFits w32 (c.args.self.right +ℤ (c.from.result -ℤ pos 1)) = rw columns (wider_fits c.args.self.right c.args.columns fits_r c.requires.right c.requires.some few) in
    λ h. simp to_z-of_z (rw columns (widened c.args.self.left c.args.self.right h c.args.columns less c.requires.some))
