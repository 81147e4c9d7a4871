use Rattle.std.proofs.Common.{◌≤ℤ◌, ◌<ℤ◌, sym, ◌∙◌, subst, rules, SFits, w32}
use Rattle.std.proofs.lemmas.Int.{ints, to_z-of_z}
use Rattle.shape_strips.specs.Runs.{run_holds}
use Rattle.pixel_rows.specs.Bounds.{IsPlaced}
use Rattle.shape_region.proofs.MadeLemmas.{no_run_placed, run_placed, empty_row}
use Rattle.shape_region.proofs.strip.placed_run.Goals as goal

pub returns-then-run-clause-placed : goal.returns-then-run-clause-placed
returns-then-run-clause-placed g c =
    let fits_v = c.ranges.v in
    let fits_left : SFits w32 c.run-run.result.left = search rules in
    let fits_right : SFits w32 c.run-run.result.right = search rules in
    let some : c.run-run.result.left <ℤ c.run-run.result.right = search (rules, ints) in
    let row = simp to_z-of_z at c.run-run.ensures in
    run_placed (g.S.Strip.pixels c.args.strip.now) c.args.bounds c.run-run.result c.args.v c.requires row some

pub returns-clause-placed : goal.returns-clause-placed
returns-clause-placed g c = subst IsPlaced (sym c.no_run.ensures) (no_run_placed c.args.bounds c.requires.in_range)

pub returns-clause-pixels : goal.returns-clause-pixels
returns-clause-pixels g c =
    let fits_v = c.ranges.v in
    let fits_left : SFits w32 c.run-run.result.left = search rules in
    let fits_right : SFits w32 c.run-run.result.right = search rules in
    let none : c.run-run.result.right ≤ℤ c.run-run.result.left = search (rules, ints) in
    let row = simp to_z-of_z at c.run-run.ensures in
    λ h. (λ i. run_holds (c.no_run.ensures i) h) ∙ empty_row (g.S.Strip.pixels c.args.strip.now) c.args.bounds c.run-run.result c.args.v row none h
