use Rattle.std.proofs.Common.{◌≤ℤ◌, ◌<ℤ◌, ◌∙◌, rules, arith, SFits, w32}
use Rattle.std.proofs.lemmas.Int.{ints, to_z-of_z}
use Rattle.shape_strips.specs.Runs.{run_holds}
use Rattle.shape_region.proofs.RunLemmas.{IsIn, is_in, around_in, around_none}
use Rattle.shape_region.proofs.two_runs.TwoRuns.around.Goals as goal

pub returns-then-inner-clause-pixels : goal.returns-then-inner-clause-pixels
returns-then-inner-clause-pixels c =
    let fits_left : SFits w32 c.args.inner.left = search rules in
    let fits_right : SFits w32 c.args.inner.right = search rules in
    let none : c.args.inner.right ≤ℤ c.args.inner.left = search (rules, ints) in
    λ h. c.one.ensures.pixels h ∙ around_none c.args.inner.left c.args.inner.right h (run_holds c.args.outer h) none

pub returns-clause-placed : goal.returns-clause-placed
returns-clause-placed c =
    let fits_1 : SFits w32 c.args.outer.left = search rules in
    let fits_2 : SFits w32 c.args.inner.left = search rules in
    let fits_3 : SFits w32 c.args.inner.right = search rules in
    let fits_4 : SFits w32 c.args.outer.right = search rules in
    let some : c.args.inner.left <ℤ c.args.inner.right = search (rules, ints) in
    let within : IsIn c.args.inner c.args.outer = is_in c.args.inner c.args.outer some c.requires.within in
    simp to_z-of_z (record {
      first_in = c.requires.outer.left_in;
      last_in = c.requires.outer.right_in;
      left = within.left;
      middle = omega (arith, ints);
      right = within.right;
    })

pub returns-clause-pixels : goal.returns-clause-pixels
returns-clause-pixels c =
    let fits_1 : SFits w32 c.args.outer.left = search rules in
    let fits_2 : SFits w32 c.args.inner.left = search rules in
    let fits_3 : SFits w32 c.args.inner.right = search rules in
    let fits_4 : SFits w32 c.args.outer.right = search rules in
    let some : c.args.inner.left <ℤ c.args.inner.right = search (rules, ints) in
    let within : IsIn c.args.inner c.args.outer = is_in c.args.inner c.args.outer some c.requires.within in
    simp to_z-of_z (λ h. around_in c.args.outer.left c.args.inner.left c.args.inner.right c.args.outer.right h within.left some within.right)
