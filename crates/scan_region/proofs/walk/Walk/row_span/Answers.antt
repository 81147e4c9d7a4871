use Rattle.std.proofs.Common.{◌≡◌, ◌<ℤ◌, ◌≤ℤ◌, ◌∙◌, sym, subst, rules, SFits, w32, true, false}
use Rattle.std.proofs.lemmas.Int.{ints, to_z-of_z}
use Rattle.scan_region.specs.Parts.{HasSides, all_count}
use Rattle.scan_region.proofs.WalkRuns.{runs-end}
use Rattle.scan_region.proofs.WalkSteps.{run_first, gap_first, less_left, sides_along}
use Rattle.scan_region.proofs.walk.Walk.row_span.Goals as goal

pub returns-then-within-clause-sides : goal.returns-then-within-clause-sides
returns-then-within-clause-sides c = λ left h. sides_along c.loop-self.self c.pass.new.self left _ c.loop-self.invariant.right (c.pass.ensures.sides left) (c.loop-self.invariant.sides left h)

pub returns-then-within-clause-walk : goal.returns-then-within-clause-walk
returns-then-within-clause-walk c = λ s r. c.pass.ensures.walk s (c.loop-self.invariant.walk s r)

pub returns-then-within-clause-some : goal.returns-then-within-clause-some
returns-then-within-clause-some c =
    let w = c.loop-self.self in
    let i = c.loop-self.invariant in
    let left = c.requires.0 in
    let own : HasSides c.loop-self.self c.requires.0 c.loop-self.self.right = subst (HasSides w left) (sym i.right) (i.sides left c.requires.1) in
    let fits_v : SFits w32 c.pass.new.self.v = search rules in
    let fits_at : SFits w32 c.loop-self.self.at = search rules in
    let fits_right : SFits w32 c.loop-self.self.right = search rules in
    let fits_to : SFits w32 c.turn-right.result = search rules in
    let room : c.loop-self.self.at <ℤ c.loop-self.self.right = search (rules, ints) in
    let turn = c.turn-right.ensures in
    let passed = simp to_z-of_z at c.pass.ensures in
    let end = (passed.sides left own).end in
    let counts : all_count c.loop-self.self ≡ true = sym c.all_count-within.ensures ∙ c.if-within.true in
    simp to_z-of_z (λ s r. i.runs s r ∙ run_first c.pass.new.self w left s c.turn-right.result own room turn (i.walk s r) counts passed.v passed.at end)

pub loop-self-smaller : goal.loop-self-smaller
loop-self-smaller c =
    let w = c.loop-self.self in
    let i = c.loop-self.invariant in
    let left = c.requires.0 in
    let own : HasSides c.loop-self.self c.requires.0 c.loop-self.self.right = subst (HasSides w left) (sym i.right) (i.sides left c.requires.1) in
    let fits_at : SFits w32 c.loop-self.self.at = search rules in
    let fits_right : SFits w32 c.loop-self.self.right = search rules in
    let fits_to : SFits w32 c.turn-right.result = search rules in
    let room : c.loop-self.self.at <ℤ c.loop-self.self.right = search (rules, ints) in
    let turn = c.turn-right.ensures in
    let passed = simp to_z-of_z at c.pass.ensures in
    let end = (passed.sides left own).end in
    less_left c.pass.new.self w c.turn-right.result turn passed.at end

pub loop-self-preserved : goal.loop-self-preserved
loop-self-preserved c =
    let w = c.loop-self.self in
    let i = c.loop-self.invariant in
    let left = c.requires.0 in
    let own : HasSides c.loop-self.self c.requires.0 c.loop-self.self.right = subst (HasSides w left) (sym i.right) (i.sides left c.requires.1) in
    let fits_at : SFits w32 c.loop-self.self.at = search rules in
    let fits_right : SFits w32 c.loop-self.self.right = search rules in
    let fits_to : SFits w32 c.turn-right.result = search rules in
    let room : c.loop-self.self.at <ℤ c.loop-self.self.right = search (rules, ints) in
    let turn = c.turn-right.ensures in
    let passed = simp to_z-of_z at c.pass.ensures in
    let end = (passed.sides left own).end in
    let counts : all_count c.loop-self.self ≡ false = sym c.all_count-within.ensures ∙ c.if-within.false in
    record {
      sides = λ l h. sides_along w c.pass.new.self l _ i.right (c.pass.ensures.sides l) (i.sides l h);
      walk = λ s r. c.pass.ensures.walk s (i.walk s r);
      v = passed.v ∙ i.v;
      right = end ∙ i.right;
      runs = λ s r. i.runs s r ∙ gap_first c.pass.new.self w left s c.turn-right.result own room turn (i.walk s r) counts passed.v passed.at end;
    }

pub returns-clause-none : goal.returns-clause-none
returns-clause-none c =
    let w = c.loop-self.self in
    let fits_at : SFits w32 c.loop-self.self.at = search rules in
    let fits_right : SFits w32 c.loop-self.self.right = search rules in
    let over : c.loop-self.self.right ≤ℤ c.loop-self.self.at = search (rules, ints) in
    λ s r. c.loop-self.invariant.runs s r ∙ runs-end _ w.v w.at w.right over

pub returns-clause-ended : goal.returns-clause-ended
returns-clause-ended c =
    let w = c.loop-self.self in
    let fits_at : SFits w32 c.loop-self.self.at = search rules in
    let fits_right : SFits w32 c.loop-self.self.right = search rules in
    let over : c.loop-self.self.right ≤ℤ c.loop-self.self.at = search (rules, ints) in
    λ s. runs-end _ w.v w.at w.right over
