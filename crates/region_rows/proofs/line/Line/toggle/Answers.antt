use Rattle.std.proofs.Common.{◌≤ℤ◌, ◌<ℤ◌, refl, rules, SFits, w32}
use Rattle.std.proofs.lemmas.Int.{ints, to_z-of_z}
use Rattle.region_rows.proofs.LineTurns.{toggled_before, toggled_after, toggled_between, kept_apart}
use Rattle.region_rows.proofs.line.Line.toggle.Goals as goal

pub returns-then-x-self-clause-line : goal.returns-then-x-self-clause-line
returns-then-x-self-clause-line c = λ f s.
    let fits : SFits w32 c.args.self.now.left = search rules in
    let left : c.args.x ≤ℤ c.args.self.now.left = search (rules, ints) in
    toggled_before _ _ _ f c.args.x refl refl refl refl left s

pub returns-then-x-self-2-clause-line : goal.returns-then-x-self-2-clause-line
returns-then-x-self-2-clause-line c = λ f s.
    let fits : SFits w32 c.args.self.now.left = search rules in
    let fits_x = c.ranges.x in
    let left : c.args.self.now.left <ℤ c.args.x = search (rules, ints) in
    let place = simp to_z-of_z at c.place.ensures.value in
    toggled_between c.args.words.now _ c.args.self.now f c.args.x (rw place at c.flip.ensures.bits) left s

pub returns-then-x-self-2-clause-apart : goal.returns-then-x-self-2-clause-apart
returns-then-x-self-2-clause-apart c = λ k o.
    let fits : SFits w32 c.args.self.now.left = search rules in
    let fits_r : SFits w32 c.args.self.now.right = search rules in
    let left : c.args.self.now.left ≤ℤ c.args.x = search (rules, ints) in
    let fits_x = c.ranges.x in
    let right : c.args.x <ℤ c.args.self.now.right = search (rules, ints) in
    let place = simp to_z-of_z at c.place.ensures.value in
    kept_apart c.args.words.now _ c.args.self.now c.args.x k (rw place at c.flip.ensures.bits) left right o

pub returns-else-x-self-2-clause-line : goal.returns-else-x-self-2-clause-line
returns-else-x-self-2-clause-line c = λ f s.
    let fits : SFits w32 c.args.self.now.left = search rules in
    let fits_r : SFits w32 c.args.self.now.right = search rules in
    let left : c.args.self.now.left <ℤ c.args.x = search (rules, ints) in
    let right : c.args.self.now.right ≤ℤ c.args.x = search (rules, ints) in
    toggled_after _ _ f c.args.x left right s
