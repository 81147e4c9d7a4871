use Rattle.std.proofs.Common.{◌<ℤ◌, ◌≤ℤ◌, sym, ap, ◌∙◌, rules, SFits, w32}
use Rattle.std.proofs.lemmas.Int.{ints, to_z-of_z}
use Rattle.region_rows.specs.Edges.{differ, inside}
use Rattle.shape_region.proofs.PolygonRowLemmas.{first_high, first_low, turned_from, turned_none}
use Rattle.shape_region.proofs.pass.cross.Goals as goal

pub turn_from-requires-clause-low : goal.turn_from-requires-clause-low
turn_from-requires-clause-low c =
    let fits_v = c.ranges.v in
    let fits_left : SFits w32 c.run-run.result.left = search rules in
    let fits_right : SFits w32 c.run-run.result.right = search rules in
    let some : c.run-run.result.left <ℤ c.run-run.result.right = search (rules, ints) in
    let told = simp to_z-of_z at c.run-run.ensures in
    simp to_z-of_z (first_low c.args.from c.args.to c.run-run.result c.args.v told c.requires.from_in c.requires.to_in some)

pub turn_from-requires-clause-high : goal.turn_from-requires-clause-high
turn_from-requires-clause-high c =
    let fits_v = c.ranges.v in
    let fits_left : SFits w32 c.run-run.result.left = search rules in
    let fits_right : SFits w32 c.run-run.result.right = search rules in
    let some : c.run-run.result.left <ℤ c.run-run.result.right = search (rules, ints) in
    let told = simp to_z-of_z at c.run-run.ensures in
    simp to_z-of_z (first_high c.args.from c.args.to c.run-run.result c.args.v told some)

pub returns-then-run-clause-pixels : goal.returns-then-run-clause-pixels
returns-then-run-clause-pixels c =
    let fits_v = c.ranges.v in
    let fits_left : SFits w32 c.run-run.result.left = search rules in
    let fits_right : SFits w32 c.run-run.result.right = search rules in
    let some : c.run-run.result.left <ℤ c.run-run.result.right = search (rules, ints) in
    let told = simp to_z-of_z at c.run-run.ensures in
    let turned = simp to_z-of_z at c.turn_from.ensures.pixels in
    λ h l. turned h ∙ ap (λ t. differ t (inside c.args.columns.now.items h)) (sym (turned_from c.args.from c.args.to c.run-run.result c.args.v told some h l))

pub returns-else-run-clause-pixels : goal.returns-else-run-clause-pixels
returns-else-run-clause-pixels c =
    let fits_v = c.ranges.v in
    let fits_left : SFits w32 c.run-run.result.left = search rules in
    let fits_right : SFits w32 c.run-run.result.right = search rules in
    let none : c.run-run.result.right ≤ℤ c.run-run.result.left = search (rules, ints) in
    let told = simp to_z-of_z at c.run-run.ensures in
    λ h l. sym (ap (λ t. differ t (inside c.args.columns.now.items h)) (turned_none c.args.from c.args.to c.run-run.result c.args.v told none h l))
