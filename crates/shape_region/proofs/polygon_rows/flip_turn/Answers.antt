use Rattle.std.proofs.Common.{◌&&◌, ◌≤ℤ◌, ◌<ℤ◌, sym, ap, ◌∙◌, rules, SFits, w32}
use Rattle.std.proofs.lemmas.Int.{ints, to_z-of_z}
use Rattle.region_rows.specs.Edges.{differ}
use Rattle.shape_strips.proofs.RangeLemmas.{coordinate_from}
use Rattle.pixel_rows.specs.Columns.{has_column}
use Rattle.shape_region.proofs.PolygonRowLemmas.{turn_here, turn_nowhere}
use Rattle.shape_region.proofs.polygon_rows.flip_turn.Goals as goal

pub returns-then-run : goal.returns-then-run
returns-then-run c =
    let fits_v = c.ranges.v in
    let fits_left : SFits w32 c.run-run.result.left = search rules in
    let fits_right : SFits w32 c.run-run.result.right = search rules in
    let some : c.run-run.result.left <ℤ c.run-run.result.right = search (rules, ints) in
    let told = simp to_z-of_z at c.run-run.ensures in
    let flipped = simp to_z-of_z at c.flip.ensures in
    λ h m l. flipped h ∙ (λ i. differ (coordinate_from h m.0 m.1 i && turn_here c.args.from c.args.to c.run-run.result c.args.v told some h l i) (has_column c.args.columns.now h))

pub returns-else-run : goal.returns-else-run
returns-else-run c =
    let fits_v = c.ranges.v in
    let fits_left : SFits w32 c.run-run.result.left = search rules in
    let fits_right : SFits w32 c.run-run.result.right = search rules in
    let none : c.run-run.result.right ≤ℤ c.run-run.result.left = search (rules, ints) in
    let told = simp to_z-of_z at c.run-run.ensures in
    λ h m l. sym (ap (λ t. differ t (has_column c.args.columns.now h)) (turn_nowhere c.args.from c.args.to c.run-run.result c.args.v told none h l))
