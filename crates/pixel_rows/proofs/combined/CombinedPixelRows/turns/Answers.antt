use Rattle.std.proofs.lemmas.Int.{to_z-of_z}
use Rattle.pixel_rows.specs.Combined.{means}
use Rattle.pixel_rows.proofs.combined.CombinedPixelRows.turns.Goals as goal

pub returns-else-has_points : goal.returns-else-has_points
returns-else-has_points c = λ none.
    let fits_v = c.ranges.v in
    let first = simp to_z-of_z at (c.has_points.ensures c.if-has_points.false) in
    let second = simp to_z-of_z at (c.has_points-else-has_points.ensures none) in
    λ h i. means c.args.self.now.how (first h i) (second h i)
