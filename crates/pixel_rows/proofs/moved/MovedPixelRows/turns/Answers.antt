use Rattle.std.proofs.Common.{◌-ℤ◌, rules, SFits, w32}
use Rattle.std.proofs.lemmas.Int.{to_z-of_z}
use Rattle.tb_geom.specs.Pixels.{holds}
use Rattle.pixel_rows.proofs.ColumnLemmas.{steady_moved, word_apart}
use Rattle.pixel_rows.proofs.moved.MovedPixelRows.turns.Goals as goal

pub returns : goal.returns
returns c = λ none.
    let s = c.args.self.now in
    let fits_v = c.ranges.v in
    let fits_dv : SFits w32 c.args.self.now.dv = search rules in
    let fits_from : SFits w32 (c.args.v -ℤ c.args.self.now.dv) = word_apart c.args.v s.dv c.requires s.down in
    let steady = simp to_z-of_z at (c.has_points.ensures none) in
    steady_moved (holds s.region.now) s.dh s.dv c.args.v steady
