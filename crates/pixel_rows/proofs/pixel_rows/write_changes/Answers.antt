use Rattle.std.proofs.Common.{◌≡◌, false, List, [], ◌∷◌, ◌++◌, ℤ, sym, ◌∙◌}
use Rattle.std.specs.List.{flat_map}
use Rattle.std.proofs.lemmas.Bool.{false≢true}
use Rattle.std.proofs.lemmas.Int.{to_z-of_z}
use Rattle.tb_geom.specs.declared.point.Point.{Point}
use Rattle.region_bytes.specs.Points.{points_of, row_points}
use Rattle.region_bytes.specs.Words.{row_words}
use Rattle.region_bytes.proofs.Written.{AreWritten-push}
use Rattle.pixel_rows.specs.Columns.{changes}
use Rattle.pixel_rows.proofs.BoxLemmas.{from_false}
use Rattle.pixel_rows.proofs.ChangeLemmas.{no_points, points_pushed}
use Rattle.pixel_rows.proofs.pixel_rows.write_changes.Goals as goal

pub returns-then-not-has_change : goal.returns-then-not-has_change
returns-then-not-has_change c =
    let none : (h : ℤ) → changes c.args.above.now c.args.row.now h ≡ false =
    λ h. from_false (changes c.args.above.now c.args.row.now h) (λ e. false≢true (sym c.if-not-has_change.true ∙ c.has_change.ensures.1 (h, e))) in
    λ rows s. (rows, no_points rows c.args.v (changes c.args.above.now c.args.row.now) none, s)

pub returns : goal.returns
returns c =
    let fits_v = c.ranges.v in
    let place = simp to_z-of_z at c.word.ensures in
    let columns = simp to_z-of_z at c.write_points.ensures in
    let some = c.has_change.ensures.0 c.if-not-has_change.false in
    λ rows s.
    let words : List ℤ = flat_map row_words rows ++ c.args.v ∷ [] in
    let points : List Point = points_of rows in
    let w = columns words points (place (flat_map row_words rows) points s) in (
      rows ++ (c.args.v, w.columns) ∷ [],
      points_pushed rows c.args.v (changes c.args.above.now c.args.row.now) some.0 c.write_points.new.out words points some.1 w,
      AreWritten-push c.word-2.new.self rows c.args.v w.columns (c.word-2.ensures (words ++ w.columns) (points ++ row_points (c.args.v, w.columns)) w.written),
    )
