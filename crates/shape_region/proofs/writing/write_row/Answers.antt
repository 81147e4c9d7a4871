use Rattle.std.specs.List.{flat_map}
use Rattle.std.proofs.lemmas.Int.{to_z-of_z}
use Rattle.region_bytes.specs.Points.{points_of}
use Rattle.region_bytes.specs.Words.{row_words}
use Rattle.region_bytes.proofs.Written.{AreWritten-push}
use Rattle.shape_region.proofs.writing.write_row.Goals as goal

pub returns : goal.returns
returns c =
    let fits_v = c.ranges.v in
    let place = simp to_z-of_z at c.word.ensures in
    let columns = simp to_z-of_z at c.write_columns.ensures in
    let end = c.word-2.ensures in
    λ rows s. AreWritten-push c.word-2.new.self rows c.args.v c.args.columns.now (end _ _ (columns _ _ (place (flat_map row_words rows) (points_of rows) s)))
