use Rattle.std.proofs.Common.{SFits, w32}
use Rattle.std.specs.List.{flat_map}
use Rattle.std.proofs.lemmas.Int.{to_z-of_z}
use Rattle.region_bytes.specs.Points.{points_of}
use Rattle.region_bytes.specs.Words.{row_words}
use Rattle.region_bytes.proofs.Written.{AreWritten-push}
use Rattle.region_rows.proofs.MovedRows.{top_fits}
use Rattle.region_rows.proofs.written.write_row.Goals as goal

pub returns : goal.returns
returns c =
    let fits : SFits w32 c.args.row.now.0 = top_fits _ c.requires.0 in
    let place = simp (to_z-of_z, c.v.ensures) at c.word.ensures in
    let columns = simp (to_z-of_z, c.v-2.ensures, c.points.ensures) at c.write_columns.ensures in
    let end = c.word-2.ensures in
    λ rows s. AreWritten-push c.word-2.new.self rows c.args.row.now.0 c.args.row.now.1 (end _ _ (columns _ _ (place (flat_map row_words rows) (points_of rows) s)))
