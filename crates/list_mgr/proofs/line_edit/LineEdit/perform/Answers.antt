use Rattle.std.proofs.Common.{rules, SFits, w32}
use Rattle.std.proofs.lemmas.Int.{to_z-of_z}
use Rattle.list_mgr.proofs.LinesFrom.{deleted_least}
use Rattle.list_mgr.proofs.line_edit.LineEdit.perform.Goals as goal

pub overflow_cast-result : goal.overflow_cast-result
overflow_cast-result c =
    let lines = c.args.self.lines in
    let count : SFits w32 lines.count = search rules in
    let at : SFits w32 lines.at = search rules in
    let allowed = simp to_z-of_z at c.in_ok-delete_rows-in-Delete-Rows.ensures.allowed in
    let least = deleted_least _ lines.count lines.at allowed in
    rw (to_z-of_z w32 lines.at at) (search rules)

pub overflow_cast-result-in-Delete-Columns : goal.overflow_cast-result-in-Delete-Columns
overflow_cast-result-in-Delete-Columns c =
    let lines = c.args.self.lines in
    let count : SFits w32 lines.count = search rules in
    let at : SFits w32 lines.at = search rules in
    let allowed = simp to_z-of_z at c.in_ok-delete_columns-in-Delete-Columns.ensures.allowed in
    let least = deleted_least _ lines.count lines.at allowed in
    rw (to_z-of_z w32 lines.at at) (search rules)
