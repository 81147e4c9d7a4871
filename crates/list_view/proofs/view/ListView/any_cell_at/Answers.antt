use Rattle.std.proofs.Common.{rules, SFits, w32}
use Rattle.std.proofs.lemmas.Int.{to_z-of_z}
use Rattle.list_view.specs.Views.{View}
use Rattle.list_view.proofs.ViewLemmas.{any_cell_is}
use Rattle.list_view.proofs.view.ListView.any_cell_at.Goals as goal

pub returns-clause-value : goal.returns-clause-value
returns-clause-value c =
    let v : View = record { across = c.self.inside.across; down = c.self.inside.down; first = c.self.inside.first } in
    let first_column : SFits w32 c.self.inside.first.column = search rules in
    let first_row : SFits w32 c.self.inside.first.row = search rules in
    let h : SFits w32 c.args.point.h = search rules in
    let v_fits : SFits w32 c.args.point.v = search rules in
    let column_fits : SFits w32 c.line_at.result = search rules in
    let row_fits : SFits w32 c.line_at-2.result = search rules in
    let column = simp to_z-of_z at c.line_at.ensures.value in
    let row = simp to_z-of_z at c.line_at-2.ensures.value in
    simp to_z-of_z (any_cell_is v c.args.self c.args.point c.line_at.result c.line_at-2.result c.self.view_is column row)
