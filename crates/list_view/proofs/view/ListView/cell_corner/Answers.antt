use Rattle.std.proofs.Common.{rules, SFits, w32}
use Rattle.std.proofs.lemmas.Int.{to_z-of_z}
use Rattle.list_view.specs.Views.{View}
use Rattle.list_view.proofs.ViewLemmas.{cell_corner_is}
use Rattle.list_view.proofs.view.ListView.cell_corner.Goals as goal

pub returns-clause-place : goal.returns-clause-place
returns-clause-place c =
    let v : View = record { across = c.self.inside.across; down = c.self.inside.down; first = c.self.inside.first } in
    let first_column : SFits w32 c.self.inside.first.column = search rules in
    let first_row : SFits w32 c.self.inside.first.row = search rules in
    let column : SFits w32 c.args.cell.column = search rules in
    let row : SFits w32 c.args.cell.row = search rules in
    let across : SFits w32 c.line_start.result = search rules in
    let down : SFits w32 c.line_start-2.result = search rules in
    let across_is = simp to_z-of_z at c.line_start.ensures.value in
    let down_is = simp to_z-of_z at c.line_start-2.ensures.value in
    simp to_z-of_z (cell_corner_is v c.args.self c.args.cell c.line_start.result c.line_start-2.result c.self.view_is across_is down_is)
