use Rattle.std.proofs.Common.{rules, refl, SFits, w32}
use Rattle.std.proofs.lemmas.Int.{to_z-of_z}
use Rattle.list_mgr.proofs.LinesFrom.{columns_cut, rows_cut}
use Rattle.list_mgr.proofs.lines_from.lines_from.Goals as goal

pub returns-in-Rows : goal.returns-in-Rows
returns-in-Rows c =
    let fits : SFits w32 c.max.result = search rules in
    let side : SFits w32 c.rect-rect.result.top = search rules in
    let corner : SFits w32 c.cell_corner-corner.result.v = search rules in
    let line : SFits w32 c.args.line = c.ranges.line in
    let first : SFits w32 c.first-column.result.column = search rules in
    let value = simp to_z-of_z at c.max.ensures.value in
    let place = simp to_z-of_z at c.cell_corner-corner.ensures.place in
    rw c.in-Rows.is (simp to_z-of_z (rows_cut c.args.view c.args.line c.args.scrolled c.rect-rect.result c.cell_corner-corner.result _ c.max.result c.first-column.ensures.told c.if-scrolled.false c.rect-rect.ensures.sides place refl value))

pub returns-in-Columns : goal.returns-in-Columns
returns-in-Columns c =
    let fits : SFits w32 c.max-in-Columns.result = search rules in
    let side : SFits w32 c.rect-rect.result.left = search rules in
    let corner : SFits w32 c.cell_corner-corner-in-Columns.result.h = search rules in
    let line : SFits w32 c.args.line = c.ranges.line in
    let first : SFits w32 c.first-column.result.row = search rules in
    let value = simp to_z-of_z at c.max-in-Columns.ensures.value in
    let place = simp to_z-of_z at c.cell_corner-corner-in-Columns.ensures.place in
    rw c.in-Columns.is (simp to_z-of_z (columns_cut c.args.view c.args.line c.args.scrolled c.rect-rect.result c.cell_corner-corner-in-Columns.result _ c.max-in-Columns.result c.first-column.ensures.told c.if-scrolled.false c.rect-rect.ensures.sides place refl value))
