use Rattle.std.proofs.Common.{sym, ◌∙◌, ap, rules}
use Rattle.draw_port.specs.Canvases.{canvas_holds, canvas_point}
use Rattle.def_iface.specs.ListMeaning.{no_list_news}
use Rattle.list_cells.specs.Grids.{content_of}
use Rattle.list_cells.specs.Selections.{is_toggled}
use Rattle.list_view.specs.Walks.{selected_as}
use Rattle.list_view.proofs.TurnLemmas.{is_selected_as, turned_cell, unturned_cell}
use Rattle.list_view.proofs.pens.CellToggleCellPen.draw.Goals as goal

pub returns-then-is_toggled-clause-drawn : goal.returns-then-is_toggled-clause-drawn
returns-then-is_toggled-clause-drawn g c =
    let cells = c.args.cells.now in
    let s = c.args.self.now.selecting in
    let d = (g.D.DrawnList.list_loan c.args.self.now.definition.now).definition in
    let font = c.args.canvas.now.font.now in
    let toggled = sym (c.is_toggled.ensures (selected_as s cells) (is_selected_as cells s)) ∙ c.if-is_toggled.true in
    turned_cell (canvas_holds c.args.canvas.now) (is_toggled cells (selected_as s cells) c.args.cell) (d.highlight no_list_news font c.unwrap-bytes.result.now) (d.highlight no_list_news font (content_of cells c.args.cell).bytes) (canvas_point c.args.canvas.now) _ _ toggled
    (ap (d.highlight no_list_news font) (search rules)) c.hilite_cell.ensures.drawn

pub returns-else-is_toggled-clause-drawn : goal.returns-else-is_toggled-clause-drawn
returns-else-is_toggled-clause-drawn g c =
    let cells = c.args.cells.now in
    let s = c.args.self.now.selecting in
    let d = (g.D.DrawnList.list_loan c.args.self.now.definition.now).definition in
    let font = c.args.canvas.now.font.now in
    let toggled = sym (c.is_toggled.ensures (selected_as s cells) (is_selected_as cells s)) ∙ c.if-is_toggled.false in
    unturned_cell (canvas_holds c.args.canvas.now) (is_toggled cells (selected_as s cells) c.args.cell) (d.highlight no_list_news font (content_of cells c.args.cell).bytes) (canvas_point c.args.canvas.now) _ toggled
