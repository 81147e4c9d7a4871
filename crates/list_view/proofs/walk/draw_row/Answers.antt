use Rattle.std.proofs.Common.{ap, ◌∙◌, refl, rules, SFits, w32}
use Rattle.std.proofs.lemmas.Int.{to_z-of_z}
use Rattle.list_cells.specs.declared.cell.Cell.{Cell}
use Rattle.draw_port.proofs.CanvasLemmas.{SameFrame-none, SameFrame-then}
use Rattle.list_view.proofs.WalkLemmas.{row_begun, row_more, row_ended, is_listed}
use Rattle.list_view.proofs.walk.draw_row.Goals as goal

pub loop-column-init : goal.loop-column-init
loop-column-init g c =
    let first : SFits w32 c.first-first.result.column = search rules in
    record {
      same_map = refl;
      same_frame = SameFrame-none _;
      drawn = simp to_z-of_z (row_begun c.args.canvas.now (g.P.CellPen.value c.args.pen.now c.args.cells.now) c.args.view c.args.cells.now c.args.row c.columns.result c.columns_end-column-end.result c.first-first.result.column c.args.canvas.now.map.now c.first-first.ensures.told c.columns.ensures.columns (ap (λ (d : Cell). d.column) c.first-first.ensures.value) c.columns_end-column-end.ensures.reaches);
    }

pub draw_cell-requires-clause-cell : goal.draw_cell-requires-clause-cell
draw_cell-requires-clause-cell g c =
    is_listed c.args.cells.now c.loop-column.column c.args.row c.columns.result c.columns_end-column-end.result c.cell_in.result c.cell_in.ensures c.loop-column-test.true c.columns_end-column-end.ensures.within c.columns.ensures.columns c.requires.row

pub loop-column-preserved : goal.loop-column-preserved
loop-column-preserved g c =
    let listed = is_listed c.args.cells.now c.loop-column.column c.args.row c.columns.result c.columns_end-column-end.result c.cell_in.result c.cell_in.ensures c.loop-column-test.true c.columns_end-column-end.ensures.within c.columns.ensures.columns c.requires.row in
    record {
      same_map = c.draw_cell.ensures.same_map ∙ c.loop-column.invariant.same_map;
      same_frame = SameFrame-then _ _ _ c.loop-column.invariant.same_frame c.draw_cell.ensures.same_frame;
      drawn = row_more c.args.canvas.now c.loop-column.canvas (g.P.CellPen.value c.args.pen.now c.args.cells.now) c.args.view c.args.cells.now c.args.row c.loop-column.column c.cell_in.result _ _ _ c.first-first.ensures.told listed c.cell_in.ensures c.loop-column.invariant.same_frame c.loop-column.invariant.drawn c.draw_cell.ensures.drawn;
    }

pub returns-clause-drawn : goal.returns-clause-drawn
returns-clause-drawn g c =
    row_ended c.args.canvas.now (g.P.CellPen.value c.args.pen.now c.args.cells.now) c.args.view c.args.cells.now c.args.row c.columns.result c.columns_end-column-end.result c.loop-column.column _ _ c.first-first.ensures.told c.columns.ensures.columns c.columns_end-column-end.ensures.reaches c.loop-column-test.false c.loop-column.invariant.drawn
