use Rattle.std.proofs.Common.{ap, ◌∙◌, refl, rules, SFits, w32}
use Rattle.std.proofs.lemmas.Int.{to_z-of_z}
use Rattle.list_cells.specs.declared.cell.Cell.{Cell}
use Rattle.draw_port.proofs.CanvasLemmas.{SameFrame-none, SameFrame-then}
use Rattle.list_view.proofs.WalkLemmas.{rows_begun, rows_more, rows_ended}
use Rattle.list_view.proofs.walk.draw_rows.Goals as goal

pub loop-row-init : goal.loop-row-init
loop-row-init g c =
    let first : SFits w32 c.first-first.result.row = search rules in
    record {
      same_map = refl;
      same_frame = SameFrame-none _;
      drawn = simp to_z-of_z (rows_begun c.args.canvas.now (g.P.CellPen.value c.args.pen.now c.args.cells.now) c.args.view c.args.cells.now c.rows.result c.rows_end-row-end.result c.first-first.result.row c.args.canvas.now.map.now c.first-first.ensures.told c.rows.ensures.rows (ap (λ (d : Cell). d.row) c.first-first.ensures.value) c.rows_end-row-end.ensures.reaches);
    }

pub loop-row-preserved : goal.loop-row-preserved
loop-row-preserved g c = record {
  same_map = c.draw_row.ensures.same_map ∙ c.loop-row.invariant.same_map;
  same_frame = SameFrame-then _ _ _ c.loop-row.invariant.same_frame c.draw_row.ensures.same_frame;
  drawn = rows_more c.args.canvas.now c.loop-row.canvas (g.P.CellPen.value c.args.pen.now c.args.cells.now) c.args.view c.args.cells.now c.loop-row.row _ _ _ c.loop-row.invariant.same_frame c.loop-row.invariant.drawn c.draw_row.ensures.drawn;
}

pub returns-clause-drawn : goal.returns-clause-drawn
returns-clause-drawn g c =
    rows_ended c.args.canvas.now (g.P.CellPen.value c.args.pen.now c.args.cells.now) c.args.view c.args.cells.now c.rows.result c.rows_end-row-end.result c.loop-row.row _ _ c.first-first.ensures.told c.rows.ensures.rows c.rows_end-row-end.ensures.reaches c.loop-row-test.false c.loop-row.invariant.drawn
