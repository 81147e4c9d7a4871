use Rattle.draw_port.specs.Ops.{clip_holds, row_holds, column_holds}
use Rattle.draw_port.proofs.CanvasLemmas.{near_drawn, shape_painted, text_painted}
use Rattle.draw_port.proofs.canvas.Canvas.paint.Goals as goal

pub returns-in-Erase-clause-drawn : goal.returns-in-Erase-clause-drawn
returns-in-Erase-clause-drawn c = shape_painted c.args.self.now c.args.op.now _ _ _ c.in-Erase.is c.draw_clipped.ensures.drawn

pub returns-in-Invert-clause-drawn : goal.returns-in-Invert-clause-drawn
returns-in-Invert-clause-drawn c = shape_painted c.args.self.now c.args.op.now _ _ _ c.in-Invert.is c.draw_clipped-in-Invert.ensures.drawn

pub returns-in-Fill-clause-drawn : goal.returns-in-Fill-clause-drawn
returns-in-Fill-clause-drawn c = shape_painted c.args.self.now c.args.op.now _ _ _ c.in-Fill.is c.draw_clipped-in-Fill.ensures.drawn

pub returns-in-Frame-clause-drawn : goal.returns-in-Frame-clause-drawn
returns-in-Frame-clause-drawn c = shape_painted c.args.self.now c.args.op.now _ _ _ c.in-Frame.is c.draw_frame.ensures.drawn

pub returns-in-HLine-clause-drawn : goal.returns-in-HLine-clause-drawn
returns-in-HLine-clause-drawn c =
    let canvas = c.args.self.now in
    let op = c.args.op.now in
    let limits = c.draw_clipped-in-HLine.ensures.limits in
    shape_painted canvas op _ _ _ c.in-HLine.is
    (near_drawn canvas (clip_holds op.clip) c.row_bounds.result (row_holds c.in-HLine.line) _ _ _ limits.0 limits.1 canvas.near c.row_bounds.ensures c.draw_clipped-in-HLine.ensures.drawn)

pub returns-in-VLine-clause-drawn : goal.returns-in-VLine-clause-drawn
returns-in-VLine-clause-drawn c =
    let canvas = c.args.self.now in
    let op = c.args.op.now in
    let limits = c.draw_clipped-in-VLine.ensures.limits in
    shape_painted canvas op _ _ _ c.in-VLine.is
    (near_drawn canvas (clip_holds op.clip) c.column_bounds.result (column_holds c.in-VLine.line) _ _ _ limits.0 limits.1 canvas.near c.column_bounds.ensures c.draw_clipped-in-VLine.ensures.drawn)

pub returns-in-Text-clause-drawn : goal.returns-in-Text-clause-drawn
returns-in-Text-clause-drawn c =
    text_painted c.args.self.now c.args.op.now c.in-Text.run' c.as_slice.result.now c.mode.result _ _ c.in-Text.is c.as_slice.ensures.same c.mode.ensures c.clipped_text.ensures.drawn

pub returns-in-Bits-clause-drawn : goal.returns-in-Bits-clause-drawn
returns-in-Bits-clause-drawn c = shape_painted c.args.self.now c.args.op.now _ _ _ c.in-Bits.is c.draw_rows.ensures.drawn

pub returns-in-FillRgn-clause-drawn : goal.returns-in-FillRgn-clause-drawn
returns-in-FillRgn-clause-drawn c = shape_painted c.args.self.now c.args.op.now _ _ _ c.in-FillRgn.is c.draw_region.ensures.drawn
