use Rattle.std.proofs.Common.{◌≡◌, refl, ◌∙◌, arith}
use Rattle.draw_port.proofs.CanvasLemmas.{SameFrame-none, SameFrame-then}
use Rattle.text_paint.specs.Selected.{reselected}
use Rattle.text_paint.specs.Shown.{line_count}
use Rattle.text_paint.proofs.OverLemmas.{drawn_not}
use Rattle.text_paint.proofs.PaintLemmas.{part_more, parts_ended}
use Rattle.text_paint.proofs.selection.invert_highlight.Goals as goal

pub loop-number-init : goal.loop-number-init
loop-number-init c = record { same_map = refl; same_frame = SameFrame-none _; drawn = drawn_not _ _ }

pub loop-number-preserved : goal.loop-number-preserved
loop-number-preserved c = record {
  same_map = c.invert_part.ensures.same_map ∙ c.loop-number.invariant.same_map;
  same_frame = SameFrame-then _ _ _ c.loop-number.invariant.same_frame c.invert_part.ensures.same_frame;
  drawn = part_more c.args.canvas.now c.loop-number.canvas (reselected c.args.selected c.args.text.now) c.loop-number.number _ _ _ c.loop-number.invariant.same_frame c.loop-number.invariant.drawn c.invert_part.ensures.drawn;
}

pub returns-clause-drawn : goal.returns-clause-drawn
returns-clause-drawn c =
    let all : c.loop-number.number ≡ line_count c.args.text.now = omega (arith, c.line_count-number-end.ensures.value) in
    parts_ended c.args.canvas.now (reselected c.args.selected c.args.text.now) c.loop-number.number _ _ all c.loop-number.invariant.drawn
