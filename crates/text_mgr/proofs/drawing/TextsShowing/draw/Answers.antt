use Rattle.std.proofs.Common.{sym, ◌∙◌}
use Rattle.bit_blit.proofs.DrawsLemmas.{Draws-value}
use Rattle.draw_port.specs.Canvases.{canvas_point}
use Rattle.window_paint.proofs.WhiteLemmas.{pattern_bit-white}
use Rattle.text_mgr.proofs.Drawn.{found_shows, none_shows, others_show}
use Rattle.text_mgr.proofs.drawing.TextsShowing.draw.Goals as goal

pub returns-in-Some-clause-drawn : goal.returns-in-Some-clause-drawn
returns-in-Some-clause-drawn c =
    Draws-value _ _ _ _ _
    (λ p d. found_shows c.args.canvas.now.font.now c.args.self.now.list.items.items c.in-Text.serial c.in-Some.at c.index.result.now c.args.part (canvas_point c.args.canvas.now p) c.in-Text.is
    c.in-Some.ensures.first c.in-Some.ensures.within c.index.ensures)
    c.draw_text_record.ensures.drawn

pub returns-in-None-clause-drawn : goal.returns-in-None-clause-drawn
returns-in-None-clause-drawn c =
    Draws-value _ _ _ _ _
    (λ p d. pattern_bit-white (canvas_point c.args.canvas.now p)
    ∙ sym (none_shows c.args.canvas.now.font.now c.args.self.now.list.items.items c.in-Text.serial c.args.part (canvas_point c.args.canvas.now p) c.in-Text.is c.in-None.ensures.first))
    c.fill_all.ensures.drawn

pub returns-in_default : goal.returns-in_default
returns-in_default c = record {
  same_map = c.fill_all-in_default.ensures.same_map;
  same_frame = c.fill_all-in_default.ensures.same_frame;
  drawn = Draws-value _ _ _ _ _
      (λ p d. pattern_bit-white (canvas_point c.args.canvas.now p)
      ∙ sym (others_show c.args.canvas.now.font.now c.args.self.now.list.items.items c.args.part (canvas_point c.args.canvas.now p) c.in_default.not-Text))
      c.fill_all-in_default.ensures.drawn;
}
