use Rattle.bit_blit.proofs.DrawsLemmas.{Draws-value}
use Rattle.draw_port.specs.Canvases.{canvas_point}
use Rattle.window_paint.proofs.WhiteLemmas.{pattern_bit-white}
use Rattle.window_paint.proofs.showing.NothingShownShowing.draw.Goals as goal

pub returns-clause-drawn : goal.returns-clause-drawn
returns-clause-drawn c = Draws-value _ _ _ _ _ (λ p d. pattern_bit-white (canvas_point c.args.canvas.now p)) c.fill_all.ensures.drawn
