use Rattle.bit_blit.proofs.DrawsLemmas.{Draws-once}
use Rattle.window_paint.proofs.MoveLemmas.{scroll_painted}
use Rattle.window_paint.proofs.moves.scroll_content.Goals as goal

pub returns : goal.returns
returns c = scroll_painted c.args.arriving.now c.args.exposed.now c.args.by c.args.map.now c.shift.new.map c.fill.new.map (Draws-once _ _ _ _ c.shift.ensures) (Draws-once _ _ _ _ c.fill.ensures)
