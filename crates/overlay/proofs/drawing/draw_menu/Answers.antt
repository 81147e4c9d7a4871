use Rattle.std.proofs.Common.{rules}
use Rattle.overlay.proofs.ShownLemmas.{uncut, uncut_written}
use Rattle.overlay.proofs.drawing.draw_menu.Goals as goal

pub returns-clause-drawn : goal.returns-clause-drawn
returns-clause-drawn g c = uncut c.args.within _ c.args.map.now c.draw.new.canvas.map.now _ (search rules) c.draw.ensures.drawn

pub returns-clause-written : goal.returns-clause-written
returns-clause-written g c = uncut_written c.args.within c.args.map.now c.draw.new.canvas.map.now _ (search rules) c.draw.ensures.same_frame.written
