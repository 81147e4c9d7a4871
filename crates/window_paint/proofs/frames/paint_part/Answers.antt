use Rattle.def_iface.specs.contracts.taken_window.TakenWindowDefined.TheImpl as taken
use Rattle.bit_blit.proofs.DrawsLemmas.{Draws-once}
use Rattle.bit_blit.proofs.OnceLemmas.{Once-on_map}
use Rattle.window_paint.proofs.WritesLemmas.{anew_written}
use Rattle.window_paint.proofs.CutLemmas.{all_drawn, region_written}
use Rattle.window_paint.proofs.FrameLemmas.{painted_by}
use Rattle.window_paint.proofs.frames.paint_part.Goals as goal

pub returns-clause-painted : goal.returns-clause-painted
returns-clause-painted g c =
    painted_by c.args.font.now ((taken.loan-value g.dyn-1).it c.args.window.now.taken).definition c.args.window.now.place c.args.new.now c.args.frame.now c.args.map.now c.whiten.new.map c.draw_clipped.new.map (Draws-once _ _ _ _ c.whiten.ensures)
    (all_drawn c.args.frame.now c.bbox-clip.result _ c.whiten.new.map c.draw_clipped.new.map (λ p e. c.bbox-clip.ensures.exact.holds p e) c.draw_clipped.ensures.drawn)

pub returns-clause-written : goal.returns-clause-written
returns-clause-written g c = anew_written c.args.new.now c.args.frame.now _ c.args.map.now c.whiten.new.map c.draw_clipped.new.map c.whiten.ensures
    (region_written c.args.frame.now c.bbox-clip.result c.whiten.new.map c.draw_clipped.new.map c.draw_clipped.ensures.written) (Once-on_map _ _ _ _ c.whiten.ensures)
