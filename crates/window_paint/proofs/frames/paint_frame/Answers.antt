use Rattle.window_paint.proofs.FrameLemmas.{framed_within, written_within}
use Rattle.window_paint.proofs.frames.paint_frame.Goals as goal

pub returns-clause-drawn : goal.returns-clause-drawn
returns-clause-drawn g c =
    framed_within c.args.region.now c.on_screen-clip.result _ _ c.args.map.now c.draw_clipped.new.map (λ p e. c.on_screen-clip.ensures.pixels p (c.requires.inside p e)) c.draw_clipped.ensures.drawn

pub returns-clause-written : goal.returns-clause-written
returns-clause-written g c =
    written_within c.args.region.now c.on_screen-clip.result _ c.args.map.now c.draw_clipped.new.map (λ p e. c.on_screen-clip.ensures.pixels p (c.requires.inside p e)) c.draw_clipped.ensures.written
