use Rattle.std.proofs.Common.{refl}
use Rattle.bit_blit.proofs.DrawsLemmas.{Draws-once}
use Rattle.draw_port.proofs.CanvasLemmas.{seen_drawn, SameFrame-drawn, in_clip}
use Rattle.draw_port.proofs.canvas.Canvas.draw_within.Goals as goal

pub returns-clause-drawn : goal.returns-clause-drawn
returns-clause-drawn g c =
    let canvas = c.args.self.now in
    let limits = c.bounds-bounds.ensures.limits in
    seen_drawn canvas c.args.area (g.R.Rule.value c.args.rule.now) _ _ limits.0 limits.1 canvas.near (Draws-once _ _ _ _ c.draw_cut.ensures)

pub returns-clause-same_frame : goal.returns-clause-same_frame
returns-clause-same_frame g c = SameFrame-drawn c.args.self.now _ _ _ refl refl refl refl (in_clip c.args.self.now c.args.area c.requires) c.draw_cut.ensures
