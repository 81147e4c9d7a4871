use Rattle.shape_arcs.proofs.FrameLemmas.{frame_bounds}
use Rattle.shape_arcs.proofs.frame.FrameArcPixelRows.bounds.Goals as goal

pub returns : goal.returns
returns c = frame_bounds c.args.self.now.rect c.args.self.now.start c.args.self.now.angle c.args.self.now.pen c.args.self.now.in_range
