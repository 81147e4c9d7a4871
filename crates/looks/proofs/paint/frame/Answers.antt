use Rattle.looks.proofs.PaintLemmas.{drawn-frame}
use Rattle.looks.proofs.paint.frame.Goals as goal

pub returns-clause-drawn : goal.returns-clause-drawn
returns-clause-drawn c = drawn-frame c.args.canvas.now c.args.rect c.args.shade _ _ c.paint.ensures.drawn
