use Rattle.def_iface.proofs.LineLemmas.{frame_apart, frame_pixels}
use Rattle.def_iface.proofs.lines.frame_lines.Goals as goal

pub returns-clause-apart : goal.returns-clause-apart
returns-clause-apart c = rw (c.lines_around.ensures, c.inside.ensures) (frame_apart c.args.bounds)

pub returns-clause-pixels : goal.returns-clause-pixels
returns-clause-pixels c = rw (c.lines_around.ensures, c.inside.ensures) (frame_pixels c.args.bounds)
