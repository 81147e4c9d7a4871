use Rattle.overlay.proofs.OutlineLemmas.{AreLeft}
use Rattle.overlay.proofs.outline.draw_outline.Given as goal

abbrev pub invariant-loop-line : goal.invariant-loop-line
invariant-loop-line l = AreLeft l.bar l.lines l.line-index l.fn.map l.map
