use Rattle.window_items.specs.Items.{count_of}
use Rattle.text_mgr.proofs.Left.{IsBeingLeft}
use Rattle.text_mgr.proofs.texts.Texts.end_of.Given as goal

abbrev pub invariant-loop-ended : goal.invariant-loop-ended
invariant-loop-ended l = IsBeingLeft l.fn.window l.fn.self l.self

abbrev pub decreases-loop-ended : goal.decreases-loop-ended
decreases-loop-ended l = count_of l.window l.self.list.items.items
