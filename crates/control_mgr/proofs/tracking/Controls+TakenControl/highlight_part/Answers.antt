use Rattle.std.proofs.Common.{sym}
use Rattle.control_mgr.proofs.Presses.{idle_now, index_left, left_alone, shown_so}
use Rattle.control_mgr.proofs.tracking.Controls+TakenControl.highlight_part.Goals as goal

pub returns-then-is_thumb-clause-shown : goal.returns-then-is_thumb-clause-shown
returns-then-is_thumb-clause-shown g c named is o r =
    left_alone _ _ named c.args.highlight c.args.windows.now c.args.self.now o r c.is_thumb.result c.if-is_thumb.true _ (sym c.is_thumb.ensures)

pub returns-clause-shown : goal.returns-clause-shown
returns-clause-shown g c named is o r =
    shown_so _ _ named c.args.highlight c.args.windows.now c.highlight.new.windows c.args.self.now c.highlight.new.self o r c.is_thumb.result c.if-is_thumb.false _ (sym c.is_thumb.ensures) (c.highlight.ensures named is o r)

pub returns-clause-there : goal.returns-clause-there
returns-clause-there g c k =
    index_left _ _ c.requires.spot.of k c.args.highlight c.args.windows.now c.highlight.new.windows c.args.self.now c.highlight.new.self _ _ c.requires.kept c.requires.beside (c.highlight.ensures c.requires.spot.of c.requires.spot.is idle_now idle_now)
