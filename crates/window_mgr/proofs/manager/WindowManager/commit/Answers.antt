use Rattle.window_mgr.proofs.PaintLemmas.{drawn_by}
use Rattle.window_mgr.proofs.manager.WindowManager.commit.Goals as goal

pub returns-clause-drawn : goal.returns-clause-drawn
returns-clause-drawn g c =
    let painted = rw c.deref.ensures.value at c.paint_parts.ensures.painted in
    let written = rw c.deref.ensures.value at c.paint_parts.ensures.written in
    drawn_by c.args.plan c.args.by _ _ c.args.self.now.screen c.move_content.new.map c.fill.new.map c.paint_parts.new.screen c.move_content.ensures.moved c.move_content.ensures.written c.fill.ensures painted written
