use Rattle.std.proofs.Common.{refl}
use Rattle.window_mgr.proofs.manager.WindowManager.commit_scroll.Goals as goal

pub returns : goal.returns
returns g c = record { area = c.put_update.ensures.area; there = c.put_update.ensures.there; painted = rw c.put_update.ensures.state c.scroll_content.ensures; state = rw c.put_update.ensures.state refl }
