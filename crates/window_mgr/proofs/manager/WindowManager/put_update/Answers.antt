use Rattle.std.proofs.Common.{refl}
use Rattle.window_mgr.proofs.manager.WindowManager.put_update.Goals as goal

pub returns : goal.returns
returns g c = record { area = c.index_mut.result.now; there = c.index_mut.ensures.value; state = refl }
