use Rattle.window_mgr.proofs.FindLemmas.{numbered_at}
use Rattle.window_mgr.proofs.manager.WindowManager.find.Goals as goal

pub returns : goal.returns
returns g c = numbered_at _ c.args.window c.args.self.now.windows.records.items c.find.result c.find.ensures
