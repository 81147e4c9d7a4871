use Rattle.std.proofs.Common.{sym}
use Rattle.std.proofs.lemmas.Iterator.Adapters.{position_from-zero}
use Rattle.vis_update.specs.Areas.{area_has}
use Rattle.window_mgr.proofs.manager.WindowManager.window_at.Goals as goal

pub loop-at-init : goal.loop-at-init
loop-at-init g c = sym (position_from-zero (area_has c.args.point) c.args.self.now.areas.items)
