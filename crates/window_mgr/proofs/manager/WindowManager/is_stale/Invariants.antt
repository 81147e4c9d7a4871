use Rattle.std.proofs.Common.{◌≡◌, drop}
use Rattle.vis_update.specs.Areas.{stale_in}
use Rattle.window_mgr.proofs.manager.WindowManager.is_stale.Given as goal

abbrev pub invariant-loop-area : goal.invariant-loop-area
invariant-loop-area g l = stale_in (drop l.area-index l.self.areas.items) l.point ≡ stale_in l.self.areas.items l.point
