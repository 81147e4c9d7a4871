use Rattle.std.proofs.Common.{◌≡◌, drop, position}
use Rattle.std.specs.List.{position_from}
use Rattle.vis_update.specs.Areas.{area_has}
use Rattle.window_mgr.proofs.manager.WindowManager.window_at.Given as goal

abbrev pub invariant-loop-at : goal.invariant-loop-at
invariant-loop-at g l = position_from (area_has l.point) l.at (drop l.at l.self.areas.items) ≡ position (area_has l.point) l.self.areas.items
