use Rattle.std.proofs.Common.{rules}
use Rattle.window_mgr.proofs.manager.WindowManager.seats_without.Goals as goal

pub returns : goal.returns
returns g c = record { all = c.in_ok-seats.seats.items; are = c.in_ok-seats.ensures.seats; is = search rules }
