use Rattle.std.proofs.Common.{rules}
use Rattle.window_mgr.proofs.manager.WindowManager.seats_after.Goals as goal

pub returns : goal.returns
returns g c = record {
  all = c.in_ok-seats.seats.items;
  seat = c.remove-seat.result;
  are = c.in_ok-seats.ensures.seats;
  at = c.remove-seat.ensures.value;
  is = search rules;
}
