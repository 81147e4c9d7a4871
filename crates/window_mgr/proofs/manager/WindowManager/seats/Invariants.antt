use Rattle.std.proofs.Common.{◌≡◌, ◌<◌, length, take}
use Rattle.window_mgr.specs.Seats.{AreSeatsOf}
use Rattle.window_mgr.proofs.manager.WindowManager.seats.Given as goal

abbrev pub invariant-loop-at : goal.invariant-loop-at
invariant-loop-at g l = record {
  seats : AreSeatsOf (take l.at l.self.windows.records.items) (take l.at l.self.areas.items) l.seats.items;
  made : l.seats.len ≡ l.at;
  room : length l.self.windows.records.items < l.seats.cap;
}
