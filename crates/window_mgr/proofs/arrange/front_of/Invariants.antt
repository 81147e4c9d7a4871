use Rattle.std.proofs.Common.{◌≡◌, drop}
use Rattle.window_mgr.specs.Seats.{first_seated}
use Rattle.window_mgr.proofs.arrange.front_of.Given as goal

abbrev pub invariant-loop-seat : goal.invariant-loop-seat
invariant-loop-seat g l = first_seated (drop l.seat-index l.seats) ≡ first_seated l.seats
