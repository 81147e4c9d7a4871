use Rattle.std.proofs.Common.{◌≡◌, take, drop}
use Rattle.window_list.specs.Owned.{AreMoved}
use Rattle.window_list.proofs.moves.move_all.Given as goal

abbrev pub invariant-loop-at : goal.invariant-loop-at
invariant-loop-at l = record {
  moved : AreMoved l.by (take l.at l.fn.regions) (take l.at l.regions);
  ahead : drop l.at l.regions ≡ drop l.at l.fn.regions;
}
