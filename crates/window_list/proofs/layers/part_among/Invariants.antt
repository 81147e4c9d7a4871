use Rattle.std.proofs.Common.{◌≡◌, drop}
use Rattle.window_list.specs.Holders.{part_at}
use Rattle.window_list.proofs.layers.part_among.Given as goal

abbrev pub invariant-loop-at : goal.invariant-loop-at
invariant-loop-at l = part_at (drop l.at l.layers) l.point ≡ part_at l.layers l.point
