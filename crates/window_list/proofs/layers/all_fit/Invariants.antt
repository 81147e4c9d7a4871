use Rattle.std.proofs.Common.{◌≡◌, true, take}
use Rattle.std.specs.List.{list_all}
use Rattle.window_list.specs.Holders.{fits_at}
use Rattle.window_list.proofs.layers.all_fit.Given as goal

abbrev pub invariant-loop-layer : goal.invariant-loop-layer
invariant-loop-layer l = list_all (fits_at l.place) (take l.layer-index l.layers) ≡ true
