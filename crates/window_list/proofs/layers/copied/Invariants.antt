use Rattle.std.proofs.Common.{◌≡◌, ◌≤◌, take, length}
use Rattle.window_list.proofs.layers.copied.Given as goal

abbrev pub invariant-loop-layer : goal.invariant-loop-layer
invariant-loop-layer l = record {
  made : l.copies.items ≡ take l.layer-index l.layers;
  many : l.copies.len ≡ l.layer-index;
  room : length l.layers ≤ l.copies.cap;
}
