use Rattle.std.proofs.Common.{◌≡◌, ◌≤◌, take, length}
use Rattle.tb_geom.specs.Points.{minus}
use Rattle.tb_geom.specs.declared.point.Point.{Point}
use Rattle.tb_geom.specs.Pixels.{holds}
use Rattle.window_list.specs.Holders.{is_covered}
use Rattle.window_list.specs.Owned.{AreOwned}
use Rattle.window_list.proofs.layers.made.Given as goal

abbrev pub invariant-loop-at : goal.invariant-loop-at
invariant-loop-at l = record {
  owned : AreOwned l.place (take l.at l.layers.items) l.owned.items;
  covered : (p : Point) → holds l.covered p ≡ is_covered (take l.at l.layers.items) (minus p l.place);
  many : l.owned.len ≡ l.at;
  room : length l.layers.items ≤ l.owned.cap;
}
