use Rattle.std.proofs.Common.{◌≡◌, take}
use Rattle.tb_geom.specs.declared.point.Point.{Point}
use Rattle.tb_geom.specs.Points.{minus}
use Rattle.tb_geom.specs.Pixels.{holds}
use Rattle.window_list.specs.Holders.{part_at}
use Rattle.window_paint.proofs.KindLayers.{is_among}
use Rattle.window_update.proofs.choices.part_of.Given as goal

abbrev pub invariant-loop-at : goal.invariant-loop-at
invariant-loop-at g l = (p : Point) → holds l.owned p ≡ is_among l.kind (take l.at l.window.layers.layers) (part_at l.window.layers.layers (minus p l.window.layers.place))
