use Rattle.std.proofs.Common.{pos, ◌-ℤ◌, ◌+ℤ◌, ◌≤ℤ◌, ◌<ℤ◌}
use Rattle.tb_geom.specs.Pixels.{holds}
use Rattle.region_inset.proofs.InsetLemmas.{AreJoined}
use Rattle.region_inset.proofs.inset_row.inset_row.Given as goal

abbrev pub invariant-loop-y : goal.invariant-loop-y
invariant-loop-y l = record {
  low : (l.fn.v -ℤ l.reach) <ℤ l.y;
  high : l.y ≤ℤ ((l.fn.v +ℤ l.reach) +ℤ pos 1);
  joined : AreJoined l.all (holds l.region) l.dh (l.fn.v -ℤ l.reach) l.y l.bounds.left l.bounds.right l.row;
}
