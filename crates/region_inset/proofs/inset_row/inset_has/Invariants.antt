use Rattle.std.proofs.Common.{pos, ◌-ℤ◌, ◌+ℤ◌, ◌≤ℤ◌, ◌<ℤ◌}
use Rattle.tb_geom.specs.Pixels.{holds}
use Rattle.region_inset.specs.Insets.{inset_columns}
use Rattle.region_inset.proofs.NearLemmas.{IsJoined}
use Rattle.region_inset.proofs.inset_row.inset_has.Given as goal

abbrev pub invariant-loop-y : goal.invariant-loop-y
invariant-loop-y l = record {
  low : (l.fn.v -ℤ l.reach) <ℤ l.y;
  high : l.y ≤ℤ ((l.fn.v +ℤ l.reach) +ℤ pos 1);
  joined : IsJoined l.all (λ y. inset_columns (holds l.region) l.dh (record { h = l.h; v = y })) (l.fn.v -ℤ l.reach) l.y l.answer;
}
