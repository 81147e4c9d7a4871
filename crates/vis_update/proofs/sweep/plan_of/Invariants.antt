use Rattle.std.proofs.Common.{◌≡◌, ◌≤◌, false, take, length}
use Rattle.tb_geom.specs.declared.point.Point.{Point}
use Rattle.tb_geom.specs.Pixels.{holds}
use Rattle.def_iface.specs.contracts.taken_window.TakenWindowDefined.TheImpl as taken
use Rattle.vis_update.specs.Areas.{IsNear}
use Rattle.vis_update.proofs.Sweeping.{AreSwept}
use Rattle.vis_update.proofs.sweep.plan_of.Given as goal

abbrev pub invariant-loop-seat : goal.invariant-loop-seat
invariant-loop-seat g l = record {
  empty : (p : Point) → holds l.initial.copied p ≡ false;
  swept : AreSwept ((taken.loan-value g.dyn-1).it) l.touch (holds l.changed) (holds l.changed) (holds l.initial.copied) (take l.seat-index l.seats) l.areas.items l.parts.items (holds l.rest) (holds l.copied);
  near : IsNear l.rest;
  made : l.areas.len ≡ l.seat-index;
  made_parts : l.parts.len ≡ l.seat-index;
  room : length l.seats ≤ l.areas.cap;
  room_parts : length l.seats ≤ l.parts.cap;
}
