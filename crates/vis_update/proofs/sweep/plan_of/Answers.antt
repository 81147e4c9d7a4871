use Rattle.std.proofs.Common.{◌<◌, length, rules}
use Rattle.std.proofs.lemmas.List.Elements.{All-get_or}
use Rattle.tb_geom.specs.Pixels.{holds}
use Rattle.def_iface.specs.contracts.taken_window.TakenWindowDefined.TheImpl as taken
use Rattle.vis_update.specs.Seats.{IsNearSeat}
use Rattle.vis_update.specs.Plans.{IsLosing}
use Rattle.vis_update.proofs.Sweeping.{swept_more, arrived}
use Rattle.vis_update.proofs.Planning.{swept_plan}
use Rattle.vis_update.proofs.PlaceLemmas.{left_near}
use Rattle.vis_update.proofs.sweep.plan_of.Goals as goal

pub sweep-requires-clause-near : goal.sweep-requires-clause-near
sweep-requires-clause-near g c =
    let low : c.loop-seat.seat-index < length c.args.seats.now = search rules in
    rw c.seat-item.is (All-get_or IsNearSeat c.args.seats.now c.loop-seat.seat-index c.seat-item.result low c.requires.near)

pub sweep-requires-clause-losing : goal.sweep-requires-clause-losing
sweep-requires-clause-losing g c =
    let low : c.loop-seat.seat-index < length c.args.seats.now = search rules in
    rw c.seat-item.is (All-get_or (IsLosing c.args.touch (holds c.args.changed.now) (holds c.args.lost.now)) c.args.seats.now c.loop-seat.seat-index c.seat-item.result low c.requires.losing)

pub loop-seat-preserved : goal.loop-seat-preserved
loop-seat-preserved g c = record {
  empty = c.loop-seat.invariant.empty;
  swept = swept_more _ c.args.touch (holds c.args.changed.now) (holds c.args.changed.now) _ (holds c.loop-seat.rest) (holds c.loop-seat.copied) c.args.seats.now c.loop-seat.areas.items _ c.loop-seat.parts.items _ c.loop-seat.seat-index c.seat-item.result c.in_ok-area.field-0.area c.in_ok-area.field-0.part (holds c.in_ok-area.field-0.left) _ (search rules) (search rules) c.seat-item.is (search rules) c.loop-seat.invariant.swept c.in_ok-area.ensures.swept
      (arrived ((taken.loan-value g.dyn-1).it) c.args.touch c.seat-item.result c.in_ok-area.field-0.area c.in_ok-area.field-0.part c.way_of.result (holds c.loop-seat.copied) _ c.way_of.ensures c.in_ok-area.ensures.still c.in_ok-copied.ensures);
  near = left_near c.loop-seat.rest c.in_ok-area.field-0.left _ c.loop-seat.invariant.near c.in_ok-area.ensures.swept.leaves;
  made = search rules;
  made_parts = search rules;
  room = search rules;
  room_parts = search rules;
}

pub returns-clause-plan : goal.returns-clause-plan
returns-clause-plan g c look before after windows arranged desktop keeps =
    swept_plan _ c.args.touch look before after c.args.changed.now arranged.changes windows c.args.desktop.now _ c.loop-seat.rest c.in_ok-uncovered.uncovered c.loop-seat.copied _ c.args.seats.now c.loop-seat.areas c.loop-seat.parts c.loop-seat.seat-index arranged desktop keeps (search rules) c.loop-seat.invariant.empty c.loop-seat.invariant.swept c.in_ok-uncovered.ensures (λ p. search rules)
