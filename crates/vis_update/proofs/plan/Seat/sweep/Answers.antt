use Rattle.std.proofs.Common.{rules}
use Rattle.tb_geom.specs.Pixels.{holds}
use Rattle.vis_update.proofs.PlaceLemmas.{kept_near}
use Rattle.vis_update.proofs.Sweeping.{stays_where, swept_by, left_alone}
use Rattle.vis_update.proofs.plan.Seat.sweep.Goals as goal

pub returns-then-stays : goal.returns-then-stays
returns-then-stays g c =
    let alone = c.stays.ensures (search rules) in
    record {
      swept = left_alone _ c.args.touch (holds c.args.changed.now) (holds c.args.lost.now) (holds c.args.rest) c.args.self.now c.empty.result c.requires.losing alone c.empty.ensures;
      still = λ _. stays_where c.args.touch c.args.self.now.serial alone.other;
    }

pub carried-requires-2-clause-within : goal.carried-requires-2-clause-within
carried-requires-2-clause-within g c =
    kept_near c.args.self.now.area.now.visible c.args.changed.now c.in_ok-taken.field-0.taken c.in_ok-visible.visible (holds c.args.rest) _ _
    c.requires.near.0 c.requires.near_rest c.in_ok-taken.ensures.taken c.in_ok-visible.ensures

pub returns-clause-swept : goal.returns-clause-swept
returns-clause-swept g c =
    swept_by _ c.args.touch c.args.changed.now c.args.rest c.args.self.now c.in_ok-taken.field-0.taken c.in_ok-taken.field-0.around c.in_ok-visible.visible c.in_ok-had.had c.in_ok-old.old c.in_ok-erase.erase c.in_ok-update.update c.in_ok-frame.frame c.in_ok-redraw.redraw c.in_ok-taken.field-0.left c.way_of-by.result c.draws_whole.result
    c.in_ok-taken.ensures c.way_of-by.ensures c.draws_whole.ensures c.in_ok-visible.ensures c.in_ok-frame.ensures c.in_ok-had.ensures c.in_ok-old.ensures c.in_ok-erase.ensures (λ p. search rules) c.in_ok-redraw.ensures
