use Rattle.std.proofs.Common.{None, true, ◌<◌, length, refl, arith, rules, ◌∙◌}
use Rattle.window_mgr.specs.declared.arrange.Activates.TheVariants.{FrontInItsPlace}
use Rattle.vis_update.specs.declared.plan.Touch.{Touch}
use Rattle.window_mgr.specs.Arrange.{activation_of}
use Rattle.window_mgr.proofs.EditSeats.{there_is}
use Rattle.window_mgr.proofs.KeptEdits.{rest_keeps}
use Rattle.window_mgr.proofs.Seating as arranging
use Rattle.window_mgr.proofs.Remarked.{area_there}
use Rattle.window_mgr.proofs.Remarked as remarked
use Rattle.window_mgr.proofs.RestSeats as resting
use Rattle.window_mgr.proofs.Changed as changing
use Rattle.window_mgr.proofs.manager.WindowManager.plan_without.Goals as goal

pub seats_without-requires-clause-areas : goal.seats_without-requires-clause-areas
seats_without-requires-clause-areas g c = arranging.as_many _ c.args.self.now c.requires.kept

pub index-requires : goal.index-requires
index-requires g c =
    let low : c.args.at < length c.args.self.now.areas.items = area_there _ c.args.self.now c.requires.kept c.args.at c.requires.at.0 in
    search rules

pub plan_of-requires-clause-placed : goal.plan_of-requires-clause-placed
plan_of-requires-clause-placed g c =
    rw c.deref-2.ensures.value (resting.placed_rest _ c.args.self.now c.requires.kept c.args.at c.in_ok-seats.seats.items c.in_ok-seats.ensures c.requires.at.0)

pub plan_of-requires-clause-near : goal.plan_of-requires-clause-near
plan_of-requires-clause-near g c =
    rw c.deref-2.ensures.value (resting.near_rest _ c.args.self.now c.requires.kept c.args.at c.in_ok-seats.seats.items c.in_ok-seats.ensures c.requires.at.0)

pub plan_of-requires-clause-near_changed : goal.plan_of-requires-clause-near_changed
plan_of-requires-clause-near_changed g c = changing.changed_near _ c.args.self.now c.requires.kept _ _ c.in_ok-changed.ensures

pub plan_of-requires-clause-losing : goal.plan_of-requires-clause-losing
plan_of-requires-clause-losing g c =
    let w = there_is c.args.self.now.windows.records.items c.args.at c.requires.at.0 in
    let touch : Touch = record { window = c.args.window; by = None; whole = true } in
    rw c.deref-2.ensures.value (resting.losing_rest _ c.args.self.now c.requires.kept c.args.at c.in_ok-seats.seats.items c.in_ok-seats.ensures c.requires.at.0 touch c.index.result.now
    (rw (c.requires.at.1 w.0 w.1) at (remarked.area_is _ c.args.self.now c.requires.kept.slots c.requires.kept.whole c.args.at c.requires.at.0 w.0 w.1 c.index.result.now (search rules)))
    c.in_ok-changed.changed c.empty-lost.result (changing.lost_none c.index.result.now _ c.in_ok-changed.changed c.empty-lost.result c.in_ok-changed.ensures c.empty-lost.ensures))

pub returns-clause-plan : goal.returns-clause-plan
returns-clause-plan g c after desk =
    let plan = rw c.deref-2.ensures.value at c.in_ok-plan.ensures.plan in
    let w = there_is c.args.self.now.windows.records.items c.args.at c.requires.at.0 in
    rw (resting.areas_rest _ c.args.self.now c.requires.kept c.args.at c.in_ok-seats.seats.items c.in_ok-seats.ensures c.requires.at.0) at
    (plan _ _ _ _ (resting.arranged_rest _ c.args.self.now c.requires.kept c.args.at c.in_ok-seats.seats.items c.in_ok-seats.ensures c.requires.at.0 after _ desk
    (changing.changes_rest _ c.args.self.now c.requires.kept c.args.at w.0 w.1 c.requires.at.0 after desk c.index.result.now (search rules) _ c.in_ok-changed.ensures))
    c.requires.kept.whole.desktop
    (rest_keeps _ c.args.self.now c.requires.kept.whole.sound.distinct c.args.at w.0 w.1 c.requires.at.0 (record { window = c.args.window; by = None; whole = true }) refl after desk))

pub returns-clause-activation : goal.returns-clause-activation
returns-clause-activation g c =
    let front = rw c.deref.ensures.value at c.front_of.ensures in
    c.activation-activation.ensures
    ∙ (λ i. activation_of FrontInItsPlace c.args.window (c.active-active.ensures i) ((front ∙ resting.front_rest _ c.args.self.now c.requires.kept c.args.at c.in_ok-seats.seats.items c.in_ok-seats.ensures c.requires.at.0) i))

pub returns-clause-length : goal.returns-clause-length
returns-clause-length g c =
    let long = rw c.deref-2.ensures.value at c.in_ok-plan.ensures.length in
    let seats = resting.one_seat_less _ c.args.self.now c.requires.kept c.args.at c.in_ok-seats.seats.items c.in_ok-seats.ensures c.requires.at.0 in
    omega arith
