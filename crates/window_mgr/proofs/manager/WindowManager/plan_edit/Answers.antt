use Rattle.std.proofs.Common.{◌<◌, length, refl, rules, arith, ap, ◌∙◌}
use Rattle.def_iface.specs.contracts.taken_window.TakenWindowDefined.TheImpl as taken
use Rattle.vis_update.specs.declared.plan.Touch.{Touch}
use Rattle.vis_update.specs.Seats.{IsPlacedSeat}
use Rattle.window_mgr.specs.Arrange.{activation_of}
use Rattle.window_mgr.proofs.KeptEdits.{edit_keeps}
use Rattle.window_mgr.proofs.Seating as arranging
use Rattle.window_mgr.proofs.EditSeats as editing
use Rattle.window_mgr.proofs.Changed as changing
use Rattle.window_mgr.proofs.manager.WindowManager.plan_edit.Goals as goal

pub seats_after-requires-clause-areas : goal.seats_after-requires-clause-areas
seats_after-requires-clause-areas g c = arranging.as_many _ c.args.self.now c.requires.kept

pub plan_of-requires-clause-placed : goal.plan_of-requires-clause-placed
plan_of-requires-clause-placed g c =
    let low : c.args.edit.at < length c.args.self.now.windows.records.items = search rules in
    rw c.deref-2.ensures.value (editing.placed_edit _ c.args.self.now c.requires.kept c.args.edit c.in_ok-seats.seats.items c.in_ok-seats.ensures low c.requires.placed)

pub plan_of-requires-clause-near : goal.plan_of-requires-clause-near
plan_of-requires-clause-near g c =
    let low : c.args.edit.at < length c.args.self.now.windows.records.items = search rules in
    rw c.deref-2.ensures.value (editing.near_edit _ c.args.self.now c.requires.kept c.args.edit c.in_ok-seats.seats.items c.in_ok-seats.ensures low)

pub index-seat-requires : goal.index-seat-requires
index-seat-requires g c =
    let low : c.args.edit.at < length c.args.self.now.windows.records.items = search rules in
    let many = editing.as_many_seats _ c.args.self.now c.requires.kept c.args.edit c.in_ok-seats.seats.items c.in_ok-seats.ensures low in
    let to = c.requires.to in
    omega arith

pub changed_with-requires : goal.changed_with-requires
changed_with-requires g c =
    let low : c.args.edit.at < length c.args.self.now.windows.records.items = search rules in
    editing.of_anew _ c.args.self.now c.requires.kept c.args.edit c.in_ok-seats.seats.items c.in_ok-seats.ensures low (IsPlacedSeat (taken.loan-value g.dyn-1).it)
    (editing.placed_edit _ c.args.self.now c.requires.kept c.args.edit c.in_ok-seats.seats.items c.in_ok-seats.ensures low c.requires.placed) c.index-seat.result.now c.requires.to c.index-seat.ensures

pub plan_of-requires-clause-near_changed : goal.plan_of-requires-clause-near_changed
plan_of-requires-clause-near_changed g c = changing.changed_near _ c.args.self.now c.requires.kept _ _ c.in_ok-changed.ensures

pub plan_of-requires-clause-losing : goal.plan_of-requires-clause-losing
plan_of-requires-clause-losing g c =
    let low : c.args.edit.at < length c.args.self.now.windows.records.items = search rules in
    let touch : Touch = record { window = c.at.result.now.serial; by = c.args.by; whole = c.args.whole } in
    rw c.deref-2.ensures.value (editing.losing_edit _ c.args.self.now c.requires.kept c.args.edit c.in_ok-seats.seats.items c.in_ok-seats.ensures low touch c.at.result.now (search rules) refl
    c.index-seat.result.now c.requires.to c.index-seat.ensures c.in_ok-changed.changed c.in_ok-lost.lost c.in_ok-lost.ensures)

pub returns-clause-plan : goal.returns-clause-plan
returns-clause-plan g c w w_is after deskof =
    let low : c.args.edit.at < length c.args.self.now.windows.records.items = search rules in
    let plan = rw c.deref-2.ensures.value at c.in_ok-plan.ensures.plan in
    let same = editing.same_at c.args.self.now.windows.records.items c.args.edit.at c.at.result.now w low (search rules) w_is in
    rw (editing.areas_edit _ c.args.self.now c.requires.kept c.args.edit c.in_ok-seats.seats.items c.in_ok-seats.ensures low, ap (λ z. z.serial) same) at
    (plan _ _ _ _ (editing.arranged_edit _ c.args.self.now c.requires.kept c.args.edit c.in_ok-seats.seats.items c.in_ok-seats.ensures low w w_is after _ deskof
    (changing.changes_edit _ c.args.self.now c.requires.kept c.args.edit w w_is low after deskof _ (changing.changed_is _ c.args.self.now c.requires.kept c.args.edit c.in_ok-seats.seats.items c.in_ok-seats.ensures low c.requires.to c.index-seat.result.now c.index-seat.ensures c.in_ok-changed.changed c.in_ok-changed.ensures)))
    c.requires.kept.whole.desktop
    (edit_keeps _ c.args.self.now c.requires.kept.whole.sound.distinct c.args.edit w w_is low c.at.result.now.serial (ap (λ z. z.serial) same) c.args.by c.args.whole c.requires.way after deskof))

pub returns-clause-activation : goal.returns-clause-activation
returns-clause-activation g c w w_is =
    let low : c.args.edit.at < length c.args.self.now.windows.records.items = search rules in
    let same = editing.same_at c.args.self.now.windows.records.items c.args.edit.at c.at.result.now w low (search rules) w_is in
    let front = rw c.deref.ensures.value at c.front_of.ensures in
    c.activation-activation.ensures
    ∙ (λ i. activation_of c.args.activates (same i).serial (c.active-active.ensures i) ((front ∙ editing.front_put _ c.args.self.now c.requires.kept c.args.edit c.in_ok-seats.seats.items c.in_ok-seats.ensures low w w_is) i))

pub returns-clause-length : goal.returns-clause-length
returns-clause-length g c =
    let low : c.args.edit.at < length c.args.self.now.windows.records.items = search rules in
    let long = rw c.deref-2.ensures.value at c.in_ok-plan.ensures.length in
    let seats = editing.as_many_seats _ c.args.self.now c.requires.kept c.args.edit c.in_ok-seats.seats.items c.in_ok-seats.ensures low in
    omega arith
