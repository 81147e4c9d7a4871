use Rattle.std.proofs.Common.{refl, sym, arith}
use Rattle.window_mgr.specs.Planned.{new_place}
use Rattle.window_mgr.proofs.ClassPlaces.{place_records}
use Rattle.window_mgr.proofs.KeptEdits.{new_keeps}
use Rattle.window_mgr.proofs.Seating as arranging
use Rattle.window_mgr.proofs.Changed as changing
use Rattle.window_mgr.proofs.manager.WindowManager.plan_with.Goals as goal

pub seats_with-requires : goal.seats_with-requires
seats_with-requires g c = arranging.as_many _ c.args.self.now c.requires.kept

pub plan_of-requires-clause-placed : goal.plan_of-requires-clause-placed
plan_of-requires-clause-placed g c = rw c.deref.ensures.value (arranging.all_placed _ _ _ c.args.self.now.windows.records.items c.args.self.now.areas.items _ c.in_ok-seats.ensures c.requires.placed c.requires.kept.whole.sound.settled)

pub plan_of-requires-clause-near : goal.plan_of-requires-clause-near
plan_of-requires-clause-near g c = rw c.deref.ensures.value (arranging.all_near _ c.args.self.now c.requires.kept _ _ c.empty-nothing.ensures c.in_ok-seats.seats.items c.in_ok-seats.ensures)

pub plan_of-requires-clause-near_changed : goal.plan_of-requires-clause-near_changed
plan_of-requires-clause-near_changed g c = changing.changed_near _ c.args.self.now c.requires.kept _ _ c.in_ok-changed.ensures

pub plan_of-requires-clause-losing : goal.plan_of-requires-clause-losing
plan_of-requires-clause-losing g c =
    rw c.deref.ensures.value (changing.losing_nothing c.args.touch c.empty-nothing.result c.empty-nothing.ensures c.in_ok-changed.changed c.in_ok-lost.lost c.in_ok-lost.ensures c.in_ok-seats.seats.items)

pub returns-clause-plan : goal.returns-clause-plan
returns-clause-plan g c slot begun regions old nowhere =
    let plan = rw c.deref.ensures.value at c.in_ok-plan.ensures.plan in
    arranging.plan_for_any _ _ _ _ (new_place c.args.floating c.args.self.now) c.empty-nothing.result old c.args.self.now.areas.items _ _ c.empty-nothing.ensures nowhere
    (rw (arranging.areas_with _ _ _ _ _ c.in_ok-seats.ensures) at plan _ _ _ _
    (arranging.arranged _ c.args.floating c.args.window.now c.args.touch.window slot _ begun c.args.self.now c.requires.kept c.requires.number regions _
    (record { serial = refl; place = refl; size = refl; shown = refl; definition = refl; nowhere = c.empty-nothing.ensures })
    (new_place c.args.floating c.args.self.now) (sym (place_records c.args.floating _ c.args.self.now.windows.records.items))
    c.in_ok-seats.seats.items _ c.in_ok-seats.ensures
    (changing.changes_new _ c.args.self.now c.requires.kept c.args.floating c.args.window.now c.args.touch.window slot _ begun c.requires.number regions c.empty-nothing.result c.empty-nothing.ensures _ c.in_ok-changed.ensures))
    c.requires.kept.whole.desktop
    (new_keeps _ c.args.self.now c.requires.kept.whole.sound.distinct c.args.floating c.args.window.now c.args.touch.window slot begun c.args.touch refl (arranging.number_is_free _ c.args.self.now c.requires.kept c.args.touch.window c.requires.number)))

pub returns-clause-some : goal.returns-clause-some
returns-clause-some g c =
    let long = rw c.deref.ensures.value at c.in_ok-plan.ensures.length in
    let seats = arranging.seats_length _ _ c.args.self.now.windows.records.items c.args.self.now.areas.items _ c.in_ok-seats.ensures in
    omega arith
