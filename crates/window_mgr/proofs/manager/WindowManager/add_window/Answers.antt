use Rattle.std.proofs.Common.{◌≡◌, Bool, true, not, ◌&&◌, if◌then◌else◌, length, ap, ◌∙◌, Some, refl, rules, sym, arith}
use Rattle.std.specs.List.{insert}
use Rattle.std.specs.Result.{is_ok}
use Rattle.vis_update.specs.Plans.{areas_then}
use Rattle.vis_update.proofs.PlaceLemmas.{placed_parts}
use Rattle.window_list.specs.Classes.{front_place}
use Rattle.window_list.specs.Lists.{floats, serial_after}
use Rattle.window_list.proofs.ClassLemmas.{remove_none}
use Rattle.window_mgr.specs.Effects.{new_record}
use Rattle.window_mgr.proofs.NewWindowLemmas.{settled_added, one_more, begun_as}
use Rattle.window_mgr.proofs.manager.WindowManager.add_window.Goals as goal

pub record_for-added-requires-clause-placed : goal.record_for-added-requires-clause-placed
record_for-added-requires-clause-placed g c = (placed_parts _ c.args.window.now.place c.args.window.now.size c.requires.may_stand).place_in

pub add-requires-clause-next : goal.add-requires-clause-next
add-requires-clause-next g c = c.requires.planned.ticket.next ∙ ap Some (sym c.record_for-added.ensures.serial)

pub insert-requires : goal.insert-requires
insert-requires g c =
    let all = ap length (remove_none c.args.self.now.windows.records.items c.len.result c.len.ensures) in
    let low = c.class_front-at.ensures.low in
    let long = c.requires.areas in
    let counted = c.args.self.now.areas.ok.0 in
    omega arith

pub commit-requires-clause-settled : goal.commit-requires-clause-settled
commit-requires-clause-settled g c =
    let begun = (goal.WindowDef-dyn g (c.begin.new.self.definition.vtable, c.begin.new.self.definition.value)).meaning c.begin.new.self.definition.value in
    settled_added _ c.args.floating c.args.window.now c.args.addition.ticket.serial _ _ begun c.record_for-added.result c.args.self.now.windows.active c.args.self.now.windows.records.items _
    (c.record_for-added.ensures.seen ∙ ap (λ s. new_record c.args.floating c.args.window.now c.args.addition.ticket.serial s begun) c.begin.ensures.slot)
    (ap (λ l. l.records.items) c.add.ensures)
    (begun_as c.as_slice.ensures (rw c.begins_highlighted-highlighted.ensures at c.begin.ensures.begun)) c.requires.may_stand c.requires.planned.within c.requires.settled

pub commit-requires-clause-parts : goal.commit-requires-clause-parts
commit-requires-clause-parts g c =
    let some = c.requires.planned.some in
    let long = c.args.addition.plan.parts.ok.0 in
    let added = one_more c.record_for-added.result c.args.self.now.windows.active c.args.self.now.windows.records.items _ (ap (λ l. l.records.items) c.add.ensures) in
    omega arith

pub returns : goal.returns
returns g c =
    let made : is_ok c.insert.result ≡ true = search rules in
    let begun = (goal.WindowDef-dyn g (c.begin.new.self.definition.vtable, c.begin.new.self.definition.value)).meaning c.begin.new.self.definition.value in
    let place = c.class_front-at.ensures.place ∙ ap (front_place floats c.args.floating) (remove_none c.args.self.now.windows.records.items c.len.result c.len.ensures) in
    record {
      record_is = c.record_for-added.result;
      begun = begun;
      live = begun_as c.as_slice.ensures (rw c.begins_highlighted-highlighted.ensures at c.begin.ensures.begun);
      seen = c.record_for-added.ensures.seen ∙ ap (λ s. new_record c.args.floating c.args.window.now c.args.addition.ticket.serial s begun) c.begin.ensures.slot;
      there = c.record_for-added.ensures.there;
      windows = ap (λ t. t.windows.records.items) c.commit.ensures.others ∙ ap (λ l. l.records.items) c.add.ensures;
      area = c.empty.result;
      nowhere = c.empty.ensures;
      areas = c.commit.ensures.areas ∙ ap (λ olds. areas_then olds c.args.addition.plan.areas.items) c.insert.ensures.items
          ∙ ap (λ (b : Bool). areas_then (if b then insert c.args.self.now.areas.items c.class_front-at.result c.empty.result else c.args.self.now.areas.items) c.args.addition.plan.areas.items) made
          ∙ ap (λ n. areas_then (insert c.args.self.now.areas.items n c.empty.result) c.args.addition.plan.areas.items) place;
      desktop = c.commit.ensures.desktop;
      drawn = rw c.commit.ensures.others c.commit.ensures.drawn;
      bar = rw c.commit.ensures.others refl;
      font = rw c.commit.ensures.others refl;
      gray = rw c.commit.ensures.others refl;
      active = ap (λ t. t.windows.active) c.commit.ensures.others ∙ ap (λ l. l.active) c.add.ensures
          ∙ (λ i. if c.record_for-added.ensures.shown i && not (c.record_for-added.ensures.floating i) then Some (c.record_for-added.ensures.serial i) else c.args.self.now.windows.active);
      next = ap (λ t. t.windows.next) c.commit.ensures.others ∙ ap (λ l. l.next) c.add.ensures ∙ ap serial_after c.record_for-added.ensures.serial;
    }
