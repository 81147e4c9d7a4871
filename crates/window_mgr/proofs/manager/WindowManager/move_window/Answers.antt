use Rattle.std.proofs.lemmas.List.Edits.{length-remove}
use Rattle.std.proofs.Common.{◌≡◌, ◌<◌, length, arith, refl, sym, ap, rules, ◌∙◌, inl, false, true, None, if◌then◌else◌, subst, Some}
use Rattle.desk_call.specs.declared.window.WindowCall.TheVariants.{Move}
use Rattle.window_mgr.specs.declared.arrange.Activates.TheVariants.{Nothing, Itself}
use Rattle.window_mgr.specs.declared.arrange.Edit.{Edit}
use Rattle.window_mgr.proofs.PaintLemmas.{settled_in}
use Rattle.window_mgr.proofs.SameDeskLemmas.{is_refused}
use Rattle.window_mgr.specs.Edits.{IsWindowAt}
use Rattle.window_mgr.proofs.EditSeats as seating
use Rattle.window_mgr.proofs.Steps as steps
use Rattle.window_mgr.proofs.manager.WindowManager.move_window.Goals as goal
use Rattle.window_mgr.proofs.manager.WindowManager.move_window.Goals.{then-moved, else-moved}

pub returns-then-not-may_stand-clause-step : goal.returns-then-not-may_stand-clause-step
returns-then-not-may_stand-clause-step g c =
    is_refused _ c.args.self.now (Move c.args.moved) _ (λ slots whole.
    inl (steps.may_move _ c.args.self.now c.args.self.now slots whole c.in-Some.at c.args.moved.window c.at-found.result.now c.in-Some.ensures.0 (search rules) (c.in-Some.ensures.1 c.at-found.result.now (search rules)) c.args.moved false refl (search rules)))

pub way-by-requires-clause-from : goal.way-by-requires-clause-from
way-by-requires-clause-from g c = (settled_in _ c.args.self.now.windows.records.items c.in-Some.at c.at-found.result.now c.in-Some.ensures.0 (search rules) c.requires.whole.sound.settled).placed

pub way-by-requires-clause-to : goal.way-by-requires-clause-to
way-by-requires-clause-to g c =
    steps.arrives _ c.args.self.now c.args.self.now _ c.requires.whole c.in-Some.at c.args.moved.window c.at-found.result.now c.in-Some.ensures.0 (search rules) (c.in-Some.ensures.1 c.at-found.result.now (search rules)) c.args.moved (search rules)

pub rearrange-requires-clause-to : goal.rearrange-requires-clause-to
rearrange-requires-clause-to g c =
    let fewer = length-remove c.args.self.now.windows.records.items c.in-Some.at c.in-Some.ensures.0 in
    let low = c.class_front-front.ensures.low in
    let front : c.class_front-front.result < length c.args.self.now.windows.records.items = omega arith in
    elim c.if-moved.branch [
      | then-moved w ↦ subst (λ n. n < length c.args.self.now.windows.records.items) (sym w.edit-is) front
      | else-moved w ↦ subst (λ n. n < length c.args.self.now.windows.records.items) (sym w.edit-is) c.in-Some.ensures.0
    ]

pub rearrange-requires-clause-placed : goal.rearrange-requires-clause-placed
rearrange-requires-clause-placed g c =
    steps.may_arrive _ c.args.self.now c.args.self.now _ c.requires.whole c.in-Some.at c.args.moved.window c.at-found.result.now c.in-Some.ensures.0 (search rules) (c.in-Some.ensures.1 c.at-found.result.now (search rules)) c.args.moved (search rules) (record c.of-edit.result { place = c.args.moved.place; user_state = None; to = c.if-moved.edit })
    (ap (λ (e : Edit). e.at) c.of-edit.ensures) refl (ap (λ (e : Edit). e.size) c.of-edit.ensures)

pub rearrange-requires-clause-way : goal.rearrange-requires-clause-way
rearrange-requires-clause-way g c =
    seating.goes_there (record c.of-edit.result { place = c.args.moved.place; user_state = None; to = c.if-moved.edit }) c.in-Some.at c.way-by.result c.args.self.now.windows.records.items c.at-found.result.now (ap (λ (e : Edit). e.at) c.of-edit.ensures) c.in-Some.ensures.0 (search rules) c.way-by.ensures

pub returns-clause-step : goal.returns-clause-step
returns-clause-step g c slots whole =
    steps.move_step _ c.args.self.now c.rearrange.new.self slots whole c.in-Some.at c.args.moved.window c.at-found.result.now c.in-Some.ensures.0 (search rules) (c.in-Some.ensures.1 c.at-found.result.now (search rules)) c.args.moved
    _ _ _ _ refl
    (steps.may_move _ c.args.self.now c.args.self.now slots whole c.in-Some.at c.args.moved.window c.at-found.result.now c.in-Some.ensures.0 (search rules) (c.in-Some.ensures.1 c.at-found.result.now (search rules)) c.args.moved true refl (search rules))
    (let goes : c.if-moved.edit ≡ (if c.args.moved.select then c.class_front-front.result else c.in-Some.at) = elim c.if-moved.branch [
      | then-moved w ↦ w.edit-is ∙ ap (λ b. if b then c.class_front-front.result else c.in-Some.at) (sym w.if-moved.true)
      | else-moved w ↦ w.edit-is ∙ ap (λ b. if b then c.class_front-front.result else c.in-Some.at) (sym w.if-moved.false)
    ] in
    let to = goes ∙ ap (λ n. if c.args.moved.select then n else c.in-Some.at) c.class_front-front.ensures.place in
    λ k. record { at = (ap (λ (e : Edit). e.at) c.of-edit.ensures) k; to = to k; place = c.args.moved.place; size = (ap (λ (e : Edit). e.size) c.of-edit.ensures) k; user_state = None; shown = (ap (λ (e : Edit). e.shown) c.of-edit.ensures) k })
    (c.if_so-activates.ensures ∙ ap (λ a. if c.args.moved.select then a else Nothing) (c.if_so.ensures ∙ ap (λ b. if b then Itself else Nothing) c.leads.ensures))
    c.way-by.ensures c.rearrange.ensures.step

pub returns-clause-sparing : goal.returns-clause-sparing
returns-clause-sparing g c =
    let found = c.at-found.result.now in
    let t = c.args.self.now in
    steps.move_spares _ t c.rearrange.new.self _ c.requires.whole c.in-Some.at c.args.moved.window found c.in-Some.ensures.0 (search rules) (c.in-Some.ensures.1 found (search rules)) c.args.moved c.way-by.result refl c.way-by.ensures
    (c.rearrange.ensures.sparing found (subst (λ i. IsWindowAt t.windows.records.items i found) (sym (ap (λ (e : Edit). e.at) c.of-edit.ensures)) (search rules)))
