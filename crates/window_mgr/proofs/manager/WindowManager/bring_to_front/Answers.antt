use Rattle.std.proofs.lemmas.List.Edits.{length-remove}
use Rattle.std.proofs.Common.{arith, refl, ap, rules, ◌∙◌, if◌then◌else◌, subst, sym, None}
use Rattle.window_mgr.specs.declared.arrange.Activates.TheVariants.{Nothing, Itself}
use Rattle.window_mgr.specs.declared.arrange.Edit.{Edit}
use Rattle.window_mgr.specs.Edits.{IsWindowAt, stays_put}
use Rattle.window_mgr.specs.Sparing.{Spares}
use Rattle.window_mgr.proofs.EditSeats as seating
use Rattle.window_mgr.proofs.Steps as steps
use Rattle.window_mgr.proofs.manager.WindowManager.bring_to_front.Goals as goal

pub rearrange-requires-clause-to : goal.rearrange-requires-clause-to
rearrange-requires-clause-to g c =
    let fewer = length-remove c.args.self.now.windows.records.items c.in-Some.at c.in-Some.ensures.0 in
    let low = c.class_front.ensures.low in
    omega arith

pub rearrange-requires-clause-placed : goal.rearrange-requires-clause-placed
rearrange-requires-clause-placed g c =
    seating.may_stay_as _ _ (record (stays_put c.in-Some.at c.at-found.result.now) { to = c.class_front.result }) c.args.self.now.windows.records.items c.at-found.result.now (ap (λ (e : Edit). record e { to = c.class_front.result }) c.of-edit.ensures) c.in-Some.ensures.0 (search rules) refl refl c.requires.whole.sound.settled

pub rearrange-requires-clause-way : goal.rearrange-requires-clause-way
rearrange-requires-clause-way g c =
    seating.stays_as _ (record (stays_put c.in-Some.at c.at-found.result.now) { to = c.class_front.result }) c.args.self.now.windows.records.items c.at-found.result.now (ap (λ (e : Edit). record e { to = c.class_front.result }) c.of-edit.ensures) c.in-Some.ensures.0 (search rules) refl

pub returns-clause-step : goal.returns-clause-step
returns-clause-step g c slots whole =
    let edit = ap (λ (e : Edit). record e { to = c.class_front.result }) c.of-edit.ensures ∙ ap (λ n. record (stays_put c.in-Some.at c.at-found.result.now) { to = n }) c.class_front.ensures.place in
    steps.bring_step _ c.args.self.now c.rearrange.new.self slots whole c.in-Some.at c.args.window c.at-found.result.now c.in-Some.ensures.0 (search rules) (c.in-Some.ensures.1 c.at-found.result.now (search rules)) c.args.select _ _ _ edit (c.if_so-activates.ensures ∙ ap (λ a. if c.args.select then a else Nothing) (c.if_so.ensures ∙ ap (λ b. if b then Itself else Nothing) c.leads.ensures)) c.rearrange.ensures.step

pub returns-clause-sparing : goal.returns-clause-sparing
returns-clause-sparing g c =
    let found = c.at-found.result.now in
    subst (λ s. Spares _ s None c.args.self.now c.rearrange.new.self) (c.in-Some.ensures.1 found (search rules))
    (c.rearrange.ensures.sparing found (subst (λ i. IsWindowAt c.args.self.now.windows.records.items i found) (sym (ap (λ (e : Edit). e.at) c.of-edit.ensures)) (search rules)))
