use Rattle.std.proofs.Common.{inl, refl, ap, rules, subst, sym, None}
use Rattle.desk_call.specs.declared.window.WindowCall.TheVariants.{SendBehind}
use Rattle.window_mgr.specs.declared.arrange.Edit.{Edit}
use Rattle.window_mgr.specs.Edits.{IsWindowAt, stays_put}
use Rattle.window_mgr.specs.Sparing.{Spares}
use Rattle.window_mgr.proofs.EditSeats as seating
use Rattle.window_mgr.proofs.SameDeskLemmas.{is_refused}
use Rattle.window_mgr.proofs.Steps as steps
use Rattle.window_mgr.proofs.manager.WindowManager.send_behind.Goals as goal

pub returns-in-Err-clause-step : goal.returns-in-Err-clause-step
returns-in-Err-clause-step g c = is_refused _ c.args.self.now (SendBehind c.args.sent) _ (λ slots whole. inl c.in-Err.ensures)

pub rearrange-requires-clause-placed : goal.rearrange-requires-clause-placed
rearrange-requires-clause-placed g c =
    seating.may_stay_as _ _ (record (stays_put c.in-Some.at c.at-found.result.now) { to = c.in-Ok.to }) c.args.self.now.windows.records.items c.at-found.result.now (ap (λ (e : Edit). record e { to = c.in-Ok.to }) c.of-edit.ensures) c.in-Some.ensures.0 (search rules) refl refl c.requires.whole.sound.settled

pub rearrange-requires-clause-way : goal.rearrange-requires-clause-way
rearrange-requires-clause-way g c =
    seating.stays_as _ (record (stays_put c.in-Some.at c.at-found.result.now) { to = c.in-Ok.to }) c.args.self.now.windows.records.items c.at-found.result.now (ap (λ (e : Edit). record e { to = c.in-Ok.to }) c.of-edit.ensures) c.in-Some.ensures.0 (search rules) refl

pub returns-clause-step : goal.returns-clause-step
returns-clause-step g c slots whole =
    steps.send_step _ c.args.self.now c.rearrange.new.self slots whole c.in-Some.at c.args.sent.window c.at-found.result.now c.in-Some.ensures.0 (search rules) (c.in-Some.ensures.1 c.at-found.result.now (search rules)) c.args.sent _ _ _ refl c.in-Ok.ensures (ap (λ (e : Edit). record e { to = c.in-Ok.to }) c.of-edit.ensures) c.rearrange.ensures.step

pub returns-clause-sparing : goal.returns-clause-sparing
returns-clause-sparing g c =
    let found = c.at-found.result.now in
    subst (λ s. Spares _ s None c.args.self.now c.rearrange.new.self) (c.in-Some.ensures.1 found (search rules))
    (c.rearrange.ensures.sparing found (subst (λ i. IsWindowAt c.args.self.now.windows.records.items i found) (sym (ap (λ (e : Edit). e.at) c.of-edit.ensures)) (search rules)))
