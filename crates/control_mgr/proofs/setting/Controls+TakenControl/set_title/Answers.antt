use Rattle.std.proofs.Common.{◌≡◌, false, ◌≤◌, length, ◌∙◌, ap, refl, subst}
use Rattle.std.specs.Prelude.{nat_lt}
use Rattle.std.proofs.lemmas.Bool.{le-ltb}
use Rattle.control_mgr.specs.Fields.{with_title}
use Rattle.desk_call.specs.declared.control.ControlCall.TheVariants as asks
use Rattle.control_mgr.proofs.Sets.{set_done, state_read, title_agrees, title_fits}
use Rattle.control_mgr.proofs.setting.Controls+TakenControl.set_title.Goals as goal

pub returns : goal.returns
returns g c o =
    let set = c.args.set.now in
    let spot = c.in_ok-spot.spot in
    let is = c.in_ok-spot.ensures in
    let made = c.in_ok-state.ensures in
    let short : nat_lt 255 (length set.title) ≡ false = le-ltb 255 (length set.title) (subst (λ n. n ≤ 255) (ap length c.as_slice.ensures) made.1) in
    set_done _ _ set.control c.args.windows.now c.args.self.now spot is c.put.new.windows c.put.new.self (asks.SetTitle set) _ (with_title set.title) o
    (λ others slots kept. title_fits _ _ set.control c.args.windows.now c.args.self.now spot is (nat_lt 255 (length set.title)) short)
    (λ x e. title_agrees set.title c.state-state.result _ x (state_read _ _ set.control c.args.windows.now c.args.self.now spot is c.state-state.result c.state-state.ensures x e) refl refl (made.0 ∙ c.as_slice.ensures))
    (λ before after h. h)
    (c.put.ensures.put set.control is o o)
