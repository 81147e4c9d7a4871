use Rattle.std.proofs.Common.{rules, SFits, w32, ◌≡◌, true, not, ◌∷◌, [], Some, ◌∙◌, ap, refl, sym}
use Rattle.std.specs.Prelude.{is_ok}
use Rattle.std.proofs.lemmas.Result.{err_from_is_err_and}
use Rattle.std.proofs.lemmas.Int.{to_z-of_z}
use Rattle.control_values.specs.Highlights.{is_highlight}
use Rattle.tb_geom.specs.declared.refusal.Refusal.TheVariants.{OutOfRange}
use Rattle.control_mgr.specs.Fields.{with_highlight}
use Rattle.desk_call.specs.declared.control.ControlCall.TheVariants as asks
use Rattle.control_mgr.proofs.Sets.{highlight_agrees, number_fits, set_done, state_read}
use Rattle.control_mgr.proofs.Steps.{named_missing, refused_where}
use Rattle.control_mgr.proofs.setting.Controls+TakenControl.hilite.Goals as goal

pub returns-in_err-spot : goal.returns-in_err-spot
returns-in_err-spot g c o =
    let e = err_from_is_err_and c.from_residual.result c.from_residual.ensures.1 in
    refused_where _ _ (asks.Hilite c.args.set) c.from_residual.result e.0 c.args.windows.now o c.args.self.now e.1 (λ others slots kept. named_missing _ _ c.args.set.control c.args.windows.now c.args.self.now ((not (is_highlight c.args.set.number), OutOfRange) ∷ []) _ c.in_err-spot.ensures ∙ ap Some (sym e.2))

pub returns : goal.returns
returns g c o =
    let set = c.args.set in
    let spot = c.in_ok-spot.spot in
    let is = c.in_ok-spot.ensures in
    let range : SFits w32 c.args.set.number = search rules in
    let value = simp to_z-of_z at c.in_ok-state.ensures.value in
    let judged = simp to_z-of_z at c.of_number.ensures.in_range in
    let fits : is_highlight c.args.set.number ≡ true = sym judged ∙ ap is_ok c.in_ok-state.was in
    set_done _ _ set.control c.args.windows.now c.args.self.now spot is c.put.new.windows c.put.new.self (asks.Hilite set) _ (with_highlight c.in_ok-state.field-0) o
    (λ others slots kept. number_fits _ _ set.control c.args.windows.now c.args.self.now spot is (is_highlight set.number) fits)
    (λ x e. highlight_agrees c.in_ok-state.field-0 c.state-state.result _ x (state_read _ _ set.control c.args.windows.now c.args.self.now spot is c.state-state.result c.state-state.ensures x e) refl refl refl)
    (λ before after h. (c.in_ok-state.field-0, sym value, h))
    (c.put.ensures.put set.control is o o)
