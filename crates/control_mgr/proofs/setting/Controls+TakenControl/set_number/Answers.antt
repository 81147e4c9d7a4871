use Rattle.std.proofs.Common.{rules, SFits, w32, ◌≡◌, true, false, Some, ◌∙◌, ap, refl, sym}
use Rattle.std.specs.Prelude.{is_ok}
use Rattle.std.proofs.lemmas.Result.{err_from_is_err_and}
use Rattle.std.proofs.lemmas.Int.{to_z-of_z}
use Rattle.tb_geom.specs.Refusals.{first_refusal}
use Rattle.control_mgr.specs.Fields.{with_values}
use Rattle.control_mgr.specs.Numbers.{call_of, may_have_number, with_number}
use Rattle.control_mgr.proofs.Sets.{chosen, number_effect, number_fits, number_judged, number_missing, number_reasons, number_refused, set_done, state_read, values_agree}
use Rattle.control_mgr.proofs.Steps.{refused_where}
use Rattle.control_mgr.proofs.setting.Controls+TakenControl.set_number.Goals as goal

pub returns-in_err-spot : goal.returns-in_err-spot
returns-in_err-spot g c o =
    let which = c.args.which in
    let set = c.args.set in
    let e = err_from_is_err_and c.from_residual.result c.from_residual.ensures.1 in
    refused_where _ _ (call_of which set) c.from_residual.result e.0 c.args.windows.now o c.args.self.now e.1
    (λ others slots kept. number_missing _ _ which set c.args.windows.now c.args.self.now _ c.in_err-spot.ensures others slots kept ∙ ap Some (sym e.2))

pub returns-in_err-set_in : goal.returns-in_err-set_in
returns-in_err-set_in g c o =
    let which = c.args.which in
    let set = c.args.set in
    let spot = c.in_ok-spot.spot in
    let is = c.in_ok-spot.ensures in
    let range : SFits w32 set.number = search rules in
    let judged = simp to_z-of_z at c.set_in.ensures.in_range in
    let fits : may_have_number which set.number c.state-state.result.values ≡ false = sym judged ∙ ap is_ok c.in_err-set_in.was in
    let e = err_from_is_err_and c.from_residual-in_err-set_in.result c.from_residual-in_err-set_in.ensures.1 in
    refused_where _ _ (call_of which set) _ e.0 c.args.windows.now o c.args.self.now e.1
    (λ others slots kept. ap first_refusal (number_reasons which set _ _)
    ∙ number_refused _ _ set.control c.args.windows.now c.args.self.now spot is _ (number_judged _ _ set.control c.args.windows.now c.args.self.now spot is which set.number c.state-state.result c.state-state.ensures ∙ fits)
    ∙ ap Some (sym (e.2 ∙ c.in_err-set_in.ensures.refused)))

pub returns : goal.returns
returns g c o =
    let which = c.args.which in
    let set = c.args.set in
    let spot = c.in_ok-spot.spot in
    let is = c.in_ok-spot.ensures in
    let range : SFits w32 set.number = search rules in
    let setting = simp to_z-of_z at c.set_in.ensures.setting in
    let judged = simp to_z-of_z at c.set_in.ensures.in_range in
    let fits : may_have_number which set.number c.state-state.result.values ≡ true = sym judged ∙ ap is_ok c.in_ok-set_in.was in
    set_done _ _ set.control c.args.windows.now c.args.self.now spot is c.put.new.windows c.put.new.self (call_of which set) _ (λ x. with_values (with_number which set.number x.kept.values) x) o
    (λ others slots kept. ap first_refusal (number_reasons which set _ _)
    ∙ number_fits _ _ set.control c.args.windows.now c.args.self.now spot is _ (number_judged _ _ set.control c.args.windows.now c.args.self.now spot is which set.number c.state-state.result c.state-state.ensures ∙ fits))
    (λ x e. values_agree (with_number which set.number) c.state-state.result _ x (state_read _ _ set.control c.args.windows.now c.args.self.now spot is c.state-state.result c.state-state.ensures x e)
    (chosen (may_have_number which set.number c.state-state.result.values) _ _ _ setting fits) refl refl)
    (number_effect which set)
    (c.put.ensures.put set.control is o o)
