use Rattle.std.proofs.Common.{rules, ◌≡◌, None, Some, MatchResult, Err, SFits, w32, sym, ap, ◌∙◌, subst}
use Rattle.std.proofs.lemmas.Int.{to_z-of_z}
use Rattle.tb_geom.specs.Refusals.{first_refusal}
use Rattle.list_cells.specs.declared.click.SelectionFlags.{SelectionFlags}
use Rattle.list_cells.specs.Clicks.{flags_number}
use Rattle.list_cells.specs.Runs.{new_refusals}
use Rattle.list_mgr.specs.Making.{number_refusals}
use Rattle.list_mgr.proofs.Numbers.{bad_flags, good_flags, is_no_sum, is_sum}
use Rattle.list_mgr.proofs.judging.flags_of.Goals as goal

pub returns-in_err-flags : goal.returns-in_err-flags
returns-in_err-flags c =
    let flags : SFits w32 c.args.new.now.flags = search rules in
    let is : c.from_residual.result ≡ Err c.in_err-flags.field-0.0 = search rules in
    let none : (f : SelectionFlags) → flags_number f ≡ c.args.new.now.flags → ⊥ = simp to_z-of_z at c.in_err-flags.ensures.no_sum in
    let why = bad_flags c.args.new.now (is_no_sum c.args.new.now.flags none) ∙ ap Some (sym c.in_err-flags.ensures.refused) in
    subst (λ r. MatchResult r (λ flags. (flags_number flags ≡ c.args.new.now.flags) × (first_refusal (number_refusals c.args.new.now) ≡ None)) (λ e. first_refusal (number_refusals c.args.new.now) ≡ Some e)) (sym is) why

pub returns-in-Some : goal.returns-in-Some
returns-in-Some c =
    let flags : SFits w32 c.args.new.now.flags = search rules in
    let columns : SFits w32 c.args.new.now.columns = search rules in
    let rows : SFits w32 c.args.new.now.rows = search rules in
    let sum : flags_number c.in_ok-flags.flags ≡ c.args.new.now.flags = simp to_z-of_z at c.in_ok-flags.ensures.sum in
    let why : Some c.in-Some.refusal ≡ first_refusal (new_refusals c.args.new.now.columns c.args.new.now.rows) = simp to_z-of_z at c.in-Some.ensures in
    good_flags c.args.new.now (is_sum c.in_ok-flags.flags c.args.new.now.flags sum) ∙ sym why

pub returns-in-None : goal.returns-in-None
returns-in-None c =
    let flags : SFits w32 c.args.new.now.flags = search rules in
    let columns : SFits w32 c.args.new.now.columns = search rules in
    let rows : SFits w32 c.args.new.now.rows = search rules in
    let sum : flags_number c.in_ok-flags.flags ≡ c.args.new.now.flags = simp to_z-of_z at c.in_ok-flags.ensures.sum in
    let why : None ≡ first_refusal (new_refusals c.args.new.now.columns c.args.new.now.rows) = simp to_z-of_z at c.in-None.ensures in
    (sum, good_flags c.args.new.now (is_sum c.in_ok-flags.flags c.args.new.now.flags sum) ∙ sym why)
