-- The line of a check, and a script that it follows.
use Rattle.std.proofs.Common.{◌≡◌, inl, inr, ℕ, Bool, true, List, Option, None, Some, Result, Ok, Err, refl, sym, ap, subst}
use Rattle.std.specs.Result.{IfOk, result_ok}
use Rattle.std.specs.declared.alloc.AllocError.{AllocError}
use Rattle.def_iface.specs.Slots.{TakenBox}
use Rattle.def_iface.specs.ControlMeaning.{ControlLoan}
use Rattle.def_iface.specs.ListMeaning.{ListLoan}
use Rattle.def_iface.specs.WindowMeaning.{WindowLoan}
use Rattle.def_iface.specs.MenuMeaning.{MenuLoan}
use Rattle.def_iface.specs.Stocks.{AllSlots}
use Rattle.desk_toolbox.specs.declared.toolbox.Toolbox.{Toolbox}
use Rattle.tb_geom.specs.declared.refusal.Refusal.{Refusal}
use Rattle.desk_toolbox.specs.WholeToolbox.{IsDrawableToolbox, IsWholeToolbox, toolbox_state}
use Rattle.desk_toolbox.proofs.Drawable.{drawable}
use Rattle.scratch_paint.specs.Differences.{difference_count, differences_of, row_differences}
use Rattle.desk_toolbox.specs.Boxed.{no_slots}
use Rattle.watched_io.specs.Reads.{Input}
use Rattle.watched_io.specs.Writes.{Output, Sends}
use Rattle.script_runner.specs.Checks.{IsCheckLine, IsFollowed, check_text}
use Rattle.script_runner.specs.Runs.{CheckedEnds, ScriptEnds}
use Rattle.script_runner.specs.Script.{ScriptState}
use Rattle.script_runner.specs.SessionViews.{IsReadyWith, state_with}

module _ {V : Type 0} {H : V → Type 0} (loan : TakenBox V H → WindowLoan) {W : Type 0} {K : W → Type 0} (menu_loan : TakenBox W K → MenuLoan) {U : Type 0} {J : U → Type 0} (control_loan : TakenBox U J → ControlLoan) {X : Type 0} {L : X → Type 0} (list_loan : TakenBox X L → ListLoan) (font : Option (List ℕ)) (stocks : AllSlots) where
  made_line : (t : Toolbox V U W X H J K L) (count : Result ℕ AllocError) → IfOk count (λ n. n ≡ difference_count (toolbox_state loan menu_loan control_loan list_loan t no_slots))
      → IsCheckLine (state_with loan menu_loan control_loan list_loan (Some t) font stocks) (check_text (result_ok count))
  unfolding differences_of row_differences
  made_line t (Ok n) is = inl (ap (λ k. check_text (Some k)) is)
  made_line t (Err e) is = inr refl

  -- with a desk, whose pixels were counted or not
  pub line_of_desk : (desk : Option (Toolbox V U W X H J K L)) (t : Toolbox V U W X H J K L) (count : Result ℕ AllocError) → desk ≡ Some t
      → IfOk count (λ n. n ≡ difference_count (toolbox_state loan menu_loan control_loan list_loan t no_slots)) → IsCheckLine (state_with loan menu_loan control_loan list_loan desk font stocks) (check_text (result_ok count))
  line_of_desk desk t count some is = rw some (made_line t count is)

  unmade_line : (font : Option (List ℕ)) → IsCheckLine (state_with loan menu_loan control_loan list_loan None font stocks) (check_text (Some 0))
  unmade_line None = refl
  unmade_line (Some font) = refl

  -- without one
  pub line_of_none : (desk : Option (Toolbox V U W X H J K L)) → desk ≡ None → IsCheckLine (state_with loan menu_loan control_loan list_loan desk font stocks) (check_text (Some 0))
  line_of_none desk none = rw none (unmade_line font)

-- between two lines a desk can be painted from nothing
module _ {V : Type 0} {H : V → Type 0} (loan : TakenBox V H → WindowLoan) {W : Type 0} {K : W → Type 0} (menu_loan : TakenBox W K → MenuLoan) {U : Type 0} {J : U → Type 0} (control_loan : TakenBox U J → ControlLoan) {X : Type 0} {L : X → Type 0} (list_loan : TakenBox X L → ListLoan) (stocks : AllSlots) where
  pub kept_desk : (desk : Option (Toolbox V U W X H J K L)) (font : Option (List ℕ)) (t : Toolbox V U W X H J K L) → IsReadyWith loan menu_loan control_loan list_loan desk font stocks → desk ≡ Some t
      → IsDrawableToolbox loan menu_loan control_loan list_loan t
  kept_desk None font t ready some = absurd (cc)
  kept_desk (Some d) font t ready some =
      let same : d ≡ t = cc in
      drawable loan menu_loan control_loan list_loan t stocks (subst (λ (x : Toolbox V U W X H J K L). IsWholeToolbox loan menu_loan control_loan list_loan x stocks) same ready).managers

-- a check that is asked for follows a script that ended well
pub followed_by_check : {X : Type 0} (raw check : Bool) (first : ScriptState) (input rest : Input) (old between new : Output) (state : ScriptState) (script r : Result X Refusal) (x : X)
    → check ≡ true → script ≡ Ok x → ScriptEnds raw first input rest old between state script → (text : List ℕ) × IsCheckLine state.session text × Sends between new r text
    → CheckedEnds raw check first input rest old new state r
followed_by_check raw check first input rest old between new state script r x asked well ends line = record {
  between = between;
  script = script;
  ends = ends;
  followed = subst (λ b. IsFollowed b script state.session between new r) (sym asked) (subst (λ s. IsFollowed true s state.session between new r) (sym well) line);
}
