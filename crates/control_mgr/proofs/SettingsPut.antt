-- A control that is given a setting where it is there, and else nothing.
use Rattle.std.proofs.Common.{◌≡◌, ℕ, [], Option, Some, None, refl, sym, ap, ◌∙◌, subst}
use Rattle.std.specs.Prelude.{IfSome, is_none, slice_get}
use Rattle.tb_geom.specs.declared.refusal.Refusal.{Refusal}
use Rattle.tb_geom.specs.Refusals.{first_refusal}
use Rattle.control_mgr.specs.Fields.{with_values}
use Rattle.control_values.specs.Settings.{Setting}
use Rattle.def_iface.specs.Slots.{TakenBox}
use Rattle.def_iface.specs.ControlMeaning.{ControlLoan}
use Rattle.def_iface.specs.WindowMeaning.{WindowLoan}
use Rattle.desk_call.specs.declared.control.ControlOf.{ControlOf}
use Rattle.window_mgr.specs.declared.manager.WindowManager.{WindowManager}
use Rattle.window_mgr.specs.DeskStates.{Opened}
use Rattle.window_mgr.specs.Records.{desk_of}
use Rattle.window_mgr.specs.Refused.{is_missing}
use Rattle.control_mgr.specs.declared.controls.Controls.{Controls}
use Rattle.control_mgr.specs.declared.setting.State.{State}
use Rattle.control_mgr.specs.declared.spots.ControlAt.{ControlAt}
use Rattle.control_mgr.specs.ControlDesks.{index_of}
use Rattle.control_mgr.specs.ControlRefusals.{missing_refusals}
use Rattle.control_mgr.specs.ControlSteps.{IsSettingPutAt}
use Rattle.control_mgr.specs.Damages.{IsPut, IsSettingGiven}
use Rattle.control_mgr.specs.Spots.{IsSpotOf, with_state}
use Rattle.control_mgr.specs.WholeControls.{AreBeside, LeavesControls, control_desk, records_of}
use Rattle.control_mgr.proofs.Presses.{leaves_alike, window_there}
use Rattle.control_mgr.proofs.Sets.{state_of_control, state_read, values_agree}
use Rattle.control_mgr.proofs.Steps.{none_missing}

module _ {V : Type 0} {H : V → Type 0} (loan : TakenBox V H → WindowLoan) {W : Type 0} {K : W → Type 0} (control_loan : TakenBox W K → ControlLoan) (c : ControlOf) (t : WindowManager V H) (m : Controls (TakenBox W K)) where
  -- where something is missing of it, it is not there
  pub none_there : (e : Refusal) → AreBeside control_loan loan t m → first_refusal (missing_refusals c (desk_of loan t []) (records_of control_loan m)) ≡ Some e → index_of c (records_of control_loan m) ≡ None
  none_there e beside why = by_index (index_of c (records_of control_loan m)) refl
    where
      no : None ≡ Some e → ⊥
      no h = absurd (cc)

      by_index : (o : Option ℕ) → index_of c (records_of control_loan m) ≡ o → o ≡ None
      by_index None is = refl
      by_index (Some at) is =
          absurd (no (sym (none_missing c (desk_of loan t []) (records_of control_loan m) (is_missing c.window (desk_of loan t []).windows) (is_none (index_of c (records_of control_loan m)))
          (window_there loan control_loan c t m (index_of c (records_of control_loan m)) refl (ap is_none is) beside) (ap is_none is)) ∙ why))

  -- then nothing happens
  pub setting_missed : (setting : Setting) (o r : Opened) → index_of c (records_of control_loan m) ≡ None → LeavesControls control_loan loan (IsSettingGiven c setting) t o m t r m
  setting_missed setting o r none kept others slots whole controls = (
    whole,
    controls,
    record {
      windows = refl;
      put = λ right. subst (λ i. IsSettingPutAt i c setting (control_desk control_loan loan others t o slots m kept) (control_desk control_loan loan others t r slots m kept)) (sym none)
          (record { windows = refl; controls = refl; others = refl });
    },
  )

  -- else it has another state, with this setting
  pub setting_put : (setting : Setting) (s : ControlAt) → IsSpotOf loan control_loan c t m s → (was now : State) → IfSome (slice_get (records_of control_loan m) s.control) (λ x. was ≡ state_of_control x)
      → now ≡ record was { values = setting } → (u : WindowManager V H) (n : Controls (TakenBox W K)) (o r : Opened) → LeavesControls control_loan loan (IsPut c (with_state now)) t o m u r n
      → LeavesControls control_loan loan (IsSettingGiven c setting) t o m u r n
  setting_put setting s is was now read is_now u n o r leaves kept others slots whole controls =
      let l = leaves_alike loan control_loan c t m s is (with_state now) (with_values setting) u n o r
      (λ x e. values_agree (λ v. setting) was now x (state_read loan control_loan c t m s is was read x e) (ap (λ (y : State). y.values) is_now) (ap (λ (y : State). y.highlight) is_now) (ap (λ (y : State). y.title) is_now))
      leaves kept others slots whole controls in (
        l.0,
        l.1,
        record {
          windows = l.2.windows;
          put = λ right. subst (λ i. IsSettingPutAt i c setting (control_desk control_loan loan others t o slots m kept) (control_desk control_loan loan others u r slots n kept)) (sym is.control) (l.2.shown right);
        },
      )
