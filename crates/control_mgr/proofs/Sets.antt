-- Calls that set a value, a minimum, a maximum, a highlighting or a title of a control.
use Rattle.std.proofs.Common.{◌≡◌, ℕ, Bool, true, false, not, ◌&&◌, cond, List, [], ◌∷◌, ◌++◌, Option, Some, None, Ok, refl, sym, ap, ◌∙◌, subst, ℤ}
use Rattle.std.specs.Prelude.{IfSome, int_le, slice_get}
use Rattle.std.specs.Option.{option_and_then}
use Rattle.tb_geom.specs.declared.refusal.Refusal.{Refusal}
use Rattle.tb_geom.specs.declared.refusal.Refusal.TheVariants.{OutOfRange, TooLong}
use Rattle.tb_geom.specs.Points.{PixelSet}
use Rattle.tb_geom.specs.Refusals.{first_refusal}
use Rattle.control_values.specs.Settings.{Setting, is_in_range}
use Rattle.control_mgr.specs.Fields.{with_highlight, with_title, with_values}
use Rattle.desk_layers.specs.declared.part.Part.{Part}
use Rattle.def_iface.specs.Slots.{TakenBox}
use Rattle.def_iface.specs.ControlMeaning.{ControlLoan}
use Rattle.def_iface.specs.WindowMeaning.{WindowLoan}
use Rattle.def_iface.specs.WindowSlots.{WindowSlot}
use Rattle.desk_call.specs.declared.control.ControlCall.{ControlCall}
use Rattle.desk_call.specs.declared.control.ControlNumber.{ControlNumber}
use Rattle.desk_call.specs.declared.control.ControlOf.{ControlOf}
use Rattle.desk_call.specs.declared.control.ControlReply.TheVariants.{Done}
use Rattle.window_mgr.specs.declared.manager.WindowManager.{WindowManager}
use Rattle.window_mgr.specs.DeskStates.{Opened}
use Rattle.window_mgr.specs.FullDesk.{FullDesk}
use Rattle.window_mgr.specs.Records.{desk_of}
use Rattle.control_mgr.specs.declared.controls.Controls.{Controls}
use Rattle.control_mgr.specs.declared.setting.State.{State}
use Rattle.control_mgr.specs.declared.setting.WhichNumber.{WhichNumber}
use Rattle.control_mgr.specs.declared.setting.WhichNumber.TheVariants.{Maximum, Minimum, Value}
use Rattle.control_mgr.specs.declared.spots.ControlAt.{ControlAt}
use Rattle.control_mgr.specs.ControlDesks.{ControlDesk, ControlRecord, ControlSlot, ControlsState, control_of}
use Rattle.control_mgr.specs.ControlRefusals.{control_refusals, may_be_maximum, may_be_minimum, missing_refusals}
use Rattle.control_mgr.specs.ControlSteps.{IsControlEffect, IsControlStep, IsSet}
use Rattle.control_mgr.specs.Damages.{IsPut, IsWhereRight}
use Rattle.control_mgr.specs.Numbers.{call_of, may_have_number, with_number}
use Rattle.control_mgr.specs.Spots.{IsSpotOf, with_state}
use Rattle.control_mgr.specs.WholeControls.{LeavesControls, control_desk, controls_state, records_of}
use Rattle.control_mgr.proofs.Places.{record_there}
use Rattle.control_mgr.proofs.Steps.{desk_seen, named_missing, one_fails, one_holds, other_reasons, put_alike}
use Rattle.window_items.specs.Items.{with_kept}

-- the state of a control
abbrev pub state_of_control : ControlRecord → State
state_of_control c = record { values = c.kept.values; highlight = c.kept.highlight; title = c.kept.title }

-- another setting
pub values_agree : (f : Setting → Setting) (was is : State) (c : ControlRecord) → was ≡ state_of_control c → is.values ≡ f was.values → is.highlight ≡ was.highlight → is.title ≡ was.title → with_state is c ≡ with_values (f c.kept.values) c
values_agree f was is c e v h t = λ i. with_kept (λ k. record k {
  values = (v ∙ ap (λ (s : State). f s.values) e) i;
  highlight = (h ∙ ap (λ (s : State). s.highlight) e) i;
  title = (t ∙ ap (λ (s : State). s.title) e) i;
}) c

-- another highlighting
pub highlight_agrees : (n : ℕ) (was is : State) (c : ControlRecord) → was ≡ state_of_control c → is.values ≡ was.values → is.highlight ≡ n → is.title ≡ was.title → with_state is c ≡ with_highlight n c
highlight_agrees n was is c e v h t = λ i. with_kept (λ k. record k {
  values = (v ∙ ap (λ (s : State). s.values) e) i;
  highlight = h i;
  title = (t ∙ ap (λ (s : State). s.title) e) i;
}) c

-- another title
pub title_agrees : (n : List ℕ) (was is : State) (c : ControlRecord) → was ≡ state_of_control c → is.values ≡ was.values → is.highlight ≡ was.highlight → is.title ≡ n → with_state is c ≡ with_title n c
title_agrees n was is c e v h t = λ i. with_kept (λ k. record k {
  values = (v ∙ ap (λ (s : State). s.values) e) i;
  highlight = (h ∙ ap (λ (s : State). s.highlight) e) i;
  title = t i;
}) c

-- what is judged holds
pub chosen : {X : Type 0} (b : Bool) (x y z : X) → z ≡ cond b x y → b ≡ true → z ≡ x
chosen b x y z e h = e ∙ ap (λ t. cond t x y) h

-- ---- calls that set a number

-- whether a control may have that number, as the call is judged
abbrev pub is_judged_so : WhichNumber → ℤ → Option ControlRecord → Bool
is_judged_so Value k o = is_in_range k
is_judged_so Minimum k o = may_be_minimum k o
is_judged_so Maximum k o = may_be_maximum k o

pub number_reasons : (which : WhichNumber) (n : ControlNumber) (desk : FullDesk) (s : ControlsState)
    → control_refusals (call_of which n) desk s ≡ missing_refusals n.control desk s.controls ++ (not (is_judged_so which n.number (control_of n.control s.controls)), OutOfRange) ∷ []
number_reasons Value n desk s = refl
number_reasons Minimum n desk s = refl
number_reasons Maximum n desk s = refl

pub number_effect : (which : WhichNumber) (n : ControlNumber) (before after : ControlDesk) → IsSet n.control (λ c. with_values (with_number which n.number c.kept.values) c) Done before after
    → IsControlEffect (call_of which n) Done before after
number_effect Value n before after done = done
number_effect Minimum n before after done = done
number_effect Maximum n before after done = done

pub number_missing : {V : Type 0} {H : V → Type 0} (loan : TakenBox V H → WindowLoan) {W : Type 0} {K : W → Type 0} (control_loan : TakenBox W K → ControlLoan)
    (which : WhichNumber) (n : ControlNumber) (t : WindowManager V H) (m : Controls (TakenBox W K)) (e : Refusal) → first_refusal (missing_refusals n.control (desk_of loan t []) (records_of control_loan m)) ≡ Some e
    → (others : List ℕ → Part → PixelSet) (slots : List WindowSlot) (kept : List ControlSlot) → first_refusal (control_refusals (call_of which n) (desk_seen loan control_loan others t slots m) (controls_state control_loan m kept)) ≡ Some e
number_missing loan control_loan which n t m e missing others slots kept =
    ap first_refusal (number_reasons which n (desk_seen loan control_loan others t slots m) (controls_state control_loan m kept))
    ∙ named_missing loan control_loan n.control t m ((not (is_judged_so which n.number (control_of n.control (records_of control_loan m))), OutOfRange) ∷ []) e missing

module _ {V : Type 0} {H : V → Type 0} (loan : TakenBox V H → WindowLoan) {W : Type 0} {K : W → Type 0} (control_loan : TakenBox W K → ControlLoan) (c : ControlOf) (t : WindowManager V H) (m : Controls (TakenBox W K)) (s : ControlAt) (is : IsSpotOf loan control_loan c t m s) where
  -- the control that is named is the one that stands here
  pub named_here : control_of c (records_of control_loan m) ≡ Some (record_there loan control_loan c t m s is).item
  named_here = ap (λ o. option_and_then (slice_get (records_of control_loan m)) o) is.control ∙ (record_there loan control_loan c t m s is).there

  -- the state that was read is the control's
  pub state_read : (was : State) → IfSome (slice_get (records_of control_loan m) s.control) (λ x. was ≡ state_of_control x) → (x : ControlRecord) → slice_get (records_of control_loan m) s.control ≡ Some x → was ≡ state_of_control x
  state_read was read x e = subst (λ o. IfSome o (λ y. was ≡ state_of_control y)) e read

  -- a number that fits refuses nothing, where the control is there, and one that does not is refused
  pub number_fits : (fits : Bool) → fits ≡ true → first_refusal (missing_refusals c (desk_of loan t []) (records_of control_loan m) ++ (not fits, OutOfRange) ∷ []) ≡ None
  number_fits fits e = other_reasons loan control_loan c t m s is ((not fits, OutOfRange) ∷ []) ∙ one_fails (not fits) OutOfRange (ap not e)

  pub number_refused : (fits : Bool) → fits ≡ false → first_refusal (missing_refusals c (desk_of loan t []) (records_of control_loan m) ++ (not fits, OutOfRange) ∷ []) ≡ Some OutOfRange
  number_refused fits e = other_reasons loan control_loan c t m s is ((not fits, OutOfRange) ∷ []) ∙ one_holds (not fits) OutOfRange (ap not e)

  -- so of a title
  pub title_fits : (long : Bool) → long ≡ false → first_refusal (missing_refusals c (desk_of loan t []) (records_of control_loan m) ++ (long, TooLong) ∷ []) ≡ None
  title_fits long e = other_reasons loan control_loan c t m s is ((long, TooLong) ∷ []) ∙ one_fails long TooLong e

  minimum_judged : (k : ℤ) (was : State) → IfSome (slice_get (records_of control_loan m) s.control) (λ x. was ≡ state_of_control x)
      → may_be_minimum k (control_of c (records_of control_loan m)) ≡ (is_in_range k && int_le k was.values.maximum)
  minimum_judged k was read =
      ap (may_be_minimum k) named_here
      ∙ ap (λ (x : State). is_in_range k && int_le k x.values.maximum) (sym (state_read was read (record_there loan control_loan c t m s is).item (record_there loan control_loan c t m s is).there))

  maximum_judged : (k : ℤ) (was : State) → IfSome (slice_get (records_of control_loan m) s.control) (λ x. was ≡ state_of_control x)
      → may_be_maximum k (control_of c (records_of control_loan m)) ≡ (is_in_range k && int_le was.values.minimum k)
  maximum_judged k was read =
      ap (may_be_maximum k) named_here
      ∙ ap (λ (x : State). is_in_range k && int_le x.values.minimum k) (sym (state_read was read (record_there loan control_loan c t m s is).item (record_there loan control_loan c t m s is).there))

  pub number_judged : (which : WhichNumber) (k : ℤ) (was : State) → IfSome (slice_get (records_of control_loan m) s.control) (λ x. was ≡ state_of_control x)
      → is_judged_so which k (control_of c (records_of control_loan m)) ≡ may_have_number which k was.values
  number_judged Value k was read = refl
  number_judged Minimum k was read = minimum_judged k was read
  number_judged Maximum k was read = maximum_judged k was read

  -- a control that was given a state was set so, where the state agrees
  pub set_done : (u : WindowManager V H) (n : Controls (TakenBox W K)) (call : ControlCall) (f g : ControlRecord → ControlRecord) (o : Opened)
      → ((others : List ℕ → Part → PixelSet) (slots : List WindowSlot) (kept : List ControlSlot) → first_refusal (control_refusals call (desk_seen loan control_loan others t slots m) (controls_state control_loan m kept)) ≡ None)
      → ((x : ControlRecord) → slice_get (records_of control_loan m) s.control ≡ Some x → f x ≡ g x)
      → ((before after : ControlDesk) → IsSet c g Done before after → IsControlEffect call Done before after)
      → LeavesControls control_loan loan (IsPut c f) t o m u o n → LeavesControls control_loan loan (IsWhereRight (IsControlStep call (Ok Done))) t o m u o n
  set_done u n call f g o none agrees effect leaves kept others slots whole controls =
      let l = leaves kept others slots whole controls in
      let before : ControlDesk = control_desk control_loan loan others t o slots m kept in
      let after : ControlDesk = control_desk control_loan loan others u o slots n kept in
      (l.0, l.1, λ right. (none others slots kept, effect before after (refl, record { activity = refl; begun = refl }, (put_alike c f g before after s.control is.control agrees l.2).shown right)))
