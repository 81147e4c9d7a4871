-- Steps of calls about controls: refused ones, those that tell something, and what is known where nothing is missing.
use Rattle.std.proofs.Common.{◌≡◌, inl, inr, ℕ, Bool, true, false, cond, List, [], ◌∷◌, ◌++◌, Some, None, Result, Ok, Err, refl, sym, ap, ◌∙◌, subst}
use Rattle.std.specs.Prelude.{is_none, slice_get}
use Rattle.tb_geom.specs.declared.refusal.Refusal.{Refusal}
use Rattle.tb_geom.specs.declared.refusal.Refusal.TheVariants.{NoMemory, NoSuchControl, NoSuchWindow}
use Rattle.tb_geom.specs.Points.{PixelSet}
use Rattle.tb_geom.specs.Refusals.{first_refusal}
use Rattle.desk_layers.specs.declared.part.Part.{Part}
use Rattle.def_iface.specs.Slots.{TakenBox}
use Rattle.def_iface.specs.ControlMeaning.{ControlLoan}
use Rattle.def_iface.specs.WindowMeaning.{WindowLoan}
use Rattle.def_iface.specs.WindowSlots.{WindowSlot}
use Rattle.desk_call.specs.declared.control.ControlCall.{ControlCall}
use Rattle.desk_call.specs.declared.control.ControlOf.{ControlOf}
use Rattle.desk_call.specs.declared.control.ControlReply.{ControlReply}
use Rattle.window_mgr.specs.declared.manager.WindowManager.{WindowManager}
use Rattle.window_mgr.specs.DeskStates.{Opened}
use Rattle.window_mgr.specs.FullDesk.{FullDesk}
use Rattle.window_mgr.specs.Records.{desk_of, desk_showing}
use Rattle.control_mgr.specs.declared.controls.Controls.{Controls}
use Rattle.control_mgr.specs.declared.spots.ControlAt.{ControlAt}
use Rattle.control_mgr.specs.ControlDesks.{ControlDesk, ControlRecord, ControlSlot, IsControlDeskUnchanged, controls_show, index_of}
use Rattle.control_mgr.specs.ControlRefusals.{control_refusals, may_control_grow, missing_refusals}
use Rattle.control_mgr.specs.ControlSteps.{IsChangedTo, IsControlEffect, IsControlStep}
use Rattle.control_mgr.specs.Damages.{IsPut, IsWhereRight}
use Rattle.control_mgr.specs.Spots.{IsSpotOf}
use Rattle.control_mgr.specs.WholeControls.{LeavesControls, LeavesOver, control_desk, controls_state, records_of}
use Rattle.control_mgr.proofs.Settled.{changed_alike}

-- ---- refusals

-- the first of two lists of reasons, one behind the other
pub first_of : (xs ys : List (Bool × Refusal)) (e : Refusal) → first_refusal xs ≡ Some e → first_refusal (xs ++ ys) ≡ Some e
first_of [] ys e h = absurd (cc)
first_of (x ∷ xs) ys e h = by_test x.0 h (first_of xs ys e)
  where
    by_test : (b : Bool) → cond b (Some x.1) (first_refusal xs) ≡ Some e → (first_refusal xs ≡ Some e → first_refusal (xs ++ ys) ≡ Some e) → cond b (Some x.1) (first_refusal (xs ++ ys)) ≡ Some e
    by_test true h rest = h
    by_test false h rest = rest h

pub first_behind : (xs ys : List (Bool × Refusal)) → first_refusal xs ≡ None → first_refusal (xs ++ ys) ≡ first_refusal ys
first_behind [] ys h = refl
first_behind (x ∷ xs) ys h = by_test x.0 h (first_behind xs ys)
  where
    by_test : (b : Bool) → cond b (Some x.1) (first_refusal xs) ≡ None → (first_refusal xs ≡ None → first_refusal (xs ++ ys) ≡ first_refusal ys) → cond b (Some x.1) (first_refusal (xs ++ ys)) ≡ first_refusal ys
    by_test true h rest = absurd (cc)
    by_test false h rest = rest h

-- one reason, which holds or does not
pub one_holds : (b : Bool) (e : Refusal) → b ≡ true → first_refusal ((b, e) ∷ []) ≡ Some e
one_holds b e h = ap (λ x. cond x (Some e) None) h

pub one_fails : (b : Bool) (e : Refusal) → b ≡ false → first_refusal ((b, e) ∷ []) ≡ None
one_fails b e h = ap (λ x. cond x (Some e) None) h

pub first_fails : (b : Bool) (e : Refusal) (rest : List (Bool × Refusal)) → b ≡ false → first_refusal ((b, e) ∷ rest) ≡ first_refusal rest
first_fails b e rest h = ap (λ x. cond x (Some e) (first_refusal rest)) h

-- of several reasons of which none holds, the first does not, and none of the others
pub none_hold : (b : Bool) (e : Refusal) (rest : List (Bool × Refusal)) → first_refusal ((b, e) ∷ rest) ≡ None → (b ≡ false) × (first_refusal rest ≡ None)
none_hold true e rest none = absurd (cc)
none_hold false e rest none = (refl, none)

pub none_missing : (c : ControlOf) (desk : FullDesk) (cs : List ControlRecord) (gone none : Bool) → gone ≡ false → none ≡ false
    → first_refusal ((gone, NoSuchWindow) ∷ (none, NoSuchControl) ∷ []) ≡ None
none_missing c desk cs gone none e f = first_fails gone NoSuchWindow ((none, NoSuchControl) ∷ []) e ∙ one_fails none NoSuchControl f

module _ {V : Type 0} {H : V → Type 0} (loan : TakenBox V H → WindowLoan) {W : Type 0} {K : W → Type 0} (control_loan : TakenBox W K → ControlLoan) where
  -- the desk of windows and controls, as refusals and steps see it, where other layers show this
  abbrev pub desk_seen : (List ℕ → Part → PixelSet) → WindowManager V H → List WindowSlot → Controls (TakenBox W K) → FullDesk
  desk_seen others t slots m = desk_showing (controls_show others (records_of control_loan m)) (desk_of loan t slots)

  pub unchanged : (others : List ℕ → Part → PixelSet) (t : WindowManager V H) (o : Opened) (slots : List WindowSlot) (m : Controls (TakenBox W K)) (kept : List ControlSlot)
      → IsControlDeskUnchanged (control_desk control_loan loan others t o slots m kept) (control_desk control_loan loan others t o slots m kept)
  unchanged others t o slots m kept = record {
    desk = record { windows = record { desk = refl; stale = λ p on. refl; image = λ p on. refl }; activity = refl; begun = refl };
    controls = refl;
    others = refl;
  }

  -- a refused call changes nothing
  pub refused : (call : ControlCall) (e : Refusal) (t : WindowManager V H) (o : Opened) (m : Controls (TakenBox W K))
      → ((others : List ℕ → Part → PixelSet) (slots : List WindowSlot) (kept : List ControlSlot) → first_refusal (control_refusals call (desk_seen others t slots m) (controls_state control_loan m kept)) ≡ Some e)
      → LeavesControls control_loan loan (IsControlStep call (Err e)) t o m t o m
  refused call e t o m why kept others slots windows controls = (windows, controls, (inl (why others slots kept), unchanged others t o slots m kept))

  pub refused_by : (call : ControlCall) (result : Result ControlReply Refusal) (e : Refusal) (t : WindowManager V H) (o : Opened) (m : Controls (TakenBox W K)) → result ≡ Err e
      → ((others : List ℕ → Part → PixelSet) (slots : List WindowSlot) (kept : List ControlSlot) → first_refusal (control_refusals call (desk_seen others t slots m) (controls_state control_loan m kept)) ≡ Some e)
      → LeavesControls control_loan loan (IsControlStep call result) t o m t o m
  refused_by call result e t o m is why = subst (λ r. LeavesControls control_loan loan (IsControlStep call r) t o m t o m) (sym is) (refused call e t o m why)

  -- the step was made, also where the screen was right
  pub where_right : (step : ControlDesk → ControlDesk → Type 0) (kept left : List ControlSlot) (t u : WindowManager V H) (m n : Controls (TakenBox W K)) (o r : Opened)
      → LeavesOver control_loan loan kept left step t o m u r n → LeavesOver control_loan loan kept left (IsWhereRight step) t o m u r n
  where_right step kept left t u m n o r leaves others slots windows controls = let l = leaves others slots windows controls in (l.0, l.1, λ right. l.2)

  pub refused_where : (call : ControlCall) (result : Result ControlReply Refusal) (e : Refusal) (t : WindowManager V H) (o : Opened) (m : Controls (TakenBox W K)) → result ≡ Err e
      → ((others : List ℕ → Part → PixelSet) (slots : List WindowSlot) (kept : List ControlSlot) → first_refusal (control_refusals call (desk_seen others t slots m) (controls_state control_loan m kept)) ≡ Some e)
      → LeavesControls control_loan loan (IsWhereRight (IsControlStep call result)) t o m t o m
  refused_where call result e t o m is why kept = where_right (IsControlStep call result) kept kept t t m m o o (refused_by call result e t o m is why kept)

  -- so is one for which there was no memory
  pub short : (call : ControlCall) (e : Refusal) (t : WindowManager V H) (o : Opened) (m : Controls (TakenBox W K)) → may_control_grow call ≡ true → e ≡ NoMemory
      → ((others : List ℕ → Part → PixelSet) (slots : List WindowSlot) (kept : List ControlSlot) → first_refusal (control_refusals call (desk_seen others t slots m) (controls_state control_loan m kept)) ≡ None)
      → LeavesControls control_loan loan (IsControlStep call (Err e)) t o m t o m
  short call e t o m grows is why kept others slots windows controls = (windows, controls, (inr (why others slots kept, (grows, is)), unchanged others t o slots m kept))

  -- a call that tells something
  pub told : (call : ControlCall) (answer : ControlReply) (t : WindowManager V H) (o : Opened) (m : Controls (TakenBox W K))
      → ((others : List ℕ → Part → PixelSet) (slots : List WindowSlot) (kept : List ControlSlot) → first_refusal (control_refusals call (desk_seen others t slots m) (controls_state control_loan m kept)) ≡ None)
      → ((others : List ℕ → Part → PixelSet) (slots : List WindowSlot) (kept : List ControlSlot) → IsControlEffect call answer (control_desk control_loan loan others t o slots m kept) (control_desk control_loan loan others t o slots m kept))
      → LeavesControls control_loan loan (IsControlStep call (Ok answer)) t o m t o m
  told call answer t o m why effect kept others slots windows controls = (windows, controls, (why others slots kept, effect others slots kept))

  -- a control that is missing
  pub named_missing : (c : ControlOf) (t : WindowManager V H) (m : Controls (TakenBox W K)) (ys : List (Bool × Refusal)) (e : Refusal)
      → first_refusal (missing_refusals c (desk_of loan t []) (records_of control_loan m)) ≡ Some e → first_refusal (missing_refusals c (desk_of loan t []) (records_of control_loan m) ++ ys) ≡ Some e
  named_missing c t m ys e h = first_of (missing_refusals c (desk_of loan t []) (records_of control_loan m)) ys e h

  -- ---- a control that is there

  module _ (c : ControlOf) (t : WindowManager V H) (m : Controls (TakenBox W K)) (s : ControlAt) (is : IsSpotOf loan control_loan c t m s) where
    pub nothing_missing : first_refusal (missing_refusals c (desk_of loan t []) (records_of control_loan m)) ≡ None
    nothing_missing = none_missing c (desk_of loan t []) (records_of control_loan m) _ (is_none (index_of c (records_of control_loan m))) is.there (ap is_none is.control)

    -- where nothing is missing the other reasons are looked at
    pub other_reasons : (ys : List (Bool × Refusal)) → first_refusal (missing_refusals c (desk_of loan t []) (records_of control_loan m) ++ ys) ≡ first_refusal ys
    other_reasons ys = first_behind (missing_refusals c (desk_of loan t []) (records_of control_loan m)) ys nothing_missing

-- ---- controls shown anew

changed_to_alike : (c : ControlOf) (f g : ControlRecord → ControlRecord) (before after : ControlDesk) (at : ℕ) → index_of c before.controls.controls ≡ Some at
    → ((x : ControlRecord) → slice_get before.controls.controls at ≡ Some x → f x ≡ g x) → IsChangedTo c f before after → IsChangedTo c g before after
changed_to_alike c f g before after at found same changed = record {
  at = changed.at;
  found = changed.found;
  controls = changed.controls;
  changed = changed_alike f g changed.at before.controls.controls changed.controls (λ x e. same x (subst (λ i. slice_get before.controls.controls i ≡ Some x) (one_place changed.at at (sym changed.found ∙ found)) e)) changed.changed;
  state = changed.state;
}
  where
    one_place : (i j : ℕ) → Some i ≡ Some j → i ≡ j
    one_place i j e = cc

-- by another change that agrees where it is made
pub put_alike : (c : ControlOf) (f g : ControlRecord → ControlRecord) (before after : ControlDesk) (at : ℕ) → index_of c before.controls.controls ≡ Some at
    → ((x : ControlRecord) → slice_get before.controls.controls at ≡ Some x → f x ≡ g x) → IsPut c f before after → IsPut c g before after
put_alike c f g before after at found same put = record {
  changed = changed_to_alike c f g before after at found same put.changed;
  windows = put.windows;
  shown = λ right. let anew = put.shown right in record {
    changed = changed_to_alike c f g before after at found same anew.changed;
    redrawn = anew.redrawn;
    others = anew.others;
    shows = anew.shows;
  };
}
