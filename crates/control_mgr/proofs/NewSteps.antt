-- The step of a call that makes a control: done, or refused with the definition back in its slot.
use Rattle.std.proofs.Common.{◌≡◌, ⊎_elim, inl, inr, ℕ, zero, suc, Bool, true, false, not, ◌||◌, cond, List, [], ◌∷◌, ◌++◌, Some, None, Ok, Err, refl, sym, ap, ◌∙◌, subst, arith}
use Rattle.std.specs.Prelude.{IfSome, is_none, slice_get, slice_set}
use Rattle.std.specs.Option.{option_and_then}
use Rattle.std.proofs.lemmas.Slice.Eq.{bytes_eq-Decides}
use Rattle.tb_geom.specs.declared.refusal.Refusal.{Refusal}
use Rattle.tb_geom.specs.declared.refusal.Refusal.TheVariants.{NoDefinition, NoSuchName}
use Rattle.tb_geom.specs.Points.{PixelSet}
use Rattle.tb_geom.specs.Refusals.{first_refusal}
use Rattle.desk_layers.specs.declared.part.Part.{Part}
use Rattle.def_iface.specs.declared.window_def.Stage.{Stage}
use Rattle.def_iface.specs.ControlMeaning.{ControlDefinition, ControlLoan}
use Rattle.def_iface.specs.WindowMeaning.{WindowLoan}
use Rattle.def_iface.specs.Slots.{IsNotTaken, IsPutBack, IsTaken, LoanOf, SlotOf, has_kind, holding, is_kind, offered, TakenBox}
use Rattle.def_iface.specs.WindowSlots.{WindowSlot}
use Rattle.desk_call.specs.declared.control.ControlCall.TheVariants.{New}
use Rattle.desk_call.specs.declared.control.ControlReply.TheVariants as reply
use Rattle.desk_call.specs.declared.control.NewControl.{NewControl}
use Rattle.window_mgr.specs.declared.manager.WindowManager.{WindowManager}
use Rattle.window_mgr.specs.DeskStates.{Opened, desk_with}
use Rattle.window_mgr.specs.FullDesk.{FullDesk}
use Rattle.window_mgr.specs.Records.{desk_of, state_of, state_showing}
use Rattle.window_mgr.proofs.SlotLemmas.{get-set_same}
use Rattle.control_mgr.specs.declared.controls.Controls.{Controls}
use Rattle.control_mgr.specs.ControlDesks.{ControlSlot, ControlsState, IsControlDeskUnchanged, controls_show}
use Rattle.control_mgr.specs.Seen.{all_seen}
use Rattle.control_mgr.specs.ControlRefusals.{judged_refusals, new_refusals, offered_control}
use Rattle.control_mgr.specs.ControlSteps.{IsControlMade, IsControlStep}
use Rattle.control_mgr.specs.Making.{IsNotAdded, IsRoomier, judged_by}
use Rattle.control_mgr.specs.WholeControls.{AreBeside, AreWholeControls, LeavesOver, control_desk, controls_state, records_of}
use Rattle.control_mgr.proofs.Steps.{unchanged}

-- ---- slots

set-set_back : {X : Type 0} (xs : List X) (i : ℕ) (x y : X) → slice_get xs i ≡ Some x → slice_set (slice_set xs i y) i x ≡ xs
set-set_back [] i x y e = refl
set-set_back (z ∷ xs) zero x y e = let same : z ≡ x = cc in ap (λ w. w ∷ xs) (sym same)
set-set_back (z ∷ xs) (suc i) x y e = ap (λ ws. z ∷ ws) (set-set_back xs i x y e)

any_at : {D : Type 0} (kind : List ℕ) (slots : List (SlotOf D)) (at : ℕ) (s : SlotOf D) → slice_get slots at ≡ Some s → is_kind kind s ≡ true → has_kind kind slots ≡ true
any_at kind [] at s e is = absurd (cc)
any_at kind (t ∷ slots) zero s e is =
    let same : t ≡ s = cc in
    ap (λ b. b || has_kind kind slots) (ap (is_kind kind) same ∙ is)
any_at kind (t ∷ slots) (suc at) s e is = ap (λ b. is_kind kind t || b) (any_at kind slots at s e is) ∙ or-true (is_kind kind t)
  where
    or-true : (b : Bool) → (b || true) ≡ true
    or-true true = refl
    or-true false = refl

module _ {D : Type 0} (stage : D → Stage) (kind : List ℕ) (loan : LoanOf D) (old left : List (SlotOf D)) (took : IsTaken stage kind loan old left) where
  abbrev emptied : SlotOf D
  emptied = record { kind = kind; held = None }

  abbrev filled : SlotOf D
  filled = record { kind = kind; held = Some loan.definition }

  found : slice_get left loan.slot ≡ Some emptied
  found = ap (λ ss. slice_get ss loan.slot) took.left ∙ get-set_same old loan.slot filled emptied took.held

  -- a definition that was taken and put back leaves the stock as it was
  pub put_back_is_old : (new : List (SlotOf D)) → IsPutBack loan left new → new ≡ old
  put_back_is_old new back =
      let set_is : new ≡ slice_set left loan.slot filled = subst (λ o. IfSome o (λ (s : SlotOf D). new ≡ slice_set left loan.slot (holding (Some loan.definition) s))) found back in
      set_is ∙ ap (λ ss. slice_set ss loan.slot filled) took.left ∙ set-set_back old loan.slot filled emptied took.held

  -- the stock would give the definition that it gave
  pub taken_was_offered : offered stage kind old ≡ Some loan.definition
  taken_was_offered =
      ap (λ o. option_and_then (λ at. option_and_then (λ (s : SlotOf D). s.held) (slice_get old at)) o) took.first
      ∙ ap (λ o. option_and_then (λ (s : SlotOf D). s.held) o) took.held

  -- and has a slot for the kind
  pub taken_was_there : has_kind kind old ≡ true
  taken_was_there = any_at kind old loan.slot _ took.held ((bytes_eq-Decides kind kind).1 refl)

-- the kind goes by the bytes of this text
pub taken_named : (bytes kind : List ℕ) (loan : ControlLoan) (old new : List ControlSlot) → bytes ≡ kind → IsTaken (λ (d : ControlDefinition). d.stage) bytes loan old new
    → IsTaken (λ (d : ControlDefinition). d.stage) kind loan old new
taken_named bytes kind loan old new same taken = subst (λ k. IsTaken (λ (d : ControlDefinition). d.stage) k loan old new) same taken

-- ---- refusals

first_plain : (xs : List (Bool × Refusal)) (e : Refusal) → first_refusal (xs ++ (false, e) ∷ []) ≡ first_refusal xs
first_plain [] e = refl
first_plain (x ∷ xs) e = ap (λ o. cond x.0 (Some x.1) o) (first_plain xs e)

module _ (n : NewControl) (desk : FullDesk) (s : ControlsState) (has : has_kind n.kind s.stock ≡ true) where
  refusal_with : (d : ControlDefinition) → offered_control n.kind s.stock ≡ Some d → first_refusal (new_refusals n desk s) ≡ first_refusal (judged_refusals n (Some d) desk s.controls s.next)
  refusal_with d at_hand =
      (λ i. first_refusal ((not (has i), NoSuchName) ∷ (judged_refusals n (at_hand i) desk s.controls s.next ++ (is_none (at_hand i), NoDefinition) ∷ [])))
      ∙ first_plain (judged_refusals n (Some d) desk s.controls s.next) NoDefinition

  refusal_without : offered_control n.kind s.stock ≡ None → first_refusal (new_refusals n desk s) ≡ first_refusal (judged_refusals n None desk s.controls s.next ++ (true, NoDefinition) ∷ [])
  refusal_without at_hand = λ i. first_refusal ((not (has i), NoSuchName) ∷ (judged_refusals n (at_hand i) desk s.controls s.next ++ (is_none (at_hand i), NoDefinition) ∷ []))

-- ---- steps

module _ {V : Type 0} {H : V → Type 0} (loan : TakenBox V H → WindowLoan) {W : Type 0} {K : W → Type 0} (control_loan : TakenBox W K → ControlLoan) where
  -- where nothing but the room for controls changed, the controls are the same, and the desk
  pub state_same : (m planned : Controls (TakenBox W K)) → IsRoomier m planned → (kept left : List ControlSlot) → left ≡ kept → controls_state control_loan planned left ≡ controls_state control_loan m kept
  state_same m planned same kept left e = λ i. record { controls = all_seen control_loan (same.controls i); next = same.next i; stock = e i }

  pub desk_same : (others : List ℕ → Part → PixelSet) (t : WindowManager V H) (o : Opened) (slots : List WindowSlot) (m planned : Controls (TakenBox W K)) → IsRoomier m planned → (kept left : List ControlSlot) → left ≡ kept
      → control_desk control_loan loan others t o slots planned left ≡ control_desk control_loan loan others t o slots m kept
  desk_same others t o slots m planned same kept left e = λ i. record {
    desk = desk_with o (state_showing (controls_show others (all_seen control_loan (same.controls i))) (state_of loan t slots));
    controls = state_same m planned same kept left e i;
    others = others;
  }

  pub beside_planned : (t : WindowManager V H) (m planned : Controls (TakenBox W K)) (kept : List ControlSlot) → IsRoomier m planned
      → AreWholeControls (desk_of loan t []).windows (controls_state control_loan m kept) → AreBeside control_loan loan t planned
  beside_planned t m planned kept same whole = record { slots = kept; whole = subst (AreWholeControls (desk_of loan t []).windows) (sym (state_same m planned same kept kept refl)) whole }

  module _ (n : NewControl) (t : WindowManager V H) (m planned : Controls (TakenBox W K)) (same : IsRoomier m planned) where
    -- the control was made
    pub made_step : (u : WindowManager V H) (made : Controls (TakenBox W K)) (taken : ControlLoan) (before left : List ControlSlot) (serial : ℕ)
        → IsTaken (λ (d : ControlDefinition). d.stage) n.kind taken before left → judged_by loan control_loan n (Some taken.definition) t m ≡ None
        → ((o : Opened) → LeavesOver control_loan loan before left (IsControlMade n serial) t o planned u o made)
        → (o : Opened) → LeavesOver control_loan loan before left (IsControlStep (New n) (Ok (reply.Made serial))) t o m u o made
    made_step u made taken before left serial took unrefused added o others slots whole controls =
        let leaves = added o others slots whole (subst (AreWholeControls (desk_of loan t []).windows) (sym (state_same m planned same before before refl)) controls) in (
          leaves.0,
          leaves.1,
          (
            refusal_with n (desk_of loan t []) (controls_state control_loan m before) (taken_was_there (λ (d : ControlDefinition). d.stage) n.kind taken before left took)
                taken.definition (taken_was_offered (λ (d : ControlDefinition). d.stage) n.kind taken before left took)
                ∙ unrefused,
            (serial, refl, subst (λ b. IsControlMade n serial b (control_desk control_loan loan others u o slots made left)) (desk_same others t o slots m planned same before before refl) leaves.2),
          ),
        )

    -- it was refused, and the definition put back
    pub unmade_step : (taken : ControlLoan) (before left back : List ControlSlot) (e : Refusal)
        → IsTaken (λ (d : ControlDefinition). d.stage) n.kind taken before left → IsPutBack taken left back → IsNotAdded loan control_loan n taken.definition t m e
        → (o : Opened) → LeavesOver control_loan loan before back (IsControlStep (New n) (Err e)) t o m t o planned
    unmade_step taken before left back e took put refused o others slots whole controls =
        let is : back ≡ before = put_back_is_old (λ (d : ControlDefinition). d.stage) n.kind taken before left took back put in
        let because = refusal_with n (desk_of loan t []) (controls_state control_loan m before) (taken_was_there (λ (d : ControlDefinition). d.stage) n.kind taken before left took)
        taken.definition (taken_was_offered (λ (d : ControlDefinition). d.stage) n.kind taken before left took) in (
          whole,
          subst (AreWholeControls (desk_of loan t []).windows) (sym (state_same m planned same before back is)) controls,
          (
            ⊎_elim (λ first. inl (because ∙ first)) (λ memory. inr (because ∙ memory.0, (refl, memory.1))) refused,
            subst (λ a. IsControlDeskUnchanged (control_desk control_loan loan others t o slots m before) a) (sym (desk_same others t o slots m planned same before back is)) (unchanged loan control_loan others t o slots m before),
          ),
        )

  same_self : (m : Controls (TakenBox W K)) → IsRoomier m m
  same_self m = record { controls = refl; next = refl; alloc = refl; room = omega arith }

  -- no definition of its kind was left
  pub not_given_step : (n : NewControl) (t : WindowManager V H) (m : Controls (TakenBox W K)) (bytes : List ℕ) (before back : List ControlSlot) (why e : Refusal) → bytes ≡ n.kind → why ≡ NoDefinition
      → IsNotTaken (λ (d : ControlDefinition). d.stage) bytes before why
      → first_refusal (judged_refusals n None (desk_of loan t []) (records_of control_loan m) m.list.next ++ (true, NoDefinition) ∷ []) ≡ Some e → back ≡ before
      → (o : Opened) → LeavesOver control_loan loan before back (IsControlStep (New n) (Err e)) t o m t o m
  not_given_step n t m bytes before back why e named is none judged same o others slots whole controls =
      let there : IsNotTaken (λ (d : ControlDefinition). d.stage) n.kind before NoDefinition = subst (λ (x : List ℕ × Refusal). IsNotTaken (λ (d : ControlDefinition). d.stage) x.0 before x.1) (λ i. (named i, is i)) none in
      let at_hand : offered_control n.kind before ≡ None = ap (λ o. option_and_then (λ at. option_and_then (λ (s : ControlSlot). s.held) (slice_get before at)) o) there.1 in (
        whole,
        subst (AreWholeControls (desk_of loan t []).windows) (sym (state_same m m (same_self m) before back same)) controls,
        (
          inl (refusal_without n (desk_of loan t []) (controls_state control_loan m before) there.0 at_hand ∙ judged),
          subst (λ a. IsControlDeskUnchanged (control_desk control_loan loan others t o slots m before) a) (sym (desk_same others t o slots m m (same_self m) before back same)) (unchanged loan control_loan others t o slots m before),
        ),
      )
