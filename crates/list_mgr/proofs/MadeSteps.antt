-- The step of a call that makes a list: done, or refused with the definitions back in their slots.
use Rattle.std.proofs.Common.{◌≡◌, ⊎_elim, inl, inr, ℕ, Bool, true, false, ◌&&◌, ◌||◌, List, [], ◌∷◌, ◌++◌, Option, Some, None, Ok, Err, refl, sym, ap, ◌∙◌, subst}
use Rattle.std.specs.Prelude.{is_none}
use Rattle.std.specs.Borrow.{Bor}
use Rattle.std.specs.Option.{option_copied, option_map}
use Rattle.tb_geom.specs.declared.refusal.Refusal.{Refusal}
use Rattle.tb_geom.specs.declared.refusal.Refusal.TheVariants.{NoDefinition, NoSuchName}
use Rattle.tb_geom.specs.Refusals.{first_refusal}
use Rattle.def_iface.specs.Slots.{TakenBox}
use Rattle.def_iface.specs.ControlMeaning.{ControlLoan}
use Rattle.def_iface.specs.ListMeaning.{ListDefinition, ListLoan}
use Rattle.def_iface.specs.WindowMeaning.{WindowLoan}
use Rattle.def_iface.specs.WindowSlots.{WindowSlot}
use Rattle.list_mgr.specs.Seen.{all_seen}
use Rattle.desk_call.specs.declared.list.ListCall.TheVariants.{New}
use Rattle.desk_call.specs.declared.list.ListReply.TheVariants as reply
use Rattle.desk_call.specs.declared.list.NewList.{NewList}
use Rattle.window_mgr.specs.declared.manager.WindowManager.{WindowManager}
use Rattle.window_mgr.specs.DeskStates.{Opened, desk_with}
use Rattle.window_mgr.specs.Records.{desk_of, state_of, state_showing}
use Rattle.control_mgr.specs.declared.controls.Controls.{Controls}
use Rattle.control_mgr.specs.ControlDesks.{ControlSlot, ControlsState, controls_show}
use Rattle.control_mgr.specs.Laying.{definition_if}
use Rattle.control_mgr.specs.Making.{IsRoomier}
use Rattle.control_mgr.specs.WholeControls as control_records
use Rattle.control_mgr.proofs.NewSteps as new_controls
use Rattle.control_mgr.proofs.Steps.{first_behind, first_of, one_fails, one_holds}
use Rattle.list_mgr.specs.declared.lists.Lists.{Lists}
use Rattle.list_mgr.specs.ListDesks.{IsListDeskUnchanged, ListDesk, ListSlot, ListsState, lists_show}
use Rattle.list_mgr.specs.ListRefusals.{judged_refusals, lacks_definition, lacks_kind, new_list_refusals}
use Rattle.list_mgr.specs.ListSteps.{IsListMade, IsListStep}
use Rattle.list_mgr.specs.Making.{judged_by}
use Rattle.list_mgr.specs.Offers.{AreOffered, IsNotMade, Offered, definition_of, lacks_any, why_not}
use Rattle.list_mgr.specs.Putting.{AreRoomier}
use Rattle.list_mgr.specs.WholeLists.{AreWholeLists, LeavesOver, lists_state, records_of}
use Rattle.list_mgr.proofs.Offered.{horizontal_offered, offered_is, vertical_offered}
use Rattle.list_mgr.proofs.Steps.{unchanged}
use Rattle.tb_geom.specs.Points.{PixelSet}
use Rattle.desk_layers.specs.declared.part.Part.{Part}

none_mapped : {A B : Type 0} (f : A → B) (o : Option A) → is_none (option_map f o) ≡ is_none o
none_mapped f None = refl
none_mapped f (Some x) = refl

module _ {V : Type 0} {H : V → Type 0} (loan : TakenBox V H → WindowLoan) {W : Type 0} {K : W → Type 0} (control_loan : TakenBox W K → ControlLoan) {X : Type 0} {L : X → Type 0} (list_loan : TakenBox X L → ListLoan) where
  -- ---- where nothing but room changed

  -- windows with these controls and these lists, as a desk
  abbrev desk_from : WindowManager V H → (List ℕ → Part → PixelSet) → Opened → List WindowSlot → ControlsState → ListsState → ListDesk
  desk_from t others o slots cs ls = record {
    desk = desk_with o (state_showing (controls_show (lists_show others ls.lists) cs.controls) (state_of loan t slots));
    controls = cs;
    lists = ls;
    others = others;
  }

  -- the lists are the same, and their stock
  lists_same : (m n : Lists (TakenBox X L)) → AreRoomier m n → (kept rest : List ListSlot) → rest ≡ kept → lists_state list_loan n rest ≡ lists_state list_loan m kept
  lists_same m n same kept rest e = λ i. record { lists = all_seen list_loan (same.lists i); next = same.next i; stock = e i }

  -- a call that made room at most leaves windows, controls and lists whole, and the desk as it was
  pub leaves_all : (t : WindowManager V H) (c d : Controls (TakenBox W K)) (m n : Lists (TakenBox X L)) (held left : List ControlSlot) (kept rest : List ListSlot)
      → IsRoomier c d → AreRoomier m n → left ≡ held → rest ≡ kept
      → LeavesOver list_loan loan control_loan held left kept rest IsListDeskUnchanged t c m t d n
  leaves_all t c d m n held left kept rest controls lists same_left same_rest others o slots whole were were_lists =
      let cs = new_controls.state_same loan control_loan c d controls held left same_left in
      let ls = lists_same m n lists kept rest same_rest in (
        whole,
        subst (control_records.AreWholeControls (desk_of loan t []).windows) (sym cs) were,
        subst (AreWholeLists (desk_of loan t []).windows) (sym ls) were_lists,
        subst (λ (x : ControlsState × ListsState). IsListDeskUnchanged (desk_from t others o slots (control_records.controls_state control_loan c held) (lists_state list_loan m kept)) (desk_from t others o slots x.0 x.1))
            (λ i. (sym cs i, sym ls i)) (unchanged loan list_loan t others o slots (control_records.controls_state control_loan c held) m kept),
      )

  -- a step over a stock of controls that is as it was
  pub over_same : (step : ListDesk → ListDesk → Type 0) (held left : List ControlSlot) (kept rest : List ListSlot) (t : WindowManager V H) (c : Controls (TakenBox W K)) (m : Lists (TakenBox X L))
      (u : WindowManager V H) (d : Controls (TakenBox W K)) (n : Lists (TakenBox X L)) → left ≡ held
      → LeavesOver list_loan loan control_loan held held kept rest step t c m u d n → LeavesOver list_loan loan control_loan held left kept rest step t c m u d n
  over_same step held left kept rest t c m u d n e leaves = subst (λ left. LeavesOver list_loan loan control_loan held left kept rest step t c m u d n) (sym e) leaves

  -- ---- why it is not made

  module _ (n : NewList) (t : WindowManager V H) (c : Controls (TakenBox W K)) (m : Lists (TakenBox X L)) where
    -- what its bars would have is judged with what they are offered
    pub judged_with : (r s : Option (Bor (TakenBox W K))) (v h : Option (TakenBox W K)) → option_copied r ≡ v → option_copied s ≡ h
        → judged_by loan control_loan list_loan n (definition_if control_loan r) (definition_if control_loan s) t c m
        ≡ judged_by loan control_loan list_loan n (definition_of (option_map control_loan v)) (definition_of (option_map control_loan h)) t c m
    judged_with r s v h e f = λ i. judged_by loan control_loan list_loan n ((copied r ∙ ap (λ o. definition_of (option_map control_loan o)) e) i) ((copied s ∙ ap (λ o. definition_of (option_map control_loan o)) f) i) t c m
      where
        copied : (r : Option (Bor (TakenBox W K))) → definition_if control_loan r ≡ definition_of (option_map control_loan (option_copied r))
        copied None = refl
        copied (Some b) = refl

    module _ (x : Offered) where
      abbrev judged : List (Bool × Refusal)
      judged = judged_refusals n (definition_of x.vertical) (definition_of x.horizontal) (desk_of loan t []) (control_records.records_of control_loan c) c.list.next (records_of list_loan m) m.list.next

      -- it is refused as it was judged, and else where a definition is lacking, and else not
      pub not_judged : (e : Refusal) → first_refusal judged ≡ Some e → why_not control_loan list_loan loan n x t c m ≡ Some e
      not_judged e why = first_of judged ((lacks_any n x, NoDefinition) ∷ []) e why

      pub one_lacks : first_refusal judged ≡ None → lacks_any n x ≡ true → why_not control_loan list_loan loan n x t c m ≡ Some NoDefinition
      one_lacks good lacks = first_behind judged ((lacks_any n x, NoDefinition) ∷ []) good ∙ one_holds (lacks_any n x) NoDefinition lacks

      pub nothing_against : first_refusal judged ≡ None → lacks_any n x ≡ false → why_not control_loan list_loan loan n x t c m ≡ None
      nothing_against good all = first_behind judged ((lacks_any n x, NoDefinition) ∷ []) good ∙ one_fails (lacks_any n x) NoDefinition all

      -- ---- steps

      module _ (kept rest : List ListSlot) (held left : List ControlSlot) (offered : AreOffered n x kept rest held left) (has : lacks_kind n kept held ≡ false) where
        -- one is lacking where the stocks would not give it
        lacks_is : lacks_definition n (lists_state list_loan m kept) (control_records.controls_state control_loan c held) ≡ lacks_any n x
        lacks_is = λ i. (ap is_none (offered_is (λ (d : ListDefinition). d.stage) n.kind x.list kept rest offered.list) ∙ none_mapped (λ (l : ListLoan). l.definition) x.list) i
            || ((n.vertical_bar && (ap is_none (vertical_offered n x kept rest held left offered) ∙ none_mapped (λ (l : ControlLoan). l.definition) x.vertical) i)
            || (n.horizontal_bar && (ap is_none (horizontal_offered n x kept rest held left offered) ∙ none_mapped (λ (l : ControlLoan). l.definition) x.horizontal) i))

        -- the written order goes by what the stocks would give
        why_is : first_refusal (new_list_refusals n (desk_of loan t []) (control_records.controls_state control_loan c held) (lists_state list_loan m kept)) ≡ why_not control_loan list_loan loan n x t c m
        why_is = λ i. first_refusal ((has i, NoSuchName) ∷ (judged_refusals n (vertical_offered n x kept rest held left offered i) (horizontal_offered n x kept rest held left offered i)
            (desk_of loan t []) (control_records.records_of control_loan c) c.list.next (records_of list_loan m) m.list.next ++ (lacks_is i, NoDefinition) ∷ []))

        -- the list was made
        pub made_step : (u : WindowManager V H) (d : Controls (TakenBox W K)) (made : Lists (TakenBox X L)) (serial : ℕ) → why_not control_loan list_loan loan n x t c m ≡ None
            → LeavesOver list_loan loan control_loan held left kept rest (IsListMade n serial) t c m u d made
            → LeavesOver list_loan loan control_loan held left kept rest (IsListStep (New n) (Ok (reply.Made serial))) t c m u d made
        made_step u d made serial none leaves others o slots whole controls lists =
            let after = leaves others o slots whole controls lists in (after.0, after.1, after.2, (why_is ∙ none, (serial, refl, after.3)))

        -- it was not, and all went back
        pub unmade_step : (u : WindowManager V H) (d : Controls (TakenBox W K)) (roomier : Lists (TakenBox X L)) (back : List ControlSlot) (stock : List ListSlot) (e : Refusal)
            → IsNotMade control_loan list_loan loan n x t c m e → u ≡ t → IsRoomier c d → AreRoomier m roomier → back ≡ held → stock ≡ kept
            → LeavesOver list_loan loan control_loan held back kept stock (IsListStep (New n) (Err e)) t c m u d roomier
        unmade_step u d roomier back stock e why same same_controls same_lists same_back same_stock =
            subst (λ u. LeavesOver list_loan loan control_loan held back kept stock (IsListStep (New n) (Err e)) t c m u d roomier) (sym same) refused
          where
            refused : LeavesOver list_loan loan control_loan held back kept stock (IsListStep (New n) (Err e)) t c m t d roomier
            refused others o slots whole controls lists =
                let after = leaves_all t c d m roomier held back kept stock same_controls same_lists same_back same_stock others o slots whole controls lists in (
                  after.0,
                  after.1,
                  after.2,
                  (⊎_elim (λ first. inl (why_is ∙ first)) (λ memory. inr (why_is ∙ memory.0, (refl, memory.1))) why, after.3),
                )

        -- definitions that came back as they were are those that were offered
        pub offered_again : (o : Offered) → o ≡ x → AreOffered n o kept rest held left
        offered_again o same = subst (λ o. AreOffered n o kept rest held left) (sym same) offered
