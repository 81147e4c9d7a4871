-- A control that is disposed of: its layer taken out, the controls without it, and the step.
use Rattle.std.proofs.Common.{◌≡◌, ℕ, zero, suc, ◌<◌, ◌≤◌, Bool, true, false, List, [], ◌∷◌, length, Option, Some, None, Ok, refl, sym, ap, ◌∙◌, subst, arith}
use Rattle.std.specs.Prelude.{map, slice_get}
use Rattle.std.specs.List.{remove}
use Rattle.std.specs.Option.{option_map}
use Rattle.tb_geom.specs.Points.{PixelSet}
use Rattle.window_items.specs.declared.item.Item.{Item}
use Rattle.control_mgr.specs.declared.control.Control.{Control}
use Rattle.window_items.specs.Items.{items_of, count_of, is_before, is_in_at, place_among}
use Rattle.control_mgr.specs.Seen.{all_seen, kept_seen, seen}
use Rattle.window_items.proofs.SeenLemmas.{place_among-seen, remove-seen, slice_get-seen}
use Rattle.window_items.proofs.WindowLemmas.{items_of-remove, items_of-remove_other, count_of-remove, count_of-remove_other, is_in_at-other, slice_get-items_of}
use Rattle.desk_layers.specs.declared.part.Part.{Part}
use Rattle.def_iface.specs.declared.window_def.Stage.TheVariants.{Live}
use Rattle.def_iface.specs.ControlMeaning.{ControlDefinition, ControlLoan}
use Rattle.def_iface.specs.WindowMeaning.{WindowLoan}
use Rattle.def_iface.specs.Slots.{is_left, TakenBox}
use Rattle.def_iface.specs.WindowSlots.{WindowSlot}
use Rattle.window_list.specs.declared.layer.Layer.{Layer}
use Rattle.window_list.specs.Holders.{PlacedLayers}
use Rattle.desk_call.specs.declared.control.ControlCall.TheVariants.{Dispose}
use Rattle.desk_call.specs.declared.control.ControlOf.{ControlOf}
use Rattle.desk_call.specs.declared.control.ControlReply.TheVariants.{Done}
use Rattle.desk_call.specs.declared.update.LayerKind.TheVariants as kinds
use Rattle.vis_update.specs.Records.{WindowRecord}
use Rattle.vis_update.specs.Relayings.{with_layers_of}
use Rattle.window_list.specs.declared.window.Window.{Window}
use Rattle.window_paint.specs.Kinds.{is_of}
use Rattle.window_mgr.specs.declared.manager.WindowManager.{WindowManager}
use Rattle.window_mgr.specs.DeskStates.{Opened}
use Rattle.window_mgr.specs.Edits.{IsWindowAt}
use Rattle.window_mgr.specs.FullDesk.{FullDesk}
use Rattle.window_mgr.specs.Kept.{IsKept}
use Rattle.window_mgr.specs.Records.{desk_of, state_of, state_showing}
use Rattle.window_mgr.specs.Refused.{is_missing}
use Rattle.window_mgr.specs.Relayered.{AreLayersSet, IsPartAt}
use Rattle.window_mgr.specs.Whole.{IsWholeManager}
use Rattle.control_mgr.specs.declared.controls.Controls.{Controls}
use Rattle.control_mgr.specs.declared.spots.ControlAt.{ControlAt}
use Rattle.control_mgr.specs.declared.ending.Ending.{Ending}
use Rattle.control_mgr.specs.ControlDesks.{ControlRecord, ControlSlot, ControlsState, controls_show, index_of}
use Rattle.control_mgr.specs.ControlRefusals.{most_controls}
use Rattle.control_mgr.specs.ControlSteps.{AreLayersOf, IsControlDisposed, IsControlShut, IsControlStep, IsEndedAt, IsEndedIfThere, IsLayerOf, behind_controls}
use Rattle.control_mgr.specs.Ending.{IsEnding, IsPlannedEnd}
use Rattle.control_mgr.specs.InUse.{AreStocked}
use Rattle.control_mgr.specs.Settled.{AreSettled, IsSettledControl}
use Rattle.control_mgr.specs.Spots.{IsSpotOf}
use Rattle.control_mgr.specs.WholeControls.{AreWholeControls, LeavesOver, control_desk, controls_state, records_of, slots_of}
use Rattle.control_mgr.proofs.Edited.{AreNoControls, begin_remove, behind_removed}
use Rattle.control_mgr.proofs.LayerOut.{all-remove}
use Rattle.control_mgr.proofs.Places.{at_window, in_its_window, layer_there, layers_named, read_is, record_there, there_is, within}
use Rattle.control_mgr.proofs.Reshown.{alone, set_among}
use Rattle.control_mgr.proofs.Settled.{AreJoined, joined_laid, somewhere_laid}
use Rattle.control_mgr.proofs.Steps.{nothing_missing}
use Rattle.control_mgr.proofs.Stocks.{slot_is_left, slot_of, stocked_without}
use Rattle.window_items.proofs.SerialLemmas.{apart-remove}
use Rattle.window_items.proofs.EditLemmas.{All-remove, All-there, map-remove}

-- ---- one taken out

slot_at : (cs : List ControlRecord) (i : ℕ) (c : ControlRecord) → slice_get cs i ≡ Some c → slice_get (slots_of cs) i ≡ Some c.kept.definition.slot
slot_at [] i c e = absurd (cc)
slot_at (x ∷ xs) zero c e = let same : x ≡ c = cc in ap (λ (y : ControlRecord). Some y.kept.definition.slot) same
slot_at (x ∷ xs) (suc i) c e = slot_at xs i c e

-- the slot of a control that is there is empty
pub slot_left : (i : ℕ) (cs : List ControlRecord) (c : ControlRecord) (slots : List ControlSlot) → slice_get cs i ≡ Some c
    → AreStocked (λ (d : ControlDefinition). d.stage) (slots_of cs) slots → is_left c.kept.definition.slot slots ≡ true
slot_left i cs c slots e stocked =
    slot_is_left (λ (d : ControlDefinition). d.stage) c.kept.definition.slot slots
    (slot_of (λ (d : ControlDefinition). d.stage) i (slots_of cs) c.kept.definition.slot slots (slot_at cs i c e) stocked).0

-- no window has more controls then
few_left : (at : ℕ) (cs : List ControlRecord) → ((t : ℕ) → count_of t cs ≤ most_controls) → (t : ℕ) → count_of t (remove cs at) ≤ most_controls
few_left at cs few t = by_test (is_in_at t at cs) refl
  where
    by_test : (b : Bool) → is_in_at t at cs ≡ b → count_of t (remove cs at) ≤ most_controls
    by_test true e = let less = count_of-remove t at cs e in let most = few t in omega (arith, less, most)
    by_test false e = subst (λ n. n ≤ most_controls) (sym (count_of-remove_other t at cs e)) (few t)

-- what was whole is whole without one control, over slots into one of which its definition came back, beside the windows without its layer
pub whole_ended : (at window : ℕ) (c : ControlRecord) (ls : List Layer) (ws : List WindowRecord) (state : ControlsState) (back : List ControlSlot) → AreWholeControls ws state
    → slice_get state.controls at ≡ Some c → is_in_at window at state.controls ≡ true → IsControlShut c.kept.definition state.stock back → AreLayersOf (items_of window (remove state.controls at)) ls
    → AreWholeControls (map (with_layers_of window ls) ws) (record state { controls = remove state.controls at; stock = back })
whole_ended at window c ls ws state back whole there here shut joined = record {
  settled = All-remove IsSettledControl at state.controls whole.settled;
  apart = apart-remove at state.controls whole.apart;
  given = all-remove (λ (x : ControlRecord). is_before state.next x.serial) at state.controls whole.given;
  somewhere = somewhere_laid window ls ws (remove state.controls at) (All-remove (λ (x : ControlRecord). is_missing x.window ws ≡ false) at state.controls whole.somewhere);
  few = few_left at state.controls whole.few;
  joined = joined_laid window ls state.controls (remove state.controls at) ws joined
      (λ t away. items_of-remove_other t at state.controls (is_in_at-other window t at state.controls (λ e. away (sym e)) here))
      whole.joined;
  stocked = subst (λ ns. AreStocked (λ (d : ControlDefinition). d.stage) ns back) (sym (map-remove (λ (x : ControlRecord). x.kept.definition.slot) at state.controls))
      (stocked_without (λ (d : ControlDefinition). d.stage) at (slots_of state.controls) (record { definition = shut.definition; slot = c.kept.definition.slot }) state.stock back
      (slot_at state.controls at c there) shut.closed shut.back whole.stocked);
}

module _ {W : Type 0} {K : W → Type 0} (control_loan : TakenBox W K → ControlLoan) (m : Controls (TakenBox W K)) where
  -- a control that was read at a place
  pub seen_at : (at : ℕ) (x : Item (Control (TakenBox W K))) → slice_get m.list.items.items at ≡ Some x → slice_get (records_of control_loan m) at ≡ Some (seen control_loan x)
  seen_at at x e = slice_get-seen (kept_seen control_loan) m.list.items.items at ∙ ap (λ o. option_map (seen control_loan) o) e

  pub ended_live : (at : ℕ) (x : Item (Control (TakenBox W K))) → slice_get m.list.items.items at ≡ Some x → AreSettled (records_of control_loan m) → (control_loan x.kept.definition).definition.stage ≡ Live
  ended_live at x e settled = (All-there IsSettledControl at (records_of control_loan m) (seen control_loan x) (seen_at at x e) settled).live

  pub ended_left : (at : ℕ) (x : Item (Control (TakenBox W K))) (slots : List ControlSlot) → slice_get m.list.items.items at ≡ Some x
      → AreStocked (λ (d : ControlDefinition). d.stage) (slots_of (records_of control_loan m)) slots → is_left (control_loan x.kept.definition).slot slots ≡ true
  ended_left at x slots e stocked = slot_left at (records_of control_loan m) (seen control_loan x) slots (seen_at at x e) stocked

  pub settled_left : (at : ℕ) (xs : List (Item (Control (TakenBox W K)))) → xs ≡ remove m.list.items.items at → AreSettled (records_of control_loan m) → AreSettled (all_seen control_loan xs)
  settled_left at xs is settled = subst AreSettled (sym (ap (all_seen control_loan) is ∙ remove-seen (kept_seen control_loan) m.list.items.items at)) (All-remove IsSettledControl at (records_of control_loan m) settled)

module _ {V : Type 0} {H : V → Type 0} (loan : TakenBox V H → WindowLoan) {W : Type 0} {K : W → Type 0} (control_loan : TakenBox W K → ControlLoan)
    (c : ControlOf) (t : WindowManager V H) (m : Controls (TakenBox W K)) (s : ControlAt) (is : IsSpotOf loan control_loan c t m s) where
  abbrev cs : List ControlRecord
  cs = records_of control_loan m

  module _ (kept : IsKept loan t) (joined : AreJoined cs (desk_of loan t []).windows) (w : Window V H) (lies : IsWindowAt t.windows.records.items s.window w)
      (index : ℕ) (index_is : index ≡ place_among s.control m.list.items.items) where
    index_seen : place_among s.control cs ≡ index
    index_seen = place_among-seen (kept_seen control_loan) s.control m.list.items.items ∙ sym index_is

    module _ (layers : PlacedLayers) (layers_are : layers ≡ record w.layers { layers = remove w.layers.layers index }) where
      new_is : layers.layers ≡ remove w.layers.layers index
      new_is = ap (λ (ls : PlacedLayers). ls.layers) layers_are

      pub joined_left : AreLayersOf (items_of c.window (remove cs s.control)) layers.layers
      joined_left =
          subst (λ ls. AreLayersOf (items_of c.window (remove cs s.control)) ls) (sym new_is)
          (subst (λ xs. AreLayersOf xs (remove w.layers.layers index))
          (sym (items_of-remove c.window s.control cs (in_its_window loan control_loan c t m s is) ∙ ap (λ i. remove (items_of c.window cs) i) index_seen))
          (begin_remove IsLayerOf AreNoControls index (items_of c.window cs) w.layers.layers
          (subst (λ i. i < length (items_of c.window cs)) index_seen
          (within (items_of c.window cs) (place_among s.control cs) (record_there loan control_loan c t m s is).item
          (slice_get-items_of c.window s.control cs (in_its_window loan control_loan c t m s is) ∙ (record_there loan control_loan c t m s is).there)))
          (subst (λ n. AreLayersOf (items_of n cs) w.layers.layers) (is.window.1 w lies)
          (at_window loan (λ r. AreLayersOf (items_of r.serial cs) r.layers) t.windows.records.items s.window w is.window.0 lies joined))))

      -- the layers behind the controls are as they were
      pub behind_left : behind_controls layers.layers ≡ behind_controls w.layers.layers
      behind_left =
          let its = layer_there loan control_loan c t m s is w lies joined in
          ap behind_controls new_is
          ∙ behind_removed index w.layers.layers its.layer (subst (λ i. slice_get w.layers.layers i ≡ Some its.layer) index_seen its.there) (ap (is_of kinds.Controls) its.is_layer.part)

  -- what commit_layers leaves of the window manager, where nothing is drawn afresh
  abbrev pub AreLeftFor : ℕ → List Layer → (List ℕ → Part → PixelSet) → WindowManager V H → WindowManager V H → Type 0
  AreLeftFor at ls shows t u = (w : Window V H) → IsWindowAt t.windows.records.items at w → (afresh : Option Part) → IsPartAt ls None afresh
      → (was : List ℕ → Part → PixelSet) (slots : List WindowSlot) → IsWholeManager loan t slots
      → IsWholeManager loan u slots × AreLayersSet w.serial ls afresh (state_showing was (state_of loan t slots)) (state_showing shows (state_of loan u slots))

  -- the control was disposed of
  pub ended : (kept : IsKept loan t) → (index : ℕ) → index ≡ place_among s.control m.list.items.items
      → (layers : PlacedLayers) → ((w : Window V H) → IsWindowAt t.windows.records.items s.window w → layers ≡ record w.layers { layers = remove w.layers.layers index })
      → (u : WindowManager V H) (n : Controls (TakenBox W K)) (x : Item (Control (TakenBox W K))) → slice_get m.list.items.items s.control ≡ Some x
      → n.list.items.items ≡ remove m.list.items.items s.control → n.list.next ≡ m.list.next
      → (before back : List ControlSlot) → IsControlShut (control_loan x.kept.definition) before back
      → AreLeftFor s.window layers.layers (alone (records_of control_loan n)) t u
      → (o : Opened) → LeavesOver control_loan loan before back (IsControlDisposed c) t o m u o n
  ended kept index index_is layers layers_are u n x there controls_are next_is before back shut set o others slots whole controls =
      let windows = there_is t.windows.records.items s.window is.window.0 in
      let w : Window V H = windows.item in
      let lies : IsWindowAt t.windows.records.items s.window w = read_is t.windows.records.items s.window w windows.there in
      let leaves = set w lies None refl (controls_show others cs) slots whole in
      let serial : w.serial ≡ c.window = is.window.1 w lies in
      let was = state_showing (controls_show others cs) (state_of loan t slots) in
      let sets = set_among others (records_of control_loan n) (state_of loan u slots) leaves.0.sound.distinct c.window was layers.layers None (λ q e. absurd (cc))
      (subst (λ k. AreLayersSet k layers.layers None was (state_showing (alone (records_of control_loan n)) (state_of loan u slots))) serial leaves.1) in
      let left : records_of control_loan n ≡ remove cs s.control = ap (all_seen control_loan) controls_are ∙ remove-seen (kept_seen control_loan) m.list.items.items s.control in
      let joined : AreLayersOf (items_of c.window (remove cs s.control)) layers.layers = joined_left kept controls.joined w lies index index_is layers (layers_are w lies) in
      let windows_are : (desk_of loan u []).windows ≡ map (with_layers_of c.window layers.layers) (desk_of loan t []).windows = ap (λ (d : FullDesk). d.windows) sets.desk in
      let state_is : controls_state control_loan n back ≡ record { controls = remove cs s.control; next = m.list.next; stock = back } = (λ i. record { controls = left i; next = next_is i; stock = back }) in (
        leaves.0,
        subst (λ ws. AreWholeControls ws (controls_state control_loan n back)) (sym windows_are)
            (subst (AreWholeControls (map (with_layers_of c.window layers.layers) (desk_of loan t []).windows)) (sym state_is)
            (whole_ended s.control c.window (seen control_loan x) layers.layers (desk_of loan t []).windows (controls_state control_loan m before) back controls
            (seen_at control_loan m s.control x there) (in_its_window loan control_loan c t m s is) shut joined)),
        record {
          at = s.control;
          found = is.control;
          control = seen control_loan x;
          there = seen_at control_loan m s.control x there;
          shut = shut;
          controls = state_is;
          laid = record {
            layers = layers.layers;
            joined = subst (λ xs. AreLayersOf (items_of c.window xs) layers.layers) (sym left) joined;
            others = layers_named loan t slots whole s.window c.window w is.window.0 lies serial (λ ls. behind_controls layers.layers ≡ behind_controls ls)
                (behind_left kept controls.joined w lies index index_is layers (layers_are w lies));
            set = sets;
            elsewhere = refl;
            shows = refl;
          };
          activity = record { activity = refl; begun = refl };
        },
      )

  -- so the call made its step
  pub disposed_step : (u : WindowManager V H) (n : Controls (TakenBox W K)) (before back : List ControlSlot) → ((o : Opened) → LeavesOver control_loan loan before back (IsEndedIfThere c) t o m u o n)
      → (o : Opened) → LeavesOver control_loan loan before back (IsControlStep (Dispose c) (Ok Done)) t o m u o n
  disposed_step u n before back ended o others slots whole controls =
      let leaves = ended o others slots whole controls in (
        leaves.0,
        leaves.1,
        (
          nothing_missing loan control_loan c t m s is,
          (refl, subst (λ i. IsEndedAt i c (control_desk control_loan loan others t o slots m before) (control_desk control_loan loan others u o slots n back)) is.control leaves.2),
        ),
      )

module _ {V : Type 0} {H : V → Type 0} (loan : TakenBox V H → WindowLoan) {W : Type 0} {K : W → Type 0} (control_loan : TakenBox W K → ControlLoan)
    (c : ControlOf) (t : WindowManager V H) (m : Controls (TakenBox W K)) (planned : Option Ending) (its : IsPlannedEnd loan control_loan c t m planned) where
  -- the end of a control that is there
  pub planned_there : (e : Ending) → planned ≡ Some e → IsEnding loan control_loan c t m e
  planned_there e is = subst (IsPlannedEnd loan control_loan c t m) is its

  pub ended_there : (e : Ending) → planned ≡ Some e → (u : WindowManager V H) (n : Controls (TakenBox W K)) (before back : List ControlSlot) → ((o : Opened) → LeavesOver control_loan loan before back (IsControlDisposed c) t o m u o n)
      → (o : Opened) → LeavesOver control_loan loan before back (IsEndedIfThere c) t o m u o n
  ended_there e is u n before back ended o others slots whole controls =
      let leaves = ended o others slots whole controls in
      (leaves.0, leaves.1, subst (λ i. IsEndedAt i c (control_desk control_loan loan others t o slots m before) (control_desk control_loan loan others u o slots n back)) (sym (planned_there e is).spot.control) leaves.2)

  -- nothing of one that is not
  pub none_ended : planned ≡ None → (before : List ControlSlot) (o : Opened) → LeavesOver control_loan loan before before (IsEndedIfThere c) t o m t o m
  none_ended is before o others slots whole controls =
      let none : index_of c (records_of control_loan m) ≡ None = subst (IsPlannedEnd loan control_loan c t m) is its in
      (whole, controls, subst (λ i. IsEndedAt i c (control_desk control_loan loan others t o slots m before) (control_desk control_loan loan others t o slots m before)) (sym none) refl)
