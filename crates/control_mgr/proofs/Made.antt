-- A control that is made: the controls with it, and the step.
use Rattle.std.proofs.Common.{◌≡◌, ℕ, ◌<◌, ◌≤◌, Bool, true, false, ◌==◌, List, [], ◌∷◌, ◌++◌, get_or, Option, Some, refl, sym, ap, ◌∙◌, subst, arith, eqb-true}
use Rattle.std.specs.Prelude.{All, is_none, map}
use Rattle.std.specs.List.{insert, list_any}
use Rattle.std.proofs.lemmas.Bool.Decides.{nat_tests}
use Rattle.std.proofs.lemmas.List.Elements.{All-append, All-cons, All-nil}
use Rattle.std.proofs.lemmas.List.Edits.{get_or-insert_at}
use Rattle.tb_geom.specs.declared.rect.Rect.{Rect}
use Rattle.tb_geom.specs.Points.{PixelSet, minus}
use Rattle.tb_geom.specs.Rects.{moved_rect}
use Rattle.window_items.specs.declared.item.Item.{Item}
use Rattle.window_items.proofs.SerialLemmas.{apart_more}
use Rattle.control_mgr.specs.declared.control.Control.{Control}
use Rattle.window_items.specs.Items.{are_before, items_of, count_of, has_serial, serial_after}
use Rattle.control_mgr.specs.Seen.{all_seen, kept_seen, seen}
use Rattle.window_items.proofs.LawLemmas.{still_before}
use Rattle.window_items.proofs.SeenLemmas.{append-seen}
use Rattle.window_items.proofs.WindowLemmas.{items_of-push, items_of-push_other, count_of-length, count_of-push, count_of-push_other}
use Rattle.control_values.specs.Settings.{Setting, settled}
use Rattle.desk_layers.specs.declared.part.Part.{Part}
use Rattle.desk_layers.specs.declared.part.Part.TheVariants as part
use Rattle.def_iface.specs.ControlMeaning.{ControlDefinition, ControlLoan, IsControlBegun, is_fitting_control}
use Rattle.def_iface.specs.ControlNews.{new_control_news}
use Rattle.def_iface.specs.declared.size.Size.{Size}
use Rattle.def_iface.specs.WindowMeaning.{WindowLoan}
use Rattle.def_iface.specs.Slots.{IsTaken, TakenBox}
use Rattle.window_list.specs.declared.layer.Layer.{Layer}
use Rattle.desk_call.specs.declared.control.NewControl.{NewControl}
use Rattle.desk_call.specs.declared.update.LayerKind.TheVariants as kinds
use Rattle.vis_update.specs.Records.{WindowRecord}
use Rattle.vis_update.specs.Relayings.{with_layers_of}
use Rattle.window_list.specs.declared.window.Window.{Window}
use Rattle.window_paint.specs.Kinds.{is_of}
use Rattle.window_mgr.specs.declared.manager.WindowManager.{WindowManager}
use Rattle.window_mgr.specs.DeskStates.{Opened}
use Rattle.window_mgr.specs.Edits.{IsWindowAt}
use Rattle.window_mgr.specs.FullDesk.{FullDesk}
use Rattle.window_mgr.specs.Kept.{IsKept}
use Rattle.window_mgr.specs.Records.{desk_of, state_of, state_showing}
use Rattle.window_mgr.specs.Refused.{is_missing}
use Rattle.window_mgr.specs.Relayered.{AreLayersSet, IsPartAt, IsPlanOfLayers}
use Rattle.control_mgr.specs.declared.controls.Controls.{Controls}
use Rattle.control_mgr.specs.declared.making.Addition.{Addition}
use Rattle.control_mgr.specs.declared.making.Ticket.{Ticket}
use Rattle.control_mgr.specs.ControlDesks.{ControlRecord, ControlSlot, ControlsState, controls_show}
use Rattle.control_mgr.specs.ControlRefusals.{most_controls}
use Rattle.control_mgr.specs.ControlSteps.{AreLayersOf, IsControlMade, IsLayerOf, behind_controls, new_control}
use Rattle.control_mgr.specs.InUse.{AreStocked}
use Rattle.control_mgr.specs.Making.{IsAddition}
use Rattle.control_mgr.specs.Settled.{AreSettled, IsSettledControl, MayHaveSetting}
use Rattle.control_mgr.specs.WholeControls.{AreBeside, AreWholeControls, LeavesOver, controls_state, records_of, slots_of}
use Rattle.control_mgr.proofs.Added.{its, may_grow, may_lie_so, unused}
use Rattle.control_mgr.proofs.Edited.{AreNoControls, begin_behind, behind_inserted}
use Rattle.control_mgr.proofs.Judging.{window_is}
use Rattle.control_mgr.proofs.LayerIn.{one_read}
use Rattle.control_mgr.proofs.Lays.{AreSetFor}
use Rattle.control_mgr.proofs.Places.{layers_named, there_is, read_is}
use Rattle.control_mgr.proofs.Reshown.{alone, one_control, set_among}
use Rattle.control_mgr.proofs.Settled.{joined_laid, missing-layers, settled_told, somewhere_laid}
use Rattle.control_mgr.proofs.Stocks.{stocked_with}

-- ---- controls with one more behind

same_number : (a b : ℕ) → a ≡ b → (a == b) ≡ true
same_number a b e = grind (arith, nat_tests)

other_number : (a b : ℕ) → (b ≡ a → ⊥) → (a == b) ≡ false
other_number a b e = grind (arith, nat_tests)

slots_more : (c : ControlRecord) (cs : List ControlRecord) → slots_of (cs ++ c ∷ []) ≡ slots_of cs ++ c.kept.definition.slot ∷ []
slots_more c [] = refl
slots_more c (x ∷ xs) = ap (λ ns. x.kept.definition.slot ∷ ns) (slots_more c xs)

All-more : (P : ControlRecord → Type 0) (cs : List ControlRecord) (c : ControlRecord) → All P cs → P c → All P (cs ++ c ∷ [])
All-more P cs c h new = All-append P cs (c ∷ []) h (All-cons P c [] new (All-nil P))

-- no window has more than it may have, where its own had fewer
few_more : (c : ControlRecord) (cs : List ControlRecord) → count_of c.window cs < most_controls → ((t : ℕ) → count_of t cs ≤ most_controls) → (t : ℕ) → count_of t (cs ++ c ∷ []) ≤ most_controls
few_more c cs room few t = by_test (c.window == t) refl
  where
    by_test : (b : Bool) → (c.window == t) ≡ b → count_of t (cs ++ c ∷ []) ≤ most_controls
    by_test true e =
        let more = count_of-push t cs c e in
        let same : count_of t cs ≡ count_of c.window cs = ap (λ n. count_of n cs) (sym (eqb-true c.window t e)) in
        omega (arith, more, same, room)
    by_test false e = subst (λ n. n ≤ most_controls) (sym (count_of-push_other t cs c e)) (few t)

-- what was whole is whole with one control more, over slots of which its definition was taken out, beside the windows with its layer
pub whole_made : (c : ControlRecord) (old : ControlDefinition) (kind : List ℕ) (ls : List Layer) (ws : List WindowRecord) (state : ControlsState) (left : List ControlSlot)
    → AreWholeControls ws state → state.next ≡ Some c.serial → list_any (has_serial c.serial) state.controls ≡ false → IsSettledControl c → is_missing c.window ws ≡ false
    → count_of c.window state.controls < most_controls
    → IsTaken (λ (d : ControlDefinition). d.stage) kind (record { definition = old; slot = c.kept.definition.slot }) state.stock left
    → AreLayersOf (items_of c.window state.controls ++ c ∷ []) ls
    → AreWholeControls (map (with_layers_of c.window ls) ws) (record { controls = state.controls ++ c ∷ []; next = serial_after c.serial; stock = left })
whole_made c old kind ls ws state left whole next unused settled there room took joined = record {
  settled = All-more IsSettledControl state.controls c whole.settled settled;
  apart = apart_more c state.controls unused whole.apart;
  given = still_before c state.controls (subst (λ o. are_before o state.controls ≡ true) next whole.given);
  somewhere = All-more (λ (x : ControlRecord). is_missing x.window (map (with_layers_of c.window ls) ws) ≡ false) state.controls c (somewhere_laid c.window ls ws state.controls whole.somewhere) (missing-layers c.window c.window ls ws ∙ there);
  few = few_more c state.controls room whole.few;
  joined = joined_laid c.window ls state.controls (state.controls ++ c ∷ []) ws
      (subst (λ xs. AreLayersOf xs ls) (sym (items_of-push c.window state.controls c (same_number c.window c.window refl))) joined)
      (λ t away. items_of-push_other t state.controls c (other_number c.window t away))
      whole.joined;
  stocked = subst (λ ns. AreStocked (λ (d : ControlDefinition). d.stage) ns left) (sym (slots_more c state.controls))
      (stocked_with (λ (d : ControlDefinition). d.stage) (slots_of state.controls) kind (record { definition = old; slot = c.kept.definition.slot }) state.stock left took whole.stocked);
}

-- ---- the code's new control

module _ {W : Type 0} {K : W → Type 0} (control_loan : TakenBox W K → ControlLoan) where
  pub new_seen : (n : NewControl) (k : Ticket) (h : ℕ) (taken : TakenBox W K) (slot : ℕ) → k.values ≡ settled n.minimum n.maximum n.value → k.title ≡ n.title → h ≡ 0
      → (control_loan taken).slot ≡ slot
      → seen control_loan (record { serial = k.serial; window = n.window; kept = record { place = n.place; size = n.size; shown = n.shown; values = k.values; highlight = h; title = k.title; definition = taken } })
      ≡ new_control n k.serial slot (control_loan taken).definition
  new_seen n k h taken slot values title none same = λ i. record {
    serial = k.serial;
    window = n.window;
    kept = record {
      place = n.place;
      size = n.size;
      shown = n.shown;
      values = values i;
      highlight = none i;
      title = title i;
      definition = record { definition = (control_loan taken).definition; slot = same i };
    };
  }

  -- what is left of the list where it was put behind the others
  pub pushed : (m : Controls (TakenBox W K)) (xs : List (Item (Control (TakenBox W K)))) (x : Item (Control (TakenBox W K))) (c : ControlRecord) → xs ≡ m.list.items.items ++ x ∷ []
      → seen control_loan x ≡ c → all_seen control_loan xs ≡ records_of control_loan m ++ c ∷ []
  pushed m xs x c is same = ap (all_seen control_loan) is ∙ append-seen (kept_seen control_loan) m.list.items.items (x ∷ []) ∙ ap (λ y. records_of control_loan m ++ y ∷ []) same

begun_with : (n : NewControl) (values : Setting) (old new : ControlDefinition) → values ≡ settled n.minimum n.maximum n.value → IsControlBegun (new_control_news n.size n.title values) old new
    → IsControlBegun (new_control_news n.size n.title (settled n.minimum n.maximum n.value)) old new
begun_with n values old new is begun = subst (λ v. IsControlBegun (new_control_news n.size n.title v) old new) is begun

module _ {V : Type 0} {H : V → Type 0} (loan : TakenBox V H → WindowLoan) {W : Type 0} {K : W → Type 0} (control_loan : TakenBox W K → ControlLoan)
    (n : NewControl) (d : ControlDefinition) (t : WindowManager V H) (m : Controls (TakenBox W K)) (a : Addition)
    (kept : IsKept loan t) (beside : AreBeside control_loan loan t m) (addition : IsAddition loan control_loan n d t m a) where
  -- the part that is drawn afresh
  pub afresh_is : (q : Option Part) → IsPartAt a.layers.layers (Some a.ticket.layer) q → q ≡ Some (part.Control a.ticket.serial)
  afresh_is q h =
      let there = there_is a.layers.layers a.ticket.layer addition.low in
      let w = there_is t.windows.records.items a.ticket.window addition.ticket.window.0 in
      let lies = read_is t.windows.records.items a.ticket.window w.item w.there in
      h addition.layer (read_own w.item lies)
      ∙ ap Some (addition.is 0).part
    where
      read_own : (w : Window V H) → IsWindowAt t.windows.records.items a.ticket.window w → addition.layer ≡ get_or a.layers.layers a.ticket.layer addition.layer
      read_own w lies =
          sym (ap (λ ls. get_or ls a.ticket.layer addition.layer) (addition.layers w lies) ∙ get_or-insert_at w.layers.layers a.ticket.layer addition.layer addition.layer (may_grow loan control_loan n d t m a.ticket kept beside addition.ticket w lies).index)

  pub part_at : IsPartAt a.layers.layers (Some a.ticket.layer) (Some (part.Control a.ticket.serial))
  part_at l l_is = sym (afresh_is (Some l.part) (λ j j_is. ap (λ (x : Layer). Some x.part) (one_read a.layers.layers a.ticket.layer l j addition.low l_is j_is)))

  pub planned_is : (q : Option Part) → IsPartAt a.layers.layers (Some a.ticket.layer) q → IsPlanOfLayers loan a.ticket.window a.layers.layers q t a.relaying
  planned_is q h = subst (λ o. IsPlanOfLayers loan a.ticket.window a.layers.layers o t a.relaying) (sym (afresh_is q h)) addition.planned

  pub fits_begun : is_fitting_control d n.size ≡ true
  fits_begun = (may_lie_so loan control_loan n d t m a.ticket kept beside addition.ticket).fits

  module _ (slot : ℕ) (begun : ControlDefinition) (live : IsControlBegun (new_control_news n.size n.title a.ticket.values) d begun) (sound : MayHaveSetting a.ticket.values) where
    abbrev made : ControlRecord
    made = new_control n a.ticket.serial slot begun

    live_is : IsControlBegun (new_control_news n.size n.title (settled n.minimum n.maximum n.value)) d begun
    live_is = begun_with n a.ticket.values d begun addition.ticket.values live

    settled_new : IsSettledControl made
    settled_new =
        let so = may_lie_so loan control_loan n d t m a.ticket kept beside addition.ticket in
        settled_told made d begun slot (record { placed = so.placed; fits = so.fits; inside = so.inside; setting = subst MayHaveSetting addition.ticket.values sound; highlight = refl }) live_is

    pub settled_made : AreSettled (records_of control_loan m ++ made ∷ [])
    settled_made = All-more IsSettledControl (records_of control_loan m) made beside.whole.settled settled_new

    -- its layer is the same, now that its definition has begun
    layer_is : IsLayerOf made addition.layer
    layer_is =
        let was = addition.is slot in
        record {
          part = was.part;
          shown = was.shown;
          region = λ p. was.region p ∙ ap (λ (r : Size → PixelSet). r n.size (minus p n.place)) (sym live.regions.region);
          bounds = was.bounds ∙ ap (λ (b : Size → Rect). moved_rect (b n.size) n.place.h n.place.v) (sym live.regions.bounds);
        }

    module _ (u : WindowManager V H) (m' : Controls (TakenBox W K)) (controls_are : records_of control_loan m' ≡ records_of control_loan m ++ made ∷ [])
        (next_is : m'.list.next ≡ serial_after a.ticket.serial)
        (set : AreSetFor loan control_loan a.ticket.window a.layers.layers a.ticket.layer (alone (records_of control_loan m')) t u) where
      pub made_over : (before left : List ControlSlot) → IsTaken (λ (d : ControlDefinition). d.stage) n.kind (record { definition = d; slot = slot }) before left
          → (o : Opened) → LeavesOver control_loan loan before left (IsControlMade n a.ticket.serial) t o m u o m'
      made_over before left took o others slots whole controls =
          let windows = there_is t.windows.records.items a.ticket.window addition.ticket.window.0 in
          let w : Window V H = windows.item in
          let lies : IsWindowAt t.windows.records.items a.ticket.window w = read_is t.windows.records.items a.ticket.window w windows.there in
          let q : Option Part = Some (part.Control a.ticket.serial) in
          let leaves = set w lies q part_at (controls_show others (records_of control_loan m)) slots whole in
          let serial : w.serial ≡ n.window = addition.ticket.window.1 w lies in
          let was = state_showing (controls_show others (records_of control_loan m)) (state_of loan t slots) in
          let sets = set_among others (records_of control_loan m') (state_of loan u slots) leaves.0.sound.distinct n.window was a.layers.layers q (one_control a.ticket.serial)
          (subst (λ k. AreLayersSet k a.layers.layers q was (state_showing (alone (records_of control_loan m')) (state_of loan u slots))) serial leaves.1) in
          let joined : AreLayersOf (items_of n.window (records_of control_loan m) ++ made ∷ []) a.layers.layers = joined_new w lies in
          let windows_are : (desk_of loan u []).windows ≡ map (with_layers_of n.window a.layers.layers) (desk_of loan t []).windows = ap (λ (d : FullDesk). d.windows) sets.desk in
          let there : is_missing n.window (desk_of loan t []).windows ≡ false = ap is_none (window_is loan control_loan n (Some d) t m kept a.ticket.window addition.ticket.window w lies) in (
            leaves.0,
            subst (λ ws. AreWholeControls ws (controls_state control_loan m' left)) (sym windows_are)
                (subst (λ (x : List ControlRecord × Option ℕ). AreWholeControls (map (with_layers_of n.window a.layers.layers) (desk_of loan t []).windows) (record { controls = x.0; next = x.1; stock = left }))
                (λ i. (sym controls_are i, sym next_is i))
                (whole_made made d n.kind a.layers.layers (desk_of loan t []).windows (controls_state control_loan m before) left controls addition.ticket.serial
                (unused loan control_loan n d t m a.ticket kept beside addition.ticket) settled_new there
                (subst (λ k. k < most_controls) addition.ticket.layer addition.ticket.few) took joined)),
            record {
              loan = record { definition = d; slot = slot };
              begun = begun;
              serials = addition.ticket.serial;
              taken = took;
              live = live_is;
              controls = controls_are;
              next = next_is;
              laid = record {
                layers = a.layers.layers;
                joined = subst (λ xs. AreLayersOf xs a.layers.layers)
                    (sym (ap (items_of n.window) controls_are ∙ items_of-push n.window (records_of control_loan m) made (same_number n.window n.window refl))) joined;
                others = layers_named loan t slots whole a.ticket.window n.window w addition.ticket.window.0 lies serial (λ ls. behind_controls a.layers.layers ≡ behind_controls ls) (behind_new w lies);
                set = sets;
                elsewhere = refl;
                shows = refl;
              };
              activity = record { activity = refl; begun = refl };
            },
          )
        where
          joined_new : (w : Window V H) → IsWindowAt t.windows.records.items a.ticket.window w → AreLayersOf (items_of n.window (records_of control_loan m) ++ made ∷ []) a.layers.layers
          joined_new w lies =
              subst (AreLayersOf (items_of n.window (records_of control_loan m) ++ made ∷ []))
              (sym (addition.layers w lies ∙ ap (λ i. insert w.layers.layers i addition.layer) (addition.ticket.layer ∙ count_of-length n.window (records_of control_loan m))))
              (begin_behind IsLayerOf AreNoControls (items_of n.window (records_of control_loan m)) w.layers.layers made addition.layer
              (its loan control_loan n d t m a.ticket kept beside addition.ticket w lies) layer_is)

          -- the layers behind the controls are as they were
          behind_new : (w : Window V H) → IsWindowAt t.windows.records.items a.ticket.window w → behind_controls a.layers.layers ≡ behind_controls w.layers.layers
          behind_new w lies =
              ap behind_controls (addition.layers w lies)
              ∙ behind_inserted a.ticket.layer w.layers.layers addition.layer (ap (is_of kinds.Controls) (addition.is 0).part)
