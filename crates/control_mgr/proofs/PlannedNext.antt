-- What planned changes leave of windows and controls, so that the next one that was planned can be made.
use Rattle.std.proofs.Common.{◌≡◌, ℕ, ◌+◌, ◌^◌, ◌<◌, ◌≤◌, Bool, true, false, ◌||◌, cond, List, [], ◌∷◌, length, Option, Some, None, refl, sym, ap, ◌∙◌, subst, arith}
use Rattle.std.specs.Prelude.{All, IfSome, nat_lt, vec_capacity}
use Rattle.std.specs.List.{list_any}
use Rattle.std.proofs.lemmas.Bool.{and_parts, eq-eqb, ltb-true, ne_eqb}
use Rattle.std.proofs.lemmas.List.{length_push}
use Rattle.std.proofs.lemmas.List.Edits.{length-insert}
use Rattle.tb_geom.specs.Points.{PixelSet}
use Rattle.tb_geom.specs.Pixels.{Pixels}
use Rattle.window_items.specs.Items.{are_before, items_of, count_of, has_serial, serial_after}
use Rattle.window_items.proofs.SeenLemmas.{length-seen}
use Rattle.window_items.proofs.WindowLemmas.{count_of-push}
use Rattle.desk_layers.specs.declared.part.Part.{Part}
use Rattle.desk_layers.specs.declared.part.Part.TheVariants as part
use Rattle.def_iface.specs.Slots.{TakenBox}
use Rattle.def_iface.specs.ControlMeaning.{ControlDefinition, ControlLoan}
use Rattle.desk_layers.specs.Desk.{same_part}
use Rattle.def_iface.specs.WindowMeaning.{WindowLoan}
use Rattle.window_list.specs.declared.layer.Layer.{Layer}
use Rattle.window_list.specs.Holders.{ArePartsApart, PlacedLayers}
use Rattle.desk_call.specs.declared.control.ControlOf.{ControlOf}
use Rattle.desk_call.specs.declared.control.NewControl.{NewControl}
use Rattle.window_list.specs.declared.window.Window.{Window}
use Rattle.window_mgr.specs.declared.manager.WindowManager.{WindowManager}
use Rattle.window_mgr.specs.DeskStates.{Opened}
use Rattle.window_mgr.specs.Edits.{IsWindowAt, StandsAt}
use Rattle.window_mgr.specs.Kept.{IsKept}
use Rattle.window_mgr.specs.Records.{desk_of}
use Rattle.window_mgr.specs.Relayered.{AreLayersPut}
use Rattle.window_paint.specs.White.{all_white}
use Rattle.window_mgr.proofs.Contents as contents
use Rattle.window_items.proofs.SerialLemmas.{none_in_window}
use Rattle.control_mgr.specs.declared.controls.Controls.{Controls}
use Rattle.control_mgr.specs.declared.ending.Ending.{Ending}
use Rattle.control_mgr.specs.declared.making.Addition.{Addition}
use Rattle.control_mgr.specs.declared.making.Ticket.{Ticket}
use Rattle.control_mgr.specs.ControlDesks.{ControlDesk, ControlRecord, ControlSlot}
use Rattle.control_mgr.specs.ControlSteps.{IsControlMade, new_control}
use Rattle.control_mgr.specs.Ending.{IsPutIfPlanned, IsReadyToEnd, IsTakenOut, layers_left, update_left}
use Rattle.control_mgr.specs.Judged.{may_be_placed}
use Rattle.control_mgr.specs.Making.{IsGrown, IsReadyToAdd, IsTicket, IsTicketAfter, MayGrow}
use Rattle.control_mgr.specs.Planned.{IsLaidSo}
use Rattle.control_mgr.specs.WholeControls.{AreBeside, AreWholeControls, LeavesOver, control_desk, controls_state, records_of}
use Rattle.control_mgr.proofs.Added.{its, may_grow, others_named}
use Rattle.control_mgr.proofs.LaidSo.{laid_put, stands_put}
use Rattle.control_mgr.proofs.LayerIn.{all_with}
use Rattle.control_mgr.specs.Seen.{kept_seen}

-- ---- serials

-- the serial after one is larger by one
pub next_is : (n s : ℕ) → serial_after n ≡ Some s → s ≡ n + 1
next_is n s e = by_test (nat_lt (n + 1) (2 ^ 64)) e
  where
    by_test : (b : Bool) → cond b (Some (n + 1)) None ≡ Some s → s ≡ n + 1
    by_test true e = cc
    by_test false e = absurd (cc)

-- where each serial comes before one, no control has that or a later one
pub none_later : (n s : ℕ) (cs : List ControlRecord) → are_before (Some n) cs ≡ true → n ≤ s → list_any (has_serial s) cs ≡ false
none_later n s [] e le = refl
none_later n s (c ∷ cs) e le =
    let parts = and_parts (nat_lt c.serial n) (are_before (Some n) cs) e in
    let less = ltb-true c.serial n parts.0 in
    let rest = none_later n s cs parts.1 le in
    (λ i. ne_eqb c.serial s (λ same. omega (arith, less, le, same)) i || rest i)

-- ---- what a step leaves

module _ {V : Type 0} {H : V → Type 0} (loan : TakenBox V H → WindowLoan) {W : Type 0} {K : W → Type 0} (control_loan : TakenBox W K → ControlLoan) where
  module _ (step : ControlDesk → ControlDesk → Type 0) (stock left : List ControlSlot) (t u : WindowManager V H) (o r : Opened) (m n : Controls (TakenBox W K))
      (leaves : LeavesOver control_loan loan stock left step t o m u r n) (kept : IsKept loan t) (whole : AreWholeControls (desk_of loan t []).windows (controls_state control_loan m stock)) where
    -- the windows are whole still, and the controls beside them
    pub left_kept : IsKept loan u
    left_kept = record { slots = kept.slots; whole = (leaves (λ font. all_white) kept.slots kept.whole whole).0 }

    pub left_whole : AreWholeControls (desk_of loan u []).windows (controls_state control_loan n left)
    left_whole = (leaves (λ font. all_white) kept.slots kept.whole whole).1

    pub left_beside : AreBeside control_loan loan u n
    left_beside = record { slots = left; whole = left_whole }

    -- and the step was made, whatever other layers show
    pub left_step : (others : List ℕ → Part → PixelSet) → step (control_desk control_loan loan others t o kept.slots m stock) (control_desk control_loan loan others u r kept.slots n left)
    left_step others = (leaves others kept.slots kept.whole whole).2

  -- ---- a control behind one that is to be added

  -- it may be planned over the layers that the plan of that one leaves
  pub may_grow_after : (n : NewControl) (d : ControlDefinition) (t : WindowManager V H) (m : Controls (TakenBox W K)) (k : Ticket) → IsKept loan t → AreBeside control_loan loan t m → IsTicket control_loan n (Some d) t m k
      → (w : Window V H) → IsWindowAt t.windows.records.items k.window w → (a : Addition) → IsGrown n d k w.layers a
      → (next : NewControl) (e : ControlDefinition) (l : Ticket) → IsTicketAfter k w.layers.place next (Some e) l → MayGrow next e l a.layers
  may_grow_after n d t m k kept beside ticket w lies a grown next e l after =
      let first = may_grow loan control_loan n d t m k kept beside ticket w lies in
      let serial = next_is k.serial l.serial after.serial in
      let many = ap (λ (x : PlacedLayers). length x.layers) grown.layers ∙ length-insert w.layers.layers k.layer grown.layer first.index in
      let low = first.index in
      let behind = after.layer in
      record {
        index = omega (arith, many, low, behind);
        apart = grown.apart;
        unused = subst (λ (x : PlacedLayers). All (λ (y : Layer). same_part y.part (part.Control l.serial) ≡ false) x.layers) (sym grown.layers)
            (all_with (λ (y : Layer). same_part y.part (part.Control l.serial) ≡ false) k.layer w.layers.layers grown.layer
            (others_named l.serial (items_of n.window (records_of control_loan m)) w.layers.layers (its loan control_loan n d t m k kept beside ticket w lies)
            (none_in_window l.serial n.window (records_of control_loan m)
            (none_later k.serial l.serial (records_of control_loan m) (subst (λ o. are_before o (records_of control_loan m) ≡ true) ticket.serial beside.whole.given) (omega (arith, serial)))))
            (ap (λ q. same_part q (part.Control l.serial)) (grown.is 0).part ∙ ne_eqb k.serial l.serial (λ same. omega (arith, serial, same))));
        placed = ap (λ (x : PlacedLayers). may_be_placed (Some e) next.place next.size x.place) grown.layers ∙ after.placed;
      }

  module _ (n : NewControl) (d : ControlDefinition) (k : Ticket) (ls : PlacedLayers) (update : Pixels) (t u : WindowManager V H) (m : Controls (TakenBox W K)) (ready : IsReadyToAdd loan control_loan n d k ls update t u m)
      (a : Addition) (grown : IsGrown n d k ls a) (stock left : List ControlSlot) (o r : Opened) (v : WindowManager V H) (m' : Controls (TakenBox W K))
      (made : LeavesOver control_loan loan stock left (IsControlMade n a.ticket.serial) u o m v r m') (whole : AreWholeControls (desk_of loan u []).windows (controls_state control_loan m stock))
      (put : AreLayersPut a.ticket.window a.layers a.relaying.update u v) where
    abbrev kept : IsKept loan u
    kept = ready.laid.has.kept

    abbrev step : IsControlMade n a.ticket.serial (control_desk control_loan loan (λ font. all_white) u o kept.slots m stock) (control_desk control_loan loan (λ font. all_white) v r kept.slots m' left)
    step = left_step (IsControlMade n a.ticket.serial) stock left u v o r m m' made kept whole (λ font. all_white)

    kept_then : IsKept loan v
    kept_then = left_kept (IsControlMade n a.ticket.serial) stock left u v o r m m' made kept whole

    -- the window then has its layers and this as its update region
    pub laid_after : IsLaidSo loan k.window a.layers a.relaying.update t v
    laid_after = laid_put loan k.window ls a.layers update a.relaying.update t u v ready.laid (subst (λ (x : Ticket). AreLayersPut x.window a.layers a.relaying.update u v) grown.ticket put) kept_then

    pub stands_after : StandsAt v.windows.records.items n.window k.window
    stands_after = stands_put k.window a.layers a.relaying.update u v (subst (λ (x : Ticket). AreLayersPut x.window a.layers a.relaying.update u v) grown.ticket put) ready.laid.has.low n.window ready.ticket.window

    -- there is one control more
    pub many_after : length m'.list.items.items ≡ length m.list.items.items + 1
    many_after =
        sym (length-seen (kept_seen control_loan) m'.list.items.items)
        ∙ ap length step.controls
        ∙ length_push (records_of control_loan m) (new_control n a.ticket.serial step.loan.slot step.begun)
        ∙ ap (λ x. x + 1) (length-seen (kept_seen control_loan) m.list.items.items)

    -- and the next one can be added as it was planned
    pub ready_after : (next : NewControl) (e : ControlDefinition) (l : Ticket) → next.window ≡ n.window → IsTicketAfter k ls.place next (Some e) l → length m'.list.items.items < vec_capacity m'.list.items
        → IsReadyToAdd loan control_loan next e l a.layers a.relaying.update t v m'
    ready_after next e l same after room = record {
      laid = subst (λ x. IsLaidSo loan x a.layers a.relaying.update t v) (sym after.window) laid_after;
      beside = left_beside (IsControlMade n a.ticket.serial) stock left u v o r m m' made kept whole;
      ticket = record {
        window = subst (λ (x : ℕ × ℕ). StandsAt v.windows.records.items x.0 x.1) (λ i. (sym same i, sym after.window i)) stands_after;
        placed = subst (λ x. (w : Window V H) → IsWindowAt v.windows.records.items x w → may_be_placed (Some e) next.place next.size w.place ≡ true) (sym after.window) placed_there;
        serial = step.next ∙ ap (λ (x : Ticket). serial_after x.serial) grown.ticket ∙ after.serial;
        values = after.values;
        title = after.title;
        layer =
            after.layer
            ∙ ap (λ x. x + 1) ready.ticket.layer
            ∙ sym (count_of-push n.window (records_of control_loan m) (new_control n a.ticket.serial step.loan.slot step.begun) (eq-eqb n.window n.window refl))
            ∙ (λ i. count_of (sym same i) (sym step.controls i));
        few = after.few;
      };
      room = room;
    }
      where
        placed_there : (w : Window V H) → IsWindowAt v.windows.records.items k.window w → may_be_placed (Some e) next.place next.size w.place ≡ true
        placed_there w lies =
            ap (λ p. may_be_placed (Some e) next.place next.size p)
            (sym (contents.layers_there loan v kept_then.slots kept_then.whole k.window laid_after.has.low w lies (λ font q p. false)) ∙ ap (λ (x : PlacedLayers). x.place) (laid_after.layers w lies ∙ grown.layers))
            ∙ after.placed

  -- ---- a control that is to be ended after another change of its window's layers

  pub ending_after : (c : ControlOf) (at : ℕ) (was layers : PlacedLayers) (before update : Pixels) (t u v : WindowManager V H) (m : Controls (TakenBox W K)) → IsLaidSo loan at was before t u → AreLayersPut at layers update u v
      → IsKept loan v → AreBeside control_loan loan v m → StandsAt u.windows.records.items c.window at → IsReadyToEnd loan control_loan c at layers update t v m
  ending_after c at was layers before update t u v m laid put held beside stands = record {
    laid = laid_put loan at was layers before update t u v laid put held;
    beside = beside;
    stands = stands_put at layers update u v put laid.has.low c.window stands;
  }

  -- after another control was ended that had to, if it was there
  pub ending_left : (c : ControlOf) (at n : ℕ) (ls : PlacedLayers) (update : Pixels) (t u v : WindowManager V H) (m m' : Controls (TakenBox W K)) (planned : Option Ending) → IsReadyToEnd loan control_loan c at ls update t u m
      → IfSome planned (IsTakenOut at n ls) → IsPutIfPlanned planned u v → IsKept loan v → AreBeside control_loan loan v m' → IsReadyToEnd loan control_loan c at (layers_left planned ls) (update_left planned update) t v m'
  ending_left c at n ls update t u v m m' None ready out put held beside = record {
    laid = subst (IsLaidSo loan at ls update t) (sym put) ready.laid;
    beside = beside;
    stands = subst (λ (x : WindowManager V H). StandsAt x.windows.records.items c.window at) (sym put) ready.stands;
  }
  ending_left c at n ls update t u v m m' (Some e) ready out put held beside =
      ending_after c at ls e.layers update e.relaying.update t u v m' ready.laid (subst (λ k. AreLayersPut k e.layers e.relaying.update u v) out.window put) held beside ready.stands

-- layers of which one was to be taken out are apart still
pub apart_left : (at n : ℕ) (ls : PlacedLayers) (planned : Option Ending) → ArePartsApart ls.layers → IfSome planned (IsTakenOut at n ls) → ArePartsApart (layers_left planned ls).layers
apart_left at n ls None apart out = apart
apart_left at n ls (Some e) apart out = out.apart
