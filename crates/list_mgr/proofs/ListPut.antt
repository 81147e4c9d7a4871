-- A list that is put behind the others as it was planned: what that leaves of windows and lists.
use Rattle.std.proofs.Common.{◌≡◌, ℕ, ◌<◌, true, false, not, ◌&&◌, List, [], ◌∷◌, ◌++◌, length, get_or, map, nat_abs, Option, Some, refl, sym, ap, ◌∙◌, subst, arith}
use Rattle.std.specs.Prelude.{is_none}
use Rattle.std.specs.List.{insert}
use Rattle.std.proofs.lemmas.List.Edits.{get_or-insert_at, insert_end}
use Rattle.tb_geom.specs.Points.{PixelSet}
use Rattle.desk_layers.specs.declared.part.Part.{Part}
use Rattle.desk_layers.specs.declared.part.Part.TheVariants as part
use Rattle.def_iface.specs.ControlMeaning.{is_control_size}
use Rattle.def_iface.specs.ListMeaning.{IsListBegun, ListDefinition, ListLoan}
use Rattle.def_iface.specs.WindowMeaning.{WindowLoan}
use Rattle.def_iface.specs.Slots.{IsTaken, TakenBox}
use Rattle.def_iface.specs.WindowSlots.{WindowSlot}
use Rattle.desk_layers.proofs.Owning.{same_number}
use Rattle.window_list.specs.declared.layer.Layer.{Layer}
use Rattle.window_list.specs.Holders.{PlacedLayers}
use Rattle.window_items.specs.Items.{items_of, are_before, serial_after}
use Rattle.window_items.specs.declared.item.Item.{Item}
use Rattle.list_mgr.specs.declared.list_record.ListRecord.{ListRecord}
use Rattle.list_mgr.specs.Seen.{all_seen, seen, kept_seen}
use Rattle.window_items.proofs.LawLemmas.{no_others}
use Rattle.window_items.proofs.SeenLemmas.{append-seen, count_of-seen}
use Rattle.window_items.proofs.WindowLemmas.{items_of-push}
use Rattle.list_cells.specs.Grids.{Grid, empty_grid}
use Rattle.desk_call.specs.declared.list.NewList.{NewList}
use Rattle.desk_call.specs.declared.update.LayerKind.TheVariants.{Controls}
use Rattle.vis_update.specs.Relayings.{with_layers_of}
use Rattle.window_list.specs.declared.window.Window.{Window}
use Rattle.window_paint.specs.Kinds.{is_of}
use Rattle.window_paint.specs.White.{all_white}
use Rattle.window_mgr.specs.declared.manager.WindowManager.{WindowManager}
use Rattle.window_mgr.specs.Edits.{IsWindowAt}
use Rattle.window_mgr.specs.FullDesk.{FullDesk}
use Rattle.window_mgr.specs.Records.{desk_of, state_of, state_showing}
use Rattle.window_mgr.specs.Refused.{is_missing}
use Rattle.window_mgr.specs.Relayered.{AreLayersSet, IsPartAt, IsPlanOfLayers}
use Rattle.window_mgr.specs.Whole.{IsWholeManager}
use Rattle.window_mgr.proofs.Steps.{found}
use Rattle.control_mgr.specs.ControlDesks.{ControlsState, controls_show}
use Rattle.control_mgr.specs.ControlSteps.{AreLayersOf, IsLayerOf as IsControlLayer}
use Rattle.control_mgr.specs.WholeControls.{AreWholeControls}
use Rattle.control_mgr.proofs.Edited.{AreNoControls, begin_length}
use Rattle.control_mgr.proofs.FurtherLayers.{joined_with, whole_set}
use Rattle.control_mgr.proofs.LayerIn.{one_read}
use Rattle.control_mgr.proofs.Places.{at_window, layers_named, read_is, there_is}
use Rattle.control_mgr.proofs.Reshown.{set_reshown}
use Rattle.list_mgr.specs.declared.judging.ListTicket.{ListTicket}
use Rattle.list_mgr.specs.declared.lists.Lists.{Lists}
use Rattle.list_mgr.specs.declared.planning.Planned.{Planned}
use Rattle.list_mgr.specs.ListDesks.{KeptList, ListSlot, lists_show}
use Rattle.list_mgr.specs.ListRefusals.{most_lists, view_of}
use Rattle.list_mgr.specs.ListSteps.{AreListLayers, IsListPut, new_list, with_last}
use Rattle.list_mgr.specs.Putting.{IsGoodList, IsReadyToPut, LeavesBeside}
use Rattle.list_mgr.specs.WholeLists.{AreBeside, AreSettled, AreWholeLists, IsSettledList, lists_state, records_of}
use Rattle.list_mgr.proofs.Drawn.{extent_of}
use Rattle.list_mgr.proofs.ListLayers.{listed_with}
use Rattle.list_mgr.proofs.ListsWhole.{All-more, whole_put}
use Rattle.list_mgr.proofs.NewLists.{new_settled}

-- its cells have a size that its definition may be told
pub cells_fit : (n : NewList) → IsGoodList n → is_control_size n.cell_size ≡ true
cells_fit n good = λ i. extent_of n.cell_size.width good.view.across.cell_some good.view.across.cell_short i && extent_of n.cell_size.height good.view.down.cell_some good.view.down.cell_short i

-- ---- the code's new list

module _ {X : Type 0} {L : X → Type 0} (list_loan : TakenBox X L → ListLoan) where
  pub list_seen : (n : NewList) (k : ListTicket) (cells : Grid) (vertical horizontal : Option ℕ) (taken : TakenBox X L) (slot : ℕ) → k.view ≡ view_of n → cells ≡ empty_grid (nat_abs n.columns) (nat_abs n.rows)
      → (list_loan taken).slot ≡ slot
      → seen list_loan (record { serial = k.serial; window = n.window; kept = record { view = k.view; cells = cells; flags = k.flags; drawing = true; vertical = vertical; horizontal = horizontal; definition = taken } })
      ≡ new_list n k.serial k.flags vertical horizontal (record { definition = (list_loan taken).definition; slot = slot })
  list_seen n k cells vertical horizontal taken slot view_is cells_are same = λ i. record {
    serial = k.serial;
    window = n.window;
    kept = record {
      view = view_is i;
      cells = cells_are i;
      flags = k.flags;
      drawing = true;
      vertical = vertical;
      horizontal = horizontal;
      definition = record { definition = (list_loan taken).definition; slot = same i };
    };
  }

  -- what is left of the lists where it was put behind the others
  pub pushed : (m : Lists (TakenBox X L)) (xs : List (Item (ListRecord (TakenBox X L)))) (x : Item (ListRecord (TakenBox X L))) (l : KeptList) → xs ≡ m.list.items.items ++ x ∷ [] → seen list_loan x ≡ l
      → all_seen list_loan xs ≡ records_of list_loan m ++ l ∷ []
  pushed m xs x l is same = ap (all_seen list_loan) is ∙ append-seen (kept_seen list_loan) m.list.items.items (x ∷ []) ∙ ap (λ y. records_of list_loan m ++ y ∷ []) same

-- ---- the list put

module _ {V : Type 0} {H : V → Type 0} (loan : TakenBox V H → WindowLoan) {X : Type 0} {L : X → Type 0} (list_loan : TakenBox X L → ListLoan)
    (n : NewList) (k : ListTicket) (t : WindowManager V H) (m : Lists (TakenBox X L)) (p : Planned) (ready : IsReadyToPut loan n k t m p) where
  abbrev layers : List Layer
  layers = p.laid.layers.layers

  abbrev own : Layer
  own = ready.planned.layer

  inserted : layers ≡ insert ready.layers.layers (length ready.layers.layers) own
  inserted = ap (λ (x : PlacedLayers). x.layers) ready.planned.layers ∙ ap (λ i. insert ready.layers.layers i own) ready.planned.index

  appended : layers ≡ with_last own ready.layers.layers
  appended = inserted ∙ insert_end ready.layers.layers own

  -- the part that is drawn afresh
  pub afresh_is : (q : Option Part) → IsPartAt layers (Some p.laid.at) q → q ≡ Some (part.List k.serial)
  afresh_is q h =
      h own (sym (ap (λ (x : PlacedLayers). get_or x.layers p.laid.at own) ready.planned.layers ∙ get_or-insert_at ready.layers.layers p.laid.at own own (omega (arith, ready.planned.index))))
      ∙ ap Some ready.planned.part_is

  pub part_at : IsPartAt layers (Some p.laid.at) (Some (part.List k.serial))
  part_at l l_is = sym (afresh_is (Some l.part) (λ j j_is. ap (λ (x : Layer). Some x.part) (one_read layers p.laid.at l j ready.planned.low l_is j_is)))

  pub planned_is : (q : Option Part) → IsPartAt layers (Some p.laid.at) q → IsPlanOfLayers loan k.window layers q t p.laid.relaying
  planned_is q h = subst (λ o. IsPlanOfLayers loan k.window layers o t p.laid.relaying) (sym (afresh_is q h)) ready.planned.planned

  module _ (vertical horizontal : Option ℕ) (old begun : ListDefinition) (slot : ℕ) (live : IsListBegun n.cell_size (not k.flags.no_nil_hilite) old begun) where
    abbrev pub one : KeptList
    one = new_list n k.serial k.flags vertical horizontal (record { definition = begun; slot = slot })

    pub settled_put : AreBeside list_loan loan t m → AreSettled (records_of list_loan m ++ one ∷ [])
    settled_put beside = All-more IsSettledList (records_of list_loan m) one beside.whole.settled (new_settled n ready.place.good k.serial slot k.flags vertical horizontal old begun live)

    module _ (u : WindowManager V H) (m' : Lists (TakenBox X L)) (lists_are : records_of list_loan m' ≡ records_of list_loan m ++ one ∷ []) (next_is : m'.list.next ≡ serial_after k.serial)
        (set : (w : Window V H) → IsWindowAt t.windows.records.items k.window w → (q : Option Part) → IsPartAt layers (Some p.laid.at) q → (was : List ℕ → Part → PixelSet) (slots : List WindowSlot) → IsWholeManager loan t slots
        → IsWholeManager loan u slots × AreLayersSet w.serial layers q (state_showing was (state_of loan t slots)) (state_showing (lists_show (λ font. all_white) (records_of list_loan m')) (state_of loan u slots))) where
      -- what was drawn afresh is the list, which shows the same with the controls and without
      same_list : (others : List ℕ → Part → PixelSet) (cs : ControlsState) (font : List ℕ) (q : Part) → Some (part.List k.serial) ≡ Some q → (r : _)
          → lists_show (λ font. all_white) (records_of list_loan m') font q r ≡ controls_show (lists_show others (records_of list_loan m')) cs.controls font q r
      same_list others cs font q e r =
          let same : part.List k.serial ≡ q = cc in
          subst (λ x. lists_show (λ font. all_white) (records_of list_loan m') font x r ≡ controls_show (lists_show others (records_of list_loan m')) cs.controls font x r) same refl

      pub put_over : (before left : List ListSlot) → IsTaken (λ (d : ListDefinition). d.stage) n.kind (record { definition = old; slot = slot }) before left
          → LeavesBeside list_loan loan before left (IsListPut n k.serial vertical horizontal) t m u m'
      put_over before left took others o slots cs whole controls lists =
          let windows = there_is t.windows.records.items k.window ready.place.window.0 in
          let w : Window V H = windows.item in
          let lies : IsWindowAt t.windows.records.items k.window w = read_is t.windows.records.items k.window w windows.there in
          let serial : w.serial ≡ n.window = ready.place.window.1 w lies in
          let q : Option Part = Some (part.List k.serial) in
          let showed : List ℕ → Part → PixelSet = controls_show (lists_show others (records_of list_loan m)) cs.controls in
          let shows : List ℕ → Part → PixelSet = controls_show (lists_show others (records_of list_loan m')) cs.controls in
          let leaves = set w lies q part_at showed slots whole in
          let sets : AreLayersSet n.window layers q (state_showing showed (state_of loan t slots)) (state_showing shows (state_of loan u slots)) =
          set_reshown (lists_show (λ font. all_white) (records_of list_loan m')) shows (state_of loan u slots) leaves.0.sound.distinct n.window layers q (state_showing showed (state_of loan t slots)) (same_list others cs u.font)
          (subst (λ s. AreLayersSet s layers q (state_showing showed (state_of loan t slots)) (state_showing (lists_show (λ font. all_white) (records_of list_loan m')) (state_of loan u slots))) serial leaves.1) in
          let windows_are : (desk_of loan u []).windows ≡ map (with_layers_of n.window layers) (desk_of loan t []).windows = ap (λ (d : FullDesk). d.windows) sets.desk in
          let there : is_missing n.window (desk_of loan t []).windows ≡ false = ap is_none (found loan t t slots whole k.window n.window w ready.place.window.0 lies serial) in
          let controls_laid : AreLayersOf (items_of n.window cs.controls) layers = laid_controls cs controls w lies in
          let lists_laid : AreListLayers (items_of n.window (records_of list_loan m ++ one ∷ [])) layers = laid_lists before lists w lies in (
            leaves.0,
            whole_set loan n.window layers q showed shows t u slots cs sets controls controls_laid,
            subst (λ ws. AreWholeLists ws (lists_state list_loan m' left)) (sym windows_are)
                (subst (λ (x : List KeptList × Option ℕ). AreWholeLists (map (with_layers_of n.window layers) (desk_of loan t []).windows) (record { lists = x.0; next = x.1; stock = left }))
                (λ i. (sym lists_are i, sym next_is i))
                (whole_put one old n.kind layers (desk_of loan t []).windows (lists_state list_loan m before) left lists ready.place.serial
                (no_others one (records_of list_loan m) (subst (λ x. are_before x (records_of list_loan m) ≡ true) ready.place.serial lists.given))
                (new_settled n ready.place.good k.serial slot k.flags vertical horizontal old begun live) there
                (subst (λ c. c < most_lists) (sym (count_of-seen (kept_seen list_loan) n.window m.list.items.items)) ready.place.few) took lists_laid)),
            record {
              flags = k.flags;
              sum = ready.place.flags;
              loan = record { definition = old; slot = slot };
              begun = begun;
              serials = ready.place.serial;
              taken = took;
              live = live;
              lists = lists_are;
              next = next_is;
              layer = own;
              its = ready.planned.is one refl (sym ready.place.view);
              laid = record {
                layers = layers;
                become = layers_named loan t slots whole k.window n.window w ready.place.window.0 lies serial (λ ls. layers ≡ with_last own ls)
                    (appended ∙ ap (λ (x : PlacedLayers). with_last own x.layers) (sym (ready.lies w lies)));
                controls = controls_laid;
                lists = subst (λ xs. AreListLayers (items_of n.window xs) layers) (sym lists_are) lists_laid;
                set = sets;
                shows = refl;
              };
              beside = record { controls = refl; others = refl; activity = record { activity = refl; begun = refl } };
            },
          )
        where
          laid_controls : (cs : ControlsState) → AreWholeControls (desk_of loan t []).windows cs → (w : Window V H) → IsWindowAt t.windows.records.items k.window w → AreLayersOf (items_of n.window cs.controls) layers
          laid_controls cs whole w lies =
              let was : AreLayersOf (items_of n.window cs.controls) ready.layers.layers =
              subst (λ (x : ℕ × PlacedLayers). AreLayersOf (items_of x.0 cs.controls) x.1.layers) (λ i. (ready.place.window.1 w lies i, ready.lies w lies i))
              (at_window loan (λ r. AreLayersOf (items_of r.serial cs.controls) r.layers) t.windows.records.items k.window w ready.place.window.0 lies whole.joined) in
              subst (AreLayersOf (items_of n.window cs.controls)) (sym inserted)
              (joined_with (items_of n.window cs.controls) ready.layers.layers (length ready.layers.layers) own
              (begin_length IsControlLayer AreNoControls (items_of n.window cs.controls) ready.layers.layers was) (ap (is_of Controls) ready.planned.part_is) was)

          laid_lists : (before : List ListSlot) → AreWholeLists (desk_of loan t []).windows (lists_state list_loan m before) → (w : Window V H) → IsWindowAt t.windows.records.items k.window w
              → AreListLayers (items_of n.window (records_of list_loan m ++ one ∷ [])) layers
          laid_lists before whole w lies =
              let was : AreListLayers (items_of n.window (records_of list_loan m)) ready.layers.layers =
              subst (λ (x : ℕ × PlacedLayers). AreListLayers (items_of x.0 (records_of list_loan m)) x.1.layers) (λ i. (ready.place.window.1 w lies i, ready.lies w lies i))
              (at_window loan (λ r. AreListLayers (items_of r.serial (records_of list_loan m)) r.layers) t.windows.records.items k.window w ready.place.window.0 lies whole.joined) in
              subst (λ (x : List KeptList × List Layer). AreListLayers x.0 x.1)
              (λ i. (sym (items_of-push n.window (records_of list_loan m) one (same_number n.window)) i, sym appended i))
              (listed_with (items_of n.window (records_of list_loan m)) ready.layers.layers one own was (ready.planned.is one refl (sym ready.place.view)))
