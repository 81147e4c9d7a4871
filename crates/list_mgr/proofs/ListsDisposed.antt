-- A list that is disposed of with its scroll bars, as it was planned.
use Rattle.std.proofs.Common.{◌≡◌, ℕ, ◌<◌, true, false, List, [], length, get_or, Option, Some, None, Ok, refl, sym, ap, ◌∙◌, subst}
use Rattle.std.specs.Prelude.{IfSome, slice_get}
use Rattle.std.specs.List.{remove}
use Rattle.std.specs.Option.{option_map}
use Rattle.tb_geom.specs.declared.point.Point.{Point}
use Rattle.tb_geom.specs.Points.{PixelSet, minus}
use Rattle.tb_geom.specs.Pixels.{Pixels, holds}
use Rattle.window_items.specs.Items.{items_of, is_in_at}
use Rattle.desk_layers.specs.declared.part.Part.{Part}
use Rattle.desk_layers.specs.declared.part.Part.TheVariants as part
use Rattle.def_iface.specs.Slots.{TakenBox}
use Rattle.def_iface.specs.ControlMeaning.{ControlLoan}
use Rattle.def_iface.specs.ListMeaning.{ListLoan}
use Rattle.def_iface.specs.WindowMeaning.{WindowLoan}
use Rattle.def_iface.specs.WindowSlots.{WindowSlot}
use Rattle.window_list.specs.declared.layer.Layer.{Layer}
use Rattle.window_list.specs.declared.layers.Relaid.{Relaid}
use Rattle.window_list.specs.LayerChanges.{is_gained}
use Rattle.window_list.specs.Holders.{ArePartsApart, PlacedLayers}
use Rattle.window_items.specs.declared.item.Item.{Item}
use Rattle.list_mgr.specs.declared.list_record.ListRecord.{ListRecord}
use Rattle.list_mgr.specs.Seen.{all_seen, seen, kept_seen}
use Rattle.window_items.proofs.SeenLemmas.{remove-seen, slice_get-seen}
use Rattle.window_items.proofs.WindowLemmas.{found_in}
use Rattle.desk_call.specs.declared.list.ListCall.TheVariants.{Dispose}
use Rattle.desk_call.specs.declared.list.ListOf.{ListOf}
use Rattle.desk_call.specs.declared.list.ListReply.TheVariants.{Done}
use Rattle.desk_call.specs.declared.update.LayerKind.TheVariants as kinds
use Rattle.vis_update.specs.declared.area.Area.{Area}
use Rattle.vis_update.specs.declared.relaying.Relaying.{Relaying}
use Rattle.vis_update.specs.Records.{WindowRecord}
use Rattle.window_list.specs.declared.window.Window.{Window}
use Rattle.window_paint.specs.Kinds.{is_of}
use Rattle.window_paint.specs.White.{all_white}
use Rattle.window_mgr.specs.declared.manager.WindowManager.{WindowManager}
use Rattle.window_mgr.specs.DeskStates.{Opened}
use Rattle.window_mgr.specs.Edits.{IsWindowAt}
use Rattle.window_mgr.specs.FullDesk.{FullDesk}
use Rattle.window_mgr.specs.Kept.{IsKept}
use Rattle.window_mgr.specs.Records.{desk_of, state_of, state_showing}
use Rattle.window_mgr.specs.Relayered.{AreLayersPut, AreLayersSet, HasUpdate, IsGainedAt, IsPartAt, IsPlanOfLayers, MayHaveLayers}
use Rattle.window_mgr.specs.Whole.{IsWholeManager}
use Rattle.window_mgr.proofs.Contents as contents
use Rattle.window_mgr.proofs.Showing.{distinct_showing}
use Rattle.control_mgr.specs.declared.controls.Controls.{Controls}
use Rattle.control_mgr.specs.declared.ending.Ending.{Ending}
use Rattle.control_mgr.specs.ControlDesks.{ControlSlot, controls_show}
use Rattle.control_mgr.specs.ControlSteps.{AreLayersOf}
use Rattle.control_mgr.specs.Ending.{IsPutIfPlanned, IsReadyToEnd, IsTakenOut, layers_left, update_left}
use Rattle.control_mgr.specs.Planned.{IsLaidSo}
use Rattle.control_mgr.specs.WholeControls.{AreBeside, AreWholeControls, controls_state, records_of as controls_kept}
use Rattle.control_mgr.proofs.FurtherLayers.{joined_without, whole_set}
use Rattle.control_mgr.proofs.LaidSo.{laid_now}
use Rattle.control_mgr.proofs.LayerOut as out
use Rattle.control_mgr.proofs.Places.{at_window, layers_named, read_is, there_is}
use Rattle.control_mgr.proofs.PlannedNext.{apart_left, ending_after, ending_left}
use Rattle.control_mgr.proofs.Reshown.{set_reshown}
use Rattle.list_mgr.specs.declared.lists.Lists.{Lists}
use Rattle.list_mgr.specs.declared.spots.ListAt.{ListAt}
use Rattle.list_mgr.specs.BarEnds.{IsBarGoneOver, bar_of, bar_serial}
use Rattle.list_mgr.specs.Changing.{IsItsLayer}
use Rattle.list_mgr.specs.Lines.{desk_beside}
use Rattle.list_mgr.specs.ListDesks.{ListSlot, ListsState, lists_show}
use Rattle.list_mgr.specs.ListSteps.{AreListLayers, IsBarGone, IsLayerOf, IsListGone, IsListShut, IsListStep, without_part}
use Rattle.list_mgr.specs.Spots.{IsSpotOf}
use Rattle.list_mgr.specs.WholeLists.{AreWholeLists, LeavesOver, lists_state, records_of}
use Rattle.list_mgr.proofs.BarsGone.{bar_gone_lists, controls_gone, kept_gone}
use Rattle.list_mgr.proofs.LayerTaken.{layers_left_are}
use Rattle.list_mgr.proofs.ListedLayers.{without_at}
use Rattle.list_mgr.proofs.Places.{found_names}
use Rattle.list_mgr.proofs.ListsWhole.{whole_gone}
use Rattle.list_mgr.proofs.Steps.{nothing_missing}

module _ {V : Type 0} {H : V → Type 0} (loan : TakenBox V H → WindowLoan) {X : Type 0} {L : X → Type 0} (list_loan : TakenBox X L → ListLoan) {W : Type 0} {K : W → Type 0} (control_loan : TakenBox W K → ControlLoan)
    (l : ListOf) (t : WindowManager V H) (m : Lists (TakenBox X L)) (s : ListAt) (is : IsSpotOf loan list_loan l t m s) (kept : IsKept loan t)
    (w : Window V H) (lies : IsWindowAt t.windows.records.items s.window w) (layer : ℕ) (its : IsItsLayer list_loan m s w.layers.layers layer) where
  abbrev at : ℕ
  at = s.window

  abbrev low : layer < length w.layers.layers
  low = its.low

  abbrev own : Layer
  own = (there_is w.layers.layers layer low).item

  own_read : own ≡ get_or w.layers.layers layer own
  own_read = read_is w.layers.layers layer own (there_is w.layers.layers layer low).there

  no_control : is_of kinds.Controls own.part ≡ false
  no_control = ap (is_of kinds.Controls) (its.is own own_read).part

  its_part : own.part ≡ part.List l.list
  its_part = (its.is own own_read).part ∙ ap part.List (found_names l.window l.list s.list (records_of list_loan m) its.list is.list its.there).1

  -- ---- plans

  pub first_apart : ArePartsApart w.layers.layers
  first_apart = contents.layers_apart loan t kept.slots kept.whole at is.window.0 w lies (λ font q p. false)

  module _ (relaid : Relaid) (layers_are : relaid.layers ≡ record w.layers { layers = remove w.layers.layers layer }) where
    pub relaid_apart : ArePartsApart relaid.layers.layers
    relaid_apart = out.apart_out w.layers layer low first_apart relaid.layers layers_are

    -- after the first bar
    pub next_apart : (n : ℕ) (one : Option Ending) → IfSome one (IsTakenOut at n relaid.layers) → (ls : PlacedLayers) → ls ≡ layers_left one relaid.layers → ArePartsApart ls.layers
    next_apart n one taken ls ls_is = subst (λ (x : PlacedLayers). ArePartsApart x.layers) (sym ls_is) (apart_left at n relaid.layers one relaid_apart taken)

    module _ (a : Area) (read : a ≡ get_or t.areas.items at a) where
      laid_first : IsLaidSo loan at w.layers a.update t t
      laid_first = laid_now loan t kept at is.window.0 a read w lies

      pub may_first : MayHaveLayers at t relaid.layers
      may_first = out.may_out w.layers layer low first_apart relaid.layers layers_are loan at a.update t t laid_first

      pub planned_first : ((p : Point) → holds relaid.gained p ≡ is_gained None w.layers.layers relaid.layers.layers (minus p w.layers.place)) → (r : Relaying)
          → ((v : WindowManager V H) → HasUpdate loan at a.update t v → MayHaveLayers at v relaid.layers
          → (afresh : Option Part) → IsPartAt relaid.layers.layers None afresh → IsGainedAt at afresh v relaid → IsPlanOfLayers loan at relaid.layers.layers afresh v r)
          → (afresh : Option Part) → IsPartAt relaid.layers.layers None afresh → IsPlanOfLayers loan at relaid.layers.layers afresh t r
      planned_first gains r planned afresh none =
          subst (λ o. IsPlanOfLayers loan at relaid.layers.layers o t r) (sym none)
          (out.planned_out w.layers layer low first_apart relaid.layers layers_are loan at a.update t t laid_first relaid.gained gains r planned)

      -- ---- the list, taken out

      module _ (r : Relaying) (n : Lists (TakenBox X L)) (x : Item (ListRecord (TakenBox X L))) (x_there : slice_get m.list.items.items s.list ≡ Some x)
          (lists_are : n.list.items.items ≡ remove m.list.items.items s.list) (next_is : n.list.next ≡ m.list.next)
          (t1 : WindowManager V H) (put : AreLayersPut at relaid.layers r.update t t1)
          (set : (v : Window V H) → IsWindowAt t.windows.records.items at v → (q : Option Part) → IsPartAt relaid.layers.layers None q → (was : List ℕ → Part → PixelSet) (slots : List WindowSlot) → IsWholeManager loan t slots
          → IsWholeManager loan t1 slots × AreLayersSet v.serial relaid.layers.layers q (state_showing was (state_of loan t slots)) (state_showing (lists_show (λ font. all_white) (records_of list_loan n)) (state_of loan t1 slots)))
          (c : Controls (TakenBox W K)) (held : List ControlSlot) (controls : AreWholeControls (desk_of loan t []).windows (controls_state control_loan c held))
          (stock : List ListSlot) (lists : AreWholeLists (desk_of loan t []).windows (lists_state list_loan m stock)) where
        serial : w.serial ≡ l.window
        serial = is.window.1 w lies

        pub kept_first : IsKept loan t1
        kept_first = record { slots = kept.slots; whole = (set w lies None refl (λ font. all_white) kept.slots kept.whole).0 }

        -- it was set so, whatever the controls show
        layers_set : (others was : List ℕ → Part → PixelSet) (slots : List WindowSlot) → IsWholeManager loan t slots
            → AreLayersSet l.window relaid.layers.layers None (state_showing was (state_of loan t slots)) (state_showing (controls_show (lists_show others (records_of list_loan n)) (controls_kept control_loan c)) (state_of loan t1 slots))
        layers_set others was slots whole =
            let done = set w lies None refl was slots whole in
            set_reshown (lists_show (λ font. all_white) (records_of list_loan n)) (controls_show (lists_show others (records_of list_loan n)) (controls_kept control_loan c)) (state_of loan t1 slots) done.0.sound.distinct
            l.window relaid.layers.layers None (state_showing was (state_of loan t slots)) (λ q e. absurd (cc))
            (subst (λ k. AreLayersSet k relaid.layers.layers None (state_showing was (state_of loan t slots)) (state_showing (lists_show (λ font. all_white) (records_of list_loan n)) (state_of loan t1 slots))) serial done.1)

        controls_joined : AreLayersOf (items_of l.window (controls_kept control_loan c)) relaid.layers.layers
        controls_joined =
            subst (λ (y : ℕ × PlacedLayers). AreLayersOf (items_of y.0 (controls_kept control_loan c)) y.1.layers) (λ i. (serial i, sym layers_are i))
            (joined_without (items_of w.serial (controls_kept control_loan c)) w.layers.layers layer own low own_read no_control
            (at_window loan (λ v. AreLayersOf (items_of v.serial (controls_kept control_loan c)) v.layers) t.windows.records.items at w is.window.0 lies controls.joined))

        pub controls_first : AreWholeControls (desk_of loan t1 []).windows (controls_state control_loan c held)
        controls_first =
            whole_set loan l.window relaid.layers.layers None (λ font. all_white) (controls_show (lists_show (λ font. all_white) (records_of list_loan n)) (controls_kept control_loan c)) t t1 kept.slots (controls_state control_loan c held)
            (layers_set (λ font. all_white) (λ font. all_white) kept.slots kept.whole) controls controls_joined

        beside_first : AreBeside control_loan loan t1 c
        beside_first = record { slots = held; whole = controls_first }

        left : records_of list_loan n ≡ remove (records_of list_loan m) s.list
        left = ap (all_seen list_loan) lists_are ∙ remove-seen (kept_seen list_loan) m.list.items.items s.list

        seen_x : slice_get (records_of list_loan m) s.list ≡ Some (seen list_loan x)
        seen_x = slice_get-seen (kept_seen list_loan) m.list.items.items s.list ∙ ap (option_map (seen list_loan)) x_there

        here : is_in_at l.window s.list (records_of list_loan m) ≡ true
        here = found_in l.window l.list s.list (records_of list_loan m) is.list

        x_layer : IsLayerOf (seen list_loan x) own
        x_layer =
            let both : Some its.list ≡ Some (seen list_loan x) = sym its.there ∙ seen_x in
            let same : its.list ≡ seen list_loan x = cc in
            subst (λ y. IsLayerOf y own) same (its.is own own_read)

        lists_left : AreListLayers (items_of l.window (remove (records_of list_loan m) s.list)) relaid.layers.layers
        lists_left =
            subst (λ (y : PlacedLayers). AreListLayers (items_of l.window (remove (records_of list_loan m) s.list)) y.layers) (sym layers_are)
            (layers_left_are (records_of list_loan m) l.window s.list (seen list_loan x) w.layers.layers layer own lists.apart here seen_x
            (subst (λ k. AreListLayers (items_of k (records_of list_loan m)) w.layers.layers) serial
            (at_window loan (λ v. AreListLayers (items_of v.serial (records_of list_loan m)) v.layers) t.windows.records.items at w is.window.0 lies lists.joined))
            (there_is w.layers.layers layer low).there x_layer)

        -- the bars are ready to be ended, as they were planned
        pub ready_first : (bar : Option ℕ) → IsReadyToEnd loan control_loan (bar_of l.window bar) at relaid.layers r.update t t1 c
        ready_first bar = ending_after loan control_loan (bar_of l.window bar) at w.layers relaid.layers a.update r.update t t t1 c laid_first put kept_first beside_first is.window

        module _ (rest : List ListSlot) (shut : IsListShut (list_loan x.kept.definition) stock rest) where
          state_is : lists_state list_loan n rest ≡ record (lists_state list_loan m stock) { lists = remove (records_of list_loan m) s.list; stock = rest }
          state_is = λ i. record { lists = left i; next = next_is i; stock = rest }

          lists_first : AreWholeLists (desk_of loan t1 []).windows (lists_state list_loan n rest)
          lists_first =
              subst (λ (y : List WindowRecord × ListsState). AreWholeLists y.0 y.1)
              (λ i. (sym (ap (λ (d : FullDesk). d.windows) (layers_set (λ font. all_white) (λ font. all_white) kept.slots kept.whole).desk) i, sym state_is i))
              (whole_gone s.list l.window (seen list_loan x) relaid.layers.layers (desk_of loan t []).windows (lists_state list_loan m stock) rest lists seen_x here shut lists_left)

          list_gone : (others : List ℕ → Part → PixelSet) (o : Opened) (slots : List WindowSlot) → IsWholeManager loan t slots
              → IsListGone l (seen list_loan x) (desk_beside control_loan loan t others o slots c held (lists_state list_loan m stock)) (desk_beside control_loan loan t1 others o slots c held (lists_state list_loan n rest))
          list_gone others o slots whole = record {
            at = s.list;
            found = is.list;
            there = seen_x;
            shut = shut;
            lists = state_is;
            laid = record {
              layers = relaid.layers.layers;
              become = layers_named loan t slots whole at l.window w is.window.0 lies serial (λ ls. relaid.layers.layers ≡ without_part (part.List l.list) ls)
                  (ap (λ (y : PlacedLayers). y.layers) layers_are ∙ without_at w.layers.layers layer own (part.List l.list) first_apart low own_read its_part);
              controls = controls_joined;
              lists = subst (λ ls. AreListLayers (items_of l.window ls) relaid.layers.layers) (sym left) lists_left;
              set = layers_set others (controls_show (lists_show others (records_of list_loan m)) (controls_kept control_loan c)) slots whole;
              shows = refl;
            };
            beside = record { controls = refl; others = refl; activity = record { activity = refl; begun = refl } };
          }

          -- ---- its bars, ended

          module _ (vertical : Option ℕ) (one : Option Ending) (taken : IfSome one (IsTakenOut at (bar_serial vertical) relaid.layers)) (t2 : WindowManager V H) (c2 : Controls (TakenBox W K)) (held2 : List ControlSlot)
              (gone : IsBarGoneOver control_loan loan held held2 l.window vertical t1 c t2 c2) (next_put : IsPutIfPlanned one t1 t2) where
            pub kept_second : IsKept loan t2
            kept_second = kept_gone control_loan loan held held2 l.window vertical t1 t2 c c2 gone kept_first controls_first

            pub controls_second : AreWholeControls (desk_of loan t2 []).windows (controls_state control_loan c2 held2)
            controls_second = controls_gone control_loan loan held held2 l.window vertical t1 t2 c c2 gone kept_first controls_first

            pub ready_second : (bar : Option ℕ) (ls : PlacedLayers) (update : Pixels) → ls ≡ layers_left one relaid.layers → update ≡ update_left one r.update → IsReadyToEnd loan control_loan (bar_of l.window bar) at ls update t t2 c2
            ready_second bar ls update ls_is update_is =
                subst (λ (y : PlacedLayers × Pixels). IsReadyToEnd loan control_loan (bar_of l.window bar) at y.0 y.1 t t2 c2) (λ i. (sym ls_is i, sym update_is i))
                (ending_left loan control_loan (bar_of l.window bar) at (bar_serial vertical) relaid.layers r.update t t1 t2 c c2 one (ready_first bar) taken next_put kept_second (record { slots = held2; whole = controls_second }))

            module _ (horizontal : Option ℕ) (t3 : WindowManager V H) (c3 : Controls (TakenBox W K)) (held3 : List ControlSlot) (other_gone : IsBarGoneOver control_loan loan held2 held3 l.window horizontal t2 c2 t3 c3)
                (vertical_is : vertical ≡ x.kept.vertical) (horizontal_is : horizontal ≡ x.kept.horizontal) where
              abbrev shows : (List ℕ → Part → PixelSet) → Controls (TakenBox W K) → List ℕ → Part → PixelSet
              shows others k = controls_show (lists_show others (records_of list_loan n)) (controls_kept control_loan k)

              pub disposed : LeavesOver list_loan loan control_loan held held3 stock rest (IsListStep (Dispose l) (Ok Done)) t c m t3 c3 n
              disposed others o slots whole same_controls same_lists =
                  let zeroth = set w lies None refl (controls_show (lists_show others (records_of list_loan m)) (controls_kept control_loan c)) slots whole in
                  let first = gone others o slots (lists_state list_loan n rest) zeroth.0 controls_first in
                  let second = other_gone others o slots (lists_state list_loan n rest) first.0 first.1 in
                  let without_list = desk_beside control_loan loan t1 others o slots c held (lists_state list_loan n rest) in
                  let without_vertical = desk_beside control_loan loan t2 others o slots c2 held2 (lists_state list_loan n rest) in
                  let after = desk_beside control_loan loan t3 others o slots c3 held3 (lists_state list_loan n rest) in (
                    second.0,
                    second.1,
                    bar_gone_lists l.window horizontal without_vertical after (distinct_showing (shows others c2) (desk_of loan t2 slots) first.0.sound.distinct) first.1 second.2
                        (bar_gone_lists l.window vertical without_list without_vertical (distinct_showing (shows others c) (desk_of loan t1 slots) zeroth.0.sound.distinct) controls_first first.2 lists_first),
                    (
                      nothing_missing loan list_loan l t m s is,
                      (
                        refl,
                        (
                          seen list_loan x,
                          without_list,
                          without_vertical,
                          list_gone others o slots whole,
                          subst (λ b. IsBarGone l.window b without_list without_vertical) vertical_is first.2,
                          subst (λ b. IsBarGone l.window b without_vertical after) horizontal_is second.2,
                        ),
                      ),
                    ),
                  )
