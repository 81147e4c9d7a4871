-- A text record that is disposed of: the plan of the layers without its own, and the step.
use Rattle.std.proofs.Common.{◌≡◌, ℕ, ◌<◌, List, [], length, get_or, map, Option, Some, None, refl, sym, ap, ◌∙◌, subst}
use Rattle.std.specs.Prelude.{slice_get}
use Rattle.std.specs.List.{remove}
use Rattle.std.specs.Option.{option_map_or}
use Rattle.tb_geom.specs.declared.point.Point.{Point}
use Rattle.tb_geom.specs.Points.{PixelSet, minus}
use Rattle.tb_geom.specs.Pixels.{holds}
use Rattle.desk_layers.specs.declared.part.Part.{Part}
use Rattle.desk_layers.specs.declared.part.Part.TheVariants as part
use Rattle.def_iface.specs.Slots.{TakenBox}
use Rattle.def_iface.specs.WindowMeaning.{WindowLoan}
use Rattle.def_iface.specs.WindowSlots.{WindowSlot}
use Rattle.desk_call.specs.declared.text.TextOf.{TextOf}
use Rattle.window_items.specs.Items.{items_of, place_among}
use Rattle.window_items.proofs.SerialLemmas.{apart_among}
use Rattle.window_items.proofs.WindowLemmas.{items_of-remove}
use Rattle.window_list.specs.declared.layer.Layer.{Layer}
use Rattle.window_list.specs.declared.layers.Relaid.{Relaid}
use Rattle.window_list.specs.declared.window.Window.{Window}
use Rattle.window_list.specs.Holders.{ArePartsApart, PlacedLayers, layer_index}
use Rattle.window_list.specs.LayerChanges.{is_gained}
use Rattle.vis_update.specs.declared.area.Area.{Area}
use Rattle.vis_update.specs.declared.relaying.Relaying.{Relaying}
use Rattle.vis_update.specs.Relayings.{with_layers_of}
use Rattle.window_mgr.specs.declared.manager.WindowManager.{WindowManager}
use Rattle.window_mgr.specs.DeskStates.{Opened}
use Rattle.window_mgr.specs.Edits.{IsWindowAt}
use Rattle.window_mgr.specs.FullDesk.{FullDesk}
use Rattle.window_mgr.specs.Kept.{IsKept}
use Rattle.window_mgr.specs.Records.{desk_of, state_of, state_showing}
use Rattle.window_mgr.specs.Relayered.{AreLayersSet, HasUpdate, IsGainedAt, IsPartAt, IsPlanOfLayers, MayHaveLayers}
use Rattle.window_mgr.specs.Whole.{IsWholeManager}
use Rattle.control_mgr.specs.Planned.{IsLaidSo}
use Rattle.control_mgr.proofs.LaidSo.{laid_now}
use Rattle.control_mgr.proofs.LayerOut.{apart_out, may_out, planned_out}
use Rattle.control_mgr.proofs.Places.{layers_named}
use Rattle.text_mgr.specs.declared.spots.TextAt.{TextAt}
use Rattle.text_mgr.specs.declared.texts.Texts.{Texts}
use Rattle.text_mgr.specs.Spots.{IsSpotOf}
use Rattle.text_mgr.specs.TextDesks.{texts_show}
use Rattle.text_mgr.specs.TextLayers.{AreTextLayersOf, without_part}
use Rattle.text_mgr.specs.TextSteps.{IsTextDisposed}
use Rattle.text_mgr.specs.WholeTexts.{AreBeside, AreWholeTexts, LeavesTexts, texts_state}
use Rattle.text_mgr.proofs.Layered.{joined_removed}
use Rattle.text_mgr.proofs.Places.{among_there, found_window, joined_there, layer_found, layer_low, layer_there, one_there, parts_apart, record_there}
use Rattle.text_mgr.proofs.Reshown.{alone, set_among}
use Rattle.text_mgr.proofs.Whole.{whole_removed}

module _ {V : Type 0} {H : V → Type 0} (loan : TakenBox V H → WindowLoan) (x : TextOf) (t : WindowManager V H) (m : Texts) (s : TextAt) (is : IsSpotOf loan x t m s) (beside : AreBeside loan t m)
    (w : Window V H) (lies : IsWindowAt t.windows.records.items s.window w) where
  -- its layer is found
  pub found_at : (found : Option ℕ) → found ≡ layer_index (part.Text x.text) w.layers.layers → found ≡ Some (layer_there loan x t m s is w lies beside).index
  found_at found e = e ∙ layer_found loan x t m s is w lies beside

  module _ (index : ℕ) (found : layer_index (part.Text x.text) w.layers.layers ≡ Some index) where
    index_is : (layer_there loan x t m s is w lies beside).index ≡ index
    index_is = one_there (layer_index (part.Text x.text) w.layers.layers) (layer_there loan x t m s is w lies beside).index index (layer_found loan x t m s is w lies beside) found

    pub out_low : index < length w.layers.layers
    out_low = subst (λ n. n < length w.layers.layers) index_is (layer_low loan x t m s is w lies beside)

    module _ (kept : IsKept loan t) where
      pub out_apart : ArePartsApart w.layers.layers
      out_apart = parts_apart loan x t m s is w lies beside kept.slots kept.whole

      module _ (relaid : Relaid) (layers_are : relaid.layers ≡ record w.layers { layers = remove w.layers.layers index }) where
        abbrev new : List Layer
        new = relaid.layers.layers

        pub left_apart : ArePartsApart new
        left_apart = apart_out w.layers index out_low out_apart relaid.layers layers_are

        module _ (a : Area) (read : a ≡ get_or t.areas.items s.window a) where
          so : IsLaidSo loan s.window w.layers a.update t t
          so = laid_now loan t kept s.window is.window.0 a read w lies

          pub may_be_left : MayHaveLayers s.window t relaid.layers
          may_be_left = may_out w.layers index out_low out_apart relaid.layers layers_are loan s.window a.update t t so

          pub left_planned : (r : Relaying) → ((p : Point) → holds relaid.gained p ≡ is_gained None w.layers.layers new (minus p w.layers.place))
              → ((u : WindowManager V H) → HasUpdate loan s.window a.update t u → MayHaveLayers s.window u relaid.layers
              → (afresh : Option Part) → IsPartAt new None afresh → IsGainedAt s.window afresh u relaid → IsPlanOfLayers loan s.window new afresh u r)
              → (afresh : Option Part) → IsPartAt new None afresh → IsPlanOfLayers loan s.window new afresh t r
          left_planned r gains planned afresh none =
              subst (λ o. IsPlanOfLayers loan s.window new o t r) (sym none)
              (planned_out w.layers index out_low out_apart relaid.layers layers_are loan s.window a.update t t so relaid.gained gains r planned)

        joined_left : AreTextLayersOf (items_of x.window (remove m.list.items.items s.text)) new
        joined_left =
            let ts = m.list.items.items in
            let its = layer_there loan x t m s is w lies beside in
            subst (λ ks. AreTextLayersOf ks new) (sym (items_of-remove x.window s.text ts (found_window x ts s.text is.text)))
            (subst (AreTextLayersOf (remove (items_of x.window ts) (place_among s.text ts))) (sym (ap (λ (ls : PlacedLayers). ls.layers) layers_are))
            (joined_removed (items_of x.window ts) w.layers.layers (place_among s.text ts) index (record_there loan x t m s is).item its.layer (joined_there loan x t m s is w lies beside)
            (apart_among x.window ts beside.apart) (among_there loan x t m s is w lies beside) (ap (slice_get w.layers.layers) (sym index_is) ∙ its.there) its.is))

        module _ (u : WindowManager V H) (n : Texts) (texts : n.list.items.items ≡ remove m.list.items.items s.text) (next : n.list.next ≡ m.list.next) (scrap : n.scrap ≡ m.scrap)
            (set : (v : Window V H) → IsWindowAt t.windows.records.items s.window v → (afresh : Option Part) → IsPartAt new None afresh
            → (was : List ℕ → Part → PixelSet) (slots : List WindowSlot) → IsWholeManager loan t slots
            → IsWholeManager loan u slots × AreLayersSet v.serial new afresh (state_showing was (state_of loan t slots)) (state_showing (alone n.list.items.items) (state_of loan u slots))) where
          state_is : texts_state n ≡ record (texts_state m) { texts = remove m.list.items.items s.text }
          state_is = λ i. record { texts = texts i; next = next i; scrap = scrap i }

          pub disposed : (o : Opened) → LeavesTexts loan (IsTextDisposed x) t o m u o n
          disposed o others slots whole texts_whole =
              let was = state_showing (texts_show others m.list.items.items) (state_of loan t slots) in
              let leaves = set w lies None refl (texts_show others m.list.items.items) slots whole in
              let sets = set_among others n.list.items.items (state_of loan u slots) leaves.0.sound.distinct x.window was new None (λ q e. absurd (cc))
              (subst (λ k. AreLayersSet k new None was (state_showing (alone n.list.items.items) (state_of loan u slots))) (is.window.1 w lies) leaves.1) in
              let windows_are : (desk_of loan u []).windows ≡ map (with_layers_of x.window new) (desk_of loan t []).windows = ap (λ (d : FullDesk). d.windows) sets.desk in (
                leaves.0,
                subst (λ ws. AreWholeTexts ws (texts_state n)) (sym windows_are) (subst (AreWholeTexts (map (with_layers_of x.window new) (desk_of loan t []).windows)) (sym state_is)
                    (whole_removed s.text x.window new (desk_of loan t []).windows (texts_state m) texts_whole (found_window x m.list.items.items s.text is.text) joined_left)),
                record {
                  at = s.text;
                  found = is.text;
                  texts = state_is;
                  laid = record {
                    layers = new;
                    become = layers_named loan t slots whole s.window x.window w is.window.0 lies (is.window.1 w lies) (λ ls. new ≡ without_part (part.Text x.text) ls)
                        (ap (λ (ls : PlacedLayers). ls.layers) layers_are ∙ sym (ap (λ o. option_map_or (λ i. remove w.layers.layers i) o w.layers.layers) found));
                    set = sets;
                    elsewhere = refl;
                    shows = refl;
                  };
                  activity = record { activity = refl; begun = refl };
                },
              )
