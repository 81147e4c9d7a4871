-- A text record that is laid elsewhere, or shown or hidden: its layer, the plan, and the step.
use Rattle.std.proofs.Common.{◌≡◌, ℕ, ◌<◌, true, List, [], length, get_or, map, Option, Some, refl, sym, ap, ◌∙◌, subst}
use Rattle.std.specs.Prelude.{slice_get}
use Rattle.std.specs.List.{list_all}
use Rattle.std.specs.Option.{option_map_or}
use Rattle.tb_geom.specs.declared.point.Point.{Point}
use Rattle.tb_geom.specs.declared.rect.Rect.{Rect}
use Rattle.tb_geom.specs.Points.{PixelSet, minus}
use Rattle.tb_geom.specs.Pixels.{holds}
use Rattle.tb_geom.specs.Rects.{is_in_range, moved_rect, rect_holds}
use Rattle.desk_layers.specs.declared.part.Part.{Part}
use Rattle.desk_layers.specs.declared.part.Part.TheVariants as part
use Rattle.def_iface.specs.Slots.{TakenBox}
use Rattle.def_iface.specs.WindowMeaning.{WindowLoan}
use Rattle.def_iface.specs.WindowSlots.{WindowSlot}
use Rattle.desk_call.specs.declared.text.TextOf.{TextOf}
use Rattle.text_record.specs.Placings.{box_of, is_placing}
use Rattle.window_items.specs.Items.{edit_at, items_of, place_among, with_kept}
use Rattle.window_items.proofs.SerialLemmas.{apart_among}
use Rattle.window_items.proofs.WindowLemmas.{items_of-edit_at}
use Rattle.window_list.specs.declared.layer.Layer.{Layer}
use Rattle.window_list.specs.declared.layer.LayerShape.{LayerShape}
use Rattle.window_list.specs.declared.layers.Relaid.{Relaid}
use Rattle.window_list.specs.declared.window.Window.{Window}
use Rattle.window_list.specs.Holders.{ArePartsApart, IsLayerAt, PlacedLayers, fits_at, layer_index}
use Rattle.window_list.specs.LayerChanges.{is_gained, reshaped, with_shape}
use Rattle.window_list.proofs.Parts.{reshaped_apart, reshaped_length}
use Rattle.vis_update.specs.Relayings.{IsGained, with_layers_of}
use Rattle.window_mgr.specs.declared.manager.WindowManager.{WindowManager}
use Rattle.window_mgr.specs.DeskStates.{Opened}
use Rattle.window_mgr.specs.Edits.{IsWindowAt}
use Rattle.window_mgr.specs.FullDesk.{FullDesk}
use Rattle.window_mgr.specs.Records.{desk_of, state_of, state_showing}
use Rattle.window_mgr.specs.Relayered.{AreLayersSet, IsPartAt, MayHaveLayers}
use Rattle.window_mgr.specs.Whole.{IsWholeManager}
use Rattle.control_mgr.proofs.Lays.{fits_reshaped, one_item, same_part_at}
use Rattle.control_mgr.proofs.Places.{layers_named, read_is, within}
use Rattle.text_mgr.specs.declared.laying.Lie.{Lie}
use Rattle.text_mgr.specs.declared.spots.TextAt.{TextAt}
use Rattle.text_mgr.specs.declared.texts.Texts.{Texts}
use Rattle.text_mgr.specs.Laying.{IsBoxShape, MayLie, laid}
use Rattle.text_mgr.specs.Spots.{IsSpotOf}
use Rattle.text_mgr.specs.TextDesks.{KeptText, texts_show}
use Rattle.text_mgr.specs.TextLayers.{AreTextLayersOf, with_shape_of}
use Rattle.text_mgr.specs.TextSteps.{IsTextLaid}
use Rattle.text_mgr.specs.WholeTexts.{AreBeside, AreWholeTexts, text_desk, texts_state}
use Rattle.text_mgr.proofs.Layered.{ItsLayer, joined_reshaped}
use Rattle.text_mgr.proofs.Places.{among_there, found_window, it_is, joined_there, layer_found, layer_part, layer_there, layers_fit, layers_there, named_there, one_there, parts_apart, record_there}
use Rattle.text_mgr.proofs.Reshown.{alone, one_text, set_among}
use Rattle.text_mgr.proofs.Whole.{whole_laid}

module _ {V : Type 0} {H : V → Type 0} (loan : TakenBox V H → WindowLoan) where
  -- what commit_layers leaves of the window manager
  abbrev pub AreSetFor : ℕ → List Layer → ℕ → (List ℕ → Part → PixelSet) → WindowManager V H → WindowManager V H → Type 0
  AreSetFor at ls index shows t u = (w : Window V H) → IsWindowAt t.windows.records.items at w → (afresh : Option Part) → IsPartAt ls (Some index) afresh
      → (was : List ℕ → Part → PixelSet) (slots : List WindowSlot) → IsWholeManager loan t slots
      → IsWholeManager loan u slots × AreLayersSet w.serial ls afresh (state_showing was (state_of loan t slots)) (state_showing shows (state_of loan u slots))

  module _ (x : TextOf) (t : WindowManager V H) (m : Texts) (s : TextAt) (is : IsSpotOf loan x t m s) (beside : AreBeside loan t m) (l : Lie) (may : MayLie t m s l)
      (w : Window V H) (lies : IsWindowAt t.windows.records.items s.window w) (index : ℕ) (found : layer_index (part.Text x.text) w.layers.layers ≡ Some index) where
    abbrev low : s.window < length t.windows.records.items
    low = is.window.0

    abbrev ts : List KeptText
    ts = m.list.items.items

    abbrev item : KeptText
    item = (record_there loan x t m s is).item

    abbrev bounds : Rect
    bounds = box_of item.kept.framed l.placing.view

    abbrev its : ItsLayer item w.layers.layers
    its = layer_there loan x t m s is w lies beside

    index_is : its.index ≡ index
    index_is = one_there (layer_index (part.Text x.text) w.layers.layers) its.index index (layer_found loan x t m s is w lies beside) found

    its_there : slice_get w.layers.layers index ≡ Some its.layer
    its_there = ap (slice_get w.layers.layers) (sym index_is) ∙ its.there

    its_read : its.layer ≡ get_or w.layers.layers index its.layer
    its_read = read_is w.layers.layers index its.layer its_there

    pub index_low : index < length w.layers.layers
    index_low = within w.layers.layers index its.layer its_there

    pub may_at : (is_placing item.kept.framed l.placing ≡ true) × (is_in_range bounds ≡ true) × (is_in_range (moved_rect bounds w.place.h w.place.v) ≡ true)
    may_at = may item w (record_there loan x t m s is).there lies

    module _ (slots : List WindowSlot) (whole : IsWholeManager loan t slots) where
      pub apart : ArePartsApart w.layers.layers
      apart = parts_apart loan x t m s is w lies beside slots whole

      there : w.layers.place ≡ w.place
      there = layers_there loan x t m s is w lies beside slots whole

      module _ (shape : LayerShape) (shaped : IsBoxShape bounds l.shown shape) where
        screen_fits : is_in_range (moved_rect shape.bounds w.place.h w.place.v) ≡ true
        screen_fits = ap (λ b. is_in_range (moved_rect b w.place.h w.place.v)) shaped.bounds ∙ may_at.2

        pub shape_lies : (k : Layer) → IsLayerAt w.layers.place (with_shape shape k)
        shape_lies k = record {
          boxed = λ p held. (λ i. rect_holds (shaped.bounds i) p) ∙ sym (shaped.region p) ∙ held;
          inside = ap is_in_range shaped.bounds ∙ may_at.1;
          fits = ap (λ (p : Point). is_in_range (moved_rect shape.bounds p.h p.v)) there ∙ screen_fits;
        }

        module _ (relaid : Relaid) (layers_are : relaid.layers ≡ record w.layers { layers = reshaped shape index w.layers.layers }) where
          abbrev new : List Layer
          new = relaid.layers.layers

          new_is : new ≡ reshaped shape index w.layers.layers
          new_is = ap (λ (ls : PlacedLayers). ls.layers) layers_are

          pub new_low : index < length new
          new_low = subst (λ n. index < n) (sym (ap length new_is ∙ reshaped_length shape index w.layers.layers)) index_low

          pub may_have : MayHaveLayers s.window t relaid.layers
          may_have = record {
            apart = subst ArePartsApart (sym new_is) (reshaped_apart shape index w.layers.layers apart);
            there = λ v v_is. ap (λ (ls : PlacedLayers). ls.place) layers_are ∙ there ∙ ap (λ (y : Window V H). y.place) (one_item t.windows.records.items s.window w v low lies v_is);
            fit = (λ i. list_all (fits_at (ap (λ (ls : PlacedLayers). ls.place) layers_are i)) (new_is i))
                ∙ ap (λ p. list_all (fits_at p) (reshaped shape index w.layers.layers)) there
                ∙ fits_reshaped w.place shape index w.layers.layers (layers_fit loan x t m s is w lies beside slots whole) screen_fits;
          }

          part_is : (afresh : Option Part) → IsPartAt new (Some index) afresh → afresh ≡ Some (part.Text x.text)
          part_is afresh h = same_part_at shape index w.layers.layers new its.layer afresh index_low its_read new_is h ∙ ap Some (layer_part loan x t m s is w lies beside)

          pub part_at_index : IsPartAt new (Some index) (Some (part.Text x.text))
          part_at_index k k_is = sym (part_is (Some k.part) (λ j j_is. ap (λ (y : Layer). Some y.part) (one_item new index k j new_low k_is j_is)))

          pub gained_is : ((k : Layer) → k ≡ get_or w.layers.layers index k → (p : Point) → holds relaid.gained p ≡ is_gained (Some k.part) w.layers.layers new (minus p w.layers.place))
              → (afresh : Option Part) → IsPartAt new (Some index) afresh → IsGained w.place afresh w.layers.layers new relaid.gained
          gained_is gains afresh h p =
              gains its.layer its_read p
              ∙ ap (λ o. is_gained o w.layers.layers new (minus p w.layers.place)) (sym (same_part_at shape index w.layers.layers new its.layer afresh index_low its_read new_is h))
              ∙ ap (λ place. is_gained afresh w.layers.layers new (minus p place)) there

          abbrev lying : List KeptText
          lying = edit_at (with_kept (laid l)) s.text ts

          pub joined_new : AreTextLayersOf (items_of x.window lying) new
          joined_new =
              subst (λ ks. AreTextLayersOf ks new) (sym (items_of-edit_at (with_kept (laid l)) (λ y. refl) x.window s.text ts (found_window x ts s.text is.text)))
              (subst (AreTextLayersOf (edit_at (with_kept (laid l)) (place_among s.text ts) (items_of x.window ts))) (sym new_is)
              (joined_reshaped (items_of x.window ts) w.layers.layers (place_among s.text ts) index item its.layer (joined_there loan x t m s is w lies beside) (apart_among x.window ts beside.apart)
              (among_there loan x t m s is w lies beside) its_there its.is (with_kept (laid l)) shape
              (λ k was. record { part = was.part; shape = record { shown = shaped.shown; region = shaped.region; bounds = shaped.bounds } })))

          -- where the text record that is laid was put in place of the one that was
          module _ (u : WindowManager V H) (n : Texts) (texts : n.list.items.items ≡ lying) (next : n.list.next ≡ m.list.next) (scrap : n.scrap ≡ m.scrap)
              (set : AreSetFor s.window new index (alone n.list.items.items) t u) where
            state_is : texts_state n ≡ record (texts_state m) { texts = lying; scrap = m.scrap }
            state_is = λ i. record { texts = texts i; next = next i; scrap = scrap i }

            pub laid_at : (o : Opened) (others : List ℕ → Part → PixelSet)
                → IsWholeManager loan u slots × AreBeside loan u n × IsTextLaid x (laid l) (text_desk loan others t o slots m) (text_desk loan others u o slots n)
            laid_at o others =
                let q : Option Part = Some (part.Text x.text) in
                let leaves = set w lies q part_at_index (texts_show others ts) slots whole in
                let was = state_showing (texts_show others ts) (state_of loan t slots) in
                let sets = set_among others n.list.items.items (state_of loan u slots) leaves.0.sound.distinct x.window was new q (one_text x.text)
                (subst (λ k. AreLayersSet k new q was (state_showing (alone n.list.items.items) (state_of loan u slots))) (is.window.1 w lies) leaves.1) in
                let windows_are : (desk_of loan u []).windows ≡ map (with_layers_of x.window new) (desk_of loan t []).windows = ap (λ (d : FullDesk). d.windows) sets.desk in (
                  leaves.0,
                  subst (λ ws. AreWholeTexts ws (texts_state n)) (sym windows_are) (subst (AreWholeTexts (map (with_layers_of x.window new) (desk_of loan t []).windows)) (sym state_is)
                      (whole_laid (laid l) s.text x.window new (desk_of loan t []).windows (texts_state m) beside (found_window x ts s.text is.text)
                      (λ y e. subst (λ (z : KeptText). is_in_range (box_of z.kept.framed l.placing.view) ≡ true) (it_is loan x t m s is y e) may_at.1) joined_new)),
                  record {
                    changed = record { at = s.text; found = is.text; texts = state_is };
                    shape = shape;
                    is = (item, named_there loan x t m s is, record { shown = shaped.shown; region = shaped.region; bounds = shaped.bounds });
                    laid = record {
                      layers = new;
                      become = layers_named loan t slots whole s.window x.window w low lies (is.window.1 w lies) (λ ls. new ≡ with_shape_of (part.Text x.text) shape ls)
                          (new_is ∙ sym (ap (λ o. option_map_or (λ i. reshaped shape i w.layers.layers) o w.layers.layers) found));
                      set = sets;
                      elsewhere = refl;
                      shows = refl;
                    };
                    activity = record { activity = refl; begun = refl };
                  },
                )
