-- A text record that is laid, as the code comes to it.
use Rattle.std.proofs.Common.{◌≡◌, ℕ, ◌<◌, true, length, get_or, Option, Some, sym, ap, ◌∙◌, subst}
use Rattle.std.specs.Prelude.{IfSome, slice_get}
use Rattle.tb_geom.specs.declared.point.Point.{Point}
use Rattle.tb_geom.specs.declared.rect.Rect.{Rect}
use Rattle.tb_geom.specs.Points.{minus}
use Rattle.tb_geom.specs.Pixels.{holds}
use Rattle.tb_geom.specs.Rects.{is_in_range}
use Rattle.desk_layers.specs.declared.part.Part.{Part}
use Rattle.desk_layers.specs.declared.part.Part.TheVariants as part
use Rattle.def_iface.specs.Slots.{TakenBox}
use Rattle.def_iface.specs.WindowMeaning.{WindowLoan}
use Rattle.desk_call.specs.declared.text.TextOf.{TextOf}
use Rattle.text_record.specs.Placings.{box_of, is_placing}
use Rattle.window_items.specs.Items.{edit_at, with_kept}
use Rattle.window_list.specs.declared.layer.Layer.{Layer}
use Rattle.window_list.specs.declared.layer.LayerShape.{LayerShape}
use Rattle.window_list.specs.declared.layers.Relaid.{Relaid}
use Rattle.window_list.specs.declared.window.Window.{Window}
use Rattle.window_list.specs.Holders.{ArePartsApart, IsLayerAt, layer_index}
use Rattle.window_list.specs.LayerChanges.{is_gained, reshaped, with_shape}
use Rattle.vis_update.specs.Relayings.{IsGained}
use Rattle.window_mgr.specs.declared.manager.WindowManager.{WindowManager}
use Rattle.window_mgr.specs.DeskStates.{Opened}
use Rattle.window_mgr.specs.Edits.{IsWindowAt}
use Rattle.window_mgr.specs.Kept.{IsKept}
use Rattle.window_mgr.specs.Relayered.{IsGainedAt, IsPartAt, MayHaveLayers}
use Rattle.control_mgr.proofs.Lays.{one_item}
use Rattle.control_mgr.proofs.Places.{get_is, read_is, there_is}
use Rattle.text_mgr.specs.declared.laying.Lie.{Lie}
use Rattle.text_mgr.specs.declared.spots.TextAt.{TextAt}
use Rattle.text_mgr.specs.declared.texts.Texts.{Texts}
use Rattle.text_mgr.specs.Laying.{IsBoxShape, MayLie, laid}
use Rattle.text_mgr.specs.Spots.{IsSpotOf}
use Rattle.text_mgr.specs.TextDesks.{KeptText}
use Rattle.text_mgr.specs.TextSteps.{IsTextLaid}
use Rattle.text_mgr.specs.WholeTexts.{AreBeside, LeavesTexts}
use Rattle.text_mgr.proofs.Lays.{AreSetFor, apart, gained_is, index_low, laid_at, may_have, new_low, shape_lies}
use Rattle.text_mgr.proofs.Places.{it_is, layer_found, layer_there, names, record_there}
use Rattle.text_mgr.proofs.Reshown.{alone}

module _ {V : Type 0} {H : V → Type 0} (loan : TakenBox V H → WindowLoan) where
  -- where a shape is put in place of the layer's
  pub record BeforeLaying (w : Window V H) (index : ℕ) (shape : LayerShape) : Type 0 where
    pub low : index < length w.layers.layers
    pub apart : ArePartsApart w.layers.layers
    pub lies : (k : Layer) → IsLayerAt w.layers.place (with_shape shape k)

  -- and once it was
  pub record AfterLaying (t : WindowManager V H) (s : TextAt) (index : ℕ) (relaid : Relaid) : Type 0 where
    pub low : index < length relaid.layers.layers
    pub may : MayHaveLayers s.window t relaid.layers
    pub gained : (afresh : Option Part) → IsPartAt relaid.layers.layers (Some index) afresh → IsGainedAt s.window afresh t relaid

  module _ (x : TextOf) (t : WindowManager V H) (m : Texts) (s : TextAt) (is : IsSpotOf loan x t m s) (l : Lie) (may : MayLie t m s l) (y : KeptText) (read : y ≡ get_or m.list.items.items s.text y) where
    there : slice_get m.list.items.items s.text ≡ Some y
    there = get_is m.list.items.items s.text y is.low read

    it : (record_there loan x t m s is).item ≡ y
    it = it_is loan x t m s is y there

    may_there : (is_placing y.kept.framed l.placing ≡ true) × (is_in_range (box_of y.kept.framed l.placing.view) ≡ true)
    may_there =
        let windows = there_is t.windows.records.items s.window is.window.0 in
        let so = may y windows.item there (read_is t.windows.records.items s.window windows.item windows.there) in
        (so.0, so.1)

    -- the record that was read may lie so
    pub may_place : is_placing y.kept.framed l.placing ≡ true
    may_place = may_there.0

    pub may_be_put : IfSome (slice_get m.list.items.items s.text) (λ z. is_placing z.kept.framed l.placing ≡ true)
    may_be_put = subst (λ o. IfSome o (λ (z : KeptText). is_placing z.kept.framed l.placing ≡ true)) (sym there) may_place

    pub in_range : (bounds : Rect) → bounds ≡ box_of y.kept.framed l.placing.view → is_in_range bounds ≡ true
    in_range bounds is = ap is_in_range is ∙ may_there.1

    module _ (beside : AreBeside loan t m) (w : Window V H) (lies : IsWindowAt t.windows.records.items s.window w) where
      named : part.Text x.text ≡ part.Text y.serial
      named = ap (λ n. part.Text n) (sym (names loan x t m s is).1 ∙ ap (λ (z : KeptText). z.serial) it)

      pub found_at : (found : Option ℕ) → found ≡ layer_index (part.Text y.serial) w.layers.layers → found ≡ Some (layer_there loan x t m s is w lies beside).index
      found_at found e = e ∙ ap (λ q. layer_index q w.layers.layers) (sym named) ∙ layer_found loan x t m s is w lies beside

      module _ (index : ℕ) (found : layer_index (part.Text y.serial) w.layers.layers ≡ Some index) (bounds : Rect) (bounds_is : bounds ≡ box_of y.kept.framed l.placing.view) (shape : LayerShape) (shape_is : IsBoxShape bounds l.shown shape) where
        abbrev here : layer_index (part.Text x.text) w.layers.layers ≡ Some index
        here = ap (λ q. layer_index q w.layers.layers) named ∙ found

        abbrev shaped : IsBoxShape (box_of (record_there loan x t m s is).item.kept.framed l.placing.view) l.shown shape
        shaped = subst (λ r. IsBoxShape r l.shown shape) (bounds_is ∙ ap (λ (z : KeptText). box_of z.kept.framed l.placing.view) (sym it)) shape_is

        module _ (kept : IsKept loan t) where
          pub before_laying : BeforeLaying w index shape
          before_laying = record {
            low = index_low loan x t m s is beside l may w lies index here;
            apart = apart loan x t m s is beside l may w lies index here kept.slots kept.whole;
            lies = shape_lies loan x t m s is beside l may w lies index here kept.slots kept.whole shape shaped;
          }

          pub after_laying : (relaid : Relaid) → relaid.layers ≡ record w.layers { layers = reshaped shape index w.layers.layers }
              → ((k : Layer) → k ≡ get_or w.layers.layers index k → (p : Point) → holds relaid.gained p ≡ is_gained (Some k.part) w.layers.layers relaid.layers.layers (minus p w.layers.place))
              → AfterLaying t s index relaid
          after_laying relaid layers_are gains = record {
            low = new_low loan x t m s is beside l may w lies index here kept.slots kept.whole shape shaped relaid layers_are;
            may = may_have loan x t m s is beside l may w lies index here kept.slots kept.whole shape shaped relaid layers_are;
            gained = λ afresh h v v_is. subst (λ (z : Window V H). IsGained z.place afresh z.layers.layers relaid.layers.layers relaid.gained) (one_item t.windows.records.items s.window w v is.window.0 lies v_is)
                (gained_is loan x t m s is beside l may w lies index here kept.slots kept.whole shape shaped relaid layers_are gains afresh h);
          }

        -- and once it was put, and drawn
        pub laid_so : (relaid : Relaid) → relaid.layers ≡ record w.layers { layers = reshaped shape index w.layers.layers } → (u : WindowManager V H) (n : Texts)
            → n.list.items.items ≡ edit_at (with_kept (laid l)) s.text m.list.items.items → n.list.next ≡ m.list.next → n.scrap ≡ m.scrap
            → AreSetFor loan s.window relaid.layers.layers index (alone n.list.items.items) t u → (o : Opened) → LeavesTexts loan (IsTextLaid x (laid l)) t o m u o n
        laid_so relaid layers_are u n texts next scrap set o others slots whole b =
            laid_at loan x t m s is beside l may w lies index here slots whole shape shaped relaid layers_are u n texts next scrap set o others
