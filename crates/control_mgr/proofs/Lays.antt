-- A control that is laid elsewhere, or shown or hidden: its layer, the plan, and the step.
use Rattle.std.proofs.Common.{◌≡◌, ℕ, zero, suc, ◌<◌, true, false, ◌&&◌, List, [], ◌∷◌, length, get_or, Option, Some, refl, sym, ap, ◌∙◌, subst, arith}
use Rattle.std.specs.Prelude.{IfSome, map, slice_get}
use Rattle.std.specs.List.{list_all}
use Rattle.std.proofs.lemmas.Bool.{and_parts}
use Rattle.tb_geom.specs.declared.point.Point.{Point}
use Rattle.tb_geom.specs.Points.{PixelSet, minus}
use Rattle.tb_geom.specs.Pixels.{holds}
use Rattle.tb_geom.specs.Rects.{in_plane, is_in_range, moved_rect}
use Rattle.window_items.specs.declared.item.Item.{Item}
use Rattle.control_mgr.specs.declared.control.Control.{Control}
use Rattle.window_items.specs.Items.{items_of, edit_at, is_in_at, place_among, with_kept}
use Rattle.control_mgr.specs.Seen.{all_seen, kept_seen, seen}
use Rattle.window_items.proofs.SeenLemmas.{edit_at-seen, length-seen, place_among-seen}
use Rattle.window_items.proofs.WindowLemmas.{items_of-edit_at, slice_get-items_of}
use Rattle.desk_layers.specs.declared.part.Part.{Part}
use Rattle.desk_layers.specs.declared.part.Part.TheVariants as part
use Rattle.def_iface.specs.Slots.{TakenBox}
use Rattle.def_iface.specs.ControlMeaning.{ControlDefinition, ControlLoan, SameControlRegions, is_control_size}
use Rattle.def_iface.specs.WindowMeaning.{WindowLoan}
use Rattle.def_iface.specs.WindowSlots.{WindowSlot}
use Rattle.window_list.specs.declared.layer.Layer.{Layer}
use Rattle.window_list.specs.declared.layer.LayerShape.{LayerShape}
use Rattle.window_list.specs.declared.layers.Relaid.{Relaid}
use Rattle.window_list.specs.LayerChanges.{is_gained, reshaped, with_shape}
use Rattle.window_list.specs.Holders.{ArePartsApart, IsLayerAt, PlacedLayers, fits_at}
use Rattle.window_list.proofs.Parts.{reshaped_apart, reshaped_length, reshaped_part}
use Rattle.desk_call.specs.declared.control.ControlOf.{ControlOf}
use Rattle.desk_call.specs.declared.update.LayerKind.TheVariants as kinds
use Rattle.vis_update.specs.Relayings.{IsGained, with_layers_of}
use Rattle.window_list.specs.declared.window.Window.{Window}
use Rattle.window_paint.specs.Kinds.{is_of}
use Rattle.window_mgr.specs.declared.manager.WindowManager.{WindowManager}
use Rattle.window_mgr.specs.DeskStates.{Opened}
use Rattle.window_mgr.specs.Edits.{IsWindowAt}
use Rattle.window_mgr.specs.FullDesk.{FullDesk}
use Rattle.window_mgr.specs.Kept.{IsKept}
use Rattle.window_mgr.specs.Records.{desk_of, state_of, state_showing}
use Rattle.window_mgr.specs.Relayered.{AreLayersSet, IsGainedAt, IsPartAt, MayHaveLayers}
use Rattle.window_mgr.specs.Whole.{IsSettled, IsWholeManager}
use Rattle.window_mgr.proofs.Contents as contents
use Rattle.control_mgr.specs.declared.controls.Controls.{Controls}
use Rattle.control_mgr.specs.declared.laying.Lie.{Lie}
use Rattle.control_mgr.specs.declared.spots.ControlAt.{ControlAt}
use Rattle.control_mgr.specs.ControlDesks.{ControlRecord, controls_show}
use Rattle.control_mgr.specs.ControlSteps.{AreLayersOf, IsChangedAt, IsControlLaid, IsLayerOf, behind_controls}
use Rattle.control_mgr.specs.Judged.{may_be_placed}
use Rattle.control_mgr.specs.Laying.{IsShapeOf, MayLie, MayLieSo}
use Rattle.control_mgr.specs.Settled.{AreSettled, IsSettledControl}
use Rattle.control_mgr.specs.Spots.{IsSpot, IsSpotOf, IsTellable, with_lie}
use Rattle.control_mgr.specs.WholeControls.{AreBeside, AreWholeControls, LeavesControls, controls_state, records_of}
use Rattle.control_mgr.proofs.Edited.{AreNoControls, begin_reshape, behind_reshaped}
use Rattle.control_mgr.proofs.Puts.{changed_then_told}
use Rattle.control_mgr.proofs.Settled.{AreJoined, MayBeSo, changed_settled, laid_layer, retold, whole_laid}
use Rattle.control_mgr.proofs.Places.{ItsLayer, at_window, in_its_window, layer_there, layers_named, names, read_is, record_read, record_there, there_is, within}
use Rattle.control_mgr.proofs.Reshown.{alone, one_control, set_among}
use Rattle.window_items.specs.declared.items.Items.{Items}
use Rattle.window_items.specs.Lends.{with_value}
use Rattle.window_items.proofs.LentLemmas.{lent_and_written}
use Rattle.window_items.proofs.EditLemmas.{All-there, there_edited}

-- ---- where a control may lie

pub record MayLieAt (d : ControlDefinition) (l : Lie) (window : Point) : Type 0 where
  pub so : MayLieSo d l
  pub on_screen : is_in_range (moved_rect (moved_rect (d.bounds l.size) l.place.h l.place.v) window.h window.v) ≡ true

pub lie_parts : (d : ControlDefinition) (l : Lie) (window : Point) → may_be_placed (Some d) l.place l.size window ≡ true → MayLieAt d l window
lie_parts d l window h =
    let a = and_parts (in_plane l.place) _ h in
    let b = and_parts (is_control_size l.size) _ a.1 in
    let e = and_parts (is_in_range (d.bounds l.size)) _ b.1 in
    let f = and_parts (is_in_range (moved_rect (d.bounds l.size) l.place.h l.place.v)) _ e.1 in
    record {
      so = record { placed = a.0; fits = (λ i. b.0 i && e.0 i); inside = f.0 };
      on_screen = f.1;
    }

-- the element at a place is one
pub one_item : {X : Type 0} (xs : List X) (i : ℕ) (x y : X) → i < length xs → x ≡ get_or xs i x → y ≡ get_or xs i y → x ≡ y
one_item [] i x y less e f = absurd (omega arith)
one_item (z ∷ zs) zero x y less e f = e ∙ sym f
one_item (z ∷ zs) (suc i) x y less e f = one_item zs i x y (omega arith) e f

-- ---- layers of which one has another shape

pub fits_reshaped : (place : Point) (shape : LayerShape) (i : ℕ) (ls : List Layer) → list_all (fits_at place) ls ≡ true → is_in_range (moved_rect shape.bounds place.h place.v) ≡ true
    → list_all (fits_at place) (reshaped shape i ls) ≡ true
fits_reshaped place shape i [] h new = refl
fits_reshaped place shape zero (l ∷ ls) h new = let parts = and_parts (fits_at place l) (list_all (fits_at place) ls) h in (λ t. new t && parts.1 t)
fits_reshaped place shape (suc i) (l ∷ ls) h new =
    let parts = and_parts (fits_at place l) (list_all (fits_at place) ls) h in
    let rest = fits_reshaped place shape i ls parts.1 new in (λ t. parts.0 t && rest t)

-- the part at a place of the new layers is that of the old
pub same_part_at : (shape : LayerShape) (i : ℕ) (ls new : List Layer) (l : Layer) (afresh : Option Part) → i < length ls → l ≡ get_or ls i l → new ≡ reshaped shape i ls → IsPartAt new (Some i) afresh → afresh ≡ Some l.part
same_part_at shape i ls new l afresh low read is part_is =
    let there = there_is (reshaped shape i ls) i (subst (λ n. i < n) (sym (reshaped_length shape i ls)) low) in
    let k : Layer = there.item in
    let reads : k ≡ get_or (reshaped shape i ls) i k = read_is (reshaped shape i ls) i k there.there in
    part_is k (reads ∙ ap (λ xs. get_or xs i k) (sym is))
    ∙ ap Some (ap (λ (x : Layer). x.part) reads ∙ reshaped_part shape i ls i k ∙ ap (λ (x : Layer). x.part) (same_read ls i k l low read))
  where
    same_read : (ls : List Layer) (i : ℕ) (d l : Layer) → i < length ls → l ≡ get_or ls i l → get_or ls i d ≡ l
    same_read [] i d l low e = absurd (omega arith)
    same_read (x ∷ xs) zero d l low e = sym e
    same_read (x ∷ xs) (suc i) d l low e = same_read xs i d l (omega arith) e

module _ {W : Type 0} {K : W → Type 0} (control_loan : TakenBox W K → ControlLoan) where
  -- what is kept of a control that lies so
  abbrev lying : Lie → Control (TakenBox W K) → Control (TakenBox W K)
  lying l k = record k { place = l.place; size = l.size; shown = l.shown }

  -- a control that was lent is laid so
  pub lie_set : (l : Lie) (at : ℕ) (s : Items (Control (TakenBox W K))) (k : Control (TakenBox W K)) → IfSome (slice_get s.items.items at) (λ c. k ≡ c.kept)
      → all_seen control_loan (with_value s at (lying l k)).items.items ≡ edit_at (with_lie l) at (all_seen control_loan s.items.items)
  lie_set l at s k lent =
      ap (all_seen control_loan) (lent_and_written (lying l) s at k lent)
      ∙ edit_at-seen (kept_seen control_loan) (with_kept (lying l)) (with_lie l) (λ c. refl) at s.items.items

  -- its definition can be told of it
  pub lie_tellable : (k : Lie) (at : ℕ) (xs ds : List ControlRecord) → at < length xs → IfSome (slice_get xs at) (λ c. IsTellable (with_lie k c)) → ds ≡ edit_at (with_lie k) at xs → IfSome (slice_get ds at) IsTellable
  lie_tellable k at xs ds low may set =
      let was = there_is xs at low in
      subst (λ o. IfSome o IsTellable) (sym (ap (λ cs. slice_get cs at) set ∙ there_edited (with_lie k) at xs was.item was.there))
      (subst (λ o. IfSome o (λ c. IsTellable (with_lie k c))) was.there may)

  pub lie_changed : (k : Lie) (at : ℕ) (m n : Controls (TakenBox W K)) (ds : List (Item (Control (TakenBox W K)))) → at < length m.list.items.items
      → all_seen control_loan ds ≡ edit_at (with_lie k) at (records_of control_loan m) → IsChangedAt (λ c. c) at (all_seen control_loan ds) (records_of control_loan n)
      → IsChangedAt (with_lie k) at (records_of control_loan m) (records_of control_loan n)
  lie_changed k at m n ds low set told =
      changed_then_told (with_lie k) (λ c. refl) at (records_of control_loan m) (all_seen control_loan ds) (records_of control_loan n)
      (there_is (records_of control_loan m) at (subst (λ k. at < k) (sym (length-seen (kept_seen control_loan) m.list.items.items)) low)) set told

module _ {V : Type 0} {H : V → Type 0} (loan : TakenBox V H → WindowLoan) {W : Type 0} {K : W → Type 0} (control_loan : TakenBox W K → ControlLoan) where
  module _ (c : ControlOf) (t : WindowManager V H) (m : Controls (TakenBox W K)) (s : ControlAt) (is : IsSpotOf loan control_loan c t m s)
      (l : Lie) (may : MayLie control_loan t m s l) (w : Window V H) (lies : IsWindowAt t.windows.records.items s.window w) (index : ℕ) (index_is : index ≡ place_among s.control m.list.items.items) where
    abbrev low : s.window < length t.windows.records.items
    low = is.window.0

    abbrev control : ControlRecord
    control = (record_there loan control_loan c t m s is).item

    -- the place of its layer
    index_seen : index ≡ place_among s.control (records_of control_loan m)
    index_seen = index_is ∙ sym (place_among-seen (kept_seen control_loan) s.control m.list.items.items)

    pub may_at : MayLieAt control.kept.definition.definition l w.place
    may_at = lie_parts control.kept.definition.definition l w.place (may control w (record_there loan control_loan c t m s is).there lies)

    module _ (slots : List WindowSlot) (whole : IsWholeManager loan t slots) (joined : AreJoined (records_of control_loan m) (desk_of loan t []).windows) where
      abbrev its : ItsLayer loan control_loan c t m s is w
      its = layer_there loan control_loan c t m s is w lies joined

      pub index_low : index < length w.layers.layers
      index_low = subst (λ n. n < length w.layers.layers) (sym index_seen) (within w.layers.layers _ its.layer its.there)

      pub its_read : its.layer ≡ get_or w.layers.layers index its.layer
      its_read = subst (λ n. its.layer ≡ get_or w.layers.layers n its.layer) (sym index_seen) (read_is w.layers.layers _ its.layer its.there)

      pub its_part : its.layer.part ≡ part.Control c.control
      its_part = its.is_layer.part ∙ ap (λ n. part.Control n) (names loan control_loan c t m s is).1

      pub apart : ArePartsApart w.layers.layers
      apart = contents.layers_apart loan t slots whole s.window low w lies (λ font q p. false)

      pub there : w.layers.place ≡ w.place
      there = contents.layers_there loan t slots whole s.window low w lies (λ font q p. false)

      pub fit : list_all (fits_at w.place) w.layers.layers ≡ true
      fit = (at_window loan IsSettled t.windows.records.items s.window w low lies whole.sound.settled).layers

      module _ (shape : LayerShape) (shaped : IsShapeOf control.kept.definition.definition l shape) where
        screen_fits : is_in_range (moved_rect shape.bounds w.place.h w.place.v) ≡ true
        screen_fits = ap (λ b. is_in_range (moved_rect b w.place.h w.place.v)) shaped.bounds ∙ may_at.on_screen

        pub shape_lies : (k : Layer) → IsLayerAt w.layers.place (with_shape shape k)
        shape_lies k = record {
          boxed = shaped.boxed;
          inside = ap is_in_range shaped.bounds ∙ may_at.so.inside;
          fits = ap (λ (p : Point). is_in_range (moved_rect shape.bounds p.h p.v)) there ∙ screen_fits;
        }

        module _ (relaid : Relaid) (layers_are : relaid.layers ≡ record w.layers { layers = reshaped shape index w.layers.layers }) where
          abbrev new : List Layer
          new = relaid.layers.layers

          new_is : new ≡ reshaped shape index w.layers.layers
          new_is = ap (λ (ls : PlacedLayers). ls.layers) layers_are

          pub new_low : index < length new
          new_low = subst (λ n. index < n) (sym (ap length new_is ∙ reshaped_length shape index w.layers.layers)) index_low

          pub say_bounds : MayHaveLayers s.window t relaid.layers
          say_bounds = record {
            apart = subst ArePartsApart (sym new_is) (reshaped_apart shape index w.layers.layers apart);
            there = λ v v_is. ap (λ (ls : PlacedLayers). ls.place) layers_are ∙ there ∙ ap (λ (x : Window V H). x.place) (one_item t.windows.records.items s.window w v low lies v_is);
            fit = (λ t. list_all (fits_at (ap (λ (ls : PlacedLayers). ls.place) layers_are t)) (new_is t))
                ∙ ap (λ p. list_all (fits_at p) (reshaped shape index w.layers.layers)) there
                ∙ fits_reshaped w.place shape index w.layers.layers fit screen_fits;
          }

          pub part_is : (afresh : Option Part) → IsPartAt new (Some index) afresh → afresh ≡ Some (part.Control c.control)
          part_is afresh h = same_part_at shape index w.layers.layers new its.layer afresh index_low its_read new_is h ∙ ap Some its_part

          pub gained_is : ((k : Layer) → k ≡ get_or w.layers.layers index k → (p : Point) → holds relaid.gained p ≡ is_gained (Some k.part) w.layers.layers new (minus p w.layers.place))
              → (afresh : Option Part) → IsPartAt new (Some index) afresh → IsGained w.place afresh w.layers.layers new relaid.gained
          gained_is gains afresh h p =
              gains its.layer its_read p
              ∙ ap (λ o. is_gained o w.layers.layers new (minus p w.layers.place)) (sym (same_part_at shape index w.layers.layers new its.layer afresh index_low its_read new_is h))
              ∙ ap (λ place. is_gained afresh w.layers.layers new (minus p place)) there

          -- the layers behind the controls are as they were
          pub behind_new : behind_controls new ≡ behind_controls w.layers.layers
          behind_new =
              ap behind_controls new_is
              ∙ behind_reshaped shape index w.layers.layers its.layer (ap (slice_get w.layers.layers) index_seen ∙ its.there) (ap (is_of kinds.Controls) its.is_layer.part)

          pub joined_new : (ds : List ControlRecord) → IsChangedAt (with_lie l) s.control (records_of control_loan m) ds → AreLayersOf (items_of c.window ds) new
          joined_new ds changed =
              subst (λ xs. AreLayersOf xs new) (sym (ap (items_of c.window) changed.controls ∙ items_of-edit_at (retold (with_lie l) changed.definition) (λ x. refl) c.window s.control (records_of control_loan m) here))
              (subst (AreLayersOf (edit_at (retold (with_lie l) changed.definition) place (items_of c.window (records_of control_loan m)))) (sym (new_is ∙ ap (λ n. reshaped shape n w.layers.layers) index_seen))
              (begin_reshape IsLayerOf AreNoControls (retold (with_lie l) changed.definition) shape place (items_of c.window (records_of control_loan m)) w.layers.layers
              (within (items_of c.window (records_of control_loan m)) place control (slice_get-items_of c.window s.control (records_of control_loan m) here ∙ (record_there loan control_loan c t m s is).there))
              (subst (λ n. AreLayersOf (items_of n (records_of control_loan m)) w.layers.layers) (is.window.1 w lies)
              (at_window loan (λ r. AreLayersOf (items_of r.serial (records_of control_loan m)) r.layers) t.windows.records.items s.window w low lies joined))
              (λ x k e was. new_layer x k (sym (slice_get-items_of c.window s.control (records_of control_loan m) here) ∙ e) was)))
            where
              place : ℕ
              place = place_among s.control (records_of control_loan m)

              here : is_in_at c.window s.control (records_of control_loan m) ≡ true
              here = in_its_window loan control_loan c t m s is

              one : (x y : ControlRecord) → slice_get (records_of control_loan m) s.control ≡ Some x → slice_get (records_of control_loan m) s.control ≡ Some y → x ≡ y
              one x y e f = cc

              new_layer : (x : ControlRecord) (k : Layer) → slice_get (records_of control_loan m) s.control ≡ Some x → IsLayerOf x k → IsLayerOf (retold (with_lie l) changed.definition x) (with_shape shape k)
              new_layer x k e was =
                  laid_layer l x changed.definition
                  (subst (λ (y : ControlRecord). SameControlRegions y.kept.definition.definition changed.definition) (one changed.control x changed.there e) changed.told.regions)
                  shape (subst (λ (y : ControlRecord). IsShapeOf y.kept.definition.definition l shape) (one control x (record_there loan control_loan c t m s is).there e) shaped) k was

  -- what commit_layers leaves of the window manager
  abbrev pub AreSetFor : ℕ → List Layer → ℕ → (List ℕ → Part → PixelSet) → WindowManager V H → WindowManager V H → Type 0
  AreSetFor at ls index shows t u = (w : Window V H) → IsWindowAt t.windows.records.items at w → (afresh : Option Part) → IsPartAt ls (Some index) afresh
      → (was : List ℕ → Part → PixelSet) (slots : List WindowSlot) → IsWholeManager loan t slots
      → IsWholeManager loan u slots × AreLayersSet w.serial ls afresh (state_showing was (state_of loan t slots)) (state_showing shows (state_of loan u slots))

  pub laid : (c : ControlOf) (t u : WindowManager V H) (m n : Controls (TakenBox W K)) (s : ControlAt) → (is : IsSpotOf loan control_loan c t m s) → (l : Lie) → MayLie control_loan t m s l
      → (shape : LayerShape) → IsShapeOf (record_there loan control_loan c t m s is).item.kept.definition.definition l shape
      → (index : ℕ) → index ≡ place_among s.control m.list.items.items
      → (relaid : Relaid) → ((w : Window V H) → IsWindowAt t.windows.records.items s.window w → relaid.layers ≡ record w.layers { layers = reshaped shape index w.layers.layers })
      → IsChangedAt (with_lie l) s.control (records_of control_loan m) (records_of control_loan n) → n.list.next ≡ m.list.next
      → AreSetFor s.window relaid.layers.layers index (alone (records_of control_loan n)) t u
      → (o : Opened) → LeavesControls control_loan loan (IsControlLaid c (with_lie l)) t o m u o n
  laid c t u m n s is l may shape shaped index index_is relaid layers_are changed next set o kept others slots whole controls =
      let windows = there_is t.windows.records.items s.window is.window.0 in
      let w : Window V H = windows.item in
      let lies : IsWindowAt t.windows.records.items s.window w = read_is t.windows.records.items s.window w windows.there in
      let at = layers_are w lies in
      let q : Option Part = Some (part.Control c.control) in
      let leaves = set w lies q (λ k k_is. sym (part_is c t m s is l may w lies index index_is slots whole controls.joined shape shaped relaid at (Some k.part) (λ j j_is. sym (ap (λ (x : Layer). Some x.part) (one_item relaid.layers.layers index j k (new_low c t m s is l may w lies index index_is slots whole controls.joined shape shaped relaid at) j_is k_is))))) (controls_show others (records_of control_loan m)) slots whole in
      let serial : w.serial ≡ c.window = is.window.1 w lies in
      let was = state_showing (controls_show others (records_of control_loan m)) (state_of loan t slots) in
      let sets = set_among others (records_of control_loan n) (state_of loan u slots) leaves.0.sound.distinct c.window was relaid.layers.layers q (one_control c.control)
      (subst (λ k. AreLayersSet k relaid.layers.layers q was (state_showing (alone (records_of control_loan n)) (state_of loan u slots))) serial leaves.1) in
      let joined : AreLayersOf (items_of c.window (records_of control_loan n)) relaid.layers.layers = joined_new c t m s is l may w lies index index_is slots whole controls.joined shape shaped relaid at (records_of control_loan n) changed in
      let windows_are : (desk_of loan u []).windows ≡ map (with_layers_of c.window relaid.layers.layers) (desk_of loan t []).windows = ap (λ (d : FullDesk). d.windows) sets.desk in (
        leaves.0,
        subst (λ ws. AreWholeControls ws (controls_state control_loan n kept)) (sym windows_are)
            (subst (λ k. AreWholeControls (map (with_layers_of c.window relaid.layers.layers) (desk_of loan t []).windows) (record { controls = records_of control_loan n; next = k; stock = kept })) (sym next)
            (whole_laid l s.control c.window relaid.layers.layers (desk_of loan t []).windows (controls_state control_loan m kept) (records_of control_loan n) controls (in_its_window loan control_loan c t m s is)
            (λ x e. may_be x e (All-there IsSettledControl s.control (records_of control_loan m) (record_there loan control_loan c t m s is).item (record_there loan control_loan c t m s is).there controls.settled)
            (may_at c t m s is l may w lies index index_is).so) changed joined)),
        record {
          changed = record {
            at = s.control;
            found = is.control;
            controls = records_of control_loan n;
            changed = changed;
            state = ap (λ k. record { controls = records_of control_loan n; next = k; stock = kept }) next;
          };
          laid = record {
            layers = relaid.layers.layers;
            joined = joined;
            others = layers_named loan t slots whole s.window c.window w is.window.0 lies serial (λ ls. behind_controls relaid.layers.layers ≡ behind_controls ls)
                (behind_new c t m s is l may w lies index index_is slots whole controls.joined shape shaped relaid at);
            set = sets;
            elsewhere = refl;
            shows = refl;
          };
          activity = record { activity = refl; begun = refl };
        },
      )
    where
      one_record : (x y : ControlRecord) → slice_get (records_of control_loan m) s.control ≡ Some x → slice_get (records_of control_loan m) s.control ≡ Some y → x ≡ y
      one_record x y e f = cc

      may_be : (x : ControlRecord) → slice_get (records_of control_loan m) s.control ≡ Some x → IsSettledControl (record_there loan control_loan c t m s is).item
          → MayLieSo (record_there loan control_loan c t m s is).item.kept.definition.definition l → MayBeSo x.kept.definition.definition (with_lie l x)
      may_be x e its so =
          subst (λ (y : ControlRecord). MayBeSo y.kept.definition.definition (with_lie l y)) (one_record (record_there loan control_loan c t m s is).item x (record_there loan control_loan c t m s is).there e)
          (record { placed = so.placed; fits = so.fits; inside = so.inside; setting = its.setting; highlight = its.highlight })

  -- ---- as the code comes to it

  -- where a control's shape is put in place of its layer's
  pub record BeforeLaying (w : Window V H) (index : ℕ) (shape : LayerShape) : Type 0 where
    pub low : index < length w.layers.layers
    pub apart : ArePartsApart w.layers.layers
    pub lies : (k : Layer) → IsLayerAt w.layers.place (with_shape shape k)

  -- and once it was
  pub record AfterLaying (t : WindowManager V H) (s : ControlAt) (index : ℕ) (relaid : Relaid) : Type 0 where
    pub low : index < length relaid.layers.layers
    pub may : MayHaveLayers s.window t relaid.layers
    pub gained : (afresh : Option Part) → IsPartAt relaid.layers.layers (Some index) afresh → IsGainedAt s.window afresh t relaid

  module _ (t : WindowManager V H) (m : Controls (TakenBox W K)) (s : ControlAt) (spot : IsSpot loan control_loan t m s) (l : Lie) (may : MayLie control_loan t m s l)
      (x : Item (Control (TakenBox W K))) (read : x ≡ get_or m.list.items.items s.control x) where
    -- the control that was read is the one that stands there
    same_control : slice_get (records_of control_loan m) s.control ≡ Some (seen control_loan x)
    same_control = record_read control_loan m.list.items.items s.control x spot.is.low read

    it_is : (record_there loan control_loan spot.of t m s spot.is).item ≡ seen control_loan x
    it_is = one (record_there loan control_loan spot.of t m s spot.is).item (seen control_loan x) (record_there loan control_loan spot.of t m s spot.is).there same_control
      where
        one : (y z : ControlRecord) → slice_get (records_of control_loan m) s.control ≡ Some y → slice_get (records_of control_loan m) s.control ≡ Some z → y ≡ z
        one y z e f = cc

    pub may_so : MayLieSo (control_loan x.kept.definition).definition l
    may_so =
        let windows = there_is t.windows.records.items s.window spot.is.window.0 in
        (lie_parts (control_loan x.kept.definition).definition l windows.item.place (may (seen control_loan x) windows.item same_control (read_is t.windows.records.items s.window windows.item windows.there))).so

    -- so its definition may be told of it
    pub may_tell : AreSettled (records_of control_loan m) → IfSome (slice_get (records_of control_loan m) s.control) (λ c. IsTellable (with_lie l c))
    may_tell settled = subst (λ o. IfSome o (λ c. IsTellable (with_lie l c))) (sym same_control)
        (record { live = (All-there IsSettledControl s.control (records_of control_loan m) (seen control_loan x) same_control settled).live; fits = may_so.fits })

    -- and then all are settled
    pub settled_laid : (n : Controls (TakenBox W K)) → AreSettled (records_of control_loan m) → IsChangedAt (with_lie l) s.control (records_of control_loan m) (records_of control_loan n) → AreSettled (records_of control_loan n)
    settled_laid n settled changed =
        let was : IsSettledControl (seen control_loan x) = All-there IsSettledControl s.control (records_of control_loan m) (seen control_loan x) same_control settled in
        changed_settled (with_lie l) s.control (records_of control_loan m) (records_of control_loan n) settled
        (λ c e. subst (λ (y : ControlRecord). MayBeSo y.kept.definition.definition (with_lie l y)) (one (seen control_loan x) c same_control e) (record { placed = may_so.placed; fits = may_so.fits; inside = may_so.inside; setting = was.setting; highlight = was.highlight })) changed
      where
        one : (y z : ControlRecord) → slice_get (records_of control_loan m) s.control ≡ Some y → slice_get (records_of control_loan m) s.control ≡ Some z → y ≡ z
        one y z e f = cc

    module _ (shape : LayerShape) (shaped : IsShapeOf (control_loan x.kept.definition).definition l shape) where
      pub its_shape : IsShapeOf (record_there loan control_loan spot.of t m s spot.is).item.kept.definition.definition l shape
      its_shape = subst (λ (y : ControlRecord). IsShapeOf y.kept.definition.definition l shape) (sym it_is) shaped

      module _ (kept : IsKept loan t) (beside : AreBeside control_loan loan t m) (w : Window V H) (lies : IsWindowAt t.windows.records.items s.window w) (index : ℕ) (index_is : index ≡ place_among s.control m.list.items.items) where
        pub before_laying : BeforeLaying w index shape
        before_laying = record {
          low = index_low spot.of t m s spot.is l may w lies index index_is kept.slots kept.whole beside.whole.joined;
          apart = apart spot.of t m s spot.is l may w lies index index_is kept.slots kept.whole beside.whole.joined;
          lies = shape_lies spot.of t m s spot.is l may w lies index index_is kept.slots kept.whole beside.whole.joined shape its_shape;
        }

        pub after_laying : (relaid : Relaid) → relaid.layers ≡ record w.layers { layers = reshaped shape index w.layers.layers }
            → ((k : Layer) → k ≡ get_or w.layers.layers index k → (p : Point) → holds relaid.gained p ≡ is_gained (Some k.part) w.layers.layers relaid.layers.layers (minus p w.layers.place))
            → AfterLaying t s index relaid
        after_laying relaid layers_are gains = record {
          low = new_low spot.of t m s spot.is l may w lies index index_is kept.slots kept.whole beside.whole.joined shape its_shape relaid layers_are;
          may = say_bounds spot.of t m s spot.is l may w lies index index_is kept.slots kept.whole beside.whole.joined shape its_shape relaid layers_are;
          gained = λ afresh h v v_is. subst (λ (y : Window V H). IsGained y.place afresh y.layers.layers relaid.layers.layers relaid.gained) (one_item t.windows.records.items s.window w v spot.is.window.0 lies v_is)
              (gained_is spot.of t m s spot.is l may w lies index index_is kept.slots kept.whole beside.whole.joined shape its_shape relaid layers_are gains afresh h);
        }
