-- A list that stands somewhere: the region that marks it, and what it leaves that it is marked, shown anew or toggled.
use Rattle.std.proofs.Common.{◌≡◌, ℕ, ◌<◌, ◌&&◌, ◌||◌, List, [], length, get_or, Some, sym, ap, ◌∙◌, subst}
use Rattle.std.specs.Prelude.{slice_get}
use Rattle.tb_geom.specs.declared.point.Point.{Point}
use Rattle.tb_geom.specs.declared.rect.Rect.{Rect}
use Rattle.tb_geom.specs.Points.{PixelSet, minus}
use Rattle.tb_geom.specs.Pixels.{Pixels, holds}
use Rattle.tb_geom.specs.Rects.{rect_holds}
use Rattle.bit_blit.specs.Draws.{IsWritten}
use Rattle.bit_blit.proofs.WrittenLemmas.{written_none}
use Rattle.desk_layers.specs.declared.part.Part.{Part}
use Rattle.desk_layers.specs.declared.part.Part.TheVariants as part
use Rattle.def_iface.specs.Slots.{TakenBox}
use Rattle.def_iface.specs.ListMeaning.{ListLoan}
use Rattle.def_iface.specs.WindowMeaning.{WindowLoan}
use Rattle.def_iface.specs.WindowSlots.{WindowSlot}
use Rattle.window_list.specs.declared.layer.Layer.{Layer}
use Rattle.window_list.specs.Holders.{belongs_to}
use Rattle.vis_update.specs.declared.area.Area.{Area}
use Rattle.vis_update.specs.Areas.{stale_in}
use Rattle.window_list.specs.declared.window.Window.{Window}
use Rattle.window_paint.specs.White.{all_white}
use Rattle.window_mgr.specs.declared.manager.WindowManager.{WindowManager}
use Rattle.window_mgr.specs.DrawnWithin.{WritesPart, part_within}
use Rattle.window_mgr.specs.Edits.{IsWindowAt}
use Rattle.window_mgr.specs.FullDesk.{FullState, layered_desk}
use Rattle.window_mgr.specs.Records.{desk_of, state_of, state_showing}
use Rattle.window_mgr.specs.Relayered.{IsLayerDrawnWithin, IsLayerToggled}
use Rattle.window_mgr.specs.Updating.{IsRemarked, LeavesState}
use Rattle.window_mgr.specs.Whole.{IsWholeManager}
use Rattle.control_mgr.proofs.Lays.{one_item}
use Rattle.control_mgr.proofs.Places.{IsThere, read_is, there_is}
use Rattle.list_mgr.specs.declared.lists.Lists.{Lists}
use Rattle.list_mgr.specs.declared.spots.ListAt.{ListAt}
use Rattle.list_mgr.specs.Changing.{IsItsLayer, IsListMarkedBy, IsDrawnBy, IsMarkedRegion, LeavesShown}
use Rattle.list_mgr.specs.ListDesks.{KeptList, lists_show}
use Rattle.list_mgr.specs.Spots.{IsSpot}
use Rattle.list_mgr.specs.WholeLists.{records_of}
use Rattle.list_mgr.specs.Within.{IsPartDrawnWithin}
use Rattle.list_mgr.proofs.Marked.{leaves_marked, leaves_redrawn}
use Rattle.list_mgr.proofs.Places.{names}
use Rattle.list_mgr.proofs.Steps.{list_there}

-- a layer that was drawn within a rectangle is a part that was
of_layer : (within : Rect) (s : ℕ) (l : Layer) (before after : FullState) → IsLayerDrawnWithin within s l before after → IsPartDrawnWithin within s l.part before after
of_layer within s l before after drawn = record { desk = drawn.desk; redrawn = λ right same. drawn.redrawn right (λ p has out. same p out) }

module _ {V : Type 0} {H : V → Type 0} (loan : TakenBox V H → WindowLoan) {X : Type 0} {L : X → Type 0} (list_loan : TakenBox X L → ListLoan)
    (t : WindowManager V H) (m : Lists (TakenBox X L)) (s : ListAt) (spot : IsSpot loan list_loan t m s) where
  -- its window
  window : IsThere t.windows.records.items s.window
  window = there_is t.windows.records.items s.window spot.is.window.0

  lies : IsWindowAt t.windows.records.items s.window window.item
  lies = read_is t.windows.records.items s.window window.item window.there

  module _ (x : KeptList) (there : slice_get (records_of list_loan m) s.list ≡ Some x) where
    -- the list is the one that stands here, in this window
    it_is : (y : KeptList) → slice_get (records_of list_loan m) s.list ≡ Some y → y ≡ x
    it_is y is = let both : Some y ≡ Some x = sym is ∙ there in cc

    in_window : (w : Window V H) → IsWindowAt t.windows.records.items s.window w → w.serial ≡ x.window
    in_window w w_is =
        let its = list_there loan list_loan spot.of t m s spot.is in
        spot.is.window.1 w w_is ∙ sym (names loan list_loan spot.of t m s spot.is).0 ∙ ap (λ (y : KeptList). y.window) (it_is its.item its.there)

    -- its layer is its part
    its_part : (ks : List Layer) (layer : ℕ) → IsItsLayer list_loan m s ks layer → (k : Layer) → k ≡ get_or ks layer k → k.part ≡ part.List x.serial
    its_part ks layer its k read = (its.is k read).part ∙ ap (λ (y : KeptList). part.List y.serial) (it_is its.list its.there)

    -- what the layer owns belongs to the list
    owned_is : (v : Window V H) (layer : ℕ) → IsItsLayer list_loan m s v.layers.layers layer → (own : Pixels)
        → ((l : Layer) → l ≡ get_or v.layers.layers layer l → (p : Point) → holds own p ≡ belongs_to l.part v.layers.layers (minus p v.layers.place))
        → (p : Point) → holds own p ≡ belongs_to (part.List x.serial) v.layers.layers (minus p v.layers.place)
    owned_is v layer its own owned p =
        let k = there_is v.layers.layers layer its.low in
        let read : k.item ≡ get_or v.layers.layers layer k.item = read_is v.layers.layers layer k.item k.there in
        owned k.item read p ∙ ap (λ q. belongs_to q v.layers.layers (minus p v.layers.place)) (its_part v.layers.layers layer its k.item read)

    -- where its layer was drawn within a rectangle it was
    pub drawn_by : (within : Rect) (layer : ℕ) → ((w : Window V H) → IsWindowAt t.windows.records.items s.window w → IsItsLayer list_loan m s w.layers.layers layer) → (u : WindowManager V H)
        → ((w : Window V H) → IsWindowAt t.windows.records.items s.window w → (l : Layer) → l ≡ get_or w.layers.layers layer l → (was : List ℕ → Part → PixelSet) (slots : List WindowSlot)
        → IsWholeManager loan t slots → IsWholeManager loan u slots
        × IsLayerDrawnWithin within w.serial l (state_showing was (state_of loan t slots)) (state_showing (lists_show (λ font. all_white) (records_of list_loan m)) (state_of loan u slots)))
        → IsDrawnBy list_loan loan within m x t u
    drawn_by within layer layers u redrawn was is same =
        let w : Window V H = window.item in
        let its = layers w lies in
        let k = there_is w.layers.layers layer its.low in
        let read : k.item ≡ get_or w.layers.layers layer k.item = read_is w.layers.layers layer k.item k.there in
        let shows = lists_show (λ font. all_white) (records_of list_loan m) in
        leaves_redrawn loan list_loan t u x.window (part.List x.serial) within shows was is
        (λ slots whole.
        let left = redrawn w lies k.item read was slots whole in (
          left.0,
          subst (λ n. IsPartDrawnWithin within n (part.List x.serial) (state_showing was (state_of loan t slots)) (state_showing shows (state_of loan u slots))) (in_window window.item lies)
              (subst (λ q. IsPartDrawnWithin within w.serial q (state_showing was (state_of loan t slots)) (state_showing shows (state_of loan u slots))) (its_part w.layers.layers layer its k.item read)
              (of_layer within w.serial k.item _ _ left.1)),
        ))
        same

    -- and no other pixel was written
    pub written_by : (within : Rect) (layer : ℕ) → ((w : Window V H) → IsWindowAt t.windows.records.items s.window w → IsItsLayer list_loan m s w.layers.layers layer) → (u : WindowManager V H)
        → ((w : Window V H) → IsWindowAt t.windows.records.items s.window w → (l : Layer) → l ≡ get_or w.layers.layers layer l → WritesPart loan w.serial l.part w.place (rect_holds within) t u)
        → (w : Window V H) → IsWindowAt t.windows.records.items s.window w → WritesPart loan w.serial (part.List x.serial) w.place (rect_holds within) t u
    written_by within layer layers u written w w_is =
        let its = layers w w_is in
        let k = there_is w.layers.layers layer its.low in
        let read : k.item ≡ get_or w.layers.layers layer k.item = read_is w.layers.layers layer k.item k.there in
        subst (λ q. WritesPart loan w.serial q w.place (rect_holds within) t u) (its_part w.layers.layers layer its k.item read) (written w w_is k.item read)

    -- where all that it owns was put into the update region of its window it is marked
    pub marked_by : (update : Pixels) → IsMarkedRegion list_loan loan t m s update → s.window < length t.areas.items → (u : WindowManager V H)
        → ((w : Window V H) → IsWindowAt t.windows.records.items s.window w → LeavesState loan (IsRemarked w.serial update) t u) → IsListMarkedBy list_loan loan x t u
    marked_by update region low u leaves =
        let a = there_is t.areas.items s.window low in
        let read : a.item ≡ get_or t.areas.items s.window a.item = read_is t.areas.items s.window a.item a.there in
        leaves_marked loan t s.window spot.is.window.0 window.item lies a.item read (part.List x.serial) update (region window.item a.item x lies read there) list_loan x.window (in_window window.item lies) u
        (leaves window.item lies)

    -- what was inverted of its layer was inverted of it
    pub toggled_by : (layer : ℕ) → ((w : Window V H) → IsWindowAt t.windows.records.items s.window w → IsItsLayer list_loan m s w.layers.layers layer) → (toggles : List ℕ → PixelSet) (u : WindowManager V H)
        → ((w : Window V H) → IsWindowAt t.windows.records.items s.window w → (l : Layer) → l ≡ get_or w.layers.layers layer l → (was is : List ℕ → Part → PixelSet) (slots : List WindowSlot)
        → IsWholeManager loan t slots → IsWholeManager loan u slots
        × IsLayerToggled w.serial w.place l.part toggles (state_showing was (state_of loan t slots)) (state_showing is (state_of loan u slots)))
        → (w : Window V H) → IsWindowAt t.windows.records.items s.window w → (was is : List ℕ → Part → PixelSet) → LeavesShown list_loan loan (IsLayerToggled x.window w.place (part.List x.serial) toggles) was is t u
    toggled_by layer layers toggles u toggled w w_is was is slots whole =
        let its = layers w w_is in
        let k = there_is w.layers.layers layer its.low in
        let read : k.item ≡ get_or w.layers.layers layer k.item = read_is w.layers.layers layer k.item k.there in
        let left = toggled w w_is k.item read was is slots whole in (
          left.0,
          subst (λ n. IsLayerToggled n w.place (part.List x.serial) toggles (state_showing was (state_of loan t slots)) (state_showing is (state_of loan u slots))) (in_window w w_is)
              (subst (λ q. IsLayerToggled w.serial w.place q toggles (state_showing was (state_of loan t slots)) (state_showing is (state_of loan u slots))) (its_part w.layers.layers layer its k.item read) left.1),
        )

  -- the update region of its window with what shows of its layer marks it
  pub marked_region : (v : Window V H) → IsWindowAt t.windows.records.items s.window v → (b : Area) → b ≡ get_or t.areas.items s.window b → s.window < length t.areas.items
      → (layer : ℕ) → IsItsLayer list_loan m s v.layers.layers layer → (own shown update : Pixels)
      → ((l : Layer) → l ≡ get_or v.layers.layers layer l → (p : Point) → holds own p ≡ belongs_to l.part v.layers.layers (minus p v.layers.place))
      → ((p : Point) → holds shown p ≡ (holds b.visible p && holds own p)) → ((p : Point) → holds update p ≡ (holds b.update p || holds shown p))
      → IsMarkedRegion list_loan loan t m s update
  marked_region v v_is b b_is low layer its own shown update owned shown_is update_is w a x w_is a_is there p =
      let windows : v ≡ w = one_item t.windows.records.items s.window v w spot.is.window.0 v_is w_is in
      let areas : b ≡ a = one_item t.areas.items s.window b a low b_is a_is in
      update_is p
      ∙ ap (λ y. holds b.update p || y) (shown_is p ∙ ap (λ y. holds b.visible p && y) (owned_is x there v layer its own owned p))
      ∙ (λ i. holds (areas i).update p || (holds (areas i).visible p && belongs_to (part.List x.serial) (windows i).layers.layers (minus p (windows i).layers.place)))

-- where nothing was written, nothing else was
pub none_written : {V : Type 0} {H : V → Type 0} (loan : TakenBox V H → WindowLoan) (n : ℕ) (q : Part) (place : Point) (these : PixelSet) (t u : WindowManager V H)
    → u.screen ≡ t.screen → WritesPart loan n q place these t u
none_written loan n q place these t u same =
    subst (IsWritten (part_within (layered_desk (desk_of loan t [])) (stale_in t.areas.items) n q place these) t.screen) (sym same) (written_none _ t.screen)
