-- A window manager of which one window got other layers, once the plan was drawn.
use Rattle.std.proofs.Common.{◌≡◌, ℕ, ◌<◌, ◌&&◌, not, true, false, if◌then◌else◌, List, length, Option, None, Some, pos, refl, sym, ap, ◌∙◌, subst}
use Rattle.std.specs.Prelude.{All, get_or, slice_get}
use Rattle.std.specs.Vec.{with_item}
use Rattle.std.proofs.lemmas.Option.{slice_get-get_or}
use Rattle.tb_geom.specs.declared.point.Point.{Point}
use Rattle.tb_geom.specs.Points.{PixelSet, minus}
use Rattle.tb_geom.specs.Pixels.{Pixels, holds}
use Rattle.tb_geom.specs.Rects.{in_plane}
use Rattle.bit_map.specs.Bits.{Bits, bit}
use Rattle.bit_map.specs.declared.mode.Mode.TheVariants.{Copy}
use Rattle.bit_map.specs.Modes.{mode_bit}
use Rattle.bit_map.specs.Patterns.{pattern_bit}
use Rattle.bit_blit.specs.Draws.{Draws}
use Rattle.bit_blit.proofs.DrawsLemmas.{Draws-value}
use Rattle.desk_layers.specs.declared.part.Part.{Part}
use Rattle.desk_layers.specs.declared.part.Part.TheVariants.{Picture}
use Rattle.def_iface.specs.Slots.{TakenBox}
use Rattle.def_iface.specs.WindowMeaning.{WindowLoan}
use Rattle.def_iface.specs.WindowSlots.{WindowSlot}
use Rattle.desk_layers.specs.Desk as layers
use Rattle.desk_layers.specs.Desk.{LayeredDesk}
use Rattle.desk_layers.specs.Owner.{owner, own_bit, same_owner, is_content}
use Rattle.desk_layers.specs.Owner.Owner.{Desktop}
use Rattle.desk_layers.specs.Change as plain
use Rattle.window_list.specs.declared.layer.Layer.{Layer}
use Rattle.window_list.specs.Holders.{PlacedLayers, ArePartsApart, belongs_to}
use Rattle.vis_update.specs.declared.area.Area.{Area}
use Rattle.vis_update.specs.declared.relaying.Relaying.{Relaying}
use Rattle.vis_update.specs.Areas.{IsGray, IsDesktop, AreAreas, stale_in}
use Rattle.vis_update.specs.Relayings.{is_part_afresh}
use Rattle.vis_update.proofs.RelaidAreas.{keeps}
use Rattle.window_list.specs.declared.window.Window.{Window}
use Rattle.window_list.specs.declared.list.WindowList.{WindowList}
use Rattle.window_list.specs.Lists.{edit_at, with_layers}
use Rattle.window_list.proofs.ListLemmas.{set_is_edit}
use Rattle.window_mgr.specs.declared.manager.WindowManager.{WindowManager}
use Rattle.window_mgr.specs.Edits.{IsWindowAt}
use Rattle.window_mgr.specs.FullDesk.{FullDesk, layered_desk, layered_state}
use Rattle.window_mgr.specs.Kept.{IsKept}
use Rattle.window_mgr.specs.Records.{desk_of, desk_showing, state_of, state_showing, look_on}
use Rattle.window_mgr.specs.Relayered.{IsPartAt, MayHaveLayers, IsPlanOfLayers, AreLayersPut, AreLayersSet}
use Rattle.window_mgr.specs.Updating.{IsUpdatePut}
use Rattle.window_mgr.specs.Whole.{IsWholeManager, IsSoundDesk, LieThere}
use Rattle.window_mgr.proofs.DrawLemmas.{still_low, changed_there}
use Rattle.window_mgr.proofs.EditSeats.{there_is}
use Rattle.window_mgr.proofs.LayerParts.{lies_set}
use Rattle.window_mgr.proofs.LayersDrawn as drawing
use Rattle.window_mgr.proofs.LayersDrawn.{IsDrawnAfresh, same_sides}
use Rattle.window_mgr.proofs.LayersPut as put
use Rattle.window_mgr.proofs.OtherLayers.{put_is_map}
use Rattle.window_mgr.proofs.Remarked.{settled_there}
use Rattle.window_mgr.proofs.Showing.{owner_showing}
use Rattle.window_paint.proofs.WhiteLemmas.{white, pattern_bit-white}

-- ---- what was drawn

-- what was filled with the white pattern is white
pub whitened : (erase : Pixels) (old mid : Bits) (offset : Point) → Draws (holds erase) (λ p d. mode_bit Copy (pattern_bit white (minus p offset)) d) old mid → Draws (holds erase) (λ p _. false) old mid
whitened erase old mid offset filled = Draws-value (holds erase) _ (λ p _. false) old mid (λ p d. pattern_bit-white (minus p offset)) filled

module _ {V : Type 0} {H : V → Type 0} (placed : PlacedLayers) (w : Window V H) (afresh : Option ℕ) (part : Option Part) (part_is : IsPartAt placed.layers afresh part) (r : Relaying) (shows : Part → PixelSet) (mid end : Bits) where
  -- the layer at an index was drawn, in the window that has the layers
  pub some_afresh : (i : ℕ) (y : Window V H) → i < length placed.layers → afresh ≡ Some i → ArePartsApart placed.layers → y ≡ with_layers placed w
      → ((l : Layer) → l ≡ get_or y.layers.layers i l → Draws (λ p. holds r.draw p && belongs_to l.part y.layers.layers (minus p y.layers.place)) (λ p _. shows l.part (minus p y.place)) mid end)
      → IsDrawnAfresh part placed w.place r shows mid end
  some_afresh i y low is apart same draws =
      let l = there_is placed.layers i low in
      let its : part ≡ Some l.0.part = subst (λ x. IsPartAt placed.layers x part) is part_is l.0 l.1 in
      subst (λ x. IsDrawnAfresh x placed w.place r shows mid end) (sym its) (
        subst (λ (z : Window V H). (l : Layer) → l ≡ get_or z.layers.layers i l → Draws (λ p. holds r.draw p && belongs_to l.part z.layers.layers (minus p z.layers.place)) (λ p _. shows l.part (minus p z.place)) mid end) same draws l.0 l.1,
        ap (λ (x : Layer). layers.same_part x.part Picture) l.1 ∙ apart.0 i l.0 low,
      )

  -- none was
  pub none_afresh : afresh ≡ None → end ≡ mid → IsDrawnAfresh part placed w.place r shows mid end
  none_afresh is same =
      let its : part ≡ None = subst (λ x. IsPartAt placed.layers x part) is part_is in
      subst (λ x. IsDrawnAfresh x placed w.place r shows mid end) (sym its) same

-- ---- the window in between, which has the layers already

module _ {V : Type 0} {H : V → Type 0} (loan : TakenBox V H → WindowLoan) (t : WindowManager V H) (held : IsKept loan t) (at : ℕ) (low : at < length t.windows.records.items) (placed : PlacedLayers) (windows : WindowList V H) (changed : windows ≡ record t.windows { records = edit_at (with_layers placed) at t.windows.records }) where
  at_place : (w : Window V H) → IsWindowAt t.windows.records.items at w → slice_get t.windows.records.items at ≡ Some w
  at_place w there = slice_get-get_or t.windows.records.items at w low ∙ ap Some (sym there)

  pub still_there : at < length windows.records.items
  still_there =
      let w = there_is t.windows.records.items at low in
      subst (λ (x : WindowList V H). at < length x.records.items) (sym changed) (still_low loan t held at w.0 (at_place w.0 w.1) (with_layers placed))

  pub read_there : (y w : Window V H) → y ≡ get_or windows.records.items at y → IsWindowAt t.windows.records.items at w → y ≡ with_layers placed w
  read_there y w read there = changed_there loan t held at w (at_place w there) (with_layers placed) y (subst (λ (x : WindowList V H). y ≡ get_or x.records.items at y) changed read)

  -- it lies at a point, and has the layers
  pub placed_there : (y : Window V H) → y ≡ get_or windows.records.items at y → (in_plane y.place ≡ true) × (y.layers ≡ placed)
  placed_there y read =
      let w = there_is t.windows.records.items at low in
      let same = read_there y w.0 read w.1 in
      (ap (λ (x : Window V H). in_plane x.place) same ∙ (settled_there loan t held at w.0 low w.1).placed, ap (λ (x : Window V H). x.layers) same)

-- ---- the window manager

module _ {V : Type 0} {H : V → Type 0} (loan : TakenBox V H → WindowLoan) (t : WindowManager V H) (slots : List WindowSlot) (whole : IsWholeManager loan t slots) (at : ℕ) (low : at < length t.windows.records.items) (w : Window V H) (there : IsWindowAt t.windows.records.items at w) (a : Area) (read : a ≡ get_or t.areas.items at a)
    (placed : PlacedLayers) (may : MayHaveLayers at t placed) (part : Option Part) (r : Relaying) (plan : IsPlanOfLayers loan at placed.layers part t r)
    (shows : List ℕ → Part → PixelSet) (mid end : Bits) (white : Draws (holds r.erase) (λ p _. false) t.screen mid) (drawn : IsDrawnAfresh part placed w.place r (shows t.font) mid end) where
  abbrev before : FullDesk
  before = desk_of loan t slots

  abbrev after : (Part → PixelSet) → FullDesk
  after shown = put.after loan t slots whole at low w there a read placed may part r plan shown

  abbrev now : (Part → PixelSet) → LayeredDesk
  now shown = layered_desk (after shown)

  abbrev areas : List Area
  areas = put.areas loan t slots whole at low w there a read placed may part r plan

  abbrev change : plain.Change
  change = put.change loan t slots whole at low w there a read placed may part r plan

  -- the window manager afterwards
  abbrev pub new : WindowManager V H
  new = record t {
    windows = record t.windows { records = edit_at (with_layers placed) at t.windows.records };
    screen = end;
    areas = with_item t.areas at (record a { update = r.update });
  }

  here : slice_get t.windows.records.items at ≡ Some w
  here = slice_get-get_or t.windows.records.items at w low ∙ ap Some (sym there)

  desk_is : desk_of loan new slots ≡ after before.shows
  desk_is =
      let sides = same_sides part placed w.place r (shows t.font) t.screen mid end white drawn in
      λ i. record before {
        width = pos (sides.0 i);
        height = pos (sides.1 i);
        windows = put_is_map loan (look_on t) placed t.windows.records.items at w whole.sound.distinct here i;
      }

  owner_same : (shown : Part → PixelSet) (p : Point) → owner (now shown) p ≡ owner (now before.shows) p
  owner_same shown p = owner_showing (λ font. shown) (after before.shows) p

  frames : (p : Point) → layers.on_screen (now before.shows) p ≡ true → is_content (owner (now before.shows) p) ≡ false → bit end p ≡ own_bit (now before.shows) (owner (now before.shows) p) p
  frames p on e =
      let plain = ap is_content (owner_same (shows t.font) p) ∙ e in
      drawing.plain_is loan t slots whole at low w there a read placed may part r plan (shows t.font) p on mid end white drawn plain
      ∙ put.plain_same loan t slots whole at low w there a read placed may part r plan (shows t.font) (owner (now (shows t.font)) p) p plain
      ∙ ap (λ o. own_bit (layered_desk before) o p) (owner_same (shows t.font) p)
      ∙ sym (put.plain_same loan t slots whole at low w there a read placed may part r plan before.shows (owner (now before.shows) p) p e)

  desktop : IsDesktop (now before.shows) t.desktop
  desktop p =
      whole.desktop p
      ∙ keeps w.serial w.place part w.layers.layers placed.layers (layered_state (state_of loan t slots)) (now before.shows) (put.is_relayered loan t slots whole at low w there a read placed may part r plan before.shows)
      (λ o. same_owner o Desktop) (λ q. refl) p

  is_whole : IsWholeManager loan new slots
  is_whole = record {
    sound = subst IsSoundDesk (sym desk_is) (put.sound loan t slots whole at low w there a read placed may part r plan);
    gray = subst (λ (x : FullDesk). IsGray (layered_desk x) t.gray) (sym desk_is) whole.gray;
    desktop = subst (λ (x : FullDesk). IsDesktop (layered_desk x) t.desktop) (sym desk_is) desktop;
    areas = subst (λ (x : FullDesk). AreAreas (layered_desk x) (stale_in areas) x.windows areas) (sym desk_is) (put.areas_right loan t slots whole at low w there a read placed may part r plan before.shows);
    frames = subst (λ (k : LayeredDesk). (p : Point) → layers.on_screen k p ≡ true → is_content (owner k p) ≡ false → bit end p ≡ own_bit k (owner k p) p) (sym (ap layered_desk desk_is)) frames;
    layers = subst (All LieThere) (set_is_edit (with_layers placed) t.windows.records.items at w there)
        (lies_set t.windows.records.items at w (with_layers placed w) here (λ lies. may.there w there) whole.layers);
  }

  module _ (was : List ℕ → Part → PixelSet) where
    -- what is stale is told by owners, whatever controls and lists showed
    stale_is : (p : Point) → layers.on_screen (now (shows t.font)) p ≡ true → stale_in areas p ≡ plain.stale_by change (layered_state (state_showing was (state_of loan t slots))) (owner (now (shows t.font)) p) p
    stale_is p on =
        put.stale_is loan t slots whole at low w there a read placed may part r plan (shows t.font) p on
        ∙ (λ i. let o = owner (now (shows t.font)) p in
        if not (is_content o) then false else (if is_part_afresh w.serial part o then false else (if layers.on_screen (layered_desk before) p && same_owner (sym (owner_showing was before p) i) o then stale_in t.areas.items p else true)))

    are_set : AreLayersSet w.serial placed.layers part (state_showing was (state_of loan t slots)) (state_showing shows (state_of loan new slots))
    are_set =
        let same : layered_desk (desk_showing shows (desk_of loan new slots)) ≡ now (shows t.font) = ap (λ (d : FullDesk). layered_desk (desk_showing shows d)) desk_is in
        record {
          desk = ap (desk_showing shows) desk_is;
          pixels = record {
            stale = subst (λ (k : LayeredDesk). (p : Point) → layers.on_screen k p ≡ true → stale_in areas p ≡ plain.stale_by change (layered_state (state_showing was (state_of loan t slots))) (owner k p) p) (sym same) stale_is;
            image = subst (λ (k : LayeredDesk). (p : Point) → layers.on_screen k p ≡ true → bit end p ≡ plain.image_by change (layered_state (state_showing was (state_of loan t slots))) k (owner k p) p) (sym same)
                (λ p on. drawing.image_is loan t slots whole at low w there a read placed may part r plan (shows t.font) p on was mid end white drawn);
          };
        }

    layers_set : IsWholeManager loan new slots × AreLayersSet w.serial placed.layers part (state_showing was (state_of loan t slots)) (state_showing shows (state_of loan new slots))
    layers_set = (is_whole, are_set)

-- the layers were set, all was drawn, and the update region was put
pub committed : {V : Type 0} {H : V → Type 0} (loan : TakenBox V H → WindowLoan) (t : WindowManager V H) (slots : List WindowSlot) (whole : IsWholeManager loan t slots) (at : ℕ) (low : at < length t.windows.records.items) (w : Window V H) (there : IsWindowAt t.windows.records.items at w)
    (placed : PlacedLayers) (may : MayHaveLayers at t placed) (part : Option Part) (r : Relaying) (plan : IsPlanOfLayers loan at placed.layers part t r)
    (shows was : List ℕ → Part → PixelSet) (mid end : Bits) (white : Draws (holds r.erase) (λ p _. false) t.screen mid) (drawn : IsDrawnAfresh part placed w.place r (shows t.font) mid end)
    (windows : WindowList V H) (u v : WindowManager V H) → windows ≡ record t.windows { records = edit_at (with_layers placed) at t.windows.records } → u ≡ record t { windows = windows; screen = end } → IsUpdatePut at r.update u v
    → IsWholeManager loan v slots × AreLayersSet w.serial placed.layers part (state_showing was (state_of loan t slots)) (state_showing shows (state_of loan v slots))
committed {V} {H} loan t slots whole at low w there placed may part r plan shows was mid end white drawn windows u v changed is done =
    let it : IsUpdatePut at r.update (record t { windows = record t.windows { records = edit_at (with_layers placed) at t.windows.records }; screen = end }) v =
    subst (λ (x : WindowManager V H). IsUpdatePut at r.update x v) (is ∙ ap (λ ws. record t { windows = ws; screen = end }) changed) done in
    subst (λ (x : WindowManager V H). IsWholeManager loan x slots × AreLayersSet w.serial placed.layers part (state_showing was (state_of loan t slots)) (state_showing shows (state_of loan x slots))) (sym it.state)
    (layers_set loan t slots whole at low w there it.area it.there placed may part r plan shows mid end white drawn was)

-- what the call leaves, but for the screen
pub layers_put : {V : Type 0} {H : V → Type 0} (t : WindowManager V H) (at : ℕ) (placed : PlacedLayers) (update : Pixels) (end : Bits) (windows : WindowList V H) (u v : WindowManager V H)
    → windows ≡ record t.windows { records = edit_at (with_layers placed) at t.windows.records } → u ≡ record t { windows = windows; screen = end } → IsUpdatePut at update u v → AreLayersPut at placed update t v
layers_put {V} {H} t at placed update end windows u v changed is done = record {
  area = done.area;
  there = done.there ∙ ap (λ (x : WindowManager V H). get_or x.areas.items at done.area) is;
  state = state ∙ sym (ap (λ (x : WindowManager V H). record t { windows = record t.windows { records = edit_at (with_layers placed) at t.windows.records }; screen = x.screen; areas = with_item t.areas at (record done.area { update = update }) }) state);
}
  where
    state : v ≡ record t { windows = record t.windows { records = edit_at (with_layers placed) at t.windows.records }; screen = end; areas = with_item t.areas at (record done.area { update = update }) }
    state =
        done.state
        ∙ ap (λ (x : WindowManager V H). record x { areas = with_item x.areas at (record done.area { update = update }) }) (is ∙ ap (λ (ws : WindowList V H). record t { windows = ws; screen = end }) changed)
