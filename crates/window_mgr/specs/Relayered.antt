-- The layers of one window changed, planned and drawn.
use Rattle.std.specs.Prelude.{◌≡◌, ◌<◌, ◌&&◌, ℕ, true, false, not, if◌then◌else◌, List, [], length, map, Option, None, Some, slice_index_or}
use Rattle.std.specs.List.{list_all}
use Rattle.std.specs.Vec.{with_item}
use Rattle.tb_geom.specs.declared.point.Point.{Point}
use Rattle.tb_geom.specs.declared.rect.Rect.{Rect}
use Rattle.tb_geom.specs.Points.{PixelSet, minus}
use Rattle.tb_geom.specs.Pixels.{Pixels, holds}
use Rattle.tb_geom.specs.Rects.{rect_holds}
use Rattle.desk_layers.specs.declared.part.Part.{Part}
use Rattle.def_iface.specs.Slots.{TakenBox}
use Rattle.def_iface.specs.WindowMeaning.{WindowLoan}
use Rattle.desk_layers.specs.Desk.{LayeredDesk}
use Rattle.desk_layers.specs.Owner.{same_owner}
use Rattle.desk_layers.specs.Owner.Owner.{Content}
use Rattle.desk_layers.specs.Change.{Change, no_change, IsChanged}
use Rattle.window_list.specs.declared.layer.Layer.{Layer}
use Rattle.window_list.specs.declared.layers.Relaid.{Relaid}
use Rattle.window_list.specs.Holders.{PlacedLayers, ArePartsApart, fits_at}
use Rattle.window_list.specs.declared.window.Window.{Window}
use Rattle.window_list.specs.Lists.{edit_at, with_layers}
use Rattle.vis_update.specs.declared.area.Area.{Area}
use Rattle.vis_update.specs.declared.relaying.Relaying.{Relaying}
use Rattle.vis_update.specs.Relayings.{IsRelayered, IsRelaid, IsGained, afresh_change, with_layers_of}
use Rattle.window_mgr.specs.declared.manager.WindowManager.{WindowManager}
use Rattle.window_mgr.specs.Edits.{IsWindowAt}
use Rattle.window_mgr.specs.Kept.{IsKept}
use Rattle.window_mgr.specs.FullDesk.{FullState, IsRightState, layered_desk, layered_state}
use Rattle.window_mgr.specs.Records.{state_of}

-- the part of the layer at this index, if one is given
abbrev pub IsPartAt : List Layer → Option ℕ → Option Part → Type 0
IsPartAt ls None part = part ≡ None
IsPartAt ls (Some i) part = (l : Layer) → l ≡ slice_index_or ls i l → part ≡ Some l.part

-- the window of this serial has these layers, and the part that is to be drawn afresh was; nothing else of the desk changed
-- but what layers show
pub record AreLayersSet (s : ℕ) (ls : List Layer) (afresh : Option Part) (before after : FullState) : Type 0 where
  pub desk : after.desk
      ≡ record before.desk { windows = map (with_layers_of s ls) before.desk.windows; shows = after.desk.shows }
  pub pixels : IsChanged (afresh_change s afresh) (layered_state before) (layered_state after)

-- the change of a call that shows this part of the window of this serial anew, where it is not to be redrawn
abbrev pub redrawn_change : ℕ → Part → Change
redrawn_change s q = record no_change { redrawn = λ o. same_owner o (Content s q) }

-- the part was shown anew; nothing else of the desk changed but what layers show
pub record IsLayerRedrawn (s : ℕ) (q : Part) (before after : FullState) : Type 0 where
  pub desk : after.desk ≡ record before.desk { shows = after.desk.shows }
  pub pixels : IsChanged (redrawn_change s q) (layered_state before) (layered_state after)

-- the layer shows outside of the rectangle, which is given in the window's own coordinates, what it showed
abbrev pub IsSameOutside : Rect → Layer → (was is : Part → PixelSet) → Type 0
IsSameOutside within l was is = (p : Point) → holds l.region p ≡ true → rect_holds within p ≡ false → is l.part p ≡ was l.part p

-- the layer was drawn within the rectangle, where it is not to be redrawn: where all was right, and outside of the rectangle the
-- layer shows what it showed, it was shown anew. Nothing else of the desk changed but what layers show
pub record IsLayerDrawnWithin (within : Rect) (s : ℕ) (l : Layer) (before after : FullState) : Type 0 where
  pub desk : after.desk ≡ record before.desk { shows = after.desk.shows }
  pub redrawn : IsRightState before → IsSameOutside within l before.desk.shows after.desk.shows → IsLayerRedrawn s l.part before after

-- the change of a call that inverts these pixels of a part of a window at this place, given in the window's own coordinates
abbrev pub toggled_change : ℕ → Point → Part → PixelSet → Change
toggled_change s place q toggles = record no_change {
  drawn = λ o p value. if same_owner o (Content s q) && toggles (minus p place) then not value else value;
}

-- these pixels of the part were inverted, which depend on the font; nothing else of the desk changed but what layers show
pub record IsLayerToggled (s : ℕ) (place : Point) (q : Part) (toggles : List ℕ → PixelSet) (before after : FullState) : Type 0 where
  pub desk : after.desk ≡ record before.desk { shows = after.desk.shows }
  pub pixels : IsChanged (toggled_change s place q (toggles before.desk.font)) (layered_state before) (layered_state after)

module _ {V : Type 0} {H : V → Type 0} where
  -- the window at this place of the list has these layers, and this as its update region; all else but the screen is as it was
  pub record AreLayersPut (at : ℕ) (layers : PlacedLayers) (update : Pixels) (t u : WindowManager V H) : Type 0 where
    pub area : Area
    pub there : area ≡ slice_index_or t.areas.items at area
    pub state : u ≡ record t {
      windows = record t.windows { records = edit_at (with_layers layers) at t.windows.records };
      screen = u.screen;
      areas = with_item t.areas at (record area { update = update });
    }

  -- the window at this place of the list may have these layers: they are apart, and lie in the range of coordinates where
  -- the window does
  pub record MayHaveLayers (at : ℕ) (t : WindowManager V H) (layers : PlacedLayers) : Type 0 where
    pub apart : ArePartsApart layers.layers
    pub there : (w : Window V H) → IsWindowAt t.windows.records.items at w → layers.place ≡ w.place
    pub fit : list_all (fits_at layers.place) layers.layers ≡ true

  -- the new layers gain this, where the part that is to be drawn afresh is this one
  abbrev pub IsGainedAt : ℕ → Option Part → WindowManager V H → Relaid → Type 0
  IsGainedAt at afresh t relaid = (w : Window V H) → IsWindowAt t.windows.records.items at w
      → IsGained w.place afresh w.layers.layers relaid.layers.layers relaid.gained

-- `loan` says what a definition that was taken means
module _ {V : Type 0} {H : V → Type 0} (loan : TakenBox V H → WindowLoan) where
  -- a window manager between calls in which as much of the content of the window at this place is visible, and of which this
  -- is to be redrawn
  pub record HasUpdate (at : ℕ) (update : Pixels) (t u : WindowManager V H) : Type 0 where
    pub kept : IsKept loan u
    pub low : at < length u.windows.records.items
    pub shown : (a b : Area) → a ≡ slice_index_or t.areas.items at a → b ≡ slice_index_or u.areas.items at b → (p : Point) → holds a.visible p ≡ holds b.visible p
    pub stale : (b : Area) → b ≡ slice_index_or u.areas.items at b → (p : Point) → holds update p ≡ holds b.update p

  -- the plan is right for each desk on which the window at this place has the new layers
  abbrev pub IsPlanOfLayers : ℕ → List Layer → Option Part → WindowManager V H → Relaying → Type 0
  IsPlanOfLayers at new afresh t r = (w : Window V H) → IsWindowAt t.windows.records.items at w → (after : LayeredDesk)
      → IsRelayered w.serial w.place w.layers.layers new (layered_desk (state_of loan t []).desk) after
      → IsRelaid w.serial afresh (layered_state (state_of loan t [])) after r
