-- How what changes of a list is shown, as the code does it.
use Rattle.std.specs.Prelude.{◌≡◌, ◌<◌, ℕ, Bool, true, false, ◌&&◌, ◌||◌, List, length, Option, None, Some, slice_get, slice_index_or}
use Rattle.tb_geom.specs.declared.point.Point.{Point}
use Rattle.tb_geom.specs.declared.rect.Rect.{Rect}
use Rattle.tb_geom.specs.Points.{PixelSet, minus}
use Rattle.tb_geom.specs.Pixels.{Pixels, holds}
use Rattle.tb_geom.specs.Rects.{rect_holds}
use Rattle.desk_layers.specs.declared.part.Part.{Part}
use Rattle.desk_layers.specs.declared.part.Part.TheVariants as part
use Rattle.def_iface.specs.Slots.{TakenBox}
use Rattle.def_iface.specs.ListMeaning.{ListLoan}
use Rattle.def_iface.specs.WindowMeaning.{WindowLoan}
use Rattle.def_iface.specs.WindowSlots.{WindowSlot}
use Rattle.window_list.specs.declared.layer.Layer.{Layer}
use Rattle.list_cells.specs.declared.selecting.Selecting.{Selecting}
use Rattle.list_cells.specs.Selections.{IsChange, selected_by}
use Rattle.list_view.specs.Shown.{is_turned}
use Rattle.window_list.specs.Holders.{belongs_to}
use Rattle.vis_update.specs.declared.area.Area.{Area}
use Rattle.window_list.specs.declared.window.Window.{Window}
use Rattle.window_mgr.specs.declared.manager.WindowManager.{WindowManager}
use Rattle.window_mgr.specs.DrawnWithin.{WritesPart}
use Rattle.window_mgr.specs.Edits.{IsWindowAt}
use Rattle.window_mgr.specs.FullDesk.{FullState}
use Rattle.window_mgr.specs.Records.{state_of, state_showing}
use Rattle.window_mgr.specs.Relayered.{IsLayerToggled}
use Rattle.window_mgr.specs.Whole.{IsWholeManager}
use Rattle.list_mgr.specs.declared.lists.Lists.{Lists}
use Rattle.list_mgr.specs.declared.spots.ListAt.{ListAt}
use Rattle.list_mgr.specs.ListDesks.{KeptList, list_bit, with_serial}
use Rattle.list_mgr.specs.ListSteps.{IsLayerMarked, IsLayerOf}
use Rattle.list_mgr.specs.WholeLists.{records_of}
use Rattle.list_mgr.specs.Within.{IsPartDrawnWithin}

-- a change made another thing of one, or the same
abbrev pub IsSameOrNot : {X : Type 0} → Bool → X → X → Type 0
IsSameOrNot true after before = after ≡ before → ⊥
IsSameOrNot false after before = after ≡ before

module _ {X : Type 0} {L : X → Type 0} (list_loan : TakenBox X L → ListLoan) where
  -- the layer at this place is that of the list that stands here
  pub record IsItsLayer (m : Lists (TakenBox X L)) (s : ListAt) (layers : List Layer) (at : ℕ) : Type 0 where
    pub list : KeptList
    pub there : slice_get (records_of list_loan m) s.list ≡ Some list
    pub low : at < length layers
    pub is : (k : Layer) → k ≡ slice_index_or layers at k → IsLayerOf list k

  -- the list that stands here is drawn
  abbrev pub IsDrawing : Bool → Lists (TakenBox X L) → ListAt → Type 0
  IsDrawing drawing m s = (x : KeptList) × (slice_get (records_of list_loan m) s.list ≡ Some x) × (x.kept.drawing ≡ drawing)

  module _ {V : Type 0} {H : V → Type 0} (loan : TakenBox V H → WindowLoan) where
    -- the region is the update region of the window that the list stands in, with all that the list owns
    abbrev pub IsMarkedRegion : WindowManager V H → Lists (TakenBox X L) → ListAt → Pixels → Type 0
    IsMarkedRegion t m s update = (w : Window V H) (a : Area) (x : KeptList) → IsWindowAt t.windows.records.items s.window w
        → a ≡ slice_index_or t.areas.items s.window a → slice_get (records_of list_loan m) s.list ≡ Some x → (p : Point)
        → holds update p ≡ (holds a.update p || (holds a.visible p && belongs_to (part.List x.serial) w.layers.layers (minus p w.layers.place)))

    -- nothing is marked of a list whose drawing is on, and all that it owns of another
    abbrev pub IsMark : WindowManager V H → Lists (TakenBox X L) → ListAt → Option Pixels → Type 0
    IsMark t m s None = IsDrawing true m s
    IsMark t m s (Some update) = IsDrawing false m s × IsMarkedRegion t m s update

    -- over any slots over which the windows are whole, and whatever controls and lists showed, they are whole afterwards, and this
    -- is what became of their state, where lists and other layers show that now
    abbrev pub LeavesShown : (FullState → FullState → Type 0) → (was is : List ℕ → Part → PixelSet) → WindowManager V H → WindowManager V H → Type 0
    LeavesShown step was is t u = (slots : List WindowSlot) → IsWholeManager loan t slots
        → IsWholeManager loan u slots × step (state_showing was (state_of loan t slots)) (state_showing is (state_of loan u slots))

    -- of the screen no pixel was written but those that the list that stands here owns within a rectangle of its window, and that are
    -- not to be redrawn
    abbrev pub WritesList : Rect → ListAt → Lists (TakenBox X L) → WindowManager V H → WindowManager V H → Type 0
    WritesList within s m t u = (x : KeptList) → slice_get (records_of list_loan m) s.list ≡ Some x
        → (w : Window V H) → IsWindowAt t.windows.records.items s.window w
        → WritesPart loan w.serial (part.List x.serial) w.place (rect_holds within) t u

    -- what it leaves of the windows that the list x, which may have changed, is drawn within a rectangle of its window
    abbrev pub IsDrawnBy : Rect → Lists (TakenBox X L) → KeptList → WindowManager V H → WindowManager V H → Type 0
    IsDrawnBy within m x t u = (was is : List ℕ → Part → PixelSet)
        → ((p : Point) → is t.font (part.List x.serial) p ≡ list_bit t.font (with_serial x.serial (records_of list_loan m)) p)
        → LeavesShown (IsPartDrawnWithin within x.window (part.List x.serial)) was is t u

    -- what it leaves of them that all that the list owns is to be redrawn
    abbrev pub IsListMarkedBy : KeptList → WindowManager V H → WindowManager V H → Type 0
    IsListMarkedBy x t u = (was is : List ℕ → Part → PixelSet) → LeavesShown (IsLayerMarked x.window (part.List x.serial)) was is t u

    -- the list that stands here was drawn within the rectangle, or marked where its drawing is off and something of it changes
    abbrev pub IsShownOrMarked : Rect → Option Pixels → Bool → ListAt → Lists (TakenBox X L) → WindowManager V H → WindowManager V H → Type 0
    IsShownOrMarked within None changes s m t u = (x : KeptList) → slice_get (records_of list_loan m) s.list ≡ Some x → IsDrawnBy within m x t u
    IsShownOrMarked within (Some update) true s m t u = (x : KeptList) → slice_get (records_of list_loan m) s.list ≡ Some x → IsListMarkedBy x t u
    IsShownOrMarked within (Some update) false s m t u = u ≡ t

    -- what it leaves of them that what this makes of the selection of the list x, in the window that stands here, highlights
    -- otherwise was inverted
    abbrev pub IsToggledBy : Selecting → ListAt → KeptList → WindowManager V H → WindowManager V H → Type 0
    IsToggledBy selecting s x t u = (w : Window V H) → IsWindowAt t.windows.records.items s.window w → (was is : List ℕ → Part → PixelSet)
        → LeavesShown (IsLayerToggled x.window w.place (part.List x.serial)
        (λ font. is_turned font x.kept.definition.definition x.kept.view x.kept.cells (selected_by selecting x.kept.cells))) was is t u

    -- it was marked where something of it changes
    abbrev pub IsMarkedIf : Bool → KeptList → WindowManager V H → WindowManager V H → Type 0
    IsMarkedIf true x t u = IsListMarkedBy x t u
    IsMarkedIf false x t u = u ≡ t

    -- the list x was toggled, or marked where its drawing is off and something is toggled
    abbrev pub IsToggledAs : Option Pixels → Selecting → ListAt → KeptList → WindowManager V H → WindowManager V H → Type 0
    IsToggledAs None selecting s x t u = IsToggledBy selecting s x t u
    IsToggledAs (Some update) selecting s x t u =
        (changes : Bool) × IsChange changes x.kept.cells (selected_by selecting x.kept.cells) × IsMarkedIf changes x t u

    -- so was the list that stands here
    abbrev pub IsToggledOrMarked : Option Pixels → Selecting → ListAt → Lists (TakenBox X L) → WindowManager V H → WindowManager V H → Type 0
    IsToggledOrMarked mark selecting s m t u = (x : KeptList) → slice_get (records_of list_loan m) s.list ≡ Some x → IsToggledAs mark selecting s x t u
