-- What is drawn of a list within a rectangle of its window, and steps that are made where the screen was right.
use Rattle.std.specs.Prelude.{◌≡◌, ℕ, false, List, Option, Some}
use Rattle.tb_geom.specs.declared.point.Point.{Point}
use Rattle.tb_geom.specs.declared.rect.Rect.{Rect}
use Rattle.tb_geom.specs.Rects.{rect_holds}
use Rattle.control_values.specs.Settings.{Setting}
use Rattle.desk_layers.specs.declared.part.Part.{Part}
use Rattle.window_mgr.specs.FullDesk.{FullState, IsRightState}
use Rattle.window_mgr.specs.Relayered.{IsLayerRedrawn}
use Rattle.list_mgr.specs.ListDesks.{KeptList, ListDesk, list_bit}
use Rattle.list_mgr.specs.ListSteps.{IsBarSet}

-- outside of this rectangle of its window the list shows what it showed
abbrev pub IsSameOutside : Rect → KeptList → KeptList → Type 0
IsSameOutside within before after = (font : List ℕ) (p : Point) → rect_holds within p ≡ false → list_bit font (Some after) p ≡ list_bit font (Some before) p

-- the part was drawn within the rectangle, where it is not to be redrawn: where all was right, and outside of the rectangle the
-- part shows what it showed, it was shown anew. Nothing else of the desk changed but what layers show
pub record IsPartDrawnWithin (within : Rect) (s : ℕ) (q : Part) (before after : FullState) : Type 0 where
  pub desk : after.desk ≡ record before.desk { shows = after.desk.shows }
  pub redrawn : IsRightState before → ((p : Point) → rect_holds within p ≡ false → after.desk.shows q p ≡ before.desk.shows q p)
      → IsLayerRedrawn s q before after

-- the step was made, where the screen was right before
abbrev pub IsWhereRight : (ListDesk → ListDesk → Type 0) → ListDesk → ListDesk → Type 0
IsWhereRight step before after = IsRightState before.desk.windows → step before after

-- a scroll bar that a list was made with got this setting where the screen was right; its window is as it was
pub record IsBarGiven (window : ℕ) (bar : Option ℕ) (setting : Setting) (before after : ListDesk) : Type 0 where
  pub windows : after.desk.windows.desk.windows ≡ before.desk.windows.desk.windows
  pub set : IsWhereRight (IsBarSet window bar setting) before after
