-- Which window is to be updated first.
use Rattle.std.specs.Prelude.{◌≡◌, ◌⊎◌, ℕ, Bool, true, false, if◌then◌else◌, List, [], ◌∷◌, Option, None, Some}
use Rattle.tb_geom.specs.declared.point.Point.{Point}
use Rattle.tb_geom.specs.Points.{PixelSet}
use Rattle.vis_update.specs.Records.{WindowRecord}
use Rattle.window_mgr.specs.Telling.{update_of}
use Rattle.window_mgr.specs.DeskStates.{DeskState, is_updating}

-- the update region of the window of this serial, as it is told: while the window's update is open it is empty
abbrev pub update_told : ℕ → DeskState → PixelSet
update_told s state p = if is_updating s state.activity then false else update_of s state.windows p

-- the set has no pixel
abbrev pub IsEmpty : PixelSet → Type 0
IsEmpty set = (p : Point) → set p ≡ false

-- the answer to whether the window of this serial is to be updated: its update region has a pixel
abbrev pub IsWaiting : ℕ → DeskState → Bool → Type 0
IsWaiting s state true = IsEmpty (update_told s state) → ⊥
IsWaiting s state false = IsEmpty (update_told s state)

-- of these windows, the front one first, this is the first that is to be updated, or none is
abbrev pub IsFirstWaiting : DeskState → List WindowRecord → Option ℕ → Type 0
IsFirstWaiting state [] first = None ≡ first
IsFirstWaiting state (w ∷ ws) first =
    (IsWaiting w.serial state true × (Some w.serial ≡ first))
    ⊎ (IsWaiting w.serial state false × IsFirstWaiting state ws first)

-- of all windows
abbrev pub IsFirstToUpdate : DeskState → Option ℕ → Type 0
IsFirstToUpdate state first = IsFirstWaiting state state.windows.desk.windows first
