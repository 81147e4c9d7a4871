-- Windows as they are to be.
use Rattle.std.specs.Prelude.{◌≡◌, ℕ, Bool, true, false, not, ◌&&◌, List, map, Some, All}
use Rattle.tb_geom.specs.declared.point.Point.{Point}
use Rattle.tb_geom.specs.Points.{PixelSet}
use Rattle.tb_geom.specs.Pixels.{Pixels, holds}
use Rattle.def_iface.specs.Slots.{TakenBox}
use Rattle.def_iface.specs.WindowMeaning.{WindowLoan}
use Rattle.desk_layers.specs.Desk.{LayeredDesk, IsDesk, on_screen, in_bar}
use Rattle.desk_layers.specs.Owner.{owner}
use Rattle.desk_layers.specs.Change.{State}
use Rattle.window_list.specs.declared.window.Window.{Window}
use Rattle.vis_update.specs.declared.area.Area.{Area}
use Rattle.vis_update.specs.declared.plan.Seat.{Seat}
use Rattle.vis_update.specs.Records.{WindowRecord, Look, layered_window}
use Rattle.vis_update.specs.Places.{is_placed}
use Rattle.vis_update.specs.Areas.{IsArea, IsNear}

-- where a window stands; structure and content are in its own coordinates
pub record Stand : Type 0 where
  pub serial : ℕ
  pub place : Point
  pub shown : Bool
  pub structure : PixelSet
  pub content : PixelSet

abbrev pub stand_of : WindowRecord → Stand
stand_of w = record {
  serial = w.serial;
  place = w.place;
  shown = w.shown;
  structure = w.definition.structure w.size;
  content = w.definition.content w.size;
}

-- a call changes whose pixels are in this area alone, which has no pixel of the menu bar
pub record IsChangedArea (before after : LayeredDesk) (changed : Pixels) : Type 0 where
  pub screen : (p : Point) → on_screen before p ≡ on_screen after p
  pub within : (p : Point) → holds changed p ≡ true → (on_screen after p && not (in_bar after p)) ≡ true
  pub outside : (p : Point) → holds changed p ≡ false → on_screen after p ≡ true → owner after p ≡ owner before p

module _ {V : Type 0} {H : V → Type 0} where
  -- the area that the window had
  abbrev pub area_had : Seat V H → Area
  area_had s = s.area.now

  -- the pixels that the window had are those of a screen
  abbrev pub IsNearSeat : Seat V H → Type 0
  IsNearSeat s = IsNear s.area.now.visible × IsNear s.area.now.update

  -- the seat of a window that stays as it is
  pub record IsSeatOf (w : Window V H) (a : Area) (s : Seat V H) : Type 0 where
    pub serial : s.serial ≡ w.serial
    pub place : s.place ≡ w.place
    pub size : s.size ≡ w.size
    pub shown : s.shown ≡ w.shown
    pub floating : s.floating ≡ w.floating
    pub taken : s.taken.now ≡ w.taken
    pub area : s.area.now ≡ a

-- `loan` says what a definition that was taken means
module _ {V : Type 0} {H : V → Type 0} (loan : TakenBox V H → WindowLoan) where
  abbrev pub seat_stand : Seat V H → Stand
  seat_stand s = record {
    serial = s.serial;
    place = s.place;
    shown = s.shown;
    structure = (loan s.taken.now).definition.structure s.size;
    content = (loan s.taken.now).definition.content s.size;
  }

  -- the window may be where it is to be
  abbrev pub IsPlacedSeat : Seat V H → Type 0
  IsPlacedSeat s = is_placed (Some (loan s.taken.now).definition) s.place s.size ≡ true

  -- the seats of the windows of a desk of this look, as a call leaves it, each with the area that its window had before, and
  -- where the call changes whose pixels are
  pub record IsArranged (look : Look) (before : State) (after : LayeredDesk) (windows : List WindowRecord) (changed : Pixels) (seats : List (Seat V H)) : Type 0 where
    pub desk : after.windows ≡ map (layered_window look) windows
    pub distinct : IsDesk after
    pub changes : IsChangedArea before.desk after changed
    pub stands : map seat_stand seats ≡ map stand_of windows
    pub areas : All (λ s. IsArea before.desk before.stale s.serial s.area.now) seats
