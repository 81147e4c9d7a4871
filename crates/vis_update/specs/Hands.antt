-- Where one window is put anew among others, or is gone or new.
use Rattle.std.specs.Prelude.{◌≡◌, ℕ, ◌==◌, not, ◌&&◌, ◌||◌, List, [], ◌∷◌, map, if◌then◌else◌}
use Rattle.tb_geom.specs.declared.point.Point.{Point}
use Rattle.tb_geom.specs.Points.{PixelSet, minus}
use Rattle.tb_geom.specs.Pixels.{Pixels, holds}
use Rattle.def_iface.specs.Slots.{TakenBox}
use Rattle.def_iface.specs.WindowMeaning.{WindowLoan}
use Rattle.vis_update.specs.declared.area.Area.{Area}
use Rattle.vis_update.specs.declared.plan.Seat.{Seat}
use Rattle.vis_update.specs.Records.{WindowRecord}
use Rattle.vis_update.specs.Seats.{stand_of, seat_stand}

-- the windows but those of this serial
abbrev pub except : ℕ → List WindowRecord → List WindowRecord
except t [] = []
except t (w ∷ ws) = if t == w.serial then except t ws else w ∷ except t ws

-- the others stand alike, in the same order, and have the same layers
pub record SameOthers (t : ℕ) (were are : List WindowRecord) : Type 0 where
  pub stands : map stand_of (except t were) ≡ map stand_of (except t are)
  pub layers : map (λ (w : WindowRecord). w.layers) (except t were) ≡ map (λ (w : WindowRecord). w.layers) (except t are)

-- the region has what of the gray region a window had, and what it is to cover
abbrev pub IsChangedWith : Area → PixelSet → Pixels → Pixels → Type 0
IsChangedWith old covers gray changed = (p : Point) → holds changed p ≡ (((holds old.visible p || holds old.frame p) || covers p) && holds gray p)

-- what of the changed area a window did not have
abbrev pub IsLostOf : Area → Pixels → Pixels → Type 0
IsLostOf old changed lost = (p : Point) → holds lost p ≡ ((holds changed p && not (holds old.visible p)) && not (holds old.frame p))

-- `loan` says what a definition that was taken means
module _ {V : Type 0} {H : V → Type 0} (loan : TakenBox V H → WindowLoan) where
  -- what a window covers where it is to be
  abbrev pub covers : Seat V H → PixelSet
  covers s p = s.shown && (seat_stand loan s).structure (minus p s.place)
