-- All that a call changes on the screen.
use Rattle.std.specs.Prelude.{◌≡◌, ℕ, true, false, not, ◌==◌, ◌&&◌, ◌||◌, List, [], ◌∷◌, Option, None, Some}
use Rattle.tb_geom.specs.declared.point.Point.{Point}
use Rattle.tb_geom.specs.Points.{PixelSet, minus}
use Rattle.tb_geom.specs.Pixels.{Pixels, holds}
use Rattle.def_iface.specs.Slots.{TakenBox}
use Rattle.def_iface.specs.WindowMeaning.{WindowLoan, IsWithin}
use Rattle.desk_layers.specs.Desk.{LayeredDesk, on_screen}
use Rattle.desk_layers.specs.Owner.{owner, same_owner}
use Rattle.desk_layers.specs.Owner.Owner.{Frame}
use Rattle.desk_layers.specs.Change.{Change, State, had, stale_by}
use Rattle.vis_update.specs.declared.area.Area.{Area}
use Rattle.vis_update.specs.declared.plan.Repaint.{Repaint}
use Rattle.vis_update.specs.declared.plan.Plan.{Plan}
use Rattle.vis_update.specs.declared.plan.Seat.{Seat}
use Rattle.vis_update.specs.declared.plan.Touch.{Touch}
use Rattle.vis_update.specs.Records.{WindowRecord}
use Rattle.vis_update.specs.Areas.{AreAreas, IsDesktop, is_content_of}
use Rattle.vis_update.specs.Touches.{change_of, way_of, came_from, draws_whole, moves}
use Rattle.vis_update.specs.Seats.{seat_stand}

-- what is stale after a change
abbrev pub stale_after : Change → State → LayeredDesk → PixelSet
stale_after c before after p = stale_by c before (owner after p) p

-- what of the area is to be redrawn is visible
abbrev pub IsUpdateVisible : Area → Type 0
IsUpdateVisible a = (p : Point) → holds a.update p ≡ true → holds a.visible p ≡ true

-- each window has its area after a change
abbrev pub AreAreasAfter : Change → State → LayeredDesk → List WindowRecord → List Area → Type 0
AreAreasAfter c before after ws areas = AreAreas after (stale_after c before after) ws areas

-- the area of a window after a call that may leave it as it was
abbrev pub area_then : Area → Option Area → Area
area_then old None = old
area_then old (Some a) = a

-- the areas of windows then
abbrev pub areas_then : List Area → List (Option Area) → List Area
areas_then [] planned = []
areas_then (old ∷ olds) [] = old ∷ olds
areas_then (old ∷ olds) (a ∷ planned) = area_then old a ∷ areas_then olds planned

-- a part of which nothing is drawn
pub record IsEmptyPart (part : Repaint) : Type 0 where
  pub erase : (p : Point) → holds part.erase p ≡ false
  pub redraw : (p : Point) → holds part.redraw p ≡ false

-- what is to be made white of a window's content, and drawn of its frame
pub record IsPart (t : Touch) (before : State) (after : LayeredDesk) (serial : ℕ) (part : Repaint) : Type 0 where
  pub erase : (p : Point) → holds part.erase p
      ≡ ((on_screen after p && is_content_of serial (owner after p)) && not (had (change_of t) before.desk (owner after p) p))
  pub redraw : (p : Point) → holds part.redraw p
      ≡ ((on_screen after p && same_owner (owner after p) (Frame serial))
      && (draws_whole t serial || not (on_screen before.desk p && same_owner (owner before.desk p) (Frame serial))))

-- each window has its part
abbrev pub ArePlanParts : Touch → State → LayeredDesk → List WindowRecord → List Repaint → Type 0
ArePlanParts t before after [] [] = Unit {0}
ArePlanParts t before after (w ∷ ws) (part ∷ parts) = IsPart t before after w.serial part × ArePlanParts t before after ws parts
ArePlanParts t before after [] (part ∷ parts) = ⊥
ArePlanParts t before after (w ∷ ws) [] = ⊥

-- all that changes on the screen, where `desktop` was what of it no window owned, and the windows had these areas
pub record IsPlan (t : Touch) (before : State) (after : LayeredDesk) (desktop : Pixels) (olds : List Area) (windows : List WindowRecord) (plan : Plan) : Type 0 where
  pub areas : AreAreasAfter (change_of t) before after windows (areas_then olds plan.areas.items)
  pub parts : ArePlanParts t before after windows plan.parts.items
  pub desktop_is : IsDesktop after plan.desktop
  pub uncovered : (p : Point) → holds plan.uncovered p ≡ (holds plan.desktop p && not (holds desktop p))
  pub copied : (p : Point) → holds plan.copied p
      ≡ ((on_screen after p && moves t (owner after p)) && had (change_of t) before.desk (owner after p) p)

-- what a window's content has where it arrives, if it moves: what is not erased
abbrev pub arrives : Option Point → Option Area → Repaint → PixelSet
arrives (Some by) (Some a) part p = holds a.visible p && not (holds part.erase p)
arrives (Some by) None part p = false
arrives None a part p = false

module _ {V : Type 0} {H : V → Type 0} where
  -- what another window than the one that the call is about had of the changed area is lost to it
  abbrev pub IsLosing : Touch → PixelSet → PixelSet → Seat V H → Type 0
  IsLosing t changed lost s = (s.serial == t.window) ≡ false → (p : Point) → (holds s.area.now.visible p || holds s.area.now.frame p) ≡ true → changed p ≡ true → lost p ≡ true

-- `loan` says what a definition that was taken means
module _ {V : Type 0} {H : V → Type 0} (loan : TakenBox V H → WindowLoan) where
  -- what a window takes of the rest, for its content and around that, and what it leaves
  pub record IsShare (rest : PixelSet) (s : Seat V H) (inner outer : Pixels) (left : PixelSet) : Type 0 where
    pub taken : (p : Point) → holds inner p ≡ ((seat_stand loan s).content (minus p s.place) && (s.shown && rest p))
    pub around : (p : Point) → holds outer p ≡ (((seat_stand loan s).structure (minus p s.place) && not ((seat_stand loan s).content (minus p s.place))) && (s.shown && rest p))
    pub leaves : (p : Point) → left p ≡ (rest p && not (s.shown && (seat_stand loan s).structure (minus p s.place)))
    pub within : s.shown ≡ true → IsWithin (seat_stand loan s).content (seat_stand loan s).structure

  -- the window is hidden, or its structure has no pixel of the rest
  pub record IsBeside (rest : PixelSet) (s : Seat V H) : Type 0 where
    pub clear : s.shown ≡ true → (p : Point) → rest p ≡ true → (seat_stand loan s).structure (minus p s.place) ≡ false
    pub within : s.shown ≡ true → IsWithin (seat_stand loan s).content (seat_stand loan s).structure

  -- nothing changes of the window: the call is about another, it had nothing of what is lost, and takes nothing of the rest
  pub record IsLeftAlone (t : Touch) (lost rest : PixelSet) (s : Seat V H) : Type 0 where
    pub other : (s.serial == t.window) ≡ false
    pub visible : (p : Point) → holds s.area.now.visible p ≡ true → lost p ≡ false
    pub frame : (p : Point) → holds s.area.now.frame p ≡ true → lost p ≡ false
    pub beside : IsBeside rest s

  -- what a window has after a call: what it had outside the changed area, and what it takes of the rest of that; what of that
  -- is to be drawn, and what it leaves
  pub record IsSwept (t : Touch) (changed rest : PixelSet) (s : Seat V H) (a : Area) (part : Repaint) (left : PixelSet) : Type 0 where
    pub visible : (p : Point) → holds a.visible p
        ≡ ((holds s.area.now.visible p && not (changed p)) || ((seat_stand loan s).content (minus p s.place) && (s.shown && rest p)))
    pub update : IsUpdateVisible s.area.now → (p : Point) → let q = came_from (way_of t s.serial) p in
        holds a.update p ≡ (holds a.visible p && not (holds s.area.now.visible q && not (holds s.area.now.update q)))
    pub frame : (p : Point) → holds a.frame p
        ≡ ((holds s.area.now.frame p && not (changed p))
        || (((seat_stand loan s).structure (minus p s.place) && not ((seat_stand loan s).content (minus p s.place))) && (s.shown && rest p)))
    pub erase : (p : Point) → holds part.erase p ≡ (holds a.visible p && not (holds s.area.now.visible (came_from (way_of t s.serial) p)))
    pub redraw : (p : Point) → holds part.redraw p ≡ (holds a.frame p && (draws_whole t s.serial || not (holds s.area.now.frame p)))
    pub leaves : (p : Point) → left p ≡ (rest p && not (s.shown && (seat_stand loan s).structure (minus p s.place)))
    pub within : s.shown ≡ true → IsWithin (seat_stand loan s).content (seat_stand loan s).structure
