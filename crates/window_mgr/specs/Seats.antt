-- The seats of the windows of a list.
use Rattle.std.specs.Prelude.{◌≡◌, ℕ, Bool, not, ◌&&◌, if◌then◌else◌, List, [], ◌∷◌, Option, None, Some}
use Rattle.std.specs.List.{insert}
use Rattle.vis_update.specs.declared.area.Area.{Area}
use Rattle.vis_update.specs.declared.plan.Seat.{Seat}
use Rattle.vis_update.specs.Seats.{IsSeatOf}
use Rattle.window_list.specs.declared.window.Window.{Window}

module _ {V : Type 0} {H : V → Type 0} where
  -- each window has its seat
  abbrev pub AreSeatsOf : List (Window V H) → List Area → List (Seat V H) → Type 0
  AreSeatsOf [] [] [] = Unit {0}
  AreSeatsOf (w ∷ ws) (a ∷ areas) (s ∷ seats) = IsSeatOf w a s × AreSeatsOf ws areas seats
  AreSeatsOf _ _ _ = ⊥

  -- the same, and one more at this place
  pub record AreSeatsWith (k : ℕ) (added : Seat V H) (ws : List (Window V H)) (areas : List Area) (seats : List (Seat V H)) : Type 0 where
    pub all : List (Seat V H)
    pub are : AreSeatsOf ws areas all
    pub is : seats ≡ insert all k added

  -- the window that sits here is to be visible, and is ordinary
  abbrev pub seat_leads : Seat V H → Bool
  seat_leads s = s.shown && not s.floating

  -- the serial of the first visible ordinary window
  abbrev pub first_seated : List (Seat V H) → Option ℕ
  first_seated [] = None
  first_seated (s ∷ seats) = if seat_leads s then Some s.serial else first_seated seats
