-- One window taken out of the others, as the code does it.
use Rattle.std.specs.Prelude.{◌≡◌, ℕ, List, [], map, None, true}
use Rattle.std.specs.List.{remove}
use Rattle.def_iface.specs.Slots.{TakenBox}
use Rattle.def_iface.specs.WindowMeaning.{WindowLoan}
use Rattle.desk_layers.specs.Desk.{IsDesk}
use Rattle.window_list.specs.declared.window.Window.{Window}
use Rattle.vis_update.specs.declared.area.Area.{Area}
use Rattle.vis_update.specs.declared.plan.Plan.{Plan}
use Rattle.vis_update.specs.declared.plan.Seat.{Seat}
use Rattle.vis_update.specs.declared.plan.Touch.{Touch}
use Rattle.vis_update.specs.Records.{WindowRecord, record_of}
use Rattle.vis_update.specs.Seats.{stand_of}
use Rattle.vis_update.specs.Plans.{IsPlan, areas_then}
use Rattle.window_mgr.specs.declared.arrange.Activates.TheVariants.{FrontInItsPlace}
use Rattle.window_mgr.specs.declared.arrange.Activation.{Activation}
use Rattle.window_mgr.specs.declared.manager.WindowManager.{WindowManager}
use Rattle.window_mgr.specs.FullDesk.{FullDesk, layered_desk, layered_state}
use Rattle.window_mgr.specs.Records.{desk_of, state_of}
use Rattle.window_mgr.specs.Arrange.{activation_of, active_after}
use Rattle.window_mgr.specs.Edits.{IsWindowAt, relit_all}
use Rattle.window_mgr.specs.Finding.{front_of}
use Rattle.window_mgr.specs.Commits.{IsPlanDrawn}
use Rattle.window_mgr.specs.Seats.{AreSeatsOf}

module _ {V : Type 0} {H : V → Type 0} where
  -- the seats of the windows but the one at this place
  pub record AreSeatsWithout (at : ℕ) (ws : List (Window V H)) (areas : List Area) (seats : List (Seat V H)) : Type 0 where
    pub all : List (Seat V H)
    pub are : AreSeatsOf ws areas all
    pub is : seats ≡ remove all at

-- `loan` says what a definition that was taken means
module _ {V : Type 0} {H : V → Type 0} (loan : TakenBox V H → WindowLoan) where
  -- the records of the windows but the one at this place
  abbrev pub records_without : ℕ → WindowManager V H → List WindowRecord
  records_without at t = map (record_of loan) (remove t.windows.records.items at)

  -- a desk on which the windows but the one at this place stand as they do, with their layers
  pub record IsDeskWithout (at : ℕ) (t : WindowManager V H) (after : FullDesk) : Type 0 where
    pub distinct : IsDesk (layered_desk after)
    pub screen : layered_desk after ≡ record (layered_desk (desk_of loan t [])) { windows = (layered_desk after).windows }
    pub stands : map stand_of after.windows ≡ map stand_of (records_without at t)
    pub layers : map (λ v. v.layers) after.windows ≡ map (λ v. v.layers) (records_without at t)

  -- the plan is right for each such desk, where this window is the one that is gone
  abbrev pub IsPlanWithout : ℕ → ℕ → WindowManager V H → Plan → Type 0
  IsPlanWithout at s t plan = (after : FullDesk) → IsDeskWithout at t after
      → let touch : Touch = record { window = s; by = None; whole = true } in
      IsPlan touch (layered_state (state_of loan t [])) (layered_desk after) t.desktop (remove t.areas.items at) after.windows plan

  -- where the window was active, the first visible one of the others becomes so
  abbrev pub IsActivationWithout : ℕ → ℕ → WindowManager V H → Activation → Type 0
  IsActivationWithout at s t activation =
      activation ≡ activation_of FrontInItsPlace s t.windows.active (front_of (records_without at t))

  -- another window became active where that is so, the one at this place was taken out, with its definition, and the plan
  -- was drawn
  pub record IsTakenOff (at : ℕ) (activation : Activation) (plan : Plan) (taken : TakenBox V H)
      (old new : WindowManager V H) : Type 0 where
    pub window : Window V H
    pub there : IsWindowAt old.windows.records.items at window
    pub its : taken ≡ window.taken
    pub windows : new.windows.records.items ≡ relit_all activation old.windows.active (remove old.windows.records.items at)
    pub drawn : IsPlanDrawn plan None old.font (map (record_of loan) new.windows.records.items) old.screen new.screen
    pub areas : new.areas.items ≡ areas_then (remove old.areas.items at) plan.areas.items
    pub desktop : new.desktop ≡ plan.desktop
    pub bar : new.bar ≡ old.bar
    pub font : new.font ≡ old.font
    pub gray : new.gray ≡ old.gray
    pub active : new.windows.active ≡ active_after activation old.windows.active
    pub next : new.windows.next ≡ old.windows.next
