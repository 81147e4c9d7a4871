-- Scroll bars that are ended with their list, as the code does it.
use Rattle.std.specs.Prelude.{◌≡◌, ℕ, List, [], Option, None, Some, unwrap_or}
use Rattle.tb_geom.specs.Pixels.{Pixels}
use Rattle.def_iface.specs.Slots.{TakenBox}
use Rattle.def_iface.specs.ControlMeaning.{ControlLoan}
use Rattle.def_iface.specs.WindowMeaning.{WindowLoan}
use Rattle.def_iface.specs.WindowSlots.{WindowSlot}
use Rattle.window_list.specs.Holders.{PlacedLayers}
use Rattle.desk_call.specs.declared.control.ControlOf.{ControlOf}
use Rattle.window_mgr.specs.declared.manager.WindowManager.{WindowManager}
use Rattle.window_mgr.specs.DeskStates.{Opened}
use Rattle.window_mgr.specs.Records.{desk_of}
use Rattle.window_mgr.specs.Whole.{IsWholeManager}
use Rattle.control_mgr.specs.declared.controls.Controls.{Controls}
use Rattle.control_mgr.specs.declared.ending.Ending.{Ending}
use Rattle.control_mgr.specs.ControlDesks.{ControlSlot}
use Rattle.control_mgr.specs.Ending.{IsPlannedEnd, IsReadyToEnd}
use Rattle.control_mgr.specs.WholeControls.{AreWholeControls, controls_state}
use Rattle.list_mgr.specs.ListDesks.{ListsState}
use Rattle.list_mgr.specs.ListSteps.{IsBarGone}
use Rattle.list_mgr.specs.Lines.{desk_beside}
use Rattle.tb_geom.specs.Points.{PixelSet}
use Rattle.desk_layers.specs.declared.part.Part.{Part}

-- the serial of a scroll bar, or 0, which no control has, where a list was made without one
abbrev pub bar_serial : Option ℕ → ℕ
bar_serial bar = unwrap_or bar 0

abbrev pub bar_of : ℕ → Option ℕ → ControlOf
bar_of window bar = record { window = window; control = bar_serial bar }

module _ {W : Type 0} {K : W → Type 0} (control_loan : TakenBox W K → ControlLoan) {V : Type 0} {H : V → Type 0} (loan : TakenBox V H → WindowLoan) where
  -- the end of a scroll bar was planned, if a list was made with one and the window has it still, and else nothing was
  abbrev pub IsBarToEnd : ℕ → Option ℕ → WindowManager V H → Controls (TakenBox W K) → Option Ending → Type 0
  IsBarToEnd window None t m planned = planned ≡ None
  IsBarToEnd window (Some n) t m planned = IsPlannedEnd loan control_loan (record { window = window; control = n }) t m planned

  -- so it is for whatever windows and controls it can be ended beside as it was planned beside the windows `t`
  abbrev pub IsBarPlanned : ℕ → Option ℕ → ℕ → PlacedLayers → Pixels → WindowManager V H → Option Ending → Type 0
  IsBarPlanned window bar at ls update t planned = (u : WindowManager V H) (m : Controls (TakenBox W K))
      → IsReadyToEnd loan control_loan (bar_of window bar) at ls update t u m → IsBarToEnd window bar u m planned

  -- over any slots over which the windows are whole, and whatever the lists and other layers show, a scroll
  -- bar is there no more
  abbrev pub IsBarGoneOver : List ControlSlot → List ControlSlot → ℕ → Option ℕ → WindowManager V H → Controls (TakenBox W K) → WindowManager V H → Controls (TakenBox W K) → Type 0
  IsBarGoneOver held left window bar t c u d = (others : List ℕ → Part → PixelSet) (o : Opened) (slots : List WindowSlot) (lists : ListsState) → IsWholeManager loan t slots
      → AreWholeControls (desk_of loan t []).windows (controls_state control_loan c held)
      → IsWholeManager loan u slots × AreWholeControls (desk_of loan u []).windows (controls_state control_loan d left)
      × IsBarGone window bar (desk_beside control_loan loan t others o slots c held lists) (desk_beside control_loan loan u others o slots d left lists)
