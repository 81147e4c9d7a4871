-- Scroll bars that are set, and lists that are shown with them, as the code does it.
use Rattle.std.specs.Prelude.{ℕ, Bool, List, [], Option}
use Rattle.tb_geom.specs.declared.rect.Rect.{Rect}
use Rattle.tb_geom.specs.Pixels.{Pixels}
use Rattle.control_values.specs.Settings.{Setting}
use Rattle.def_iface.specs.Slots.{TakenBox}
use Rattle.def_iface.specs.ControlMeaning.{ControlLoan}
use Rattle.def_iface.specs.ListMeaning.{ListLoan}
use Rattle.def_iface.specs.WindowMeaning.{WindowLoan}
use Rattle.def_iface.specs.WindowSlots.{WindowSlot}
use Rattle.desk_call.specs.declared.list.ListOf.{ListOf}
use Rattle.window_mgr.specs.declared.manager.WindowManager.{WindowManager}
use Rattle.window_mgr.specs.DeskStates.{Opened}
use Rattle.window_mgr.specs.Records.{desk_of}
use Rattle.window_mgr.specs.Whole.{IsWholeManager}
use Rattle.control_mgr.specs.declared.controls.Controls.{Controls}
use Rattle.control_mgr.specs.ControlDesks.{ControlSlot}
use Rattle.control_mgr.specs.WholeControls.{AreWholeControls, control_desk, controls_state}
use Rattle.list_mgr.specs.declared.lists.Lists.{Lists}
use Rattle.list_mgr.specs.declared.spots.ListAt.{ListAt}
use Rattle.list_mgr.specs.Changing.{IsShownOrMarked}
use Rattle.list_mgr.specs.ListDesks.{ListDesk, ListsState, lists_show}
use Rattle.list_mgr.specs.ListSteps.{AreBarsSet}
use Rattle.list_mgr.specs.Spots.{IsSpotOf}
use Rattle.list_mgr.specs.WholeLists.{LeavesLists}
use Rattle.list_mgr.specs.Within.{IsBarGiven, IsWhereRight}
use Rattle.tb_geom.specs.Points.{PixelSet}
use Rattle.desk_layers.specs.declared.part.Part.{Part}

module _ {W : Type 0} {K : W → Type 0} (control_loan : TakenBox W K → ControlLoan) {V : Type 0} {H : V → Type 0} (loan : TakenBox V H → WindowLoan) where
  -- windows and controls with these lists, as a desk where other layers show this
  abbrev pub desk_beside : WindowManager V H → (List ℕ → Part → PixelSet) → Opened → List WindowSlot → Controls (TakenBox W K) → List ControlSlot → ListsState → ListDesk
  desk_beside t others o slots c held lists = record {
    desk = (control_desk control_loan loan (lists_show others lists.lists) t o slots c held).desk;
    controls = controls_state control_loan c held;
    lists = lists;
    others = others;
  }

  -- over any slots over which the windows are whole, and whatever the lists and other layers show, a scroll
  -- bar got a setting that a list was made with
  abbrev pub IsBarSetOver : ℕ → Option ℕ → Setting → WindowManager V H → Controls (TakenBox W K) → WindowManager V H → Controls (TakenBox W K) → Type 0
  IsBarSetOver window bar setting t c u d = (others : List ℕ → Part → PixelSet) (o : Opened) (slots : List WindowSlot) (held : List ControlSlot) (lists : ListsState) → IsWholeManager loan t slots
      → AreWholeControls (desk_of loan t []).windows (controls_state control_loan c held)
      → IsWholeManager loan u slots × AreWholeControls (desk_of loan u []).windows (controls_state control_loan d held)
      × IsBarGiven window bar setting (desk_beside t others o slots c held lists) (desk_beside u others o slots d held lists)

  -- the list that stands here was drawn within the rectangle, or marked, and then its scroll bars were set
  abbrev pub IsShownWithBars : {X : Type 0} {L : X → Type 0} → (TakenBox X L → ListLoan) → Rect → Option Pixels → Bool → ListAt → Lists (TakenBox X L)
      → WindowManager V H → Controls (TakenBox W K) → WindowManager V H → Controls (TakenBox W K) → Type 0
  IsShownWithBars list_loan within mark changes s m t c u d = (l : ListOf) → IsSpotOf loan list_loan l t m s
      → (mid : WindowManager V H) × IsShownOrMarked list_loan loan within mark changes s m t mid × LeavesLists list_loan loan control_loan (IsWhereRight (AreBarsSet l)) mid c m u d m
