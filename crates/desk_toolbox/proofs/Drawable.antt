-- A Toolbox whose managers are whole can be painted from nothing.
use Rattle.def_iface.specs.Slots.{TakenBox}
use Rattle.def_iface.specs.ControlMeaning.{ControlLoan}
use Rattle.def_iface.specs.ListMeaning.{ListLoan}
use Rattle.def_iface.specs.WindowMeaning.{WindowLoan}
use Rattle.def_iface.specs.MenuMeaning.{MenuLoan}
use Rattle.def_iface.specs.Stocks.{AllSlots}
use Rattle.desk_toolbox.specs.declared.toolbox.Toolbox.{Toolbox}
use Rattle.desk_toolbox.specs.WholeToolbox.{AreWholeManagers, IsDrawableToolbox}

pub drawable : {V : Type 0} {H : V → Type 0} (loan : TakenBox V H → WindowLoan) {W : Type 0} {K : W → Type 0} (menu_loan : TakenBox W K → MenuLoan) {U : Type 0} {J : U → Type 0} (control_loan : TakenBox U J → ControlLoan) {X : Type 0} {L : X → Type 0} (list_loan : TakenBox X L → ListLoan)
    (t : Toolbox V U W X H J K L) (stocks : AllSlots) → AreWholeManagers loan menu_loan control_loan list_loan t stocks → IsDrawableToolbox loan menu_loan control_loan list_loan t
drawable loan menu_loan control_loan list_loan t stocks whole = record {
  sides = whole.windows.sound.screen;
  windows = whole.windows.sound.settled;
  controls = whole.controls.settled;
  lists = whole.lists.settled;
  menus = whole.menus.live;
  placed = whole.menus.placed;
  front = whole.front;
}
