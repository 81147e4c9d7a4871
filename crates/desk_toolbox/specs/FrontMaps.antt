-- What holds of the map in front of the screen between calls.
use Rattle.def_iface.specs.Slots.{TakenBox}
use Rattle.def_iface.specs.MenuMeaning.{MenuLoan}
use Rattle.overlay.specs.declared.overlay.Overlay.{Overlay}
use Rattle.desk_call.specs.declared.activity.Activity.{Activity}
use Rattle.desk_call.specs.Outlines.{IsOutlineKept}
use Rattle.window_mgr.specs.declared.manager.WindowManager.{WindowManager}
use Rattle.window_outline.specs.ShownOutlines.{IsOutlineShown}
use Rattle.menu_mgr.specs.declared.menus.Menus.{Menus}
use Rattle.menu_mgr.specs.WholeMenus.{IsMenuFront}

module _ {V : Type 0} {H : V → Type 0} {W : Type 0} {K : W → Type 0} (menu_loan : TakenBox W K → MenuLoan) where
  -- the map is as wide and high as the screen, and shows the menu that is pulled down; of a window that is dragged or grown the
  -- outline is one, and the map shows that
  pub record IsFrontRight (activity : Activity) (t : WindowManager V H) (m : Menus W K) (front : Overlay) : Type 0 where
    pub menu : IsMenuFront menu_loan activity t m front
    pub kept : IsOutlineKept activity
    pub outline : IsOutlineShown activity t front
