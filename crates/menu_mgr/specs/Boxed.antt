-- Menus beside windows, and their stock, seen through what boxes of definitions mean.
use Rattle.std.specs.Prelude.{List}
use Rattle.std.specs.declared.alloc.Global.{Global}
use Rattle.std.specs.declared.dyn_box.DynBox.{DynBox}
use Rattle.def_iface.specs.declared.menu_def.MenuDef as menu_def
use Rattle.def_iface.specs.declared.slots.Slots.{Slots}
use Rattle.def_iface.specs.declared.window_def.WindowDef as window_def
use Rattle.def_iface.specs.Boxed.{menu_loan_by, window_loan_by}
use Rattle.def_iface.specs.Slots.{slots_by}
use Rattle.desk_call.specs.declared.activity.Activity.{Activity}
use Rattle.overlay.specs.declared.overlay.Overlay.{Overlay}
use Rattle.window_mgr.specs.declared.manager.WindowManager.{WindowManager}
use Rattle.window_mgr.specs.DeskStates.{Opened}
use Rattle.menu_mgr.specs.declared.menus.Menus.{Menus}
use Rattle.menu_mgr.specs.Leaving as leaving
use Rattle.menu_mgr.specs.Leaving.{AreKeptMenus, LeavesMenus}
use Rattle.menu_mgr.specs.MenuDesks.{MenuDesk, MenuRecord, MenuSlot}
use Rattle.menu_mgr.specs.WholeMenus.{IsMenuFront, IsWholeMenus, menus_of}

-- `menu` says what a box of a menu's definition means, and `window` what one of a window's
module _ {W : Type 0} {K : W → Type 0} (menu : (b : DynBox W Global K) → menu_def.Ghosts (K b.vtable)) where
  -- the menus as plain data
  abbrev pub menus : Menus W K → List MenuRecord
  menus m = menus_of (menu_loan_by menu) m.list.menus.items

  -- the slots of their stock
  abbrev pub slots : Slots (DynBox W Global K) → List MenuSlot
  slots stock = slots_by (λ (b : DynBox W Global K). (menu b).menu_meaning b.value) stock

  -- they are whole where this is open: over slots, over a stock, and over some slots
  abbrev pub IsWholeOver : Activity → Menus W K → List MenuSlot → Type 0
  IsWholeOver activity m kept = IsWholeMenus (menu_loan_by menu) activity m kept

  abbrev pub IsWhole : Activity → Menus W K → Slots (DynBox W Global K) → Type 0
  IsWhole activity m stock = IsWholeOver activity m (slots stock)

  abbrev pub AreKept : Activity → Menus W K → Type 0
  AreKept activity m = AreKeptMenus (menu_loan_by menu) activity m

  module _ {V : Type 0} {H : V → Type 0} where
    -- the map in front is as large as the screen of these windows, and shows the menu that is pulled down
    abbrev pub IsFront : Activity → WindowManager V H → Menus W K → Overlay → Type 0
    IsFront activity t m front = IsMenuFront (menu_loan_by menu) activity t m front

    module _ (window : (b : DynBox V Global H) → window_def.Ghosts (H b.vtable)) where
      -- windows and menus are whole afterwards, and together they are such a step of the desk: over these slots of menus
      -- before and after, over a stock, and over any slots, which a call leaves alone
      abbrev pub LeavesOver : List MenuSlot → List MenuSlot → (MenuDesk → MenuDesk → Type 0)
          → WindowManager V H → Opened → Menus W K → WindowManager V H → Opened → Menus W K → Type 0
      LeavesOver kept left step t o m u p n =
          leaving.LeavesDeskOver (window_loan_by window) (menu_loan_by menu) kept left step t o m u p n

      abbrev pub LeavesStock : Slots (DynBox W Global K) → Slots (DynBox W Global K) → (MenuDesk → MenuDesk → Type 0)
          → WindowManager V H → Opened → Menus W K → WindowManager V H → Opened → Menus W K → Type 0
      LeavesStock old new step t o m u p n = LeavesOver (slots old) (slots new) step t o m u p n

      abbrev pub Leaves : (MenuDesk → MenuDesk → Type 0)
          → WindowManager V H → Opened → Menus W K → WindowManager V H → Opened → Menus W K → Type 0
      Leaves step t o m u p n = LeavesMenus (window_loan_by window) (menu_loan_by menu) step t o m u p n
