-- What a call leaves of windows and menus, whatever slots their stocks have.
use Rattle.std.specs.Prelude.{pos, ◌==◌, if◌then◌else◌, List, Option, None, Some}
use Rattle.std.specs.Option.{option_and_then, option_map}
use Rattle.tb_geom.specs.Points.{PixelSet}
use Rattle.def_iface.specs.Slots.{TakenBox}
use Rattle.def_iface.specs.WindowMeaning.{WindowLoan}
use Rattle.def_iface.specs.MenuMeaning.{MenuLoan}
use Rattle.def_iface.specs.WindowSlots.{WindowSlot}
use Rattle.desk_ground.specs.declared.bar.TitleHit.{TitleHit}
use Rattle.menu_list.specs.declared.listed.Listed.{Listed}
use Rattle.menu_list.specs.Lists.{menu_index}
use Rattle.desk_call.specs.declared.activity.Activity.{Activity}
use Rattle.desk_call.specs.declared.activity.PulledMenu.{PulledMenu}
use Rattle.window_mgr.specs.declared.manager.WindowManager.{WindowManager}
use Rattle.window_mgr.specs.DeskStates.{Opened}
use Rattle.window_mgr.specs.Whole.{IsWholeManager}
use Rattle.menu_mgr.specs.declared.menus.Menus.{Menus}
use Rattle.menu_mgr.specs.declared.pulling.Titled.{Titled}
use Rattle.menu_mgr.specs.MenuDesks.{MenuDesk, MenuSlot}
use Rattle.menu_mgr.specs.WholeMenus.{IsWholeMenus, menu_desk}

-- this is open, and this was to be redrawn when it began
abbrev pub opened : Activity → PixelSet → Opened
opened activity begun = record { activity = activity; begun = begun }

-- the index of the menu of a title, with the title
abbrev pub with_index : {D : Type 0} → List (Listed D) → TitleHit → Option Titled
with_index menus hit = option_map (λ at. record { at = at; hit = hit }) (menu_index (pos hit.menu) menus)

-- the same of a title that a point may be on
abbrev pub indexed : {D : Type 0} → List (Listed D) → Option TitleHit → Option Titled
indexed menus title = option_and_then (with_index menus) title

-- this title, if it is that of another menu than the pulled one
abbrev pub of_another : PulledMenu → Option Titled → Option Titled
of_another m None = None
of_another m (Some t) = if t.hit.menu == m.menu then None else Some t

-- the menus are whole over some slots
pub record AreKeptMenus {W : Type 0} {K : W → Type 0} (menu_loan : TakenBox W K → MenuLoan) (activity : Activity) (m : Menus W K) : Type 0 where
  pub slots : List MenuSlot
  pub whole : IsWholeMenus menu_loan activity m slots

module _ {V : Type 0} {H : V → Type 0} (loan : TakenBox V H → WindowLoan) {W : Type 0} {K : W → Type 0} (menu_loan : TakenBox W K → MenuLoan) where
  -- over any slots over which the windows are whole both are whole afterwards, and together they are one step of the desk
  abbrev pub LeavesDeskOver : List MenuSlot → List MenuSlot → (MenuDesk → MenuDesk → Type 0)
      → WindowManager V H → Opened → Menus W K → WindowManager V H → Opened → Menus W K → Type 0
  LeavesDeskOver before_slots after_slots step old before m new after n = (slots : List WindowSlot) → IsWholeManager loan old slots
      → IsWholeManager loan new slots × IsWholeMenus menu_loan after.activity n after_slots
      × step (menu_desk menu_loan loan old before slots m before_slots) (menu_desk menu_loan loan new after slots n after_slots)

  -- so over any slots of menus' definitions over which the menus are whole, which a call leaves alone
  abbrev pub LeavesMenus : (MenuDesk → MenuDesk → Type 0)
      → WindowManager V H → Opened → Menus W K → WindowManager V H → Opened → Menus W K → Type 0
  LeavesMenus step old before m new after n = (kept : List MenuSlot) → IsWholeMenus menu_loan before.activity m kept
      → LeavesDeskOver kept kept step old before m new after n
