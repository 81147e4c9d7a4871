-- What holds of the menus of a desk, of their stock and of the map in front between calls, and their state as plain data.
use Rattle.std.specs.Prelude.{◌≡◌, ◌⊎◌, ℕ, ◌+◌, ◌≤◌, ◌==◌, true, if◌then◌else◌, List, [], ◌∷◌, length, Option, None, Some, slice_get, vec_capacity}
use Rattle.def_iface.specs.Slots.{TakenBox}
use Rattle.def_iface.specs.declared.window_def.Stage.TheVariants.{Live}
use Rattle.def_iface.specs.WindowMeaning.{WindowLoan}
use Rattle.def_iface.specs.MenuMeaning.{MenuLoan, is_menu_size}
use Rattle.def_iface.specs.WindowSlots.{WindowSlot}
use Rattle.def_iface.specs.Stocks.{IsMenuFull}
use Rattle.menu_list.specs.declared.listed.Listed.{Listed}
use Rattle.menu_list.specs.Seen.{all_seen}
use Rattle.overlay.specs.declared.overlay.Overlay.{Overlay}
use Rattle.overlay.specs.Overlays.{IsShown, is_menu_place}
use Rattle.desk_call.specs.declared.activity.Activity.{Activity}
use Rattle.desk_call.specs.declared.activity.Activity.TheVariants.{Pulling}
use Rattle.window_mgr.specs.declared.manager.WindowManager.{WindowManager}
use Rattle.window_mgr.specs.DeskStates.{Opened, desk_state}
use Rattle.menu_mgr.specs.declared.menus.Menus.{Menus}
use Rattle.menu_mgr.specs.MenuDesks.{MenuDesk, MenuRecord, MenuSlot, MenusState}
use Rattle.menu_mgr.specs.Pulling.{pulled_of}

-- how many of the menus have their definition from this slot
abbrev pub uses : ℕ → List MenuRecord → ℕ
uses k [] = 0
uses k (l ∷ ls) = (if l.definition.slot == k then 1 else 0) + uses k ls

-- so many menus have their definition from a slot: none, where it has a definition that no desk uses or there is no such
-- slot, and one, where it is empty
abbrev pub IsUsedBy : ℕ → Option MenuSlot → Type 0
IsUsedBy n None = n ≡ 0
IsUsedBy n (Some s) = ((n ≡ 0) × IsMenuFull s) ⊎ ((n ≡ 1) × (s.held ≡ None))

-- the empty slots of the stock are those of the menus' definitions, each of another, and the definitions in the other slots
-- are fresh or closed
abbrev pub AreMenusStocked : List MenuRecord → List MenuSlot → Type 0
AreMenusStocked menus slots = (k : ℕ) → IsUsedBy (uses k menus) (slice_get slots k)

-- the menus' definitions are live
abbrev pub AreLive : List MenuRecord → Type 0
AreLive [] = Unit {0}
AreLive (l ∷ ls) = (l.definition.definition.stage ≡ Live) × AreLive ls

-- a menu that is pulled down has its corner on a screen, and a size that a menu may have
abbrev pub IsPlaced : Activity → Type 0
IsPlaced (Pulling m) = (is_menu_place m.place ≡ true) × (is_menu_size m.size ≡ true)
IsPlaced _ = Unit {0}

-- no menus, with room for 16
pub record AreNoMenus {W : Type 0} {K : W → Type 0} (m : Menus W K) : Type 0 where
  pub none : m.list.menus.items ≡ []
  pub highlighted : m.list.highlighted ≡ None
  pub room : 16 ≤ vec_capacity m.list.menus

-- `menu_loan` says what a menu's definition that was taken means
module _ {W : Type 0} {K : W → Type 0} (menu_loan : TakenBox W K → MenuLoan) where
  -- the menus as plain data
  abbrev pub menus_of : List (Listed (TakenBox W K)) → List MenuRecord
  menus_of menus = all_seen menu_loan menus

  abbrev pub menus_state : Menus W K → List MenuSlot → MenusState
  menus_state m slots = record {
    menus = menus_of m.list.menus.items;
    highlighted = m.list.highlighted;
    stock = slots;
  }

  -- the menus, with what is open and the slots of their stock, between calls
  pub record IsWholeMenus (activity : Activity) (m : Menus W K) (slots : List MenuSlot) : Type 0 where
    pub few : length m.list.menus.items ≤ 16
    pub room : 16 ≤ vec_capacity m.list.menus
    pub live : AreLive (menus_of m.list.menus.items)
    pub stocked : AreMenusStocked (menus_of m.list.menus.items) slots
    pub placed : IsPlaced activity

  module _ {V : Type 0} {H : V → Type 0} where
    -- while a menu is pulled down the map in front of the windows' screen shows it over the base image
    abbrev pub IsPulledShown : Activity → WindowManager V H → Menus W K → Overlay → Type 0
    IsPulledShown (Pulling p) t m front = IsShown t.font (pulled_of (Pulling p) (menus_of m.list.menus.items)) t.screen front.front
    IsPulledShown _ t m front = Unit {0}

    -- so it does, and it is as wide and high as that screen
    pub record IsMenuFront (activity : Activity) (t : WindowManager V H) (m : Menus W K) (front : Overlay) : Type 0 where
      pub width : front.front.width ≡ t.screen.width
      pub height : front.front.height ≡ t.screen.height
      pub shown : IsPulledShown activity t m front

    -- `loan` says what a window's definition that was taken means
    module _ (loan : TakenBox V H → WindowLoan) where
      -- windows and menus with what is open, as a desk
      abbrev pub menu_desk : WindowManager V H → Opened → List WindowSlot → Menus W K → List MenuSlot → MenuDesk
      menu_desk t o slots m kept = record { desk = desk_state loan t o slots; menus = menus_state m kept }
