-- Menus that were made and ended, as the code keeps them.
use Rattle.std.specs.Prelude.{◌≡◌, ◌≤◌, ℕ, false, ◌++◌, ◌∷◌, [], List, Option, None, Some, Result, Ok, Err, slice_get, vec_capacity}
use Rattle.std.specs.List.{remove}
use Rattle.tb_geom.specs.declared.refusal.Refusal.{Refusal}
use Rattle.tb_geom.specs.declared.refusal.Refusal.TheVariants.{NoSuchMenu}
use Rattle.tb_geom.specs.Refusals.{first_refusal}
use Rattle.def_iface.specs.MenuMeaning.{MenuDefinition, MenuLoan, IsMenuBegun}
use Rattle.def_iface.specs.Slots.{IsTaken, TakenBox}
use Rattle.menu_record.specs.declared.menu.Menu.{Menu}
use Rattle.menu_list.specs.Lists.{without_highlight}
use Rattle.desk_call.specs.declared.menu.NewMenu.{NewMenu}
use Rattle.desk_call.specs.declared.menu.MenuReply.{MenuReply}
use Rattle.desk_call.specs.declared.menu.MenuReply.TheVariants.{Done}
use Rattle.menu_mgr.specs.declared.menus.Menus.{Menus}
use Rattle.menu_mgr.specs.MenuDesks.{MenuRecord, MenuSlot}
use Rattle.menu_mgr.specs.MenuRefusals.{menu_kind, new_refusals}
use Rattle.menu_mgr.specs.MenuSteps.{IsMenuShut, new_record}
use Rattle.menu_mgr.specs.WholeMenus.{menus_of, menus_state}

-- nothing but the list of the menus and which title is highlighted is another
pub record IsAsRoomy {W : Type 0} {K : W → Type 0} (old new : Menus W K) : Type 0 where
  pub alloc : new.alloc ≡ old.alloc
  pub room : vec_capacity old.list.menus ≤ vec_capacity new.list.menus

-- `menu_loan` says what a menu's definition that was taken means
module _ {W : Type 0} {K : W → Type 0} (menu_loan : TakenBox W K → MenuLoan) where
  -- a menu stands behind the others, and its definition was begun
  pub record IsListed (menu : Menu) (loan : MenuLoan) (old new : Menus W K) : Type 0 where
    pub begun : MenuDefinition
    pub live : IsMenuBegun loan.definition begun
    pub menus : menus_of menu_loan new.list.menus.items ≡ menus_of menu_loan old.list.menus.items
        ++ record { menu = menu; inserted = false; definition = record { definition = begun; slot = loan.slot } } ∷ []
    pub highlighted : new.list.highlighted ≡ old.list.highlighted
    pub same : IsAsRoomy old new

  -- a menu was made
  pub record IsMade (n : NewMenu) (old new : Menus W K) (slots left : List MenuSlot) : Type 0 where
    pub loan : MenuLoan
    pub begun : MenuDefinition
    pub taken : IsTaken (λ (d : MenuDefinition). d.stage) menu_kind loan slots left
    pub live : IsMenuBegun loan.definition begun
    pub menus : menus_of menu_loan new.list.menus.items ≡ menus_of menu_loan old.list.menus.items ++ new_record n loan.slot begun ∷ []
    pub highlighted : new.list.highlighted ≡ old.list.highlighted
    pub same : IsAsRoomy old new

  abbrev pub IsMadeOrRefused : NewMenu → Result MenuReply Refusal → Menus W K → Menus W K → List MenuSlot → List MenuSlot → Type 0
  IsMadeOrRefused n (Ok answer) old new slots left =
      (answer ≡ Done) × (first_refusal (new_refusals n (menus_state menu_loan old slots)) ≡ None) × IsMade n old new slots left
  IsMadeOrRefused n (Err e) old new slots left =
      (first_refusal (new_refusals n (menus_state menu_loan old slots)) ≡ Some e) × (new ≡ old) × (left ≡ slots)

  -- the menu at an index was ended
  pub record IsEnded (at : ℕ) (old new : Menus W K) (slots after : List MenuSlot) : Type 0 where
    pub listed : MenuRecord
    pub found : slice_get (menus_of menu_loan old.list.menus.items) at ≡ Some listed
    pub shut : IsMenuShut listed.definition slots after
    pub menus : menus_of menu_loan new.list.menus.items ≡ remove (menus_of menu_loan old.list.menus.items) at
    pub highlighted : new.list.highlighted ≡ without_highlight listed.menu.id old.list.highlighted
    pub same : IsAsRoomy old new

  abbrev pub IsEndedOrRefused : ℕ → Result MenuReply Refusal → Menus W K → Menus W K → List MenuSlot → List MenuSlot → Type 0
  IsEndedOrRefused at (Ok answer) old new slots after = (answer ≡ Done) × IsEnded at old new slots after
  IsEndedOrRefused at (Err e) old new slots after = ⊥

  -- so was the menu of a number, or there is none
  abbrev pub IsEndedIfThere : Option ℕ → Result MenuReply Refusal → Menus W K → Menus W K → List MenuSlot → List MenuSlot → Type 0
  IsEndedIfThere None result old new slots after = (result ≡ Err NoSuchMenu) × (new ≡ old) × (after ≡ slots)
  IsEndedIfThere (Some at) result old new slots after = IsEndedOrRefused at result old new slots after
