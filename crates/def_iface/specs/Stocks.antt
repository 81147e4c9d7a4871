-- The slots of a whole stock.
use Rattle.std.specs.Prelude.{List, All}
use Rattle.def_iface.specs.ControlMeaning.{ControlDefinition}
use Rattle.def_iface.specs.ListMeaning.{ListDefinition}
use Rattle.def_iface.specs.MenuMeaning.{MenuDefinition}
use Rattle.def_iface.specs.Slots.{SlotOf}
use Rattle.def_iface.specs.Slots as slots
use Rattle.def_iface.specs.WindowSlots.{WindowSlot, IsFull}

-- those of windows, of menus, of controls and of lists
pub record AllSlots : Type 0 where
  pub windows : List WindowSlot
  pub menus : List (SlotOf MenuDefinition)
  pub controls : List (SlotOf ControlDefinition)
  pub lists : List (SlotOf ListDefinition)

-- a slot of each of the other three with a definition that no desk uses
abbrev pub IsMenuFull : SlotOf MenuDefinition → Type 0
IsMenuFull = slots.IsFull (λ (d : MenuDefinition). d.stage)

abbrev pub IsControlFull : SlotOf ControlDefinition → Type 0
IsControlFull = slots.IsFull (λ (d : ControlDefinition). d.stage)

abbrev pub IsListFull : SlotOf ListDefinition → Type 0
IsListFull = slots.IsFull (λ (d : ListDefinition). d.stage)

-- every one of them has a definition that no desk uses
pub record AreAllFull (s : AllSlots) : Type 0 where
  pub windows : All IsFull s.windows
  pub menus : All IsMenuFull s.menus
  pub controls : All IsControlFull s.controls
  pub lists : All IsListFull s.lists
