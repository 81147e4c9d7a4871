-- The lists of a desk as plain data, beside its windows and its controls, and what they show.
use Rattle.std.specs.Prelude.{◌≡◌, ℕ, false, List, Option, slice_get}
use Rattle.std.specs.Option.{option_and_then, option_map_or}
use Rattle.tb_geom.specs.Points.{PixelSet}
use Rattle.desk_layers.specs.declared.part.Part.{Part}
use Rattle.desk_layers.specs.declared.part.Part.TheVariants as part
use Rattle.def_iface.specs.ListMeaning.{ListDefinition, ListLoan}
use Rattle.def_iface.specs.Slots.{SlotOf}
use Rattle.window_items.specs.declared.item.Item.{Item}
use Rattle.list_mgr.specs.declared.list_record.ListRecord.{ListRecord}
use Rattle.window_items.specs.Items.{item_index}
use Rattle.window_items.specs.Items as items
use Rattle.list_view.specs.Shown.{list_shown}
use Rattle.desk_call.specs.declared.list.ListOf.{ListOf}
use Rattle.window_mgr.specs.DeskStates.{DeskState, IsDeskUnchanged}
use Rattle.control_mgr.specs.ControlDesks.{ControlDesk, ControlsState}

-- ---- lists

-- a list, and its definition with the number of its slot
abbrev pub KeptList : Type 0
KeptList = Item (ListRecord ListLoan)

-- the slots of the lists' definitions, as the stock holds them
abbrev pub ListSlot : Type 0
ListSlot = SlotOf ListDefinition

-- the lists of all windows, the oldest first; the serial of the next one, if one is left; and what the stock holds for lists
pub record ListsState : Type 0 where
  pub lists : List KeptList
  pub next : Option ℕ
  pub stock : List ListSlot

-- where the window's list of this serial stands, and the list
abbrev pub index_of : ListOf → List KeptList → Option ℕ
index_of l ls = item_index l.window l.list ls

abbrev pub list_of : ListOf → List KeptList → Option KeptList
list_of l ls = option_and_then (slice_get ls) (index_of l ls)

-- the list of this serial, in whichever window it is
abbrev pub with_serial : ℕ → List KeptList → Option KeptList
with_serial n ls = items.with_serial n ls

-- ---- what they show

-- what a list shows in a font, in its window's coordinates; where there is none it is white
abbrev pub list_bit : List ℕ → Option KeptList → PixelSet
list_bit font l p = option_map_or (λ x. list_shown font x.kept.definition.definition x.kept.view x.kept.cells p) l false

-- what these lists show in a font, and other layers this
abbrev pub lists_show : (List ℕ → Part → PixelSet) → List KeptList → List ℕ → Part → PixelSet
lists_show others ls font (part.List n) p = list_bit font (with_serial n ls) p
lists_show others ls font q p = others font q p

-- ---- the desk

-- a desk with its controls and its lists
pub record ListDesk : Type 0 where
  pub desk : DeskState
  pub controls : ControlsState
  pub lists : ListsState
  -- what layers that are neither controls' nor lists' show in a font
  pub others : List ℕ → Part → PixelSet

-- the same, as the manager of controls sees it: to it lists are among what other layers show
abbrev pub with_controls : ListDesk → ControlDesk
with_controls d = record { desk = d.desk; controls = d.controls; others = lists_show d.others d.lists.lists }

-- nothing changed
pub record IsListDeskUnchanged (before after : ListDesk) : Type 0 where
  pub desk : IsDeskUnchanged before.desk after.desk
  pub controls : after.controls ≡ before.controls
  pub lists : after.lists ≡ before.lists
  pub others : after.others ≡ before.others
