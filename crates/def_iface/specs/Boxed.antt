-- What was taken, and a stock, seen through what boxes of definitions mean.
use Rattle.std.specs.declared.alloc.Global.{Global}
use Rattle.std.specs.declared.dyn_box.DynBox.{DynBox}
use Rattle.def_iface.specs.declared.control_def.ControlDef as control_def
use Rattle.def_iface.specs.declared.list_def.ListDef as list_def
use Rattle.def_iface.specs.declared.menu_def.MenuDef as menu_def
use Rattle.def_iface.specs.declared.stock.Stock.{Stock}
use Rattle.def_iface.specs.declared.window_def.WindowDef as window_def
use Rattle.def_iface.specs.ControlMeaning.{ControlLoan}
use Rattle.def_iface.specs.ListMeaning.{ListLoan}
use Rattle.def_iface.specs.MenuMeaning.{MenuLoan}
use Rattle.def_iface.specs.Slots as slots
use Rattle.def_iface.specs.Slots.{TakenBox}
use Rattle.def_iface.specs.Stocks.{AllSlots}
use Rattle.def_iface.specs.WindowMeaning.{WindowLoan}

-- what was taken, by what the boxes of its kind mean: the definition as a value, and the number of its slot, as `Defined` sees it
module _ {V : Type 0} {H : V → Type 0} (window : (b : DynBox V Global H) → window_def.Ghosts (H b.vtable)) where
  abbrev pub window_loan_by : TakenBox V H → WindowLoan
  window_loan_by = slots.loan_by (λ (b : DynBox V Global H). (window b).meaning b.value)

module _ {W : Type 0} {K : W → Type 0} (menu : (b : DynBox W Global K) → menu_def.Ghosts (K b.vtable)) where
  abbrev pub menu_loan_by : TakenBox W K → MenuLoan
  menu_loan_by = slots.loan_by (λ (b : DynBox W Global K). (menu b).menu_meaning b.value)

module _ {U : Type 0} {J : U → Type 0} (control : (b : DynBox U Global J) → control_def.Ghosts (J b.vtable)) where
  abbrev pub control_loan_by : TakenBox U J → ControlLoan
  control_loan_by = slots.loan_by (λ (b : DynBox U Global J). (control b).control_meaning b.value)

module _ {X : Type 0} {L : X → Type 0} (list : (b : DynBox X Global L) → list_def.Ghosts (L b.vtable)) where
  abbrev pub list_loan_by : TakenBox X L → ListLoan
  list_loan_by = slots.loan_by (λ (b : DynBox X Global L). (list b).list_meaning b.value)

-- the slots of a stock, as `StockedAll` sees them: `window` says what a box of a window's definition means, and so on
module _ {V : Type 0} {H : V → Type 0} (window : (b : DynBox V Global H) → window_def.Ghosts (H b.vtable))
    {W : Type 0} {K : W → Type 0} (menu : (b : DynBox W Global K) → menu_def.Ghosts (K b.vtable))
    {U : Type 0} {J : U → Type 0} (control : (b : DynBox U Global J) → control_def.Ghosts (J b.vtable))
    {X : Type 0} {L : X → Type 0} (list : (b : DynBox X Global L) → list_def.Ghosts (L b.vtable)) where
  abbrev pub all_slots_by : Stock V U X W H J L K → AllSlots
  all_slots_by s = record {
    windows = slots.slots_by (λ (b : DynBox V Global H). (window b).meaning b.value) s.windows;
    menus = slots.slots_by (λ (b : DynBox W Global K). (menu b).menu_meaning b.value) s.menus;
    controls = slots.slots_by (λ (b : DynBox U Global J). (control b).control_meaning b.value) s.controls;
    lists = slots.slots_by (λ (b : DynBox X Global L). (list b).list_meaning b.value) s.lists;
  }
