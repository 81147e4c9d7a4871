-- A Toolbox and its stock, seen through what boxes of definitions mean.
use Rattle.std.specs.Prelude.{[], List, Result}
use Rattle.std.specs.declared.alloc.Global.{Global}
use Rattle.std.specs.declared.dyn_box.DynBox.{DynBox}
use Rattle.tb_geom.specs.declared.refusal.Refusal.{Refusal}
use Rattle.def_iface.specs.declared.control_def.ControlDef as control_def
use Rattle.def_iface.specs.declared.list_def.ListDef as list_def
use Rattle.def_iface.specs.declared.menu_def.MenuDef as menu_def
use Rattle.def_iface.specs.declared.stock.Stock.{Stock}
use Rattle.def_iface.specs.declared.window_def.WindowDef as window_def
use Rattle.def_iface.specs.Boxed.{all_slots_by, control_loan_by, list_loan_by, menu_loan_by, window_loan_by}
use Rattle.def_iface.specs.Stocks.{AllSlots}
use Rattle.desk_call.specs.declared.call.Call.{Call}
use Rattle.desk_call.specs.declared.call.Reply.{Reply}
use Rattle.desk_toolbox.specs.declared.toolbox.Toolbox.{Toolbox}
use Rattle.desk_toolbox.specs.EconomicalRuns as runs
use Rattle.desk_toolbox.specs.Economy.{IsCallEconomical}
use Rattle.desk_toolbox.specs.ToolboxStates.{ToolboxState}
use Rattle.desk_toolbox.specs.WholeToolbox.{IsDrawableToolbox, AreWholeManagers, IsKeptToolbox, IsWholeToolbox, toolbox_state}

-- no slot at all: whatever the slots, a screen shows the same
abbrev pub no_slots : AllSlots
no_slots = record { windows = []; menus = []; controls = []; lists = [] }

-- `window` says what a box of a window's definition means, `menu` what one of a menu's, `control` what one of a
-- control's, and `list` what one of a list's
module _ {V : Type 0} {H : V → Type 0} (window : (b : DynBox V Global H) → window_def.Ghosts (H b.vtable))
    {W : Type 0} {K : W → Type 0} (menu : (b : DynBox W Global K) → menu_def.Ghosts (K b.vtable))
    {U : Type 0} {J : U → Type 0} (control : (b : DynBox U Global J) → control_def.Ghosts (J b.vtable))
    {X : Type 0} {L : X → Type 0} (list : (b : DynBox X Global L) → list_def.Ghosts (L b.vtable)) where
  -- a Toolbox over slots: its state, that it is whole, and that its managers are
  abbrev pub state_over : Toolbox V U W X H J K L → AllSlots → ToolboxState
  state_over t stocks =
      toolbox_state (window_loan_by window) (menu_loan_by menu) (control_loan_by control) (list_loan_by list) t stocks

  abbrev pub IsWholeOver : Toolbox V U W X H J K L → AllSlots → Type 0
  IsWholeOver t stocks =
      IsWholeToolbox (window_loan_by window) (menu_loan_by menu) (control_loan_by control) (list_loan_by list) t stocks

  abbrev pub HasWholeManagersOver : Toolbox V U W X H J K L → AllSlots → Type 0
  HasWholeManagersOver t stocks =
      AreWholeManagers (window_loan_by window) (menu_loan_by menu) (control_loan_by control) (list_loan_by list) t stocks

  -- its managers are whole over some slots, and it is
  abbrev pub IsDrawable : Toolbox V U W X H J K L → Type 0
  IsDrawable t = IsDrawableToolbox (window_loan_by window) (menu_loan_by menu) (control_loan_by control) (list_loan_by list) t

  abbrev pub IsKept : Toolbox V U W X H J K L → Type 0
  IsKept t = IsKeptToolbox (window_loan_by window) (menu_loan_by menu) (control_loan_by control) (list_loan_by list) t

  -- the same three over a stock
  abbrev pub state : Toolbox V U W X H J K L → Stock V U X W H J L K → ToolboxState
  state t stock = state_over t (all_slots_by window menu control list stock)

  abbrev pub IsWhole : Toolbox V U W X H J K L → Stock V U X W H J L K → Type 0
  IsWhole t stock = IsWholeOver t (all_slots_by window menu control list stock)

  abbrev pub HasWholeManagers : Toolbox V U W X H J K L → Stock V U X W H J L K → Type 0
  HasWholeManagers t stock = HasWholeManagersOver t (all_slots_by window menu control list stock)

  -- a call was economical, between these two
  abbrev pub IsEconomical : Call → Toolbox V U W X H J K L → Toolbox V U W X H J K L → Type 0
  IsEconomical call before after = IsCallEconomical (window_loan_by window) call before.activity before.windows after.windows

  -- so was each call of a run
  abbrev pub IsEconomicalRun : List Call → List (Result Reply Refusal) → Toolbox V U W X H J K L → Stock V U X W H J L K
      → Toolbox V U W X H J K L → Stock V U X W H J L K → Type 0
  IsEconomicalRun calls answers first before last after =
      runs.IsEconomicalRun (window_loan_by window) (menu_loan_by menu) (control_loan_by control) (list_loan_by list)
      (record { toolbox = first; stocks = all_slots_by window menu control list before }) calls answers
      (record { toolbox = last; stocks = all_slots_by window menu control list after })
