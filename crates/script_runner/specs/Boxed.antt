-- A session and a script over their stock, seen through what boxes of definitions mean.
use Rattle.std.specs.declared.alloc.Global.{Global}
use Rattle.std.specs.declared.dyn_box.DynBox.{DynBox}
use Rattle.def_iface.specs.declared.control_def.ControlDef as control_def
use Rattle.def_iface.specs.declared.list_def.ListDef as list_def
use Rattle.def_iface.specs.declared.menu_def.MenuDef as menu_def
use Rattle.def_iface.specs.declared.stock.Stock.{Stock}
use Rattle.def_iface.specs.declared.window_def.WindowDef as window_def
use Rattle.def_iface.specs.Boxed.{all_slots_by, control_loan_by, list_loan_by, menu_loan_by, window_loan_by}
use Rattle.def_iface.specs.Stocks.{AllSlots}
use Rattle.script_runner.specs.declared.script.Script.{Script}
use Rattle.script_runner.specs.declared.session.Session.{Session}
use Rattle.script_runner.specs.Script.{ScriptState}
use Rattle.script_runner.specs.Session.{SessionState}
use Rattle.script_runner.specs.SessionViews.{IsReady, script_of, session_of}

-- `window` says what a box of a window's definition means, `menu` what one of a menu's, `control` what one of a
-- control's, and `list` what one of a list's
module _ {V : Type 0} {H : V → Type 0} (window : (b : DynBox V Global H) → window_def.Ghosts (H b.vtable))
    {W : Type 0} {K : W → Type 0} (menu : (b : DynBox W Global K) → menu_def.Ghosts (K b.vtable))
    {U : Type 0} {J : U → Type 0} (control : (b : DynBox U Global J) → control_def.Ghosts (J b.vtable))
    {X : Type 0} {L : X → Type 0} (list : (b : DynBox X Global L) → list_def.Ghosts (L b.vtable)) where
  -- the session over slots, and over a stock
  abbrev pub session_over : Session V U W X H J K L → AllSlots → SessionState
  session_over s stocks =
      session_of (window_loan_by window) (menu_loan_by menu) (control_loan_by control) (list_loan_by list) s stocks

  abbrev pub session : Session V U W X H J K L → Stock V U X W H J L K → SessionState
  session s stock = session_over s (all_slots_by window menu control list stock)

  -- the session and its stock belong together
  abbrev pub IsReadyOn : Session V U W X H J K L → Stock V U X W H J L K → Type 0
  IsReadyOn s stock =
      IsReady (window_loan_by window) (menu_loan_by menu) (control_loan_by control) (list_loan_by list) s
      (all_slots_by window menu control list stock)

  -- the script over a stock, and that the two belong together
  abbrev pub script : Script V U W X H J K L → Stock V U X W H J L K → ScriptState
  script s stock =
      script_of (window_loan_by window) (menu_loan_by menu) (control_loan_by control) (list_loan_by list) s
      (all_slots_by window menu control list stock)

  abbrev pub IsScriptReadyOn : Script V U W X H J K L → Stock V U X W H J L K → Type 0
  IsScriptReadyOn s stock = IsReadyOn s.session stock
