-- The script of a run, and its session, as plain data.
use Rattle.std.specs.Prelude.{ℕ, List, [], Option, None, Some}
use Rattle.def_iface.specs.Slots.{TakenBox}
use Rattle.def_iface.specs.ControlMeaning.{ControlLoan}
use Rattle.def_iface.specs.ListMeaning.{ListLoan}
use Rattle.def_iface.specs.WindowMeaning.{WindowLoan}
use Rattle.def_iface.specs.MenuMeaning.{MenuLoan}
use Rattle.def_iface.specs.Stocks.{AllSlots, AreAllFull}
use Rattle.desk_toolbox.specs.declared.toolbox.Toolbox.{Toolbox}
use Rattle.desk_toolbox.specs.WholeToolbox.{IsWholeToolbox, toolbox_state}
use Rattle.script_runner.specs.declared.script.Script.{Script}
use Rattle.script_runner.specs.declared.session.Session.{Session}
use Rattle.script_runner.specs.Script.{ScriptState}
use Rattle.script_runner.specs.Session.{SessionState, unmade, made}

-- `loan` says what a window's definition that was taken means, `menu_loan` what a menu's, `control_loan` what a control's, and
-- `list_loan` what a list's
module _ {V : Type 0} {H : V → Type 0} (loan : TakenBox V H → WindowLoan) {W : Type 0} {K : W → Type 0} (menu_loan : TakenBox W K → MenuLoan) {U : Type 0} {J : U → Type 0} (control_loan : TakenBox U J → ControlLoan) {X : Type 0} {L : X → Type 0} (list_loan : TakenBox X L → ListLoan) where
  abbrev pub state_with : Option (Toolbox V U W X H J K L) → Option (List ℕ) → AllSlots → SessionState
  state_with (Some t) font stocks = made (toolbox_state loan menu_loan control_loan list_loan t stocks)
  state_with None (Some font) stocks = unmade font stocks
  state_with None None stocks = unmade [] stocks

  -- the session over the slots of a stock
  abbrev pub session_of : Session V U W X H J K L → AllSlots → SessionState
  session_of s stocks = state_with s.desk s.font stocks

  -- the script over the slots of a stock
  abbrev pub script_of : Script V U W X H J K L → AllSlots → ScriptState
  script_of s stocks = record { session = session_of s.session stocks; version = s.version; is_begun = s.is_begun }

  abbrev pub IsReadyWith : Option (Toolbox V U W X H J K L) → Option (List ℕ) → AllSlots → Type 0
  IsReadyWith (Some t) font stocks = IsWholeToolbox loan menu_loan control_loan list_loan t stocks
  IsReadyWith None (Some font) stocks = AreAllFull stocks
  IsReadyWith None None stocks = ⊥

  -- between two lines: the desk and the stock belong together, and without a desk there is the font for it, and no
  -- definition is in use
  abbrev pub IsReady : Session V U W X H J K L → AllSlots → Type 0
  IsReady s stocks = IsReadyWith s.desk s.font stocks
