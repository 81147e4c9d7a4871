-- What the calls of a run write on the screen, at the most.
use Rattle.std.specs.Prelude.{List, Result}
use Rattle.tb_geom.specs.declared.refusal.Refusal.{Refusal}
use Rattle.def_iface.specs.ControlMeaning.{ControlLoan}
use Rattle.def_iface.specs.ListMeaning.{ListLoan}
use Rattle.def_iface.specs.MenuMeaning.{MenuLoan}
use Rattle.def_iface.specs.Slots.{TakenBox}
use Rattle.def_iface.specs.Stocks.{AllSlots}
use Rattle.def_iface.specs.WindowMeaning.{WindowLoan}
use Rattle.desk_call.specs.declared.call.Call.{Call}
use Rattle.desk_call.specs.declared.call.Reply.{Reply}
use Rattle.desk_toolbox.specs.declared.toolbox.Toolbox.{Toolbox}
use Rattle.desk_toolbox.specs.Economy.{IsCallEconomical, IsQuietRefusal}
use Rattle.desk_toolbox.specs.Reached.{IsConsistent}
use Rattle.desk_toolbox.specs.Run.{IsRunOf, IsStep}
use Rattle.desk_toolbox.specs.ToolboxStates.{ToolboxState}
use Rattle.desk_toolbox.specs.WholeToolbox.{toolbox_state}

module _ {V : Type 0} {H : V → Type 0} (loan : TakenBox V H → WindowLoan) {W : Type 0} {K : W → Type 0} (menu_loan : TakenBox W K → MenuLoan)
    {U : Type 0} {J : U → Type 0} (control_loan : TakenBox U J → ControlLoan) {X : Type 0} {L : X → Type 0} (list_loan : TakenBox X L → ListLoan) where
  -- a Toolbox over the slots of its stocks
  pub record Stocked : Type 0 where
    pub toolbox : Toolbox V U W X H J K L
    pub stocks : AllSlots

  abbrev pub stocked_state : Stocked → ToolboxState
  stocked_state s = toolbox_state loan menu_loan control_loan list_loan s.toolbox s.stocks

  -- a call was a step between these two; it was economical if it began on a consistent desk, and wrote nothing if it was one on
  -- windows and was refused
  pub record IsEconomicalStep (call : Call) (answer : Result Reply Refusal) (before after : Stocked) : Type 0 where
    pub step : IsStep call answer (stocked_state before) (stocked_state after)
    pub economy : IsConsistent (stocked_state before) → IsCallEconomical loan call before.toolbox.activity before.toolbox.windows after.toolbox.windows
    pub quiet : IsQuietRefusal call answer before.toolbox.windows.screen after.toolbox.windows.screen

  -- so was each call of a run
  abbrev pub IsEconomicalRun : Stocked → List Call → List (Result Reply Refusal) → Stocked → Type 0
  IsEconomicalRun = IsRunOf IsEconomicalStep
