-- What the end of a window or of a desk does to the stock of controls.
use Rattle.std.specs.Prelude.{ℕ, List}
use Rattle.def_iface.specs.declared.window_def.Stage.{Stage}
use Rattle.def_iface.specs.ControlMeaning.{ControlDefinition, ControlLoan, SameControlLook}
use Rattle.control_mgr.specs.declared.control.Control.{Control}
use Rattle.control_mgr.specs.ControlDesks.{ControlRecord, ControlSlot, ControlsState}
use Rattle.control_mgr.specs.ItemsClosing as closing

-- where a control's definition stands in its life
abbrev pub stage_of : ControlDefinition → Stage
stage_of d = d.stage

-- the definition that a control has out of its slot
abbrev pub loan_of : Control ControlLoan → ControlLoan
loan_of c = c.definition

-- the desk's controls, which are these, were disposed of: every slot has a definition that no desk uses
abbrev pub AreAllControlsClosed : List ControlRecord → List ControlSlot → List ControlSlot → Type 0
AreAllControlsClosed = closing.AreAllClosed loan_of stage_of SameControlLook

abbrev pub items_state : ControlsState → closing.ItemsState ControlDefinition (Control ControlLoan)
items_state s = record { items = s.controls; next = s.next; stock = s.stock }

-- the controls of a window were disposed of, and those of other windows stay
abbrev pub IsWindowLeft : ℕ → ControlsState → ControlsState → Type 0
IsWindowLeft window before after = closing.AreLeft loan_of stage_of SameControlLook window (items_state before) (items_state after)
