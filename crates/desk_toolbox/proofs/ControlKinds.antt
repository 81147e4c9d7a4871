-- Whatever is called, the stock of controls has slots for the same kinds.
use Rattle.std.proofs.Common.{◌≡◌, ℕ, List, map, Result, Ok, Err, ap}
use Rattle.tb_geom.specs.declared.refusal.Refusal.{Refusal}
use Rattle.desk_call.specs.declared.call.Call.{Call}
use Rattle.desk_call.specs.declared.call.Reply.{Reply}
use Rattle.desk_call.specs.declared.window.WindowCall.{WindowCall}
use Rattle.desk_call.specs.declared.window.WindowCall.TheVariants.{Dispose}
use Rattle.desk_call.specs.declared.window.WindowReply.{WindowReply}
use Rattle.control_mgr.specs.ControlDesks.{ControlSlot, ControlsState}
use Rattle.control_mgr.proofs.ControlFacts.{control_facts}
use Rattle.list_mgr.proofs.ListFacts.{list_facts}
use Rattle.desk_toolbox.specs.Run.{AreControlsLeft, IsWindowMade, IsStep}
use Rattle.desk_toolbox.specs.ToolboxStates.{ToolboxState, with_controls, with_lists}
use Rattle.desk_toolbox.proofs.EachManager.{HoldsOfEach, of_step}
use Rattle.desk_call.specs.declared.window.WindowCall.TheVariants as window_calls
use Rattle.desk_call.specs.declared.window.WindowReply.TheVariants as window_reply
use Rattle.desk_toolbox.specs.Run.{put_down}

abbrev pub control_kinds : List ControlSlot → List (List ℕ)
control_kinds slots = map (λ s. s.kind) slots

abbrev KeepsControlKinds : Call → Result Reply Refusal → ToolboxState → ToolboxState → Type 0
KeepsControlKinds call answer before after = control_kinds after.controls.stock ≡ control_kinds before.controls.stock

same_controls : (before after : ControlsState) → after ≡ before → control_kinds after.stock ≡ control_kinds before.stock
same_controls before after same = ap (λ (m : ControlsState). control_kinds m.stock) same

left_keeps : (call : WindowCall) (before after : ControlsState) → AreControlsLeft call before after → control_kinds after.stock ≡ control_kinds before.stock
left_keeps (Dispose s) before after left = left.closed.kinds
left_keeps call before after same = same_controls before after same

window_keeps : (call : WindowCall) (answer : Result WindowReply Refusal) (before after : ToolboxState) → IsWindowMade call answer before after → control_kinds after.controls.stock ≡ control_kinds before.controls.stock
window_keeps call (Ok answer) before after step = left_keeps call before.controls after.controls step.controls
window_keeps call (Err e) before after step = same_controls before.controls after.controls step.1.controls

each_keeps : HoldsOfEach KeepsControlKinds
each_keeps = record {
  unchanged = λ call e before after same. same_controls before.controls after.controls same.controls;
  covered = λ p before after same. same_controls before.controls after.controls same.controls;
  hidden = λ p before after same. same_controls before.controls after.controls same.controls;
  window = λ call answer before after may step. window_keeps call answer before after step;
  update = λ call answer before after may step rest. same_controls before.controls after.controls rest.controls;
  frame = λ call answer before after may step rest. same_controls before.controls after.controls rest.controls;
  control = λ call answer before after may step events lists texts menus. (control_facts call answer (with_controls before) (with_controls after) step).0.kinds;
  list = λ call answer before after may step events texts menus. (list_facts call answer (with_lists before) (with_lists after) step).0.kinds;
  text = λ call answer before after may step events controls lists menus. same_controls before.controls after.controls controls;
  menu = λ call answer before after may step events controls lists texts. same_controls before.controls after.controls controls;
  outline = λ call answer before after may step rest. same_controls before.controls after.controls rest.controls;
  moved = λ call move before after may step. window_keeps (window_calls.Move move) (Ok window_reply.Done) (put_down before) after step;
  event = λ call answer before after step. same_controls before.controls after.controls step.controls;
}

pub step_keeps_control_kinds : (call : Call) (answer : Result Reply Refusal) (before after : ToolboxState) → IsStep call answer before after → control_kinds after.controls.stock ≡ control_kinds before.controls.stock
step_keeps_control_kinds = of_step KeepsControlKinds each_keeps
