-- Whatever is called, the stock of lists has slots for the same kinds.
use Rattle.std.proofs.Common.{◌≡◌, Result, Ok, Err, ap}
use Rattle.tb_geom.specs.declared.refusal.Refusal.{Refusal}
use Rattle.desk_call.specs.declared.call.Call.{Call}
use Rattle.desk_call.specs.declared.call.Reply.{Reply}
use Rattle.desk_call.specs.declared.window.WindowCall.{WindowCall}
use Rattle.desk_call.specs.declared.window.WindowCall.TheVariants.{Dispose}
use Rattle.desk_call.specs.declared.window.WindowReply.{WindowReply}
use Rattle.list_mgr.specs.ListDesks.{ListsState}
use Rattle.list_mgr.proofs.ListFacts.{list_facts, list_kinds_of}
use Rattle.desk_toolbox.specs.Run.{AreListsLeft, IsWindowMade, IsStep}
use Rattle.desk_toolbox.specs.ToolboxStates.{ToolboxState, with_lists}
use Rattle.desk_toolbox.proofs.EachManager.{HoldsOfEach, of_step}
use Rattle.desk_call.specs.declared.window.WindowCall.TheVariants as window_calls
use Rattle.desk_call.specs.declared.window.WindowReply.TheVariants as window_reply
use Rattle.desk_toolbox.specs.Run.{put_down}

abbrev KeepsListKinds : Call → Result Reply Refusal → ToolboxState → ToolboxState → Type 0
KeepsListKinds call answer before after = list_kinds_of after.lists ≡ list_kinds_of before.lists

same_lists : (before after : ListsState) → after ≡ before → list_kinds_of after ≡ list_kinds_of before
same_lists before after same = ap list_kinds_of same

left_keeps : (call : WindowCall) (before after : ListsState) → AreListsLeft call before after → list_kinds_of after ≡ list_kinds_of before
left_keeps (Dispose s) before after left = left.closed.kinds
left_keeps call before after same = same_lists before after same

window_keeps : (call : WindowCall) (answer : Result WindowReply Refusal) (before after : ToolboxState) → IsWindowMade call answer before after → list_kinds_of after.lists ≡ list_kinds_of before.lists
window_keeps call (Ok answer) before after step = left_keeps call before.lists after.lists step.lists
window_keeps call (Err e) before after step = same_lists before.lists after.lists step.1.lists

each_keeps : HoldsOfEach KeepsListKinds
each_keeps = record {
  unchanged = λ call e before after same. same_lists before.lists after.lists same.lists;
  covered = λ p before after same. same_lists before.lists after.lists same.lists;
  hidden = λ p before after same. same_lists before.lists after.lists same.lists;
  window = λ call answer before after may step. window_keeps call answer before after step;
  update = λ call answer before after may step rest. same_lists before.lists after.lists rest.lists;
  frame = λ call answer before after may step rest. same_lists before.lists after.lists rest.lists;
  control = λ call answer before after may step events lists texts menus. same_lists before.lists after.lists lists;
  list = λ call answer before after may step events texts menus. (list_facts call answer (with_lists before) (with_lists after) step).0.list_kinds;
  text = λ call answer before after may step events controls lists menus. same_lists before.lists after.lists lists;
  menu = λ call answer before after may step events controls lists texts. same_lists before.lists after.lists lists;
  outline = λ call answer before after may step rest. same_lists before.lists after.lists rest.lists;
  moved = λ call move before after may step. window_keeps (window_calls.Move move) (Ok window_reply.Done) (put_down before) after step;
  event = λ call answer before after step. same_lists before.lists after.lists step.lists;
}

pub step_keeps_list_kinds : (call : Call) (answer : Result Reply Refusal) (before after : ToolboxState) → IsStep call answer before after → list_kinds_of after.lists ≡ list_kinds_of before.lists
step_keeps_list_kinds = of_step KeepsListKinds each_keeps
