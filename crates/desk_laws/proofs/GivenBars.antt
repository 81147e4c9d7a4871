-- The scroll bars of each list have serials that controls were given, whatever is called.
use Rattle.std.proofs.Common.{◌≡◌, Result, Ok, Err, sym, subst}
use Rattle.tb_geom.specs.declared.refusal.Refusal.{Refusal}
use Rattle.desk_call.specs.declared.call.Call.{Call}
use Rattle.desk_call.specs.declared.call.Reply.{Reply}
use Rattle.desk_call.specs.declared.window.WindowCall.{WindowCall}
use Rattle.desk_call.specs.declared.window.WindowCall.TheVariants.{Dispose}
use Rattle.desk_call.specs.declared.window.WindowReply.{WindowReply}
use Rattle.control_mgr.specs.ControlDesks.{ControlsState}
use Rattle.control_mgr.proofs.ControlFacts.{control_facts}
use Rattle.control_mgr.proofs.ControlsFollowed.{all_within}
use Rattle.list_mgr.specs.GivenBars.{AreBarsGiven, HasGivenBars}
use Rattle.list_mgr.specs.ListDesks.{ListsState}
use Rattle.list_mgr.proofs.GivenBars.{bars_go_on, control_from_one, control_goes_on, list_keeps_bars}
use Rattle.desk_toolbox.specs.Run.{AreControlsLeft, AreListsLeft, IsStep, IsWindowMade}
use Rattle.desk_toolbox.specs.ToolboxStates.{ToolboxState, with_controls, with_lists}
use Rattle.desk_toolbox.proofs.EachManager.{HoldsOfEach, of_step}
use Rattle.desk_call.specs.declared.window.WindowCall.TheVariants as window_calls
use Rattle.desk_call.specs.declared.window.WindowReply.TheVariants as window_reply
use Rattle.desk_toolbox.specs.Run.{put_down}

abbrev HaveGivenBars : ControlsState → ListsState → Type 0
HaveGivenBars controls lists = AreBarsGiven controls.next lists.lists

abbrev KeepsBars : Call → Result Reply Refusal → ToolboxState → ToolboxState → Type 0
KeepsBars call answer before after = HaveGivenBars before.controls before.lists → HaveGivenBars after.controls after.lists

same_bars : (before after : ToolboxState) → after.controls ≡ before.controls → after.lists ≡ before.lists → HaveGivenBars before.controls before.lists → HaveGivenBars after.controls after.lists
same_bars before after controls lists h = subst (λ (s : ControlsState × ListsState). HaveGivenBars s.0 s.1) (λ i. (sym controls i, sym lists i)) h

-- the controls and the lists of a window that is gone went with it
left_bars : (call : WindowCall) (before after : ToolboxState) → AreControlsLeft call before.controls after.controls → AreListsLeft call before.lists after.lists
    → HaveGivenBars before.controls before.lists → HaveGivenBars after.controls after.lists
left_bars (Dispose s) before after controls lists h =
    subst (λ o. AreBarsGiven o after.lists.lists) (sym controls.next)
    (h.0, all_within (HasGivenBars before.controls.next) before.lists.lists after.lists.lists lists.within h.1)
left_bars call before after controls lists h = same_bars before after controls lists h

made_bars : (call : WindowCall) (answer : Result WindowReply Refusal) (before after : ToolboxState) → IsWindowMade call answer before after
    → HaveGivenBars before.controls before.lists → HaveGivenBars after.controls after.lists
made_bars call (Ok answer) before after made h = left_bars call before after made.controls made.lists h
made_bars call (Err e) before after step h = same_bars before after step.1.controls step.1.lists h

each_keeps_bars : HoldsOfEach KeepsBars
each_keeps_bars = record {
  unchanged = λ call e before after same h. same_bars before after same.controls same.lists h;
  covered = λ p before after same h. same_bars before after same.controls same.lists h;
  hidden = λ p before after same h. same_bars before after same.controls same.lists h;
  window = λ call answer before after may step h. made_bars call answer before after step h;
  update = λ call answer before after may step rest h. same_bars before after rest.controls rest.lists h;
  frame = λ call answer before after may step rest h. same_bars before after rest.controls rest.lists h;
  control = λ call answer before after may step events lists texts menus h.
      let next = (control_facts call answer (with_controls before) (with_controls after) step).1 in
      subst (HaveGivenBars after.controls) (sym lists) (
        control_from_one call answer before.controls after.controls next h.0,
        bars_go_on before.controls.next after.controls.next before.lists.lists (control_goes_on call answer before.controls after.controls next) h.1,
      );
  list = λ call answer before after may step events texts menus h. list_keeps_bars call answer (with_lists before) (with_lists after) step h;
  text = λ call answer before after may step events controls lists menus h. same_bars before after controls lists h;
  menu = λ call answer before after may step events controls lists texts h. same_bars before after controls lists h;
  outline = λ call answer before after may step rest h. same_bars before after rest.controls rest.lists h;
  moved = λ call move before after may step h. made_bars (window_calls.Move move) (Ok window_reply.Done) (put_down before) after step h;
  event = λ call answer before after step h. same_bars before after step.controls step.lists h;
}

pub step_keeps_bars : (call : Call) (answer : Result Reply Refusal) (before after : ToolboxState) → IsStep call answer before after
    → AreBarsGiven before.controls.next before.lists.lists → AreBarsGiven after.controls.next after.lists.lists
step_keeps_bars = of_step KeepsBars each_keeps_bars
