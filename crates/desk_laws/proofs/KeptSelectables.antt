-- The text record in which the mouse selects, if it does, is there after any call, and has the bytes that stay selected.
use Rattle.std.proofs.Common.{◌≡◌, List, None, Result, Ok, Err, refl, sym, subst}
use Rattle.tb_geom.specs.declared.refusal.Refusal.{Refusal}
use Rattle.desk_call.specs.declared.call.Call.{Call}
use Rattle.desk_call.specs.declared.call.Reply.{Reply}
use Rattle.desk_call.specs.declared.outline.OutlineCall.{OutlineCall}
use Rattle.desk_call.specs.declared.outline.OutlineReply.{OutlineReply}
use Rattle.desk_call.specs.declared.window.WindowCall.{WindowCall}
use Rattle.desk_call.specs.declared.window.WindowCall.TheVariants as window_calls
use Rattle.desk_call.specs.declared.window.WindowReply.{WindowReply}
use Rattle.desk_call.specs.declared.window.WindowReply.TheVariants as window_reply
use Rattle.desk_call.specs.Gates.{gate, outline_standing, window_standing}
use Rattle.window_mgr.specs.DeskStates.{DeskState}
use Rattle.window_outline.specs.OutlineSteps.{IsOutlineStep}
use Rattle.control_mgr.proofs.ControlFacts.{control_facts}
use Rattle.list_mgr.proofs.ListFacts.{list_facts}
use Rattle.text_mgr.specs.TextDesks.{KeptText, TextsState}
use Rattle.text_mgr.specs.WholeTexts.{IsSelectable}
use Rattle.desk_toolbox.specs.Run.{IsStep, IsWindowMade, put_down}
use Rattle.desk_toolbox.specs.ToolboxStates.{ToolboxState, with_controls, with_lists, with_menus, with_texts}
use Rattle.desk_toolbox.proofs.EachManager.{HoldsOfEach, of_step}
use Rattle.desk_toolbox.proofs.MenuStands.{menu_selectable}
use Rattle.desk_toolbox.proofs.OutlineStands.{outline_comes_then, outlining_after, outlining_selects_none}
use Rattle.desk_toolbox.proofs.SelectedTexts.{control_selectable, frame_selectable, left_selectable, selectable_stays, update_selectable}
use Rattle.desk_toolbox.specs.Reached.{AreRecords}
use Rattle.desk_laws.proofs.OpenUpdates.{made_stays_open}
use Rattle.desk_laws.proofs.SelectableStays.{text_selectable}

abbrev Selectable : ToolboxState → Type 0
Selectable s = IsSelectable s.desk.activity s.texts.texts

abbrev StaysSelectable : Call → Result Reply Refusal → ToolboxState → ToolboxState → Type 0
StaysSelectable call answer before after = AreRecords before.texts → Selectable before → Selectable after

-- where the text records are the same
with_same : (before after : ToolboxState) → after.texts ≡ before.texts → IsSelectable after.desk.activity before.texts.texts → Selectable after
with_same before after texts now = subst (λ (s : TextsState). IsSelectable after.desk.activity s.texts) (sym texts) now

window_stays : (call : WindowCall) (answer : Result WindowReply Refusal) (before after : ToolboxState) → gate before.desk.activity (window_standing call) ≡ None → IsWindowMade call answer before after → Selectable before → Selectable after
window_stays call (Ok answer) before after may step was = left_selectable call before after may (made_stays_open call (Ok answer) before after step).activity step.texts was
window_stays call (Err e) before after may step was = selectable_stays before after (made_stays_open call (Err e) before after step).activity step.1.texts was

outline_stays : (call : OutlineCall) (answer : Result OutlineReply Refusal) (before after : DeskState) (ts : List KeptText) → gate before.activity (outline_standing call) ≡ None → IsOutlineStep call answer before after → IsSelectable before.activity ts → IsSelectable after.activity ts
outline_stays call (Ok answer) before after ts may step was =
    subst (λ a. IsSelectable a ts) (sym step.1.leaves.activity_is)
    (outlining_selects_none _ ts (outlining_after call before.activity before.windows.desk (outline_comes_then call before.activity may)))
outline_stays call (Err e) before after ts may step was = subst (λ a. IsSelectable a ts) (sym step.1.activity) was

each_stays_selectable : HoldsOfEach StaysSelectable
each_stays_selectable = record {
  unchanged = λ call e before after same held was. selectable_stays before after same.desk.activity same.texts was;
  covered = λ p before after same held was. selectable_stays before after same.desk.activity same.texts was;
  hidden = λ p before after same held was. selectable_stays before after same.desk.activity same.texts was;
  window = λ call answer before after may step held was. window_stays call answer before after may step was;
  update = λ call answer before after may step rest held was. with_same before after rest.texts (update_selectable before.desk after.desk before.texts.texts was call answer step);
  frame = λ call answer before after may step rest held was. with_same before after rest.texts (frame_selectable before.desk after.desk before.texts.texts was call answer step);
  control = λ call answer before after may step events lists texts menus held was.
      let facts = (control_facts call answer (with_controls before) (with_controls after) step).0 in
      with_same before after texts (control_selectable before.desk.windows.desk.windows before.desk.activity after.desk.activity before.texts.texts facts.activity was);
  list = λ call answer before after may step events texts menus held was.
      let facts = (list_facts call answer (with_lists before) (with_lists after) step).0 in
      selectable_stays before after facts.activity.activity texts was;
  text = λ call answer before after may step events controls lists menus held was. text_selectable (with_texts before) (with_texts after) call answer may held was step;
  menu = λ call answer before after may step events controls lists texts held was. with_same before after texts (menu_selectable call answer (with_menus before) (with_menus after) before.texts.texts may step);
  outline = λ call answer before after may step rest held was. with_same before after rest.texts (outline_stays call answer before.desk after.desk before.texts.texts may step was);
  moved = λ call move before after may step held was. window_stays (window_calls.Move move) (Ok window_reply.Done) (put_down before) after refl step tt;
  event = λ call answer before after step held was. selectable_stays before after step.desk.activity step.texts was;
}

pub step_keeps_selectable : (call : Call) (answer : Result Reply Refusal) (before after : ToolboxState) → IsStep call answer before after → AreRecords before.texts → Selectable before → Selectable after
step_keeps_selectable = of_step StaysSelectable each_stays_selectable
