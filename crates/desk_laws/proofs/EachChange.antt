-- What any call changes of pixels is its change.
use Rattle.std.proofs.Common.{◌≡◌, ◌∙◌, ℕ, ℤ, List, [], Option, None, Some, Result, Ok, Err, refl, sym, ap, subst}
use Rattle.std.specs.Prelude.{nat_abs}
use Rattle.std.specs.Option.{option_map_or}
use Rattle.tb_geom.specs.declared.refusal.Refusal.{Refusal}
use Rattle.tb_geom.specs.declared.point.Point.{Point}
use Rattle.desk_layers.specs.declared.part.Part.{Part}
use Rattle.desk_layers.specs.declared.part.Part.TheVariants as part
use Rattle.desk_layers.specs.Change.{Change, IsChanged, no_change}
use Rattle.list_cells.specs.declared.cell.Cell.{Cell}
use Rattle.list_cells.specs.Blocks.{clicked_cell}
use Rattle.list_cells.specs.Clicks.{keys_of}
use Rattle.list_cells.specs.Grids.{Grid, with_bytes}
use Rattle.list_cells.specs.Selections.{chosen_cell}
use Rattle.desk_call.specs.declared.call.Call.{Call}
use Rattle.desk_call.specs.declared.call.Call.TheVariants as calls
use Rattle.desk_call.specs.declared.call.Reply.{Reply}
use Rattle.desk_call.specs.declared.call.Reply.TheVariants as reply
use Rattle.desk_call.specs.declared.control.ControlCall.{ControlCall}
use Rattle.desk_call.specs.declared.control.ControlReply.{ControlReply}
use Rattle.desk_call.specs.declared.event.EventCall.{EventCall}
use Rattle.desk_call.specs.declared.event.EventReply.{EventReply}
use Rattle.desk_call.specs.declared.frame.FrameCall.{FrameCall}
use Rattle.desk_call.specs.declared.frame.FrameReply.{FrameReply}
use Rattle.desk_call.specs.declared.list.ListCall.{ListCall}
use Rattle.desk_call.specs.declared.list.ListCall.TheVariants as lists
use Rattle.desk_call.specs.declared.list.ListClick.{ListClick}
use Rattle.desk_call.specs.declared.list.ListReply.{ListReply}
use Rattle.desk_call.specs.declared.menu.MenuCall.{MenuCall}
use Rattle.desk_call.specs.declared.menu.MenuReply.{MenuReply}
use Rattle.desk_call.specs.declared.outline.OutlineCall.{OutlineCall}
use Rattle.desk_call.specs.declared.outline.OutlineReply.{OutlineReply}
use Rattle.desk_call.specs.declared.text.TextCall.{TextCall}
use Rattle.desk_call.specs.declared.text.TextReply.{TextReply}
use Rattle.desk_call.specs.declared.update.UpdateCall.{UpdateCall}
use Rattle.desk_call.specs.declared.window.MoveWindow.{MoveWindow}
use Rattle.desk_call.specs.declared.window.WindowCall.{WindowCall}
use Rattle.desk_call.specs.declared.window.WindowCall.TheVariants as windows
use Rattle.desk_call.specs.declared.window.WindowReply.{WindowReply}
use Rattle.desk_call.specs.declared.window.WindowReply.TheVariants as window_reply
use Rattle.desk_call.specs.Gates.{gate, standing_of}
use Rattle.window_mgr.specs.Effects.{IsUnchanged}
use Rattle.window_mgr.specs.FullDesk.{layered_state}
use Rattle.window_update.specs.UpdateSteps.{IsUpdateStep}
use Rattle.window_frame.specs.FrameSteps.{IsFrameStep}
use Rattle.window_outline.specs.Outlining.{let_go_of}
use Rattle.menu_mgr.specs.MenuSteps.{IsMenuStep}
use Rattle.window_paint.specs.White.{all_white}
use Rattle.control_mgr.specs.ControlDesks.{ControlRecord, controls_show}
use Rattle.control_mgr.specs.ControlSteps.{IsControlStep}
use Rattle.list_mgr.specs.ListDesks.{KeptList, list_of, lists_show}
use Rattle.list_mgr.specs.ListSteps.{IsClickOn, IsListEffect, IsListStep, appended, clicked_at, with_columns_fewer, with_columns_more, with_grid, with_rows_fewer, with_rows_more, with_scroll}
use Rattle.text_mgr.specs.TextDesks.{KeptText, texts_show}
use Rattle.text_mgr.specs.TextSteps.{IsTextStep}
use Rattle.text_mgr.proofs.TextsKept.{IsRightDesk}
use Rattle.desk_toolbox.specs.Reached.{IsConsistent}
use Rattle.desk_toolbox.specs.Run.{IsGated, IsLetGo, IsOutlineMade, IsStep, IsWindowMade, replied}
use Rattle.desk_toolbox.specs.ToolboxStates.{ToolboxState, with_controls, with_lists, with_menus, with_texts}
use Rattle.desk_toolbox.proofs.ContentsBeside.{IsRightToolbox}
use Rattle.desk_toolbox.proofs.ContentsLeft.{right_lists}
use Rattle.desk_toolbox.proofs.EachManager.{HoldsOfEach, of_step}
use Rattle.desk_toolbox.proofs.Outlined.{outline_unchanged}
use Rattle.desk_toolbox.proofs.Runs.{step_stays_right}
use Rattle.desk_toolbox.specs.Run.{put_down}
use Rattle.desk_laws.specs.Changes.{change_of_call, change_of_list, change_of_window}
use Rattle.desk_laws.proofs.GoneLists.{list_gone_changes}
use Rattle.desk_laws.proofs.HiddenControls.{hidden_changes}
use Rattle.desk_laws.proofs.ListChanges.{Edits, cells_change, lines_change, selection_change, unselected_change}
use Rattle.desk_laws.proofs.MadeLists.{list_made_changes}
use Rattle.desk_laws.proofs.ManagerChanges.{control_changes, frame_changes, menu_changes, update_changes}
use Rattle.desk_laws.proofs.TextChanges.{text_changes}
use Rattle.desk_laws.proofs.WindowChanges.{done_changes, refused_unchanged, unchanged_changes}

abbrev ChangesBy : Change → ToolboxState → ToolboxState → Type 0
ChangesBy c before after = IsChanged c (layered_state before.desk.windows) (layered_state after.desk.windows)

-- ---- lists

grid_edits : (g : Grid → Grid) → Edits (with_grid g)
grid_edits g = record { window = λ x. refl; serial = λ x. refl; vertical = λ x. refl; horizontal = λ x. refl; made = λ x. refl }

rows_more_edit : (n at : ℤ) → Edits (with_rows_more n at)
rows_more_edit n at = record { window = λ x. refl; serial = λ x. refl; vertical = λ x. refl; horizontal = λ x. refl; made = λ x. refl }

columns_more_edit : (n at : ℤ) → Edits (with_columns_more n at)
columns_more_edit n at = record { window = λ x. refl; serial = λ x. refl; vertical = λ x. refl; horizontal = λ x. refl; made = λ x. refl }

rows_fewer_edit : (n at : ℤ) → Edits (with_rows_fewer n at)
rows_fewer_edit n at = record { window = λ x. refl; serial = λ x. refl; vertical = λ x. refl; horizontal = λ x. refl; made = λ x. refl }

columns_fewer_edit : (n at : ℤ) → Edits (with_columns_fewer n at)
columns_fewer_edit n at = record { window = λ x. refl; serial = λ x. refl; vertical = λ x. refl; horizontal = λ x. refl; made = λ x. refl }

scroll_edits : (columns rows : ℤ) → Edits (with_scroll columns rows)
scroll_edits columns rows = record { window = λ x. refl; serial = λ x. refl; vertical = λ x. refl; horizontal = λ x. refl; made = λ x. refl }

module _ (before after : ToolboxState) (was : IsRightToolbox before) (are : IsRightToolbox after) where
  nothing : IsUnchanged before.desk.windows after.desk.windows → ChangesBy no_change before after
  nothing same = unchanged_changes before.desk.windows after.desk.windows was.right same

  clicked_changes : (k : ListClick) (x : KeptList) (o : Option Cell) (answer : ListReply) → list_of k.list before.lists.lists ≡ Some x → IsClickOn k o answer (with_lists before) (with_lists after) → ChangesBy (change_of_list (lists.Click k) before after) before after
  clicked_changes k x None answer named (is, same) = unselected_change k.list x before after was.right was.contents named same
  clicked_changes k x (Some c) answer named (is, done) = selection_change k.list (λ flags. clicked_cell flags (keys_of (nat_abs k.modifiers)) c) before after was.right was.contents done

  list_changes : (call : ListCall) (answer : ListReply) → IsListEffect call answer (with_lists before) (with_lists after) → ChangesBy (change_of_list call before after) before after
  list_changes (lists.New n) answer (serial, is, done) = list_made_changes n serial before after (right_lists before was) (right_lists after are) done
  list_changes (lists.Dispose l) answer done = list_gone_changes l (with_lists before) (with_lists after) (right_lists before was) (right_lists after are) done.1
  list_changes (lists.AddRows n) answer done = lines_change n.list (with_rows_more n.count n.at) (rows_more_edit n.count n.at) before after was.right are.right done.1
  list_changes (lists.AddColumns n) answer done = lines_change n.list (with_columns_more n.count n.at) (columns_more_edit n.count n.at) before after was.right are.right done.1
  list_changes (lists.DeleteRows n) answer done = lines_change n.list (with_rows_fewer n.count n.at) (rows_fewer_edit n.count n.at) before after was.right are.right done.1
  list_changes (lists.DeleteColumns n) answer done = lines_change n.list (with_columns_fewer n.count n.at) (columns_fewer_edit n.count n.at) before after was.right are.right done.1
  list_changes (lists.Scroll m) answer done = lines_change m.list (with_scroll m.columns m.rows) (scroll_edits m.columns m.rows) before after was.right are.right done.1
  list_changes (lists.SetCell t) answer done = cells_change t.cell.list (with_grid (λ g. with_bytes g t.cell.cell t.text)) (grid_edits (λ g. with_bytes g t.cell.cell t.text)) before after was.right done.1
  list_changes (lists.AddToCell t) answer done = cells_change t.cell.list (with_grid (appended t.cell.cell t.text)) (grid_edits (appended t.cell.cell t.text)) before after was.right done.1
  list_changes (lists.ClearCell c) answer done = cells_change c.list (with_grid (λ g. with_bytes g c.cell [])) (grid_edits (λ g. with_bytes g c.cell [])) before after was.right done.1
  list_changes (lists.Select k) answer done = selection_change k.cell.list (λ flags. chosen_cell k.cell.cell k.selected flags.only_one) before after was.right was.contents done.1
  list_changes (lists.Click k) answer (x, named, done) = clicked_changes k x (clicked_at k x) answer named done
  list_changes (lists.GetCell c) answer done = nothing done.1.desk.windows
  list_changes (lists.IsSelected c) answer done = nothing done.1.desk.windows
  list_changes (lists.FirstSelected c) answer done = nothing done.1.desk.windows
  list_changes (lists.NextCell n) answer done = nothing done.1.desk.windows
  list_changes (lists.Search t) answer done = nothing done.1.desk.windows
  list_changes (lists.SetDrawing d) answer (is, change, same) = nothing same.windows

-- ---- text records

-- whatever layers are kept first, they show the same
show_alike : (cs : List ControlRecord) (ls : List KeptList) (ts : List KeptText) (font : List ℕ) (q : Part) (p : Point)
    → controls_show (lists_show (texts_show (λ f. all_white) ts) ls) cs font q p ≡ texts_show (controls_show (lists_show (λ f. all_white) ls) cs) ts font q p
show_alike cs ls ts font part.Picture p = refl
show_alike cs ls ts font (part.Control n) p = refl
show_alike cs ls ts font (part.List n) p = refl
show_alike cs ls ts font (part.Text n) p = refl

right_texts : (s : ToolboxState) → IsRightToolbox s → IsRightDesk (with_texts s)
right_texts s was = record {
  right = was.right;
  shows = was.contents.shown ∙ (λ i q p. show_alike s.controls.controls s.lists.lists s.texts.texts s.desk.windows.desk.font q p i);
  whole = was.contents.texts;
}

-- ---- each manager

abbrev ChangesSo : Call → Result Reply Refusal → ToolboxState → ToolboxState → Type 0
ChangesSo (calls.Outline call) answer before after = Unit {0}
ChangesSo call answer before after = IsRightToolbox before → IsRightToolbox after → ChangesBy (change_of_call call answer before after) before after

refused_changes : (call : Call) (e : Refusal) (before after : ToolboxState) → IsUnchanged before.desk.windows after.desk.windows → ChangesSo call (Err e) before after
refused_changes (calls.Outline call) e before after same = tt
refused_changes (calls.Window call) e before after same = λ was are. nothing before after was are same
refused_changes (calls.Update call) e before after same = λ was are. nothing before after was are same
refused_changes (calls.Frame call) e before after same = λ was are. nothing before after was are same
refused_changes (calls.Control call) e before after same = λ was are. nothing before after was are same
refused_changes (calls.List call) e before after same = λ was are. nothing before after was are same
refused_changes (calls.Text call) e before after same = λ was are. nothing before after was are same
refused_changes (calls.Menu call) e before after same = λ was are. nothing before after was are same
refused_changes (calls.Event call) e before after same = λ was are. nothing before after was are same

window_so : (call : WindowCall) (answer : Result WindowReply Refusal) (before after : ToolboxState) → IsWindowMade call answer before after → ChangesSo (calls.Window call) (replied reply.Window answer) before after
window_so call (Ok answer) before after step was are = done_changes call answer before after was.right are.right step
window_so call (Err e) before after step was are = nothing before after was are (refused_unchanged call e before after step)

update_so : (call : UpdateCall) (answer : Result WindowReply Refusal) (before after : ToolboxState) → IsUpdateStep call answer before.desk after.desk → ChangesSo (calls.Update call) (replied reply.Window answer) before after
update_so call (Ok answer) before after step was are = update_changes call before.desk after.desk was.right step.1.1
update_so call (Err e) before after step was are = nothing before after was are step.1.windows

frame_so : (call : FrameCall) (answer : Result FrameReply Refusal) (before after : ToolboxState) → IsFrameStep call answer before.desk after.desk → ChangesSo (calls.Frame call) (replied reply.Frame answer) before after
frame_so call (Ok answer) before after step was are = frame_changes call (Ok answer) before.desk after.desk was.right step
frame_so call (Err e) before after step was are = nothing before after was are step.1.windows

control_so : (call : ControlCall) (answer : Result ControlReply Refusal) (before after : ToolboxState) → IsControlStep call answer (with_controls before) (with_controls after) → ChangesSo (calls.Control call) (replied reply.Control answer) before after
control_so call (Ok answer) before after step was are = control_changes call answer before after was.right are.right
    (λ c done. hidden_changes c (with_lists before) (with_lists after) (right_lists before was) (right_lists after are) done) step.1
control_so call (Err e) before after step was are = nothing before after was are step.1.desk.windows

list_so : (call : ListCall) (answer : Result ListReply Refusal) (before after : ToolboxState) → IsListStep call answer (with_lists before) (with_lists after) → ChangesSo (calls.List call) (replied reply.List answer) before after
list_so call (Ok answer) before after step was are = list_changes before after was are call answer step.1
list_so call (Err e) before after step was are = nothing before after was are step.1.desk.windows

text_so : (call : TextCall) (answer : Result TextReply Refusal) (before after : ToolboxState) → IsTextStep call answer (with_texts before) (with_texts after) → ChangesSo (calls.Text call) (replied reply.Text answer) before after
text_so call (Ok answer) before after step was are = text_changes call answer before after (right_texts before was) (right_texts after are) step.1
text_so call (Err e) before after step was are = nothing before after was are step.1.desk.windows

menu_so : (call : MenuCall) (answer : Result MenuReply Refusal) (before after : ToolboxState) → IsMenuStep call answer (with_menus before) (with_menus after) → ChangesSo (calls.Menu call) (replied reply.Menu answer) before after
menu_so call (Ok answer) before after step was are = menu_changes call (Ok answer) (with_menus before) (with_menus after) was.right step
menu_so call (Err e) before after step was are = nothing before after was are step.1.desk.windows

event_so : (call : EventCall) (answer : Result EventReply Refusal) (before after : ToolboxState) → IsUnchanged before.desk.windows after.desk.windows → ChangesSo (calls.Event call) (replied reply.Event answer) before after
event_so call (Ok answer) before after same was are = nothing before after was are same
event_so call (Err e) before after same was are = nothing before after was are same

each_changes_so : HoldsOfEach ChangesSo
each_changes_so = record {
  unchanged = λ call e before after same. refused_changes call e before after same.desk.windows;
  covered = λ p before after same was are. nothing before after was are same.desk.windows;
  hidden = λ p before after same was are. nothing before after was are same.desk.windows;
  window = λ call answer before after may step. window_so call answer before after step;
  update = λ call answer before after may step rest. update_so call answer before after step;
  frame = λ call answer before after may step rest. frame_so call answer before after step;
  control = λ call answer before after may step events lists texts menus. control_so call answer before after step;
  list = λ call answer before after may step events texts menus. list_so call answer before after step;
  text = λ call answer before after may step events controls lists menus. text_so call answer before after step;
  menu = λ call answer before after may step events controls lists texts. menu_so call answer before after step;
  outline = λ call answer before after may step rest. tt;
  moved = λ call move before after may step. tt;
  event = λ call answer before after step. event_so call answer before after step.desk.windows;
}

-- ---- outlines

module _ (call : OutlineCall) (before after : ToolboxState) (was : IsRightToolbox before) (are : IsRightToolbox after) where
  abbrev dropped : Option MoveWindow → Change
  dropped drop = option_map_or (λ m. change_of_window (windows.Move m) before.desk.windows.desk) drop no_change

  let_go_changes : (move : MoveWindow) (own : Result OutlineReply Refusal) → let_go_of call before.desk.activity before.desk.windows.desk ≡ Some move → IsLetGo move own before after
      → ChangesBy (change_of_call (calls.Outline call) (replied reply.Outline own) before after) before after
  let_go_changes move (Ok answer) is (shown, made) =
      subst (λ c. ChangesBy c before after) (sym (ap dropped is)) (done_changes (windows.Move move) window_reply.Done (put_down before) after was.right are.right made)
  let_go_changes move (Err e) is (refused, same) = nothing before after was are same.desk.windows

  told_changes : (drop : Option MoveWindow) (own : Result OutlineReply Refusal) → let_go_of call before.desk.activity before.desk.windows.desk ≡ drop → IsOutlineMade drop call own before after
      → ChangesBy (change_of_call (calls.Outline call) (replied reply.Outline own) before after) before after
  told_changes None (Ok answer) is (step, rest) = subst (λ c. ChangesBy c before after) (sym (ap dropped is)) (nothing before after was are (outline_unchanged call (Ok answer) before.desk after.desk step))
  told_changes None (Err e) is (step, rest) = nothing before after was are (outline_unchanged call (Err e) before.desk after.desk step)
  told_changes (Some move) own is step = let_go_changes move own is step

  outline_changes : (stopped : Option Refusal) (answer : Result Reply Refusal) → IsGated stopped (calls.Outline call) answer before after → ChangesBy (change_of_call (calls.Outline call) answer before after) before after
  outline_changes None answer (own, is, step) =
      subst (λ r. ChangesBy (change_of_call (calls.Outline call) r before after) before after) (sym is)
      (told_changes (let_go_of call before.desk.activity before.desk.windows.desk) own refl step)
  outline_changes (Some e) (Ok answer) stopped = absurd stopped
  outline_changes (Some e) (Err f) (form, why, (is, same)) = nothing before after was are same.desk.windows

-- ---- any call

pub each_changes : (call : Call) (answer : Result Reply Refusal) (before after : ToolboxState) → IsConsistent before → IsStep call answer before after → ChangesBy (change_of_call call answer before after) before after
each_changes call answer before after consistent step = by_call call refl
  where
    was : IsRightToolbox before
    was = record { right = consistent.right; contents = consistent.contents }

    are : IsRightToolbox after
    are = step_stays_right call answer before after was step

    of_managers : ChangesSo call answer before after
    of_managers = of_step ChangesSo each_changes_so call answer before after step

    by_call : (c : Call) → call ≡ c → ChangesBy (change_of_call call answer before after) before after
    by_call (calls.Outline o) is =
        subst (λ c. ChangesBy (change_of_call c answer before after) before after) (sym is)
        (outline_changes o before after was are (gate before.desk.activity (standing_of (calls.Outline o))) answer (subst (λ c. IsStep c answer before after) is step))
    by_call (calls.Window c) is = subst (λ c. ChangesBy (change_of_call c answer before after) before after) (sym is) (subst (λ c. ChangesSo c answer before after) is of_managers was are)
    by_call (calls.Update c) is = subst (λ c. ChangesBy (change_of_call c answer before after) before after) (sym is) (subst (λ c. ChangesSo c answer before after) is of_managers was are)
    by_call (calls.Frame c) is = subst (λ c. ChangesBy (change_of_call c answer before after) before after) (sym is) (subst (λ c. ChangesSo c answer before after) is of_managers was are)
    by_call (calls.Control c) is = subst (λ c. ChangesBy (change_of_call c answer before after) before after) (sym is) (subst (λ c. ChangesSo c answer before after) is of_managers was are)
    by_call (calls.List c) is = subst (λ c. ChangesBy (change_of_call c answer before after) before after) (sym is) (subst (λ c. ChangesSo c answer before after) is of_managers was are)
    by_call (calls.Text c) is = subst (λ c. ChangesBy (change_of_call c answer before after) before after) (sym is) (subst (λ c. ChangesSo c answer before after) is of_managers was are)
    by_call (calls.Menu c) is = subst (λ c. ChangesBy (change_of_call c answer before after) before after) (sym is) (subst (λ c. ChangesSo c answer before after) is of_managers was are)
    by_call (calls.Event c) is = subst (λ c. ChangesBy (change_of_call c answer before after) before after) (sym is) (subst (λ c. ChangesSo c answer before after) is of_managers was are)
