-- What each call changes of pixels, refused calls included: which of them are stale after it, and which values they
-- have. Whatever the call, a pixel of content is stale too where it is exposed, and the frames, the menu bar and the
-- desktop are shown as they are then. So a call whose change is no_change may well expose pixels: HideWindow does.
use Rattle.std.specs.Prelude.{ℕ, Bool, false, not, ◌&&◌, ◌||◌, if◌then◌else◌, List, Option, None, Some, Result, Ok, Err}
use Rattle.std.specs.Option.{option_and_then, option_map, option_map_or}
use Rattle.tb_geom.specs.declared.point.Point.{Point}
use Rattle.tb_geom.specs.declared.refusal.Refusal.{Refusal}
use Rattle.desk_layers.specs.declared.part.Part.TheVariants.{Control, List as ListPart, Text as TextPart}
use Rattle.desk_layers.specs.Owner.{Owner, same_owner}
use Rattle.desk_layers.specs.Owner.Owner.{Content}
use Rattle.desk_layers.specs.Change.{Change, no_change}
use Rattle.desk_call.specs.declared.activity.Activity.{Activity}
use Rattle.desk_call.specs.declared.activity.Activity.TheVariants.{TrackingControl, Selecting}
use Rattle.desk_call.specs.declared.call.Call.{Call}
use Rattle.desk_call.specs.declared.call.Call.TheVariants as calls
use Rattle.desk_call.specs.declared.call.Reply.{Reply}
use Rattle.desk_call.specs.declared.control.ControlCall.{ControlCall}
use Rattle.desk_call.specs.declared.control.ControlCall.TheVariants as controls
use Rattle.desk_call.specs.declared.control.ControlOf.{ControlOf}
use Rattle.desk_call.specs.declared.list.ListCall.{ListCall}
use Rattle.desk_call.specs.declared.list.ListCall.TheVariants as lists
use Rattle.desk_call.specs.declared.list.ListOf.{ListOf}
use Rattle.desk_call.specs.declared.outline.OutlineCall.{OutlineCall}
use Rattle.desk_call.specs.declared.text.TextCall.{TextCall}
use Rattle.desk_call.specs.declared.text.TextCall.TheVariants as texts
use Rattle.desk_call.specs.declared.text.TextOf.{TextOf}
use Rattle.desk_call.specs.declared.update.UpdateCall.{UpdateCall}
use Rattle.desk_call.specs.declared.update.UpdateCall.TheVariants as updates
use Rattle.desk_call.specs.declared.window.WindowCall.{WindowCall}
use Rattle.desk_call.specs.declared.window.WindowCall.TheVariants as windows
use Rattle.desk_call.specs.declared.window.ZoomWindow.{ZoomWindow}
use Rattle.vis_update.specs.Areas.{is_content_of}
use Rattle.vis_update.specs.Contents.{scroll_change}
use Rattle.vis_update.specs.Relayings.{afresh_change}
use Rattle.vis_update.specs.Touches.{moving}
use Rattle.window_mgr.specs.Arrange.{way_to}
use Rattle.window_mgr.specs.DeskStates.{DeskState}
use Rattle.window_mgr.specs.Effects.{draw_change, picture_change}
use Rattle.window_mgr.specs.Finding.{record_with}
use Rattle.window_mgr.specs.FullDesk.{FullDesk, FullState}
use Rattle.window_mgr.specs.Placings.{zoomed}
use Rattle.window_mgr.specs.Relayered.{redrawn_change, toggled_change}
use Rattle.window_mgr.specs.Updating.{is_of_kind, refresh_change}
use Rattle.window_update.specs.UpdateSteps.{adding, taking}
use Rattle.window_outline.specs.Outlining.{let_go_of}
use Rattle.list_view.specs.Shown.{is_turned}
use Rattle.list_mgr.specs.ListDesks.{KeptList, list_of, with_serial}
use Rattle.desk_toolbox.specs.ToolboxStates.{ToolboxState}
use Rattle.desk_laws.specs.Meant.{area_pixels, operation_of}
use Rattle.desk_laws.specs.SameLists.{is_as_it_was}

-- ---- calls on windows

-- how far the content of a window moves that is zoomed, if it moves
abbrev pub zoom_way : ZoomWindow → FullDesk → Option Point
zoom_way z desk = option_and_then (λ p. p.by) (zoomed z (record_with z.window desk.windows) desk)

-- a drawing is drawn on what the window's picture owns; all of another picture is stale; and what is scrolled, moved or
-- zoomed takes its pixels along, stale ones too
abbrev pub change_of_window : WindowCall → FullDesk → Change
change_of_window (windows.Draw d) desk = option_map_or
    (λ w. draw_change desk.font d.window w (operation_of d.operation)) (record_with d.window desk.windows) no_change
change_of_window (windows.SetPicture n) desk = picture_change n.window
change_of_window (windows.Scroll m) desk = scroll_change m.window m.by
change_of_window (windows.Move m) desk = moving m.window (way_to m.place (record_with m.window desk.windows))
change_of_window (windows.Zoom z) desk = moving z.window (zoom_way z desk)
change_of_window call desk = no_change

-- the end of a drag moves the window that was dragged, where the mouse button was released in the gray region
abbrev pub change_of_outline : OutlineCall → DeskState → Change
change_of_outline call before = let desk = before.windows.desk in
    option_map_or (λ m. change_of_window (windows.Move m) desk) (let_go_of call before.activity desk) no_change

-- ---- calls about updates

-- an area is put into the update region, or taken out of it, and layers are drawn where they are stale
abbrev pub change_of_update : UpdateCall → FullState → Change
change_of_update (updates.Invalidate m) before = adding m.window (area_pixels m.area) before
change_of_update (updates.Validate m) before = taking m.window (area_pixels m.area) before
change_of_update (updates.Draw d) before = refresh_change (is_of_kind d.layers d.window) before
change_of_update (updates.Serve s) before = refresh_change (is_content_of s) before
change_of_update call before = no_change

-- ---- calls about controls

-- all that the control owns then is drawn
abbrev pub control_afresh : ControlOf → Change
control_afresh c = afresh_change c.window (Some (Control c.control))

-- the control is shown anew where it is not stale
abbrev pub control_anew : ControlOf → Change
control_anew c = redrawn_change c.window (Control c.control)

-- so is the control that is tracked, if one is
abbrev pub tracked_anew : Activity → Change
tracked_anew (TrackingControl k) = control_anew k.control
tracked_anew _ = no_change

-- a control that is made, shown, moved or sized is drawn; one of which a value, the title or the highlighting is set is
-- shown anew
abbrev pub change_of_control : ControlCall → ToolboxState → Change
change_of_control (controls.New n) before = afresh_change n.window (option_map Control before.controls.next)
change_of_control (controls.Show c) before = control_afresh c
change_of_control (controls.Move m) before = control_afresh m.control
change_of_control (controls.Size z) before = control_afresh z.control
change_of_control (controls.SetValue n) before = control_anew n.control
change_of_control (controls.SetMinimum n) before = control_anew n.control
change_of_control (controls.SetMaximum n) before = control_anew n.control
change_of_control (controls.Hilite n) before = control_anew n.control
change_of_control (controls.SetTitle t) before = control_anew t.control
change_of_control (controls.Track p) before = control_anew p.control
change_of_control (controls.Step p) before = tracked_anew before.desk.activity
change_of_control (controls.End p) before = tracked_anew before.desk.activity
change_of_control call before = no_change

-- ---- calls about lists

-- the owner is this list
abbrev pub is_list : ListOf → Owner → Bool
is_list l o = same_owner o (Content l.window (ListPart l.list))

-- the owner is this scroll bar of the window, if one is given
abbrev pub is_bar : ℕ → Option ℕ → Owner → Bool
is_bar window None o = false
is_bar window (Some n) o = same_owner o (Content window (Control n))

-- the owner is one of the scroll bars that a list of the window was made with
abbrev pub is_bar_of : ℕ → KeptList → Owner → Bool
is_bar_of window x o = is_bar window x.kept.vertical o || is_bar window x.kept.horizontal o

-- a list was this, and is that now. While its drawing is on it is shown anew where it is not stale. While its drawing
-- is off all that it owns is stale, if its cells, its selection or its scroll place are others. The owners beside it
-- are shown anew
abbrev pub list_edited : ListOf → (Owner → Bool) → KeptList → KeptList → Change
list_edited l beside was is = record no_change {
  added = λ o p. not was.kept.drawing && (not (is_as_it_was was is) && is_list l o);
  redrawn = λ o. beside o || (was.kept.drawing && is_list l o);
}

-- other cells of a list are selected. While its drawing is on, what that highlights otherwise is inverted, stale pixels
-- too
abbrev pub list_selected : ListOf → Point → List ℕ → KeptList → KeptList → Change
list_selected l place font was is = if was.kept.drawing then toggled_change l.window place (ListPart l.list)
    (is_turned font was.kept.definition.definition was.kept.view was.kept.cells is.kept.cells)
    else list_edited l (λ o. false) was is

-- what a call makes of the list that it names, as the list was and as it is
abbrev pub of_named : ListOf → ToolboxState → ToolboxState → (KeptList → KeptList → Change) → Change
of_named l before after change = option_map_or (λ was. option_map_or (λ is. change was is)
    (list_of l after.lists.lists) no_change) (list_of l before.lists.lists) no_change

-- bytes of its cells are set
abbrev pub cells_edited : ListOf → ToolboxState → ToolboxState → Change
cells_edited l before after = of_named l before after (λ was is. list_edited l (λ o. false) was is)

-- rows or columns come or go, or it is scrolled, and its scroll bars are set
abbrev pub lines_edited : ListOf → ToolboxState → ToolboxState → Change
lines_edited l before after = of_named l before after (λ was is. list_edited l (is_bar_of l.window was) was is)

-- cells are selected
abbrev pub cells_selected : ListOf → ToolboxState → ToolboxState → Change
cells_selected l before after = let desk = before.desk.windows.desk in of_named l before after (λ was is.
    option_map_or (λ w. list_selected l w.place desk.font was is) (record_with l.window desk.windows) no_change)

-- the list with the next serial is made, and all that it and its scroll bars own then is drawn
abbrev pub list_made : ℕ → ToolboxState → ToolboxState → Change
list_made window before after = option_map_or (λ n. option_map_or (λ x. record no_change {
  afresh = λ o p. is_list (record { window = window; list = n }) o || is_bar_of window x o;
}) (with_serial n after.lists.lists) no_change) before.lists.next no_change

abbrev pub change_of_list : ListCall → ToolboxState → ToolboxState → Change
change_of_list (lists.New n) before after = list_made n.window before after
change_of_list (lists.AddRows n) before after = lines_edited n.list before after
change_of_list (lists.AddColumns n) before after = lines_edited n.list before after
change_of_list (lists.DeleteRows n) before after = lines_edited n.list before after
change_of_list (lists.DeleteColumns n) before after = lines_edited n.list before after
change_of_list (lists.Scroll m) before after = lines_edited m.list before after
change_of_list (lists.SetCell t) before after = cells_edited t.cell.list before after
change_of_list (lists.AddToCell t) before after = cells_edited t.cell.list before after
change_of_list (lists.ClearCell c) before after = cells_edited c.list before after
change_of_list (lists.Select k) before after = cells_selected k.cell.list before after
change_of_list (lists.Click k) before after = cells_selected k.list before after
change_of_list call before after = no_change

-- ---- calls about text records

-- all that the text record owns then is drawn
abbrev pub text_afresh : TextOf → Change
text_afresh t = afresh_change t.window (Some (TextPart t.text))

-- the text record is shown anew where it is not stale
abbrev pub text_anew : TextOf → Change
text_anew t = redrawn_change t.window (TextPart t.text)

-- so is the text record in which the mouse selects, if it does
abbrev pub selected_anew : Activity → Change
selected_anew (Selecting k) = text_anew k.text
selected_anew _ = no_change

-- a text record that is made, placed or shown is drawn; one that is edited, or in which the mouse selects, is shown anew
abbrev pub change_of_text : TextCall → ToolboxState → Change
change_of_text (texts.New n) before = afresh_change n.window (option_map TextPart before.texts.next)
change_of_text (texts.Place p) before = text_afresh p.text
change_of_text (texts.Show t) before = text_afresh t
change_of_text (texts.Set b) before = text_anew b.text
change_of_text (texts.Insert b) before = text_anew b.text
change_of_text (texts.Delete t) before = text_anew t
change_of_text (texts.Key n) before = text_anew n.text
change_of_text (texts.Cut t) before = text_anew t
change_of_text (texts.Paste t) before = text_anew t
change_of_text (texts.Select z) before = text_anew z.text
change_of_text (texts.Activate f) before = text_anew f.text
change_of_text (texts.Idle n) before = text_anew n.text
change_of_text (texts.Justify n) before = text_anew n.text
change_of_text (texts.Scroll z) before = text_anew z.text
change_of_text (texts.ShowSelection t) before = text_anew t
change_of_text (texts.Click c) before = text_anew c.text
change_of_text (texts.Step p) before = selected_anew before.desk.activity
change_of_text (texts.End p) before = selected_anew before.desk.activity
change_of_text call before = no_change

-- ---- any call

-- a call that is done
abbrev pub change_of_done : Call → ToolboxState → ToolboxState → Change
change_of_done (calls.Window call) before after = change_of_window call before.desk.windows.desk
change_of_done (calls.Update call) before after = change_of_update call before.desk.windows
change_of_done (calls.Control call) before after = change_of_control call before
change_of_done (calls.List call) before after = change_of_list call before after
change_of_done (calls.Text call) before after = change_of_text call before
change_of_done (calls.Outline call) before after = change_of_outline call before.desk
-- calls about frames, menus and events
change_of_done call before after = no_change

-- a refused call changes nothing
abbrev pub change_of_call : Call → Result Reply Refusal → ToolboxState → ToolboxState → Change
change_of_call call (Ok answer) before after = change_of_done call before after
change_of_call call (Err e) before after = no_change
