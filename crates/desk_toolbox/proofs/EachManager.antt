-- What holds of an unchanged Toolbox and of each manager's step holds of every step.
use Rattle.std.proofs.Common.{◌≡◌, Bool, true, false, Option, None, Some, Result, Ok, Err, refl, sym, subst}
use Rattle.tb_geom.specs.declared.point.Point.{Point}
use Rattle.tb_geom.specs.declared.refusal.Refusal.{Refusal}
use Rattle.desk_call.specs.declared.call.Call.{Call}
use Rattle.desk_call.specs.declared.call.Call.TheVariants.{Window, Update, Frame, Control, Menu, Outline, Event}
use Rattle.desk_call.specs.declared.call.Call.TheVariants as calls
use Rattle.desk_call.specs.declared.call.Reply.{Reply}
use Rattle.desk_call.specs.declared.call.Reply.TheVariants as reply
use Rattle.desk_call.specs.declared.control.ControlCall.{ControlCall}
use Rattle.desk_call.specs.declared.control.ControlCall.TheVariants as controls
use Rattle.desk_call.specs.declared.control.ControlReply.{ControlReply}
use Rattle.desk_call.specs.declared.control.ControlReply.TheVariants as control_reply
use Rattle.desk_call.specs.declared.control.PointInWindow.{PointInWindow}
use Rattle.desk_call.specs.declared.event.EventCall.{EventCall}
use Rattle.desk_call.specs.declared.event.EventReply.{EventReply}
use Rattle.desk_call.specs.declared.frame.FrameCall.{FrameCall}
use Rattle.desk_call.specs.declared.frame.FrameReply.{FrameReply}
use Rattle.desk_call.specs.declared.list.ListCall.{ListCall}
use Rattle.desk_call.specs.declared.list.ListReply.{ListReply}
use Rattle.desk_call.specs.declared.menu.MenuCall.{MenuCall}
use Rattle.desk_call.specs.declared.menu.MenuReply.{MenuReply}
use Rattle.desk_call.specs.declared.outline.OutlineCall.{OutlineCall}
use Rattle.desk_call.specs.declared.outline.OutlineReply.{OutlineReply}
use Rattle.desk_call.specs.declared.outline.OutlineReply.TheVariants.{Shown}
use Rattle.desk_call.specs.declared.text.TextCall.{TextCall}
use Rattle.desk_call.specs.declared.text.TextReply.{TextReply}
use Rattle.desk_call.specs.declared.update.UpdateCall.{UpdateCall}
use Rattle.desk_call.specs.declared.window.MoveWindow.{MoveWindow}
use Rattle.desk_call.specs.declared.window.WindowCall.{WindowCall}
use Rattle.desk_call.specs.declared.window.WindowCall.TheVariants.{Find, Move}
use Rattle.desk_call.specs.declared.window.WindowReply.{WindowReply}
use Rattle.desk_call.specs.declared.window.WindowReply.TheVariants.{Done}
use Rattle.desk_call.specs.Gates.{gate, standing_of}
use Rattle.window_update.specs.UpdateSteps.{IsUpdateStep}
use Rattle.window_frame.specs.FrameSteps.{IsFrameStep}
use Rattle.window_outline.specs.Outlining.{let_go_of}
use Rattle.window_outline.specs.OutlineSteps.{IsOutlineStep}
use Rattle.control_mgr.specs.ControlSteps.{IsControlStep}
use Rattle.list_mgr.specs.ListSteps.{IsListStep}
use Rattle.text_mgr.specs.TextSteps.{IsTextStep}
use Rattle.menu_mgr.specs.MenuSteps.{IsMenuStep}
use Rattle.desk_toolbox.specs.Fronts.{is_on_menu}
use Rattle.desk_toolbox.specs.ToolboxStates.{ToolboxState, IsToolboxUnchanged, with_controls, with_lists, with_menus, with_texts}
use Rattle.desk_toolbox.specs.Run.{IsWindowMade, IsWindowTold, IsControlTold, IsEventAnswer, IsAdmitted, IsGated, IsLetGo, IsOutlineMade, IsRestKept, IsStep, found_menu, is_covered, is_hidden_by_menu, is_under_menu, put_down, replied}

-- `R` relates a call, what it is answered, and the states before and after it
module _ (R : Call → Result Reply Refusal → ToolboxState → ToolboxState → Type 0) where
  -- it holds where a refused call changes nothing, and of each step that a manager makes of a call that may come
  pub record HoldsOfEach : Type 0 where
    pub unchanged : (call : Call) (e : Refusal) (before after : ToolboxState) → IsToolboxUnchanged before after → R call (Err e) before after
    pub covered : (p : Point) (before after : ToolboxState) → IsToolboxUnchanged before after → R (Window (Find p)) (Ok (reply.Window found_menu)) before after
    pub window : (call : WindowCall) (answer : Result WindowReply Refusal) (before after : ToolboxState) → gate before.desk.activity (standing_of (Window call)) ≡ None
        → IsWindowMade call answer before after → R (Window call) (replied reply.Window answer) before after
    pub update : (call : UpdateCall) (answer : Result WindowReply Refusal) (before after : ToolboxState) → gate before.desk.activity (standing_of (Update call)) ≡ None
        → IsUpdateStep call answer before.desk after.desk → IsRestKept before after → R (Update call) (replied reply.Window answer) before after
    pub frame : (call : FrameCall) (answer : Result FrameReply Refusal) (before after : ToolboxState) → gate before.desk.activity (standing_of (Frame call)) ≡ None
        → IsFrameStep call answer before.desk after.desk → IsRestKept before after → R (Frame call) (replied reply.Frame answer) before after
    pub menu : (call : MenuCall) (answer : Result MenuReply Refusal) (before after : ToolboxState) → gate before.desk.activity (standing_of (Menu call)) ≡ None
        → IsMenuStep call answer (with_menus before) (with_menus after) → after.events ≡ before.events → after.controls ≡ before.controls → after.lists ≡ before.lists → after.texts ≡ before.texts → R (Menu call) (replied reply.Menu answer) before after
    pub hidden : (p : PointInWindow) (before after : ToolboxState) → IsToolboxUnchanged before after → R (Control (controls.Find p)) (Ok (reply.Control (control_reply.Found None))) before after
    pub control : (call : ControlCall) (answer : Result ControlReply Refusal) (before after : ToolboxState) → gate before.desk.activity (standing_of (Control call)) ≡ None
        → IsControlStep call answer (with_controls before) (with_controls after) → after.events ≡ before.events → after.lists ≡ before.lists → after.texts ≡ before.texts → after.menus ≡ before.menus
        → R (Control call) (replied reply.Control answer) before after
    pub list : (call : ListCall) (answer : Result ListReply Refusal) (before after : ToolboxState) → gate before.desk.activity (standing_of (calls.List call)) ≡ None
        → IsListStep call answer (with_lists before) (with_lists after) → after.events ≡ before.events → after.texts ≡ before.texts → after.menus ≡ before.menus
        → R (calls.List call) (replied reply.List answer) before after
    pub text : (call : TextCall) (answer : Result TextReply Refusal) (before after : ToolboxState) → gate before.desk.activity (standing_of (calls.Text call)) ≡ None
        → IsTextStep call answer (with_texts before) (with_texts after) → after.events ≡ before.events → after.controls ≡ before.controls → after.lists ≡ before.lists → after.menus ≡ before.menus
        → R (calls.Text call) (replied reply.Text answer) before after
    pub outline : (call : OutlineCall) (answer : Result OutlineReply Refusal) (before after : ToolboxState) → gate before.desk.activity (standing_of (Outline call)) ≡ None
        → IsOutlineStep call answer before.desk after.desk → IsRestKept before after → R (Outline call) (replied reply.Outline answer) before after
    -- (the window that was dragged is let go, and moved)
    pub moved : (call : OutlineCall) (move : MoveWindow) (before after : ToolboxState) → gate before.desk.activity (standing_of (Outline call)) ≡ None
        → IsWindowMade (Move move) (Ok Done) (put_down before) after → R (Outline call) (Ok (reply.Outline (Shown true))) before after
    pub event : (call : EventCall) (answer : Result EventReply Refusal) (before after : ToolboxState)
        → IsEventAnswer call answer before after → R (Event call) (replied reply.Event answer) before after

  module _ (each : HoldsOfEach) where
    -- whether the point lies on a pulled menu, or the windows answer
    of_found : (covered : Bool) (p : Point) (own : Result WindowReply Refusal) (before after : ToolboxState) → gate before.desk.activity (standing_of (Window (Find p))) ≡ None → IsWindowTold covered (Find p) own before after → R (Window (Find p)) (replied reply.Window own) before after
    of_found false p own before after may step = each.window (Find p) own before after may step
    of_found true p own before after may (is, same) = subst (λ r. R (Window (Find p)) (replied reply.Window r) before after) (sym is) (each.covered p before after same)

    of_window : (call : WindowCall) (own : Result WindowReply Refusal) (before after : ToolboxState) → gate before.desk.activity (standing_of (Window call)) ≡ None → IsWindowTold (is_covered call before) call own before after → R (Window call) (replied reply.Window own) before after
    of_window (Find p) own before after may step = of_found (is_on_menu before p) p own before after may step
    of_window call own before after may step = each.window call own before after may step

    -- whether the point lies under a pulled menu, or the controls answer
    of_controls : (covered : Bool) (call : ControlCall) (p : PointInWindow) → call ≡ controls.Find p → (own : Result ControlReply Refusal) (before after : ToolboxState) → gate before.desk.activity (standing_of (Control call)) ≡ None → IsControlTold covered call own before after → R (Control call) (replied reply.Control own) before after
    of_controls false call p is own before after may told = each.control call own before after may told.step told.events told.lists told.texts told.menus
    of_controls true call p is own before after may (told, same) =
        subst (λ c. R (Control c) (replied reply.Control own) before after) (sym is)
        (subst (λ r. R (Control (controls.Find p)) (replied reply.Control r) before after) (sym told) (each.hidden p before after same))

    of_control : (call : ControlCall) (own : Result ControlReply Refusal) (before after : ToolboxState) → gate before.desk.activity (standing_of (Control call)) ≡ None → IsControlTold (is_hidden_by_menu call before) call own before after → R (Control call) (replied reply.Control own) before after
    of_control (controls.Find p) own before after may step = of_controls (is_under_menu before p) (controls.Find p) p refl own before after may step
    of_control call own before after may told = each.control call own before after may told.step told.events told.lists told.texts told.menus

    -- the window that was dragged is let go: the move is done or refused
    of_let_go : (call : OutlineCall) (move : MoveWindow) (own : Result OutlineReply Refusal) (before after : ToolboxState) → gate before.desk.activity (standing_of (Outline call)) ≡ None → IsLetGo move own before after → R (Outline call) (replied reply.Outline own) before after
    of_let_go call move (Ok answer) before after may (is, done) =
        subst (λ r. R (Outline call) (Ok (reply.Outline r)) before after) (sym is) (each.moved call move before after may done)
    of_let_go call move (Err e) before after may (refused, same) = each.unchanged (Outline call) e before after same

    of_outline : (drop : Option MoveWindow) (call : OutlineCall) (own : Result OutlineReply Refusal) (before after : ToolboxState) → gate before.desk.activity (standing_of (Outline call)) ≡ None → IsOutlineMade drop call own before after → R (Outline call) (replied reply.Outline own) before after
    of_outline None call own before after may step = each.outline call own before after may step.0 step.1
    of_outline (Some move) call own before after may step = of_let_go call move own before after may step

    pub of_admitted : (call : Call) (answer : Result Reply Refusal) (before after : ToolboxState) → gate before.desk.activity (standing_of call) ≡ None → IsAdmitted call answer before after → R call answer before after
    of_admitted (Window call) answer before after may (own, is, step) = subst (λ r. R (Window call) r before after) (sym is) (of_window call own before after may step)
    of_admitted (Update call) answer before after may (own, is, step) = subst (λ r. R (Update call) r before after) (sym is) (each.update call own before after may step.0 step.1)
    of_admitted (Frame call) answer before after may (own, is, step) = subst (λ r. R (Frame call) r before after) (sym is) (each.frame call own before after may step.0 step.1)
    of_admitted (Control call) answer before after may (own, is, step) = subst (λ r. R (Control call) r before after) (sym is) (of_control call own before after may step)
    of_admitted (calls.List call) answer before after may (own, is, told) = subst (λ r. R (calls.List call) r before after) (sym is) (each.list call own before after may told.step told.events told.texts told.menus)
    of_admitted (calls.Text call) answer before after may (own, is, told) = subst (λ r. R (calls.Text call) r before after) (sym is) (each.text call own before after may told.step told.events told.controls told.lists told.menus)
    of_admitted (Menu call) answer before after may (own, is, told) = subst (λ r. R (Menu call) r before after) (sym is) (each.menu call own before after may told.step told.events told.controls told.lists told.texts)
    of_admitted (Outline call) answer before after may (own, is, step) = subst (λ r. R (Outline call) r before after) (sym is) (of_outline (let_go_of call before.desk.activity before.desk.windows.desk) call own before after may step)
    of_admitted (Event call) answer before after may (own, is, step) = subst (λ r. R (Event call) r before after) (sym is) (each.event call own before after step)

    of_gated : (stopped : Option Refusal) (call : Call) (answer : Result Reply Refusal) (before after : ToolboxState) → gate before.desk.activity (standing_of call) ≡ stopped → IsGated stopped call answer before after → R call answer before after
    of_gated None call answer before after may step = of_admitted call answer before after may step
    of_gated (Some e) call (Ok answer) before after may step = absurd step
    of_gated (Some e) call (Err f) before after may (form, why, (is, same)) = each.unchanged call f before after same

    pub of_step : (call : Call) (answer : Result Reply Refusal) (before after : ToolboxState) → IsStep call answer before after → R call answer before after
    of_step call answer before after step = of_gated (gate before.desk.activity (standing_of call)) call answer before after refl step
