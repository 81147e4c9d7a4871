-- What calls about updates, frames, menus and controls change of pixels is their change.
use Rattle.std.proofs.Common.{◌≡◌, ⊎_elim, ℕ, Bool, true, false, Option, None, Some, Result, sym, ap, subst}
use Rattle.std.specs.Option.{option_map}
use Rattle.tb_geom.specs.declared.point.Point.{Point}
use Rattle.tb_geom.specs.declared.refusal.Refusal.{Refusal}
use Rattle.control_values.specs.declared.part.ControlPart.{ControlPart}
use Rattle.control_values.specs.Parts.{number_of}
use Rattle.desk_layers.specs.declared.part.Part.TheVariants as part
use Rattle.desk_layers.specs.Desk.{on_screen}
use Rattle.desk_layers.specs.Owner.{owner, same_owner}
use Rattle.desk_layers.specs.Owner.Owner.{Content}
use Rattle.desk_layers.specs.Change.{Change, IsChanged, no_change}
use Rattle.desk_call.specs.declared.activity.Activity.{Activity}
use Rattle.desk_call.specs.declared.activity.Activity.TheVariants.{TrackingControl}
use Rattle.desk_call.specs.declared.control.ControlCall.{ControlCall}
use Rattle.desk_call.specs.declared.control.ControlCall.TheVariants as controls
use Rattle.desk_call.specs.declared.control.ControlOf.{ControlOf}
use Rattle.desk_call.specs.declared.control.ControlReply.{ControlReply}
use Rattle.desk_call.specs.declared.control.PointAtControl.{PointAtControl}
use Rattle.desk_call.specs.declared.frame.FrameCall.{FrameCall}
use Rattle.desk_call.specs.declared.frame.FrameReply.{FrameReply}
use Rattle.desk_call.specs.declared.menu.MenuCall.{MenuCall}
use Rattle.desk_call.specs.declared.menu.MenuReply.{MenuReply}
use Rattle.desk_call.specs.declared.update.UpdateCall.{UpdateCall}
use Rattle.desk_call.specs.declared.update.UpdateCall.TheVariants as updates
use Rattle.vis_update.specs.Relayings.{afresh_change}
use Rattle.window_mgr.specs.DeskStates.{DeskState}
use Rattle.window_mgr.specs.Effects.{IsUnchanged}
use Rattle.window_mgr.specs.FullDesk.{FullState, IsRightState, layered_desk, layered_state}
use Rattle.window_update.specs.UpdateSteps.{IsUpdateEffect, adding, taking}
use Rattle.window_frame.specs.FrameSteps.{IsFrameStep}
use Rattle.window_frame.proofs.ToldSteps.{HoldsOfFrames, of_frame}
use Rattle.menu_mgr.specs.MenuDesks.{MenuDesk}
use Rattle.menu_mgr.specs.MenuSteps.{IsMenuStep}
use Rattle.menu_mgr.proofs.MenuKeeps.{step_leaves}
use Rattle.control_mgr.specs.ControlDesks.{ControlDesk}
use Rattle.control_mgr.specs.Fields.{with_shown}
use Rattle.control_mgr.specs.ControlSteps.{IsControlEffect, IsControlLaid, IsControlReleased, IsHighlighted, IsStepped, IsTracked, highlight_of, is_thumb, tested}
use Rattle.desk_toolbox.specs.ToolboxStates.{ToolboxState, with_controls}
use Rattle.desk_laws.specs.Changes.{change_of_control, change_of_update, control_anew, tracked_anew}
use Rattle.desk_laws.proofs.JoinedChanges.{shown_anew_too}
use Rattle.desk_laws.proofs.MeantPixels.{area_is}
use Rattle.desk_laws.proofs.WindowChanges.{unchanged_changes}

-- ---- updates

pub update_changes : (call : UpdateCall) (before after : DeskState) → IsRightState before.windows → IsUpdateEffect call before after → IsChanged (change_of_update call before.windows) (layered_state before.windows) (layered_state after.windows)
update_changes (updates.Invalidate m) before after right (same, (set, is, marked)) =
    subst (λ pixels. IsChanged (adding m.window pixels before.windows) (layered_state before.windows) (layered_state after.windows)) (area_is m.area set is) marked.pixels
update_changes (updates.Validate m) before after right (same, (set, is, marked)) =
    subst (λ pixels. IsChanged (taking m.window pixels before.windows) (layered_state before.windows) (layered_state after.windows)) (area_is m.area set is) marked.pixels
update_changes (updates.Begin s) before after right begun = unchanged_changes before.windows after.windows right begun.windows
update_changes (updates.Draw d) before after right (same, drawn) = drawn.pixels
update_changes (updates.End s) before after right (idle, same) = unchanged_changes before.windows after.windows right same
update_changes (updates.Serve s) before after right (idle, drawn) = drawn.pixels

-- ---- frames

abbrev ChangesNothing : FullState → FullState → Type 0
ChangesNothing before after = IsRightState before → IsChanged no_change (layered_state before) (layered_state after)

frames_change : HoldsOfFrames ChangesNothing
frames_change = record {
  unchanged = λ before after same right. unchanged_changes before after right same;
  titled = λ title s before after told right. told.pixels;
  highlighted = λ on s before after told right. told.pixels;
  tracked = λ inside s before after told right. told.pixels;
}

pub frame_changes : (call : FrameCall) (answer : Result FrameReply Refusal) (before after : DeskState) → IsRightState before.windows → IsFrameStep call answer before after → IsChanged no_change (layered_state before.windows) (layered_state after.windows)
frame_changes call answer before after right step = of_frame ChangesNothing frames_change call answer before after step right

-- ---- menus

pub menu_changes : (call : MenuCall) (answer : Result MenuReply Refusal) (before after : MenuDesk) → IsRightState before.desk.windows → IsMenuStep call answer before after → IsChanged no_change (layered_state before.desk.windows) (layered_state after.desk.windows)
menu_changes call answer before after right step = ⊎_elim
    (λ same. unchanged_changes before.desk.windows after.desk.windows right same)
    (λ shown. shown.1.pixels)
    (step_leaves call answer before after step)

-- ---- controls

-- the windows are the same
pub same_windows : (before after : FullState) → after ≡ before → IsUnchanged before after
same_windows before after same = record {
  desk = ap (λ (s : FullState). s.desk) same;
  stale = λ p on. ap (λ (s : FullState). s.stale p) same;
  image = λ p on. ap (λ (s : FullState). s.image p) same;
}

module _ (before after : ControlDesk) (right : IsRightState before.desk.windows) (now : IsRightState after.desk.windows) where
  abbrev Changes : Change → Type 0
  Changes c = IsChanged c (layered_state before.desk.windows) (layered_state after.desk.windows)

  still : IsUnchanged before.desk.windows after.desk.windows → Changes no_change
  still same = unchanged_changes before.desk.windows after.desk.windows right same

  -- where nothing changed the control may be shown anew
  still_anew : (c : ControlOf) → IsUnchanged before.desk.windows after.desk.windows → Changes (control_anew c)
  still_anew c same = shown_anew_too (λ o. same_owner o (Content c.window (part.Control c.control))) (layered_state before.desk.windows) (layered_state after.desk.windows)
      (record {
        screen = λ p i. on_screen (layered_desk (sym same.desk i)) p;
        owners = λ p i. owner (layered_desk (sym same.desk i)) p;
      })
      (still same) now.plain

  highlighted_changes : (thumb : Bool) (c : ControlOf) (h : ℕ) → IsHighlighted thumb c h before after → Changes (control_anew c)
  highlighted_changes true c h same = still_anew c (same_windows before.desk.windows after.desk.windows same.windows)
  highlighted_changes false c h done = done.redrawn.pixels

  tracked_changes : (p : PointAtControl) (o : Option ControlPart) → IsTracked p o before after → Changes (control_anew p.control)
  tracked_changes p None same = still_anew p.control same.desk.windows
  tracked_changes p (Some its) done = highlighted_changes (is_thumb its) p.control (number_of its) done.1

  stepped_changes : (a : Activity) (p : Point) (answer : Option ControlPart) → IsStepped a p answer before after → Changes (tracked_anew a)
  stepped_changes (TrackingControl k) p answer done = highlighted_changes (is_thumb k.part) k.control (highlight_of answer) done.2
  stepped_changes _ p answer wrong = absurd wrong

  released_changes : (a : Activity) (p : Point) (answer : Option ControlPart) → IsControlReleased a p answer before after → Changes (tracked_anew a)
  released_changes (TrackingControl k) p answer done = done.2.redrawn.pixels
  released_changes _ p answer wrong = absurd wrong

pub control_changes : (call : ControlCall) (answer : ControlReply) (before after : ToolboxState) → IsRightState before.desk.windows → IsRightState after.desk.windows
    → ((c : ControlOf) → IsControlLaid c (with_shown false) (with_controls before) (with_controls after) → IsChanged no_change (layered_state before.desk.windows) (layered_state after.desk.windows)) → IsControlEffect call answer (with_controls before) (with_controls after)
    → IsChanged (change_of_control call before) (layered_state before.desk.windows) (layered_state after.desk.windows)
control_changes (controls.New n) answer before after right now hides (serial, is, made) =
    subst (λ o. IsChanged (afresh_change n.window (option_map part.Control o)) (layered_state before.desk.windows) (layered_state after.desk.windows)) (sym made.serials) made.laid.set.pixels
control_changes (controls.Dispose c) answer before after right now hides (is, gone) = gone.laid.set.pixels
control_changes (controls.Show c) answer before after right now hides (is, done) = done.laid.set.pixels
control_changes (controls.Hide c) answer before after right now hides (is, done) = hides c done
control_changes (controls.Move m) answer before after right now hides (is, done) = done.laid.set.pixels
control_changes (controls.Size z) answer before after right now hides (is, done) = done.laid.set.pixels
control_changes (controls.SetValue n) answer before after right now hides done = done.2.redrawn.pixels
control_changes (controls.SetMinimum n) answer before after right now hides done = done.2.redrawn.pixels
control_changes (controls.SetMaximum n) answer before after right now hides done = done.2.redrawn.pixels
control_changes (controls.Hilite n) answer before after right now hides done = done.2.2.redrawn.pixels
control_changes (controls.SetTitle t) answer before after right now hides done = done.2.redrawn.pixels
control_changes (controls.Get c) answer before after right now hides (is, same) = still (with_controls before) (with_controls after) right now same.desk.windows
control_changes (controls.Find p) answer before after right now hides (is, same) = still (with_controls before) (with_controls after) right now same.desk.windows
control_changes (controls.Test p) answer before after right now hides (is, same) = still (with_controls before) (with_controls after) right now same.desk.windows
control_changes (controls.Track p) answer before after right now hides (is, done) =
    tracked_changes (with_controls before) (with_controls after) right now p (tested p.control before.controls.controls p.point) done
control_changes (controls.Step p) answer before after right now hides (its, is, done) = stepped_changes (with_controls before) (with_controls after) right now before.desk.activity p its done
control_changes (controls.End p) answer before after right now hides (its, is, done) = released_changes (with_controls before) (with_controls after) right now before.desk.activity p its done
