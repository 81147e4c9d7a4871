-- A call about an outline, but for the end of a drag, leaves the desk.
use Rattle.std.proofs.Common.{Option, None, Some, Result, Ok, Err, refl}
use Rattle.std.specs.Prelude.{◌≢◌}
use Rattle.tb_geom.specs.declared.point.Point.{Point}
use Rattle.tb_geom.specs.declared.refusal.Refusal.{Refusal}
use Rattle.desk_call.specs.declared.activity.Activity.{Activity}
use Rattle.desk_call.specs.declared.call.Call.TheVariants.{Outline}
use Rattle.desk_call.specs.declared.call.Reply.{Reply}
use Rattle.desk_call.specs.declared.outline.OutlineCall.{OutlineCall}
use Rattle.desk_call.specs.declared.outline.OutlineCall.TheVariants.{EndDrag}
use Rattle.desk_call.specs.declared.outline.OutlineReply.{OutlineReply}
use Rattle.desk_call.specs.Gates.{gate, standing_of}
use Rattle.window_mgr.specs.Effects.{IsUnchanged}
use Rattle.window_mgr.specs.FullDesk.{FullDesk}
use Rattle.window_outline.specs.Outlining.{let_go_of}
use Rattle.desk_toolbox.specs.Run.{IsGated, IsOutlineMade, IsRestKept, IsStep}
use Rattle.desk_toolbox.specs.ToolboxStates.{ToolboxState}
use Rattle.desk_toolbox.proofs.Outlined.{outline_unchanged}

leaves_made : (call : OutlineCall) (a : Activity) (desk : FullDesk) (own : Result OutlineReply Refusal) (before after : ToolboxState) → ((p : Point) → call ≢ EndDrag p) → IsOutlineMade (let_go_of call a desk) call own before after → IsUnchanged before.desk.windows after.desk.windows × IsRestKept before after
leaves_made (EndDrag p) a desk own before after no_end made = absurd (no_end p refl)
leaves_made call a desk own before after no_end made = (outline_unchanged call own before.desk after.desk made.0, made.1)

leaves_gated : (stopped : Option Refusal) (call : OutlineCall) (answer : Result Reply Refusal) (before after : ToolboxState) → ((p : Point) → call ≢ EndDrag p) → IsGated stopped (Outline call) answer before after → IsUnchanged before.desk.windows after.desk.windows × IsRestKept before after
leaves_gated None call answer before after no_end (own, is, made) = leaves_made call before.desk.activity before.desk.windows.desk own before after no_end made
leaves_gated (Some e) call (Ok answer) before after no_end step = absurd step
leaves_gated (Some e) call (Err f) before after no_end (form, why, (is, same)) =
    (same.desk.windows, record { events = same.events; controls = same.controls; lists = same.lists; texts = same.texts; menus = same.menus })

pub outlines_leave_the_desk : (call : OutlineCall) (answer : Result Reply Refusal) (before after : ToolboxState) → ((p : Point) → call ≢ EndDrag p) → IsStep (Outline call) answer before after → IsUnchanged before.desk.windows after.desk.windows × IsRestKept before after
outlines_leave_the_desk call answer before after no_end step = leaves_gated (gate before.desk.activity (standing_of (Outline call))) call answer before after no_end step
