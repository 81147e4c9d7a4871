-- Calls about updates, and the desk.
use Rattle.std.proofs.Common.{◌≡◌, Result, Ok, Err}
use Rattle.tb_geom.specs.declared.refusal.Refusal.{Refusal}
use Rattle.desk_call.specs.declared.update.UpdateCall.{UpdateCall}
use Rattle.desk_call.specs.declared.update.UpdateCall.TheVariants.{Invalidate, Validate, Begin, Draw, End, Serve}
use Rattle.desk_call.specs.declared.window.WindowReply.{WindowReply}
use Rattle.window_mgr.specs.DeskStates.{DeskState}
use Rattle.window_update.specs.UpdateSteps.{IsUpdateEffect, IsUpdateStep}

effect_keeps_desk : (call : UpdateCall) (before after : DeskState) → IsUpdateEffect call before after → after.windows.desk ≡ before.windows.desk
effect_keeps_desk (Invalidate m) before after (same, (set, is, marked)) = marked.desk
effect_keeps_desk (Validate m) before after (same, (set, is, marked)) = marked.desk
effect_keeps_desk (Begin s) before after begun = begun.windows.desk
effect_keeps_desk (Draw d) before after (same, drawn) = drawn.desk
effect_keeps_desk (End s) before after (idle, same) = same.desk
effect_keeps_desk (Serve s) before after (idle, drawn) = drawn.desk

-- no call about updates changes the desk
pub update_keeps_desk : (call : UpdateCall) (answer : Result WindowReply Refusal) (before after : DeskState) → IsUpdateStep call answer before after → after.windows.desk ≡ before.windows.desk
update_keeps_desk call (Ok answer) before after step = effect_keeps_desk call before after step.1.1
update_keeps_desk call (Err e) before after step = step.1.windows.desk
