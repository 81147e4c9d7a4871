-- A call about an outline leaves the windows as they are, and the end of a drag moves one while nothing is open.
use Rattle.std.proofs.Common.{◌≡◌, Result, Ok, Err}
use Rattle.tb_geom.specs.declared.refusal.Refusal.{Refusal}
use Rattle.desk_call.specs.declared.outline.OutlineCall.{OutlineCall}
use Rattle.desk_call.specs.declared.outline.OutlineReply.{OutlineReply}
use Rattle.window_mgr.specs.DeskStates.{DeskState}
use Rattle.window_mgr.specs.Effects.{IsUnchanged}
use Rattle.window_outline.specs.OutlineSteps.{IsOutlineStep}
use Rattle.desk_toolbox.specs.Run.{put_down}
use Rattle.desk_toolbox.specs.ToolboxStates.{ToolboxState}
use Rattle.desk_toolbox.proofs.ContentsBeside.{IsRightToolbox}

pub outline_unchanged : (call : OutlineCall) (answer : Result OutlineReply Refusal) (before after : DeskState) → IsOutlineStep call answer before after → IsUnchanged before.windows after.windows
outline_unchanged call (Ok answer) before after step = step.1.leaves.windows
outline_unchanged call (Err e) before after step = step.1.windows

pub outline_keeps_desk : (call : OutlineCall) (answer : Result OutlineReply Refusal) (before after : DeskState) → IsOutlineStep call answer before after → after.windows.desk ≡ before.windows.desk
outline_keeps_desk call answer before after step = (outline_unchanged call answer before after step).desk

-- what is open does not matter to what is shown right
pub put_down_right : (s : ToolboxState) → IsRightToolbox s → IsRightToolbox (put_down s)
put_down_right s was = record {
  right = was.right;
  contents = record { controls = was.contents.controls; lists = was.contents.lists; texts = was.contents.texts; known = was.contents.known; shown = was.contents.shown };
}
