-- Whatever a call does, the screen keeps its sides.
use Rattle.std.proofs.Common.{Result, refl}
use Rattle.tb_geom.specs.declared.refusal.Refusal.{Refusal}
use Rattle.desk_call.specs.declared.window.WindowCall.{WindowCall}
use Rattle.desk_call.specs.declared.window.WindowReply.{WindowReply}
use Rattle.window_mgr.proofs.ScreenSides.{SameSides}
use Rattle.window_mgr.specs.FullDesk.{FullState}
use Rattle.window_mgr.specs.Step.{IsWindowStep}
use Rattle.desk_toolbox.proofs.KeptDesks.{window_keeps}

pub step_keeps_sides : (call : WindowCall) (answer : Result WindowReply Refusal) (before after : FullState) → IsWindowStep call answer before after → SameSides before.desk after.desk
step_keeps_sides call answer before after step = record {
  width = window_keeps (λ d. d.width) (λ d ws active next stock. refl) call answer before after step;
  height = window_keeps (λ d. d.height) (λ d ws active next stock. refl) call answer before after step;
}
