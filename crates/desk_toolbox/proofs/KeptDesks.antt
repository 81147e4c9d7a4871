-- What of a desk calls on windows leave as it is: all but its windows, which of them is active, the next serial and the stock.
use Rattle.std.proofs.Common.{◌≡◌, ℕ, List, Option, None, Some, Result, Ok, Err, ap, ◌∙◌}
use Rattle.tb_geom.specs.declared.refusal.Refusal.{Refusal}
use Rattle.tb_geom.specs.Points.{PixelSet}
use Rattle.desk_layers.specs.declared.part.Part.{Part}
use Rattle.def_iface.specs.WindowSlots.{WindowSlot}
use Rattle.desk_call.specs.declared.window.WindowCall.{WindowCall}
use Rattle.desk_call.specs.declared.window.WindowReply.{WindowReply}
use Rattle.desk_call.specs.Gates.{window_standing}
use Rattle.vis_update.specs.Records.{WindowRecord}
use Rattle.window_mgr.specs.DeskStates.{DeskState, narrowed}
use Rattle.window_mgr.specs.FullDesk.{FullDesk, FullState}
use Rattle.window_mgr.specs.Step.{IsWindowStep}
use Rattle.window_mgr.specs.Effects.{Effect, IsEffect, effect_of}
use Rattle.window_mgr.specs.Effects.Effect.{Makes, Disposes, Draws, Pictures, Scrolls, Arranges, Places, Tells, Describes}
use Rattle.window_frame.proofs.FrameKeeps.{caught_up_keeps}
use Rattle.window_frame.specs.Followers.{IsCaughtUpBy}
use Rattle.desk_toolbox.specs.Run.{IsWindowAnswer, IsWindowAnswered, IsWindowMade}
use Rattle.desk_toolbox.specs.ToolboxStates.{ToolboxState}

module _ {A : Type 0} (f : FullDesk → A) (apart : (d : FullDesk) (ws : List WindowRecord) (active next : Option ℕ) (stock : List WindowSlot) → f (record d { windows = ws; active = active; next = next; stock = stock }) ≡ f d) where
  effect_keeps : (effect : Effect) (answer : WindowReply) (before after : FullState) → IsEffect effect answer before after → f after.desk ≡ f before.desk
  effect_keeps (Makes floating w) answer before after (n, is, new) = ap f new.desk ∙ apart before.desk _ _ _ _
  effect_keeps (Draws d) answer before after (is, drawn) = ap f drawn.desk ∙ apart before.desk _ _ _ _
  effect_keeps (Pictures n) answer before after (is, placed) = ap f placed.desk ∙ apart before.desk _ _ _ _
  effect_keeps (Scrolls m) answer before after (is, scrolled) = ap f scrolled.desk ∙ apart before.desk _ _ _ _
  effect_keeps (Arranges a) answer before after (is, arranged) = ap f arranged.desk ∙ apart before.desk _ _ _ _
  effect_keeps (Disposes s) answer before after (is, closed) = ap f closed.desk ∙ apart before.desk _ _ _ _
  effect_keeps (Places p) answer before after (is, change) = ap f change.arranged.desk ∙ apart before.desk _ _ _ _
  effect_keeps (Tells r) answer before after (is, same) = ap f same.desk
  effect_keeps (Describes region) answer before after (is, same) = ap f same.desk

  pub window_keeps : (call : WindowCall) (answer : Result WindowReply Refusal) (before after : FullState) → IsWindowStep call answer before after → f after.desk ≡ f before.desk
  window_keeps call (Ok answer) before after step = effect_keeps (effect_of call before.desk) answer before after step.1
  window_keeps call (Err e) before after step = ap f step.1.desk

  pub answer_keeps : (asked : Option PixelSet) (call : WindowCall) (answer : Result WindowReply Refusal) (before after : DeskState) → IsWindowAnswer asked call answer before after → f after.windows.desk ≡ f before.windows.desk
  answer_keeps None call answer before after step = window_keeps call answer before.windows after.windows step.1
  answer_keeps (Some set) call answer before after step = ap f step.1.windows.desk

  pub told_keeps : (call : WindowCall) (answer : Result WindowReply Refusal) (before middle : DeskState) (told : FullState) → IsWindowAnswered call answer before middle → IsCaughtUpBy (window_standing call) middle.windows told → f told.desk ≡ f before.windows.desk
  told_keeps call answer before middle told answered caught =
      caught_up_keeps f (λ d ws. apart d ws d.active d.next d.stock) (window_standing call) middle.windows told caught
      ∙ answer_keeps (narrowed call before.activity before.begun) call answer before middle answered

  -- whatever it shows of controls and lists then
  pub made_keeps : ((d : FullDesk) (shows : Part → PixelSet) → f (record d { shows = shows }) ≡ f d) → (call : WindowCall) (answer : Result WindowReply Refusal) (before after : ToolboxState) → IsWindowMade call answer before after → f after.desk.windows.desk ≡ f before.desk.windows.desk
  made_keeps beside call (Ok answer) before after made =
      ap (λ (s : FullState). f s.desk) made.shown ∙ beside made.told.desk _ ∙ told_keeps call (Ok answer) before.desk made.middle made.told made.answered made.caught_up
  made_keeps beside call (Err e) before after step = answer_keeps (narrowed call before.desk.activity before.desk.begun) call (Err e) before.desk after.desk step.0

-- a refused call leaves the desk
pub refused_keeps_desk : (asked : Option PixelSet) (call : WindowCall) (e : Refusal) (before after : DeskState) → IsWindowAnswer asked call (Err e) before after → after.windows.desk ≡ before.windows.desk
refused_keeps_desk None call e before after step = step.1.1.desk
refused_keeps_desk (Some set) call e before after step = step.1.windows.desk
