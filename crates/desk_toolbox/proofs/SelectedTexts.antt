-- The text record in which the mouse selects, if it does, stays there beside calls about updates and frames, and where a window is
-- disposed of.
use Rattle.std.proofs.Common.{◌≡◌, ⊎_elim, ℕ, Bool, true, false, List, None, Result, Ok, Err, refl, sym, ◌∙◌, subst}
use Rattle.tb_geom.specs.declared.refusal.Refusal.{Refusal}
use Rattle.desk_call.specs.declared.activity.Activity.{Activity}
use Rattle.desk_call.specs.declared.activity.Activity.TheVariants.{Idle, Updating, Tracking}
use Rattle.desk_call.specs.declared.frame.FrameCall.{FrameCall}
use Rattle.desk_call.specs.declared.frame.FrameCall.TheVariants as frames
use Rattle.desk_call.specs.declared.frame.FrameReply.{FrameReply}
use Rattle.desk_call.specs.declared.frame.FrameReply.TheVariants.{Done, Tracked}
use Rattle.desk_call.specs.declared.update.UpdateCall.{UpdateCall}
use Rattle.desk_call.specs.declared.update.UpdateCall.TheVariants as updates
use Rattle.desk_call.specs.declared.window.WindowReply.{WindowReply}
use Rattle.vis_update.specs.Records.{WindowRecord}
use Rattle.window_mgr.specs.DeskStates.{DeskState}
use Rattle.control_mgr.proofs.ControlFacts.{IsOpenAfter}
use Rattle.window_update.specs.UpdateSteps.{IsUpdateEffect, IsUpdateStep}
use Rattle.window_frame.specs.FrameSteps.{IsBegunAt, IsFrameEffect, IsFrameStep}
use Rattle.desk_call.specs.Gates.{gate, window_standing}
use Rattle.desk_call.specs.declared.window.WindowCall.{WindowCall}
use Rattle.desk_call.specs.declared.window.WindowCall.TheVariants as asks
use Rattle.text_mgr.specs.TextDesks.{KeptText, TextsState}
use Rattle.text_mgr.specs.WholeTexts.{IsSelectable}
use Rattle.desk_toolbox.specs.Run.{AreTextsLeft}
use Rattle.desk_toolbox.specs.ToolboxStates.{ToolboxState}
use Rattle.desk_toolbox.proofs.Stands.{idle_now}

-- ---- beside calls about updates and frames

module _ (before after : DeskState) (ts : List KeptText) (was : IsSelectable before.activity ts) where
  opened_so : (a : Activity) → IsSelectable a ts → after.activity ≡ a → IsSelectable after.activity ts
  opened_so a any is = subst (λ b. IsSelectable b ts) (sym is) any

  same_open : after.activity ≡ before.activity → IsSelectable after.activity ts
  same_open activity = opened_so before.activity was activity

  update_effect_selectable : (call : UpdateCall) → IsUpdateEffect call before after → IsSelectable after.activity ts
  update_effect_selectable (updates.Invalidate m) (same, marked) = same_open same.activity
  update_effect_selectable (updates.Validate m) (same, marked) = same_open same.activity
  update_effect_selectable (updates.Begin s) begun = opened_so (Updating s) tt begun.opened
  update_effect_selectable (updates.Draw d) (same, drawn) = same_open same.activity
  update_effect_selectable (updates.End s) (idle, same) = opened_so Idle tt idle
  update_effect_selectable (updates.Serve s) (idle, drawn) = opened_so Idle tt idle

  begun_selectable : (s : ℕ) (inside : Bool) → IsBegunAt s inside before after → IsSelectable after.activity ts
  begun_selectable s true (tracked, told) = opened_so (Tracking s) tt tracked
  begun_selectable s false same = same_open same.activity

  frame_effect_selectable : (call : FrameCall) (answer : FrameReply) → IsFrameEffect call answer before after → IsSelectable after.activity ts
  frame_effect_selectable (frames.SetTitle n) Done (same, told) = same_open same.activity
  frame_effect_selectable (frames.Hilite n) Done (same, told) = same_open same.activity
  frame_effect_selectable (frames.TrackGoAway g) (Tracked inside) (is, begun) = begun_selectable g.window inside begun
  frame_effect_selectable (frames.StepGoAway p) (Tracked inside) (same, tracked) = same_open same.activity
  frame_effect_selectable (frames.EndGoAway p) (Tracked inside) (idle, tracked) = opened_so Idle tt idle
  frame_effect_selectable (frames.SetTitle n) (Tracked inside) wrong = absurd wrong
  frame_effect_selectable (frames.Hilite n) (Tracked inside) wrong = absurd wrong
  frame_effect_selectable (frames.TrackGoAway g) Done wrong = absurd wrong
  frame_effect_selectable (frames.StepGoAway p) Done wrong = absurd wrong
  frame_effect_selectable (frames.EndGoAway p) Done wrong = absurd wrong

  pub update_selectable : (call : UpdateCall) (answer : Result WindowReply Refusal) → IsUpdateStep call answer before after → IsSelectable after.activity ts
  update_selectable call (Ok answer) step = update_effect_selectable call step.1.1
  update_selectable call (Err e) step = same_open step.1.activity

  pub frame_selectable : (call : FrameCall) (answer : Result FrameReply Refusal) → IsFrameStep call answer before after → IsSelectable after.activity ts
  frame_selectable call (Ok answer) step = frame_effect_selectable call answer step.1
  frame_selectable call (Err e) step = same_open step.1.activity

-- ---- beside calls about controls

pub control_selectable : (ws : List WindowRecord) (a b : Activity) (ts : List KeptText) → IsOpenAfter ws a b → IsSelectable a ts → IsSelectable b ts
control_selectable ws a b ts opens was = ⊎_elim
    (λ same. subst (λ x. IsSelectable x ts) (sym same) was)
    (λ other. ⊎_elim (λ idle. subst (λ x. IsSelectable x ts) (sym idle) tt) (λ (k, is, there). subst (λ x. IsSelectable x ts) (sym is) tt) other)
    opens

-- ---- beside calls on windows

-- what is open is the same, and so are the text records
pub selectable_stays : (before after : ToolboxState) → after.desk.activity ≡ before.desk.activity → after.texts ≡ before.texts → IsSelectable before.desk.activity before.texts.texts → IsSelectable after.desk.activity after.texts.texts
selectable_stays before after activity texts was = subst (λ (x : Activity × TextsState). IsSelectable x.0 x.1.texts) (λ i. (sym activity i, sym texts i)) was

-- the mouse selects nothing while a window is disposed of
pub left_selectable : (call : WindowCall) (before after : ToolboxState) → gate before.desk.activity (window_standing call) ≡ None → after.desk.activity ≡ before.desk.activity → AreTextsLeft call before.texts after.texts
    → IsSelectable before.desk.activity before.texts.texts → IsSelectable after.desk.activity after.texts.texts
left_selectable (asks.Dispose s) before after may activity gone was = subst (λ a. IsSelectable a after.texts.texts) (sym (activity ∙ idle_now before.desk.activity may)) tt
left_selectable call before after may activity gone was = selectable_stays before after activity gone was
