-- One step of a call about an outline: what it leaves, and what it answers.
use Rattle.std.specs.Prelude.{◌≡◌, false, Option, None, Some, Result, Ok, Err}
use Rattle.tb_geom.specs.declared.refusal.Refusal.{Refusal}
use Rattle.tb_geom.specs.Refusals.{first_refusal}
use Rattle.desk_call.specs.declared.activity.Activity.{Activity}
use Rattle.desk_call.specs.declared.outline.OutlineCall.{OutlineCall}
use Rattle.desk_call.specs.declared.outline.OutlineReply.{OutlineReply}
use Rattle.desk_call.specs.Steps.{IsStepOf}
use Rattle.window_mgr.specs.DeskStates.{DeskState, IsDeskUnchanged}
use Rattle.window_mgr.specs.Effects.{IsUnchanged}
use Rattle.window_mgr.specs.FullDesk.{FullDesk}
use Rattle.window_outline.specs.declared.outlining.Outlining.{Outlining}
use Rattle.window_outline.specs.Outlining.{answer_to, open_after}
use Rattle.window_outline.specs.OutlineRefusals.{outline_refusals}

-- the call is refused for this, if for anything
abbrev pub why_refused : OutlineCall → Activity → FullDesk → Option Refusal
why_refused call activity desk = first_refusal (outline_refusals call activity desk)

-- the windows stay, and this is open
pub record IsOpenAs (activity : Activity) (before after : DeskState) : Type 0 where
  pub windows : IsUnchanged before.windows after.windows
  pub activity_is : after.activity ≡ activity
  pub begun : after.begun ≡ before.begun

-- what a call that nothing refuses answers and leaves
pub record IsOutlineEffect (call : OutlineCall) (answer : OutlineReply) (before after : DeskState) : Type 0 where
  pub answer_is : answer ≡ answer_to call before.activity before.windows.desk
  pub leaves : IsOpenAs (open_after call before.activity before.windows.desk) before after

-- one step of a call about an outline, but for the move by which a drag ends; none takes memory
abbrev pub IsOutlineStep : OutlineCall → Result OutlineReply Refusal → DeskState → DeskState → Type 0
IsOutlineStep call = IsStepOf (λ before why. why_refused call before.activity before.windows.desk ≡ why) false
    (IsOutlineEffect call) IsDeskUnchanged

-- the call is refused for the first reason that there is; or there is none, it answers this, and this is open then
abbrev pub IsOutlining : OutlineCall → Activity → Result Outlining Refusal → FullDesk → Type 0
IsOutlining call activity (Ok o) desk = (why_refused call activity desk ≡ None)
    × ((o.reply ≡ answer_to call activity desk) × (o.activity ≡ open_after call activity desk))
IsOutlining call activity (Err e) desk = why_refused call activity desk ≡ Some e
