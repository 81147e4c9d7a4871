-- What is right stays right where definitions are told.
use Rattle.std.proofs.Common.{ℕ, Bool, List, Result, refl}
use Rattle.tb_geom.specs.declared.refusal.Refusal.{Refusal}
use Rattle.def_iface.specs.WindowNews.{told_title, told_highlighted, told_tracked}
use Rattle.desk_call.specs.declared.activity.Standing.{Standing}
use Rattle.desk_call.specs.declared.frame.FrameCall.{FrameCall}
use Rattle.desk_call.specs.declared.frame.FrameReply.{FrameReply}
use Rattle.window_mgr.specs.FullDesk.{FullState, IsRightState}
use Rattle.window_mgr.proofs.FrameRight.{KeepsLayers, frame_told_stays_right}
use Rattle.window_mgr.proofs.Running.{unchanged_stays_right}
use Rattle.window_mgr.specs.DeskStates.{DeskState}
use Rattle.window_frame.specs.Followers.{Flag, IsCaughtUpBy, told_flag, with_heard}
use Rattle.window_frame.specs.Followers.Flag.{Highlighting, Zooming}
use Rattle.window_frame.specs.FrameSteps.{IsFrameStep, with_flag, with_title, with_tracked}
use Rattle.window_frame.proofs.ToldSteps.{HoldsOfFollowing, HoldsOfFrames, of_caught_up, of_frame}

-- ---- what is right stays so

keeps_tracked : (inside : Bool) → KeepsLayers (with_tracked inside)
keeps_tracked inside = record { serial = λ w. refl; place = λ w. refl; size = λ w. refl; shown = λ w. refl; picture = λ w. refl; origin = λ w. refl; layers = λ w. refl }

keeps_titled : (title : List ℕ) → KeepsLayers (with_title title)
keeps_titled title = record { serial = λ w. refl; place = λ w. refl; size = λ w. refl; shown = λ w. refl; picture = λ w. refl; origin = λ w. refl; layers = λ w. refl }

keeps_flagged : (on : Bool) → KeepsLayers (with_flag on)
keeps_flagged on = record { serial = λ w. refl; place = λ w. refl; size = λ w. refl; shown = λ w. refl; picture = λ w. refl; origin = λ w. refl; layers = λ w. refl }

keeps_heard : (flag : Flag) → KeepsLayers (with_heard flag)
keeps_heard Highlighting = record { serial = λ w. refl; place = λ w. refl; size = λ w. refl; shown = λ w. refl; picture = λ w. refl; origin = λ w. refl; layers = λ w. refl }
keeps_heard Zooming = record { serial = λ w. refl; place = λ w. refl; size = λ w. refl; shown = λ w. refl; picture = λ w. refl; origin = λ w. refl; layers = λ w. refl }

abbrev StaysRight : FullState → FullState → Type 0
StaysRight before after = IsRightState before → IsRightState after

following_stays_right : HoldsOfFollowing StaysRight
following_stays_right = record {
  same = λ s right. right;
  joined = λ first middle last one next right. next (one right);
  told = λ flag s before after told right. frame_told_stays_right s (told_flag flag) (with_heard flag) before after (keeps_heard flag) right told;
}

frames_stay_right : HoldsOfFrames StaysRight
frames_stay_right = record {
  unchanged = λ before after same right. unchanged_stays_right before after right same;
  titled = λ title s before after told right. frame_told_stays_right s (λ _. told_title title) (with_title title) before after (keeps_titled title) right told;
  highlighted = λ on s before after told right. frame_told_stays_right s (λ _. told_highlighted on) (with_flag on) before after (keeps_flagged on) right told;
  tracked = λ inside s before after told right. frame_told_stays_right s (λ _. told_tracked inside) (with_tracked inside) before after (keeps_tracked inside) right told;
}

pub caught_up_stays_right : (standing : Standing) (before after : FullState) → IsRightState before → IsCaughtUpBy standing before after → IsRightState after
caught_up_stays_right standing before after right told = of_caught_up StaysRight following_stays_right standing before after told right

pub frame_stays_right : (call : FrameCall) (answer : Result FrameReply Refusal) (before after : DeskState) → IsRightState before.windows → IsFrameStep call answer before after → IsRightState after.windows
frame_stays_right call answer before after right step = of_frame StaysRight frames_stay_right call answer before after step right
