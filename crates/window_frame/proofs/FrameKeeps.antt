-- What of a desk definitions that are told leave as it is: all but its windows.
use Rattle.std.proofs.Common.{◌≡◌, ℕ, Bool, List, Result, refl, ap, ◌∙◌}
use Rattle.tb_geom.specs.declared.refusal.Refusal.{Refusal}
use Rattle.def_iface.specs.WindowNews.{WindowNews, told_title, told_highlighted, told_tracked}
use Rattle.desk_call.specs.declared.activity.Standing.{Standing}
use Rattle.desk_call.specs.declared.frame.FrameCall.{FrameCall}
use Rattle.desk_call.specs.declared.frame.FrameReply.{FrameReply}
use Rattle.vis_update.specs.Records.{WindowRecord}
use Rattle.window_mgr.specs.FrameNotices.{IsFrameNotified}
use Rattle.window_mgr.specs.FullDesk.{FullDesk, FullState}
use Rattle.window_mgr.specs.DeskStates.{DeskState}
use Rattle.window_frame.specs.Followers.{IsCaughtUpBy, told_flag, with_heard}
use Rattle.window_frame.specs.FrameSteps.{IsFrameStep, IsTrackingNotified, with_flag, with_title, with_tracked}
use Rattle.window_frame.proofs.ToldSteps.{HoldsOfFollowing, HoldsOfFrames, of_caught_up, of_frame, of_tracking}

module _ {A : Type 0} (f : FullDesk → A) (apart : (d : FullDesk) (ws : List WindowRecord) → f (record d { windows = ws }) ≡ f d) where
  abbrev Keeps : FullState → FullState → Type 0
  Keeps before after = f after.desk ≡ f before.desk

  pub frame_told_keeps : (s : ℕ) (news : WindowRecord → WindowNews → WindowNews) (kept : WindowRecord → WindowRecord) (before after : FullState) → IsFrameNotified s news kept before after → f after.desk ≡ f before.desk
  frame_told_keeps s news kept before after told = ap f told.desk ∙ apart before.desk _

  following_keeps : HoldsOfFollowing Keeps
  following_keeps = record {
    same = λ s. refl;
    joined = λ first middle last one next. next ∙ one;
    told = λ flag s before after told. frame_told_keeps s (told_flag flag) (with_heard flag) before after told;
  }

  frames_keep : HoldsOfFrames Keeps
  frames_keep = record {
    unchanged = λ before after same. ap f same.desk;
    titled = λ title s before after told. frame_told_keeps s (λ _. told_title title) (with_title title) before after told;
    highlighted = λ on s before after told. frame_told_keeps s (λ _. told_highlighted on) (with_flag on) before after told;
    tracked = λ inside s before after told. frame_told_keeps s (λ _. told_tracked inside) (with_tracked inside) before after told;
  }

  pub tracking_keeps : (inside : Bool) (s : ℕ) (before after : FullState) → IsTrackingNotified inside s before after → f after.desk ≡ f before.desk
  tracking_keeps = of_tracking Keeps frames_keep

  pub caught_up_keeps : (standing : Standing) (before after : FullState) → IsCaughtUpBy standing before after → f after.desk ≡ f before.desk
  caught_up_keeps = of_caught_up Keeps following_keeps

  pub frame_keeps : (call : FrameCall) (answer : Result FrameReply Refusal) (before after : DeskState) → IsFrameStep call answer before after → f after.windows.desk ≡ f before.windows.desk
  frame_keeps = of_frame Keeps frames_keep
