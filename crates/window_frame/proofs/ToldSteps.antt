-- What holds of each definition that is told holds of all that are told after a call on windows, and of a call about a frame.
use Rattle.std.proofs.Common.{◌≡◌, ◌⊎◌, inl, inr, ℕ, Bool, true, false, List, [], ◌∷◌, Result, Ok, Err, refl, sym, subst}
use Rattle.tb_geom.specs.declared.refusal.Refusal.{Refusal}
use Rattle.def_iface.specs.Slots.{TakenBox}
use Rattle.def_iface.specs.WindowMeaning.{WindowLoan}
use Rattle.def_iface.specs.WindowNews.{told_title, told_highlighted, told_tracked}
use Rattle.desk_call.specs.declared.activity.Standing.{Standing}
use Rattle.desk_call.specs.declared.activity.Standing.TheVariants.{Asks, Updates, Tracks, Pulls, TracksControl, Drags, Grows, Selects, Changes}
use Rattle.desk_call.specs.declared.frame.FrameCall.{FrameCall}
use Rattle.desk_call.specs.declared.frame.FrameCall.TheVariants.{SetTitle, Hilite, TrackGoAway, StepGoAway, EndGoAway}
use Rattle.desk_call.specs.declared.frame.FrameReply.{FrameReply}
use Rattle.desk_call.specs.declared.frame.FrameReply.TheVariants.{Done, Tracked}
use Rattle.window_mgr.specs.declared.manager.WindowManager.{WindowManager}
use Rattle.window_mgr.specs.DeskStates.{DeskState}
use Rattle.window_mgr.specs.Effects.{IsUnchanged}
use Rattle.window_mgr.specs.FrameNotices.{IsFrameNotified}
use Rattle.window_mgr.specs.FullDesk.{FullState}
use Rattle.window_mgr.specs.Updating.{LeavesState}
use Rattle.window_frame.specs.Followers.{AreNotified, Flag, IsCaughtUp, IsCaughtUpBy, Telling, told_flag, with_heard}
use Rattle.window_frame.specs.FrameSteps.{IsBegunAt, IsFrameEffect, IsFrameStep, IsTrackingNotified, with_flag, with_title, with_tracked}

-- after a call that asks nothing changed, and after any other definitions were told how their windows stand
pub caught_up_cases : (standing : Standing) (before after : FullState) → IsCaughtUpBy standing before after → ((standing ≡ Asks) × (after ≡ before)) ⊎ IsCaughtUp before after
caught_up_cases Asks before after same = inl (refl, same)
caught_up_cases (Updates s) before after told = inr told
caught_up_cases Tracks before after told = inr told
caught_up_cases Pulls before after told = inr told
caught_up_cases TracksControl before after told = inr told
caught_up_cases Drags before after told = inr told
caught_up_cases Grows before after told = inr told
caught_up_cases Selects before after told = inr told
caught_up_cases Changes before after told = inr told

-- after a call that does not just ask, definitions that know how their windows stand are told as after the call
pub caught_up_after : {V : Type 0} {H : V → Type 0} (loan : TakenBox V H → WindowLoan) (t new : WindowManager V H) (standing : Standing) → (standing ≡ Asks → ⊥)
    → LeavesState loan IsCaughtUp t new → LeavesState loan (IsCaughtUpBy standing) t new
caught_up_after loan t new Asks changes leaves = absurd (changes refl)
caught_up_after loan t new _ changes leaves = leaves

-- `R` relates the states before and after
module _ (R : FullState → FullState → Type 0) where
  -- it holds where nothing changed, of two changes where it holds of each, and where a definition is told how its window stands
  pub record HoldsOfFollowing : Type 0 where
    pub same : (s : FullState) → R s s
    pub joined : (first middle last : FullState) → R first middle → R middle last → R first last
    pub told : (flag : Flag) (s : ℕ) (before after : FullState) → IsFrameNotified s (told_flag flag) (with_heard flag) before after → R before after

  module _ (each : HoldsOfFollowing) where
    of_same : (before after : FullState) → after ≡ before → R before after
    of_same before after same = subst (R before) (sym same) (each.same before)

    pub of_notified : (ts : List Telling) (before after : FullState) → AreNotified ts before after → R before after
    of_notified [] before after same = of_same before after same
    of_notified (t ∷ ts) before after (middle, one, rest) =
        each.joined before middle after (each.told t.flag t.window before middle one.told) (of_notified ts middle after rest)

    pub of_caught_up : (standing : Standing) (before after : FullState) → IsCaughtUpBy standing before after → R before after
    of_caught_up standing before after caught = by_case (caught_up_cases standing before after caught)
      where
        by_case : ((standing ≡ Asks) × (after ≡ before)) ⊎ IsCaughtUp before after → R before after
        by_case (inl (asks, same)) = of_same before after same
        by_case (inr (ts, told, informed)) = of_notified ts before after told

  -- it holds where nothing changed, and where a definition is told what a call about its frame says
  pub record HoldsOfFrames : Type 0 where
    pub unchanged : (before after : FullState) → IsUnchanged before after → R before after
    pub titled : (title : List ℕ) (s : ℕ) (before after : FullState) → IsFrameNotified s (λ _. told_title title) (with_title title) before after → R before after
    pub highlighted : (on : Bool) (s : ℕ) (before after : FullState) → IsFrameNotified s (λ _. told_highlighted on) (with_flag on) before after → R before after
    pub tracked : (inside : Bool) (s : ℕ) (before after : FullState) → IsFrameNotified s (λ _. told_tracked inside) (with_tracked inside) before after → R before after

  module _ (each : HoldsOfFrames) where
    pub of_tracking : (inside : Bool) (s : ℕ) (before after : FullState) → IsTrackingNotified inside s before after → R before after
    of_tracking inside s before after (inl (missing, same)) =
        subst (R before) (sym same) (each.unchanged before before (record { desk = refl; stale = λ p on. refl; image = λ p on. refl }))
    of_tracking inside s before after (inr told) = each.tracked inside s before after told

    of_begun : (s : ℕ) (inside : Bool) (before after : DeskState) → IsBegunAt s inside before after → R before.windows after.windows
    of_begun s true before after (tracked, told) = of_tracking true s before.windows after.windows told
    of_begun s false before after same = each.unchanged before.windows after.windows same.windows

    pub of_effect : (call : FrameCall) (answer : FrameReply) (before after : DeskState) → IsFrameEffect call answer before after → R before.windows after.windows
    of_effect (SetTitle n) Done before after (same, told) = each.titled n.title n.window before.windows after.windows told
    of_effect (Hilite h) Done before after (same, told) = each.highlighted h.highlighted h.window before.windows after.windows told
    of_effect (TrackGoAway g) (Tracked inside) before after (is, begun) = of_begun g.window inside before after begun
    of_effect (StepGoAway p) (Tracked inside) before after (same, tracked) = of_tracking inside tracked.window before.windows after.windows tracked.told
    of_effect (EndGoAway p) (Tracked inside) before after (idle, tracked) = of_tracking false tracked.window before.windows after.windows tracked.told
    of_effect (SetTitle n) (Tracked inside) before after wrong = absurd wrong
    of_effect (Hilite h) (Tracked inside) before after wrong = absurd wrong
    of_effect (TrackGoAway g) Done before after wrong = absurd wrong
    of_effect (StepGoAway p) Done before after wrong = absurd wrong
    of_effect (EndGoAway p) Done before after wrong = absurd wrong

    pub of_frame : (call : FrameCall) (answer : Result FrameReply Refusal) (before after : DeskState) → IsFrameStep call answer before after → R before.windows after.windows
    of_frame call (Ok answer) before after step = of_effect call answer before after step.1
    of_frame call (Err e) before after step = each.unchanged before.windows after.windows step.1.windows
