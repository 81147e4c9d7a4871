-- One step of a call about a frame: what it leaves, and what it answers.
use Rattle.std.specs.Prelude.{◌≡◌, ◌⊎◌, ℕ, Bool, true, false, ◌&&◌, List, Result}
use Rattle.tb_geom.specs.declared.point.Point.{Point}
use Rattle.tb_geom.specs.declared.refusal.Refusal.{Refusal}
use Rattle.def_iface.specs.WindowNews.{told_title, told_highlighted, told_tracked}
use Rattle.desk_call.specs.declared.activity.Activity.TheVariants.{Idle, Tracking}
use Rattle.desk_call.specs.declared.frame.FrameCall.{FrameCall}
use Rattle.desk_call.specs.declared.frame.FrameCall.TheVariants.{SetTitle, Hilite, TrackGoAway, StepGoAway, EndGoAway}
use Rattle.desk_call.specs.declared.frame.FrameReply.{FrameReply}
use Rattle.desk_call.specs.declared.frame.FrameReply.TheVariants.{Done, Tracked}
use Rattle.desk_call.specs.Steps.{IsStepOf}
use Rattle.desk_call.specs.declared.window.WindowPart.{WindowPart}
use Rattle.desk_call.specs.declared.window.WindowPart.TheVariants.{InGoAway}
use Rattle.vis_update.specs.Records.{WindowRecord}
use Rattle.vis_update.specs.Touches.{is_this}
use Rattle.window_mgr.specs.Finding.{found_at}
use Rattle.window_mgr.specs.FrameNotices.{IsFrameNotified}
use Rattle.window_mgr.specs.FullDesk.{FullDesk, FullState}
use Rattle.tb_geom.specs.Refusals.{first_refusal}
use Rattle.window_mgr.specs.Refused.{is_missing}
use Rattle.window_mgr.specs.DeskStates.{DeskState, IsDeskUnchanged, SameActivity}
use Rattle.window_frame.specs.FrameRefusals.{frame_refusals}

abbrev pub with_title : List ℕ → WindowRecord → WindowRecord
with_title title w = record w { title = title }

abbrev pub with_flag : Bool → WindowRecord → WindowRecord
with_flag on w = record w { highlighted = on; heard = record w.heard { highlighted = on } }

abbrev pub with_tracked : Bool → WindowRecord → WindowRecord
with_tracked tracked w = record w { heard = record w.heard { tracked = tracked } }

abbrev pub is_go_away : WindowPart → Bool
is_go_away InGoAway = true
is_go_away _ = false

-- FindWindow answers the go-away box of the window of this serial at the point
abbrev pub in_go_away : ℕ → FullDesk → Point → Bool
in_go_away s desk p = let found = found_at desk p in is_go_away found.part && is_this found.window s

-- the definition of the window of this serial, if there is one, is told whether the go-away box is tracked with the point inside
abbrev pub IsTrackingNotified : Bool → ℕ → FullState → FullState → Type 0
IsTrackingNotified inside s before after = ((is_missing s before.desk.windows ≡ true) × (after ≡ before))
    ⊎ IsFrameNotified s (λ _. told_tracked inside) (with_tracked inside) before after

-- tracking begins where the point lies in the box, and the definition is told; elsewhere nothing does
abbrev pub IsBegunAt : ℕ → Bool → DeskState → DeskState → Type 0
IsBegunAt s true before after = (after.activity ≡ Tracking s) × IsTrackingNotified true s before.windows after.windows
IsBegunAt s false before after = IsDeskUnchanged before after

-- tracking of some window goes on at this point, or ends there: its definition is told whether that lies in the box, or that
-- nothing is tracked any more
pub record IsTrackedAt (p : Point) (inside shows : Bool) (before after : DeskState) : Type 0 where
  pub window : ℕ
  pub tracked : before.activity ≡ Tracking window
  pub answer : inside ≡ in_go_away window before.windows.desk p
  pub told : IsTrackingNotified shows window before.windows after.windows

-- what a call that nothing refuses answers and leaves
abbrev pub IsFrameEffect : FrameCall → FrameReply → DeskState → DeskState → Type 0
IsFrameEffect (SetTitle n) Done before after = SameActivity before after × IsFrameNotified n.window (λ _. told_title n.title) (with_title n.title) before.windows after.windows
IsFrameEffect (Hilite h) Done before after = SameActivity before after × IsFrameNotified h.window (λ _. told_highlighted h.highlighted) (with_flag h.highlighted) before.windows after.windows
IsFrameEffect (TrackGoAway g) (Tracked inside) before after =
    (inside ≡ in_go_away g.window before.windows.desk g.point) × IsBegunAt g.window inside before after
IsFrameEffect (StepGoAway p) (Tracked inside) before after = SameActivity before after × IsTrackedAt p inside inside before after
IsFrameEffect (EndGoAway p) (Tracked inside) before after = (after.activity ≡ Idle) × IsTrackedAt p inside false before after
IsFrameEffect _ _ before after = ⊥

-- one step of a call about a frame; none takes memory
abbrev pub IsFrameStep : FrameCall → Result FrameReply Refusal → DeskState → DeskState → Type 0
IsFrameStep call = IsStepOf (λ before why. first_refusal (frame_refusals call before.windows.desk) ≡ why) false
    (IsFrameEffect call) IsDeskUnchanged
