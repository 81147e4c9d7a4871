-- Why a call about a frame refuses: the first refusal of the written order whose condition holds.
use Rattle.std.specs.Prelude.{Bool, not, List, [], ◌∷◌, length, nat_lt}
use Rattle.tb_geom.specs.declared.refusal.Refusal.{Refusal}
use Rattle.tb_geom.specs.declared.refusal.Refusal.TheVariants.{NoSuchWindow, OutOfRange, TooLong}
use Rattle.tb_geom.specs.Rects.{in_plane}
use Rattle.desk_call.specs.declared.frame.FrameCall.{FrameCall}
use Rattle.desk_call.specs.declared.frame.FrameCall.TheVariants.{SetTitle, Hilite, TrackGoAway, StepGoAway, EndGoAway}
use Rattle.window_mgr.specs.FullDesk.{FullDesk}
use Rattle.window_mgr.specs.Refused.{is_missing, longest_text, window_refusals}
use Rattle.tb_geom.specs.declared.point.Point.{Point}

-- why a step or the end of tracking may be refused, which may come while a go-away box is tracked: the point is none
abbrev pub tracking_refusals : Point → List (Bool × Refusal)
tracking_refusals p = (not (in_plane p), OutOfRange) ∷ []

-- why the call may be refused
abbrev pub frame_refusals : FrameCall → FullDesk → List (Bool × Refusal)
frame_refusals (SetTitle n) desk = (is_missing n.window desk.windows, NoSuchWindow) ∷ (nat_lt longest_text (length n.title), TooLong) ∷ []
frame_refusals (Hilite h) desk = window_refusals h.window desk
frame_refusals (TrackGoAway g) desk = (is_missing g.window desk.windows, NoSuchWindow) ∷ (not (in_plane g.point), OutOfRange) ∷ []
frame_refusals (StepGoAway p) desk = tracking_refusals p
frame_refusals (EndGoAway p) desk = tracking_refusals p
