-- Why a call about an outline refuses: the first refusal of the written order whose condition holds.
use Rattle.std.specs.Prelude.{◌≡◌, Bool, true, false, not, ◌&&◌, List, [], ◌∷◌, ◌++◌, Result, Ok, Err}
use Rattle.std.specs.List.{list_all}
use Rattle.tb_geom.specs.declared.point.Point.{Point}
use Rattle.tb_geom.specs.declared.rect.Rect.{Rect}
use Rattle.tb_geom.specs.declared.refusal.Refusal.{Refusal}
use Rattle.tb_geom.specs.declared.refusal.Refusal.TheVariants.{NoSuchWindow, OutOfRange}
use Rattle.tb_geom.specs.Rects.{in_plane, is_in_range}
use Rattle.desk_call.specs.declared.activity.Activity.{Activity}
use Rattle.desk_call.specs.declared.outline.OutlineCall.{OutlineCall}
use Rattle.desk_call.specs.declared.outline.OutlineCall.TheVariants.{Drag, StepDrag, EndDrag, Grow, StepGrow, EndGrow}
use Rattle.desk_call.specs.Outlines.{are_limits}
use Rattle.window_mgr.specs.FullDesk.{FullDesk}
use Rattle.window_mgr.specs.Refused.{is_missing}
use Rattle.window_outline.specs.Outlining.{outline_after}

-- why a step or an end may be refused: the point is none
abbrev pub point_refusals : Point → List (Bool × Refusal)
point_refusals p = (not (in_plane p), OutOfRange) ∷ []

-- why a call may be refused by what it says: there is no such window, or a number is out of its range
abbrev pub asked_refusals : OutlineCall → FullDesk → List (Bool × Refusal)
asked_refusals (Drag d) desk = (is_missing d.window desk.windows, NoSuchWindow) ∷ (not (in_plane d.point), OutOfRange) ∷ []
asked_refusals (StepDrag p) desk = point_refusals p
asked_refusals (EndDrag p) desk = point_refusals p
asked_refusals (Grow g) desk =
    (is_missing g.window desk.windows, NoSuchWindow) ∷ (not (in_plane g.point && are_limits g.limits), OutOfRange) ∷ []
asked_refusals (StepGrow p) desk = point_refusals p
asked_refusals (EndGrow p) desk = point_refusals p

-- why the call may be refused, where this is open: by that, or the outline that would be shown passes the range of coordinates
abbrev pub outline_refusals : OutlineCall → Activity → FullDesk → List (Bool × Refusal)
outline_refusals call activity desk = asked_refusals call desk ++ (not (list_all is_in_range (outline_after call activity desk)), OutOfRange) ∷ []

-- these lines are given, or one of them leaves the range of coordinates
abbrev pub AreLines : List Rect → Result (List Rect) Refusal → Type 0
AreLines lines (Ok given) = (given ≡ lines) × (list_all is_in_range lines ≡ true)
AreLines lines (Err e) = (list_all is_in_range lines ≡ false) × (e ≡ OutOfRange)
