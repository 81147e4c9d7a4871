-- Calls about outlines, whatever controls and lists show, and whatever the stock has.
use Rattle.std.proofs.Common.{◌≡◌, ℕ, ◌&&◌, not, if◌then◌else◌, List, [], ◌∷◌, ◌++◌, Result, Ok, Err, refl, sym, ap, ◌∙◌}
use Rattle.std.specs.List.{list_all}
use Rattle.tb_geom.specs.declared.refusal.Refusal.{Refusal}
use Rattle.tb_geom.specs.declared.refusal.Refusal.TheVariants.{OutOfRange}
use Rattle.tb_geom.specs.Points.{PixelSet}
use Rattle.tb_geom.specs.Rects.{is_in_range}
use Rattle.tb_geom.specs.Refusals.{first_refusal}
use Rattle.desk_layers.specs.declared.part.Part.{Part}
use Rattle.def_iface.specs.WindowSlots.{WindowSlot}
use Rattle.desk_call.specs.declared.activity.Activity.{Activity}
use Rattle.desk_call.specs.declared.activity.Activity.TheVariants.{Dragging, Growing}
use Rattle.desk_call.specs.declared.outline.OutlineCall.{OutlineCall}
use Rattle.desk_call.specs.declared.outline.OutlineCall.TheVariants.{Drag, StepDrag, EndDrag, Grow, StepGrow, EndGrow}
use Rattle.desk_call.specs.declared.outline.OutlineReply.TheVariants.{Shown}
use Rattle.vis_update.specs.Touches.{is_this}
use Rattle.window_mgr.specs.Finding.{record_with}
use Rattle.window_mgr.specs.FullDesk.{FullDesk}
use Rattle.window_mgr.specs.Records.{desk_showing}
use Rattle.window_mgr.proofs.StepsShowing.{found_showing}
use Rattle.window_outline.specs.declared.outlining.Outlining.{Outlining}
use Rattle.window_outline.specs.Outlining.{answer_to, begins, drag_lines, grow_lines, is_drag, is_grow, let_go_of, no_lines, open_after, outline_after}
use Rattle.window_outline.specs.OutlineRefusals.{asked_refusals}
use Rattle.window_outline.specs.OutlineSteps.{IsOutlining, why_refused}

module _ (shows : List ℕ → Part → PixelSet) (slots : List WindowSlot) (d : FullDesk) where
  -- the desk, of which windows show this, and the stock has these slots
  abbrev seen : FullDesk
  seen = record (desk_showing shows d) { stock = slots }

  begins_showing : (call : OutlineCall) → begins call seen ≡ begins call d
  begins_showing (Drag w) = ap (λ found. is_drag found.part && is_this found.window w.window) (found_showing shows d w.point)
  begins_showing (StepDrag p) = refl
  begins_showing (EndDrag p) = refl
  begins_showing (Grow w) = ap (λ found. is_grow found.part && is_this found.window w.window) (found_showing shows d w.point)
  begins_showing (StepGrow p) = refl
  begins_showing (EndGrow p) = refl

  after_showing : (call : OutlineCall) (a : Activity) → outline_after call a seen ≡ outline_after call a d
  after_showing (Drag w) a = ap (λ b. if b then drag_lines d (record_with w.window d.windows) w.point w.point else no_lines) (begins_showing (Drag w))
  after_showing (StepDrag p) (Dragging w) = refl
  after_showing (StepDrag p) a = refl
  after_showing (EndDrag p) a = refl
  after_showing (Grow w) a = ap (λ b. if b then grow_lines w.limits (record_with w.window d.windows) w.point w.point else no_lines) (begins_showing (Grow w))
  after_showing (StepGrow p) (Growing w) = refl
  after_showing (StepGrow p) a = refl
  after_showing (EndGrow p) a = refl

  open_showing : (call : OutlineCall) (a : Activity) → open_after call a seen ≡ open_after call a d
  open_showing (Drag w) a =
      λ i. if begins_showing (Drag w) i then Dragging (record { window = w.window; from = w.point; outline = after_showing (Drag w) a i }) else a
  open_showing (StepDrag p) (Dragging w) = refl
  open_showing (StepDrag p) a = refl
  open_showing (EndDrag p) a = refl
  open_showing (Grow w) a =
      λ i. if begins_showing (Grow w) i then Growing (record { window = w.window; from = w.point; limits = w.limits; outline = after_showing (Grow w) a i }) else a
  open_showing (StepGrow p) (Growing w) = refl
  open_showing (StepGrow p) a = refl
  open_showing (EndGrow p) a = refl

  answer_showing : (call : OutlineCall) (a : Activity) → answer_to call a seen ≡ answer_to call a d
  answer_showing (Drag w) a = ap Shown (begins_showing (Drag w))
  answer_showing (StepDrag p) a = refl
  answer_showing (EndDrag p) a = refl
  answer_showing (Grow w) a = ap Shown (begins_showing (Grow w))
  answer_showing (StepGrow p) (Growing w) = refl
  answer_showing (StepGrow p) a = refl
  answer_showing (EndGrow p) (Growing w) = refl
  answer_showing (EndGrow p) a = refl

  asked_showing : (call : OutlineCall) → asked_refusals call seen ≡ asked_refusals call d
  asked_showing (Drag w) = refl
  asked_showing (StepDrag p) = refl
  asked_showing (EndDrag p) = refl
  asked_showing (Grow w) = refl
  asked_showing (StepGrow p) = refl
  asked_showing (EndGrow p) = refl

  why_showing : (call : OutlineCall) (a : Activity) → why_refused call a seen ≡ why_refused call a d
  why_showing call a = λ i. first_refusal (asked_showing call i ++ (not (list_all is_in_range (after_showing call a i)), OutOfRange) ∷ [])

  pub outlining_showing : (call : OutlineCall) (a : Activity) (result : Result Outlining Refusal) → IsOutlining call a result d → IsOutlining call a result seen
  outlining_showing call a (Ok o) (may, (reply, opened)) = (why_showing call a ∙ may, (reply ∙ sym (answer_showing call a), opened ∙ sym (open_showing call a)))
  outlining_showing call a (Err e) why = why_showing call a ∙ why

  pub let_go_showing : (call : OutlineCall) (a : Activity) → let_go_of call a seen ≡ let_go_of call a d
  let_go_showing (EndDrag p) (Dragging w) = refl
  let_go_showing (EndDrag p) a = refl
  let_go_showing (Drag w) a = refl
  let_go_showing (StepDrag p) a = refl
  let_go_showing (Grow w) a = refl
  let_go_showing (StepGrow p) a = refl
  let_go_showing (EndGrow p) a = refl
