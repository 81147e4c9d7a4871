-- What holds of a reached state, with windows counted, after calls about outlines.
use Rattle.std.proofs.Common.{◌≡◌, Bool, true, false, not, ◌&&◌, if◌then◌else◌, List, [], ◌∷◌, None, Result, Ok, Err, refl, sym, ap, ◌∙◌, subst}
use Rattle.std.specs.List.{list_all}
use Rattle.tb_geom.specs.Rects.{in_plane, is_in_range}
use Rattle.desk_call.specs.Outlines.{are_limits}
use Rattle.tb_geom.specs.declared.refusal.Refusal.{Refusal}
use Rattle.tb_geom.specs.declared.refusal.Refusal.TheVariants.{NoSuchWindow, OutOfRange}
use Rattle.desk_call.specs.declared.activity.Activity.{Activity}
use Rattle.desk_call.specs.declared.activity.Activity.TheVariants.{Idle, Updating, Tracking, Pulling, TrackingControl, Dragging, Growing, Selecting}
use Rattle.desk_call.specs.declared.activity.Standing.TheVariants.{Drags, Grows}
use Rattle.desk_call.specs.declared.outline.OutlineCall.{OutlineCall}
use Rattle.desk_call.specs.declared.outline.OutlineCall.TheVariants.{Drag, StepDrag, EndDrag, Grow, StepGrow, EndGrow}
use Rattle.desk_call.specs.declared.outline.OutlineReply.{OutlineReply}
use Rattle.desk_call.specs.Gates.{gate, outline_standing}
use Rattle.vis_update.specs.Records.{WindowRecord}
use Rattle.window_mgr.specs.FullDesk.{FullDesk}
use Rattle.window_mgr.specs.Refused.{is_missing}
use Rattle.control_mgr.specs.ControlDesks.{ControlRecord}
use Rattle.control_mgr.specs.WholeControls.{IsTrackable}
use Rattle.window_frame.specs.Followers.{AreInformed}
use Rattle.window_outline.specs.Outlining.{begins, open_after, outline_after}
use Rattle.window_outline.specs.OutlineSteps.{IsOutlineStep, why_refused}
use Rattle.text_mgr.specs.TextDesks.{KeptText}
use Rattle.text_mgr.specs.WholeTexts.{IsSelectable}
use Rattle.desk_toolbox.specs.declared.events.Events.{Events}
use Rattle.desk_toolbox.specs.Reached.{open_window}
use Rattle.desk_toolbox.specs.Run.{IsRestKept, put_down}
use Rattle.desk_toolbox.specs.ToolboxStates.{ToolboxState}
use Rattle.desk_toolbox.proofs.ContentsBeside.{IsRightToolbox}
use Rattle.desk_toolbox.proofs.Outlined.{outline_keeps_desk, put_down_right}
use Rattle.desk_toolbox.proofs.PulledMenus.{IsPullRight, PullsNone, still_without}
use Rattle.desk_toolbox.proofs.Stands.{Stands, apart_stays, bar_stays, idle_now, stands_still}
use Rattle.desk_toolbox.proofs.StandsOpen.{not_refused}
use Rattle.desk_toolbox.proofs.Told.{ArePosted}
use Rattle.desk_toolbox.proofs.Totals.{Ordinary, Present, found_counts, total}
use Rattle.desk_toolbox.proofs.Tracked.{misled}

-- ---- what is open

-- nothing is open but a window that is dragged or grown, if that is
abbrev pub IsOutlining : Activity → Type 0
IsOutlining Idle = Unit {0}
IsOutlining (Dragging d) = Unit {0}
IsOutlining (Growing g) = Unit {0}
IsOutlining _ = ⊥

pub drags_now : (a : Activity) → gate a Drags ≡ None → IsOutlining a
drags_now Idle may = tt
drags_now (Updating s) may = absurd (cc)
drags_now (Tracking s) may = absurd (cc)
drags_now (TrackingControl c) may = absurd (cc)
drags_now (Selecting k) may = absurd (cc)
drags_now (Pulling m) may = absurd (cc)
drags_now (Dragging d) may = tt
drags_now (Growing g) may = tt

grows_now : (a : Activity) → gate a Grows ≡ None → IsOutlining a
grows_now Idle may = tt
grows_now (Updating s) may = absurd (cc)
grows_now (Tracking s) may = absurd (cc)
grows_now (TrackingControl c) may = absurd (cc)
grows_now (Selecting k) may = absurd (cc)
grows_now (Pulling m) may = absurd (cc)
grows_now (Dragging d) may = tt
grows_now (Growing g) may = tt

pub outline_comes_then : (call : OutlineCall) (a : Activity) → gate a (outline_standing call) ≡ None → IsOutlining a
outline_comes_then (Drag d) a may = subst IsOutlining (sym (idle_now a may)) tt
outline_comes_then (StepDrag p) a may = drags_now a may
outline_comes_then (EndDrag p) a may = drags_now a may
outline_comes_then (Grow g) a may = subst IsOutlining (sym (idle_now a may)) tt
outline_comes_then (StepGrow p) a may = grows_now a may
outline_comes_then (EndGrow p) a may = grows_now a may

dragged_or_not : (b : Bool) (a c : Activity) → IsOutlining a → IsOutlining c → IsOutlining (if b then c else a)
dragged_or_not true a c was now = now
dragged_or_not false a c was now = was

pub outlining_after : (call : OutlineCall) (a : Activity) (desk : FullDesk) → IsOutlining a → IsOutlining (open_after call a desk)
outlining_after (Drag d) a desk was = dragged_or_not (begins (Drag d) desk) a (Dragging _) was tt
outlining_after (StepDrag p) Idle desk was = tt
outlining_after (StepDrag p) (Dragging d) desk was = tt
outlining_after (StepDrag p) (Growing g) desk was = tt
outlining_after (StepDrag p) (Updating s) desk was = absurd was
outlining_after (StepDrag p) (Tracking s) desk was = absurd was
outlining_after (StepDrag p) (TrackingControl c) desk was = absurd was
outlining_after (StepDrag p) (Selecting k) desk was = absurd was
outlining_after (StepDrag p) (Pulling m) desk was = absurd was
outlining_after (EndDrag p) a desk was = tt
outlining_after (Grow g) a desk was = dragged_or_not (begins (Grow g) desk) a (Growing _) was tt
outlining_after (StepGrow p) Idle desk was = tt
outlining_after (StepGrow p) (Dragging d) desk was = tt
outlining_after (StepGrow p) (Growing g) desk was = tt
outlining_after (StepGrow p) (Updating s) desk was = absurd was
outlining_after (StepGrow p) (Tracking s) desk was = absurd was
outlining_after (StepGrow p) (TrackingControl c) desk was = absurd was
outlining_after (StepGrow p) (Selecting k) desk was = absurd was
outlining_after (StepGrow p) (Pulling m) desk was = absurd was
outlining_after (EndGrow p) a desk was = tt

pub outlining_next : (call : OutlineCall) (a b : Activity) (desk : FullDesk) → gate a (outline_standing call) ≡ None → b ≡ open_after call a desk → IsOutlining b
outlining_next call a b desk may is = subst IsOutlining (sym is) (outlining_after call a desk (outline_comes_then call a may))

-- no control is tracked then, no go-away box and no menu
pub outlining_tracks_none : (a : Activity) (cs : List ControlRecord) → IsOutlining a → IsTrackable a cs
outlining_tracks_none Idle cs is = tt
outlining_tracks_none (Dragging d) cs is = tt
outlining_tracks_none (Growing g) cs is = tt
outlining_tracks_none (Updating s) cs is = absurd is
outlining_tracks_none (Tracking s) cs is = absurd is
outlining_tracks_none (TrackingControl c) cs is = absurd is
outlining_tracks_none (Selecting k) cs is = absurd is
outlining_tracks_none (Pulling m) cs is = absurd is

-- nor does the mouse select
pub outlining_selects_none : (a : Activity) (ts : List KeptText) → IsOutlining a → IsSelectable a ts
outlining_selects_none Idle ts is = tt
outlining_selects_none (Dragging d) ts is = tt
outlining_selects_none (Growing g) ts is = tt
outlining_selects_none (Updating s) ts is = absurd is
outlining_selects_none (Tracking s) ts is = absurd is
outlining_selects_none (TrackingControl c) ts is = absurd is
outlining_selects_none (Selecting k) ts is = absurd is
outlining_selects_none (Pulling m) ts is = absurd is

outlining_misleads_none : (a : Activity) (ws : List WindowRecord) → IsOutlining a → total (misled a) ws ≡ total (misled Idle) ws
outlining_misleads_none Idle ws is = refl
outlining_misleads_none (Dragging d) ws is = refl
outlining_misleads_none (Growing g) ws is = refl
outlining_misleads_none (Updating s) ws is = absurd is
outlining_misleads_none (Tracking s) ws is = absurd is
outlining_misleads_none (TrackingControl c) ws is = absurd is
outlining_misleads_none (Selecting k) ws is = absurd is
outlining_misleads_none (Pulling m) ws is = absurd is

outlining_pulls_none : (a : Activity) → IsOutlining a → PullsNone a
outlining_pulls_none Idle is = tt
outlining_pulls_none (Dragging d) is = tt
outlining_pulls_none (Growing g) is = tt
outlining_pulls_none (Updating s) is = absurd is
outlining_pulls_none (Tracking s) is = absurd is
outlining_pulls_none (TrackingControl c) is = absurd is
outlining_pulls_none (Selecting k) is = absurd is
outlining_pulls_none (Pulling m) is = absurd is

-- ---- the window of what is open

begun_or_not : (b : Bool) (a c : Activity) (ws : List WindowRecord) → Present (open_window a) ws → Present (open_window c) ws → Present (open_window (if b then c else a)) ws
begun_or_not true a c ws was now = now
begun_or_not false a c ws was now = was

-- the last reason for a refusal
abbrev out_of_range : OutlineCall → Activity → FullDesk → List (Bool × Refusal)
out_of_range call a desk = (not (list_all is_in_range (outline_after call a desk)), OutOfRange) ∷ []

outline_opens : (call : OutlineCall) (a : Activity) (desk : FullDesk) → why_refused call a desk ≡ None → Present (open_window a) desk.windows → Present (open_window (open_after call a desk)) desk.windows
outline_opens (Drag d) a desk may was =
    begun_or_not (begins (Drag d) desk) a (Dragging _) desk.windows was (found_counts d.window desk.windows (not_refused (is_missing d.window desk.windows) NoSuchWindow ((not (in_plane d.point), OutOfRange) ∷ out_of_range (Drag d) a desk) may))
outline_opens (StepDrag p) Idle desk may was = was
outline_opens (StepDrag p) (Dragging d) desk may was = was
outline_opens (StepDrag p) (Growing g) desk may was = was
outline_opens (StepDrag p) (Updating s) desk may was = was
outline_opens (StepDrag p) (Tracking s) desk may was = was
outline_opens (StepDrag p) (TrackingControl c) desk may was = was
outline_opens (StepDrag p) (Selecting k) desk may was = was
outline_opens (StepDrag p) (Pulling m) desk may was = was
outline_opens (EndDrag p) a desk may was = tt
outline_opens (Grow g) a desk may was =
    begun_or_not (begins (Grow g) desk) a (Growing _) desk.windows was (found_counts g.window desk.windows (not_refused (is_missing g.window desk.windows) NoSuchWindow ((not (in_plane g.point && are_limits g.limits), OutOfRange) ∷ out_of_range (Grow g) a desk) may))
outline_opens (StepGrow p) Idle desk may was = was
outline_opens (StepGrow p) (Dragging d) desk may was = was
outline_opens (StepGrow p) (Growing g) desk may was = was
outline_opens (StepGrow p) (Updating s) desk may was = was
outline_opens (StepGrow p) (Tracking s) desk may was = was
outline_opens (StepGrow p) (TrackingControl c) desk may was = was
outline_opens (StepGrow p) (Selecting k) desk may was = was
outline_opens (StepGrow p) (Pulling m) desk may was = was
outline_opens (EndGrow p) a desk may was = tt

-- ---- every call about an outline

-- the desk stays, and what is open then is an outline too
module _ (before after : ToolboxState) (desk : after.desk.windows.desk ≡ before.desk.windows.desk) (rest : IsRestKept before after) where
  opens_stand : IsOutlining before.desk.activity → IsOutlining after.desk.activity → Present (open_window after.desk.activity) before.desk.windows.desk.windows → Stands before → IsRightToolbox after → Stands after
  opens_stand was_open now here was right =
      let ws = before.desk.windows.desk.windows in
      record {
        right = right.right;
        contents = right.contents;
        trackable = outlining_tracks_none after.desk.activity after.controls.controls now;
        active = subst (λ (d : FullDesk). Ordinary d.active d.windows) (sym desk) was.active;
        told = subst (λ (d : FullDesk). Ordinary after.events.told d.windows) (sym desk) (subst (λ (e : Events). Ordinary e.told ws) (sym rest.events) was.told);
        opened = subst (λ (d : FullDesk). Present (open_window after.desk.activity) d.windows) (sym desk) here;
        queued = subst (λ (e : Events). ArePosted e.queue.events) (sym rest.events) was.queued;
        informed = subst (λ (d : FullDesk). AreInformed d.windows) (sym desk) was.informed;
        tracked =
            ap (λ (d : FullDesk). total (misled after.desk.activity) d.windows) desk
            ∙ outlining_misleads_none after.desk.activity ws now
            ∙ sym (outlining_misleads_none before.desk.activity ws was_open)
            ∙ was.tracked;
        bar = bar_stays before after (ap (λ (d : FullDesk). d.bar.titles) desk) rest.menus was.bar;
        apart = apart_stays before after rest.menus was.apart;
        pull =
            subst (IsPullRight after.desk.activity) (sym rest.menus)
            (still_without before.desk.activity after.desk.activity before.menus (outlining_pulls_none before.desk.activity was_open) (outlining_pulls_none after.desk.activity now) was.pull);
      }

pub outline_stands : (call : OutlineCall) (answer : Result OutlineReply Refusal) (before after : ToolboxState) → gate before.desk.activity (outline_standing call) ≡ None → Stands before → IsRightToolbox after → IsOutlineStep call answer before.desk after.desk → IsRestKept before after → Stands after
outline_stands call (Ok answer) before after may was right step rest =
    let a = before.desk.activity in
    let desk = before.desk.windows.desk in
    let now : after.desk.activity ≡ open_after call a desk = step.1.leaves.activity_is in
    let was_open = outline_comes_then call a may in
    opens_stand before after (outline_keeps_desk call (Ok answer) before.desk after.desk step) rest was_open
    (subst IsOutlining (sym now) (outlining_after call a desk was_open))
    (subst (λ b. Present (open_window b) desk.windows) (sym now) (outline_opens call a desk step.0 was.opened)) was right
outline_stands call (Err e) before after may was right step rest = stands_still before after step.1.windows.desk step.1.activity rest.controls rest.menus rest.events was right

-- nothing is open any more
pub put_down_stands : (s : ToolboxState) → IsOutlining s.desk.activity → Stands s → Stands (put_down s)
put_down_stands s was_open was =
    opens_stand s (put_down s) refl (record { events = refl; controls = refl; lists = refl; texts = refl; menus = refl }) was_open tt tt was
    (put_down_right s (record { right = was.right; contents = was.contents }))
