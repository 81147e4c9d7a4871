-- What holds of a reached state, with windows counted, after calls on updates and frames.
use Rattle.std.proofs.Common.{◌≡◌, ℕ, ◌≤◌, ◌==◌, Bool, true, false, not, if◌then◌else◌, List, [], ◌∷◌, Option, None, Result, Ok, Err, refl, sym, ap, ◌∙◌, subst, arith}
use Rattle.std.proofs.lemmas.List.Elements.{All-cons, All-head, All-tail}
use Rattle.std.specs.Prelude.{All}
use Rattle.tb_geom.specs.declared.refusal.Refusal.{Refusal}
use Rattle.tb_geom.specs.declared.refusal.Refusal.TheVariants.{NoSuchWindow, OutOfRange}
use Rattle.tb_geom.specs.Rects.{in_plane}
use Rattle.def_iface.specs.WindowNews.{WindowNews, told_title, told_highlighted, told_tracked}
use Rattle.desk_call.specs.declared.activity.Activity.{Activity}
use Rattle.desk_call.specs.declared.activity.Activity.TheVariants.{Idle, Updating, Tracking, Pulling, TrackingControl, Dragging, Growing, Selecting}
use Rattle.desk_call.specs.declared.activity.Standing.TheVariants.{Updates}
use Rattle.desk_call.specs.declared.frame.FrameCall.{FrameCall}
use Rattle.desk_call.specs.declared.frame.FrameCall.TheVariants.{SetTitle, Hilite, TrackGoAway, StepGoAway, EndGoAway}
use Rattle.desk_call.specs.declared.frame.FrameReply.{FrameReply}
use Rattle.desk_call.specs.declared.frame.FrameReply.TheVariants.{Done, Tracked}
use Rattle.desk_call.specs.declared.update.UpdateCall.{UpdateCall}
use Rattle.desk_call.specs.declared.update.UpdateCall.TheVariants as update
use Rattle.desk_call.specs.declared.window.WindowReply.{WindowReply}
use Rattle.desk_call.specs.Gates.{gate, update_standing, frame_standing}
use Rattle.vis_update.specs.Records.{WindowRecord}
use Rattle.window_mgr.specs.Arrange.{changed}
use Rattle.window_mgr.specs.FrameNotices.{IsFrameNotified}
use Rattle.window_mgr.specs.FullDesk.{FullDesk, FullState, IsRightState}
use Rattle.tb_geom.specs.Refusals.{first_refusal}
use Rattle.window_mgr.specs.Refused.{is_missing}
use Rattle.window_mgr.specs.DeskStates.{DeskState}
use Rattle.window_update.specs.UpdateRefusals.{IsUpdateRefusal}
use Rattle.window_update.specs.UpdateSteps.{IsUpdateStep, IsUpdateEffect}
use Rattle.window_frame.specs.Followers.{Knows, AreInformed}
use Rattle.window_frame.specs.Followers.Flag.{Highlighting, Zooming}
use Rattle.window_frame.specs.FrameRefusals.{frame_refusals}
use Rattle.window_frame.specs.FrameSteps.{IsFrameStep, IsFrameEffect, IsBegunAt, with_flag, with_title, with_tracked}
use Rattle.window_frame.proofs.FrameKeeps.{frame_keeps}
use Rattle.window_frame.proofs.ToldSteps.{HoldsOfFrames, of_effect}
use Rattle.desk_toolbox.specs.declared.events.Events.{Events}
use Rattle.desk_toolbox.specs.Reached.{open_window}
use Rattle.desk_toolbox.specs.Run.{IsRestKept}
use Rattle.desk_toolbox.specs.ToolboxStates.{ToolboxState}
use Rattle.desk_toolbox.proofs.UpdatedDesks.{update_keeps_desk}
use Rattle.desk_toolbox.proofs.Totals.{Classing, Has, Ordinary, Present, copies, either_class, found_counts, has_when, of_class, total}
use Rattle.desk_toolbox.proofs.StepCounts.{frame_counts, told_total}
use Rattle.desk_toolbox.proofs.Told.{ArePosted}
use Rattle.desk_toolbox.proofs.Tracked.{misled, tracking_told, tracking_begins, tracking_ends}
use Rattle.desk_toolbox.proofs.MenusBeside.{update_comes_then, frame_comes_then, update_pulls_none, frame_pulls_none}
use Rattle.desk_toolbox.proofs.ContentsBeside.{IsRightToolbox}
use Rattle.control_mgr.specs.ControlDesks.{ControlsState}
use Rattle.control_mgr.specs.WholeControls.{IsTrackable}
use Rattle.desk_toolbox.proofs.TrackedControls.{update_trackable, frame_trackable}
use Rattle.desk_toolbox.proofs.PulledMenus.{IsPullRight, still_unpulled}
use Rattle.desk_toolbox.proofs.Stands.{Stands, apart_stays, bar_stays, stands_still, idle_now}

-- where the first reason for a refusal does not hold
pub not_refused : (b : Bool) (e : Refusal) (more : List (Bool × Refusal)) → first_refusal ((b, e) ∷ more) ≡ None → b ≡ false
not_refused true e more h = absurd (cc)
not_refused false e more h = refl

-- ---- calls on updates

update_opens : (call : UpdateCall) (before after : DeskState) → IsUpdateRefusal call before.windows None → IsUpdateEffect call before after → Present (open_window before.activity) before.windows.desk.windows → Present (open_window after.activity) before.windows.desk.windows
update_opens (update.Invalidate m) before after may (same, marked) was = subst (λ a. Present (open_window a) before.windows.desk.windows) (sym same.activity) was
update_opens (update.Validate m) before after may (same, marked) was = subst (λ a. Present (open_window a) before.windows.desk.windows) (sym same.activity) was
update_opens (update.Begin s) before after may begun was =
    subst (λ a. Present (open_window a) before.windows.desk.windows) (sym begun.opened)
    (found_counts s before.windows.desk.windows (not_refused (is_missing s before.windows.desk.windows) NoSuchWindow [] may))
update_opens (update.Draw d) before after may (same, drawn) was = subst (λ a. Present (open_window a) before.windows.desk.windows) (sym same.activity) was
update_opens (update.End s) before after may (idle, same) was = subst (λ a. Present (open_window a) before.windows.desk.windows) (sym idle) tt
update_opens (update.Serve s) before after may (idle, drawn) was = subst (λ a. Present (open_window a) before.windows.desk.windows) (sym idle) tt

-- an update ends, and no go-away box was tracked
ended : (activity : Activity) (s : ℕ) (ws : List WindowRecord) → gate activity (Updates s) ≡ None → total (misled activity) ws ≡ 0 → total (misled Idle) ws ≡ 0
ended Idle s ws e none = none
ended (Updating t) s ws e none = none
ended (Tracking t) s ws e none = absurd (cc)
ended (TrackingControl c) s ws e none = absurd (cc)
ended (Dragging d) s ws e none = absurd (cc)
ended (Growing g) s ws e none = absurd (cc)
ended (Selecting k) s ws e none = absurd (cc)
ended (Pulling m) s ws e none = absurd (cc)

update_misleads_none : (call : UpdateCall) (before after : DeskState) → gate before.activity (update_standing call) ≡ None → IsUpdateEffect call before after → total (misled before.activity) before.windows.desk.windows ≡ 0 → total (misled after.activity) before.windows.desk.windows ≡ 0
update_misleads_none (update.Invalidate m) before after may (same, marked) none = ap (λ a. total (misled a) before.windows.desk.windows) same.activity ∙ none
update_misleads_none (update.Validate m) before after may (same, marked) none = ap (λ a. total (misled a) before.windows.desk.windows) same.activity ∙ none
update_misleads_none (update.Begin s) before after may begun none =
    ap (λ a. total (misled a) before.windows.desk.windows) begun.opened ∙ sym (ap (λ a. total (misled a) before.windows.desk.windows) (idle_now before.activity may)) ∙ none
update_misleads_none (update.Draw d) before after may (same, drawn) none = ap (λ a. total (misled a) before.windows.desk.windows) same.activity ∙ none
update_misleads_none (update.End s) before after may (idle, same) none =
    ap (λ a. total (misled a) before.windows.desk.windows) idle ∙ ended before.activity s before.windows.desk.windows may none
update_misleads_none (update.Serve s) before after may (idle, drawn) none =
    ap (λ a. total (misled a) before.windows.desk.windows) idle ∙ sym (ap (λ a. total (misled a) before.windows.desk.windows) (idle_now before.activity may)) ∙ none

pub update_stands : (call : UpdateCall) (answer : Result WindowReply Refusal) (before after : ToolboxState) → gate before.desk.activity (update_standing call) ≡ None → Stands before → IsRightToolbox after → IsUpdateStep call answer before.desk after.desk → IsRestKept before after → Stands after
update_stands call (Ok answer) before after may was right step rest =
    let ws = before.desk.windows.desk.windows in
    let desk = update_keeps_desk call (Ok answer) before.desk after.desk step in
    let none = update_misleads_none call before.desk after.desk may step.1.1 was.tracked in
    record {
      right = right.right;
      contents = right.contents;
      trackable = subst (λ (s : ControlsState). IsTrackable after.desk.activity s.controls) (sym rest.controls) (update_trackable before.desk after.desk before.controls.controls was.trackable call (Ok answer) step);
      active = subst (λ (d : FullDesk). Ordinary d.active d.windows) (sym desk) was.active;
      told = subst (λ (d : FullDesk). Ordinary after.events.told d.windows) (sym desk) (subst (λ (e : Events). Ordinary e.told ws) (sym rest.events) was.told);
      opened = subst (λ (d : FullDesk). Present (open_window after.desk.activity) d.windows) (sym desk) (update_opens call before.desk after.desk step.0 step.1.1 was.opened);
      queued = subst (λ (e : Events). ArePosted e.queue.events) (sym rest.events) was.queued;
      informed = subst (λ (d : FullDesk). AreInformed d.windows) (sym desk) was.informed;
      tracked = ap (λ (d : FullDesk). total (misled after.desk.activity) d.windows) desk ∙ none;
      bar = bar_stays before after (ap (λ (d : FullDesk). d.bar.titles) desk) rest.menus was.bar;
      apart = apart_stays before after rest.menus was.apart;
      pull =
          subst (IsPullRight after.desk.activity) (sym rest.menus)
          (still_unpulled before.desk.activity after.desk.activity before.menus (update_comes_then call before.desk.activity may)
          (update_pulls_none call (Ok answer) before.desk after.desk may step) was.pull);
    }
update_stands call (Err e) before after may was right step rest = stands_still before after step.1.windows.desk step.1.activity rest.controls rest.menus rest.events was right

-- ---- calls about frames

all_changed : (P : WindowRecord → Type 0) (s : ℕ) (f : WindowRecord → WindowRecord) → ((w : WindowRecord) → P w → P (f w)) → (ws : List WindowRecord) → All P ws → All P (changed s f ws)
all_changed P s f keeps [] h = h
all_changed P s f keeps (w ∷ ws) h = by_this (w.serial == s) (all_changed P s f keeps ws (All-tail P w ws h))
  where
    by_this : (b : Bool) → All P (changed s f ws) → All P (if b then f w ∷ ws else w ∷ changed s f ws)
    by_this true rest = All-cons P (f w) ws (keeps w (All-head P w ws h)) (All-tail P w ws h)
    by_this false rest = All-cons P w (changed s f ws) (All-head P w ws h) rest

-- its definition knows how the window stands
abbrev IsInformedOf : WindowRecord → Type 0
IsInformedOf w = Knows Highlighting w × Knows Zooming w

told_informs : (s : ℕ) (news : WindowRecord → WindowNews → WindowNews) (kept : WindowRecord → WindowRecord) → ((w : WindowRecord) → IsInformedOf w → IsInformedOf (kept w)) → (before after : FullState) → IsFrameNotified s news kept before after → AreInformed before.desk.windows → AreInformed after.desk.windows
told_informs s news kept keeps before after told was =
    subst (λ (d : FullDesk). AreInformed d.windows) (sym told.desk)
    (all_changed IsInformedOf s (λ w. record (kept w) { definition = told.definition }) keeps before.desk.windows was)

abbrev StaysInformed : FullState → FullState → Type 0
StaysInformed before after = AreInformed before.desk.windows → AreInformed after.desk.windows

frames_inform : HoldsOfFrames StaysInformed
frames_inform = record {
  unchanged = λ before after same was. subst (λ (d : FullDesk). AreInformed d.windows) (sym same.desk) was;
  titled = λ title s before after told was. told_informs s (λ _. told_title title) (with_title title) (λ w h. h) before after told was;
  highlighted = λ on s before after told was. told_informs s (λ _. told_highlighted on) (with_flag on) (λ w k. (refl, k.1)) before after told was;
  tracked = λ inside s before after told was. told_informs s (λ _. told_tracked inside) (with_tracked inside) (λ w h. h) before after told was;
}

begun_opens : (s : ℕ) (inside : Bool) (before after : DeskState) → 1 ≤ copies s before.windows.desk.windows → IsBegunAt s inside before after → Present (open_window before.activity) before.windows.desk.windows → Present (open_window after.activity) before.windows.desk.windows
begun_opens s true before after here (tracked, told) was = subst (λ a. Present (open_window a) before.windows.desk.windows) (sym tracked) here
begun_opens s false before after here same was = subst (λ a. Present (open_window a) before.windows.desk.windows) (sym same.activity) was

frame_opens : (call : FrameCall) (answer : FrameReply) (before after : DeskState) → first_refusal (frame_refusals call before.windows.desk) ≡ None → IsFrameEffect call answer before after → Present (open_window before.activity) before.windows.desk.windows → Present (open_window after.activity) before.windows.desk.windows
frame_opens (SetTitle n) Done before after may (same, told) was = subst (λ a. Present (open_window a) before.windows.desk.windows) (sym same.activity) was
frame_opens (Hilite h) Done before after may (same, told) was = subst (λ a. Present (open_window a) before.windows.desk.windows) (sym same.activity) was
frame_opens (TrackGoAway g) (Tracked inside) before after may (is, begun) was =
    begun_opens g.window inside before after (found_counts g.window before.windows.desk.windows (not_refused (is_missing g.window before.windows.desk.windows) NoSuchWindow ((not (in_plane g.point), OutOfRange) ∷ []) may)) begun was
frame_opens (StepGoAway p) (Tracked inside) before after may (same, tracked) was = subst (λ a. Present (open_window a) before.windows.desk.windows) (sym same.activity) was
frame_opens (EndGoAway p) (Tracked inside) before after may (idle, tracked) was = subst (λ a. Present (open_window a) before.windows.desk.windows) (sym idle) tt
frame_opens (SetTitle n) (Tracked inside) before after may wrong was = absurd wrong
frame_opens (Hilite h) (Tracked inside) before after may wrong was = absurd wrong
frame_opens (TrackGoAway g) Done before after may wrong was = absurd wrong
frame_opens (StepGoAway p) Done before after may wrong was = absurd wrong
frame_opens (EndGoAway p) Done before after may wrong was = absurd wrong

-- no definition is misled, of these windows and with this open
abbrev MisleadsNone : Activity → FullState → Type 0
MisleadsNone activity s = total (misled activity) s.desk.windows ≡ 0

begun_misleads_none : (s : ℕ) (inside : Bool) (before after : DeskState) → before.activity ≡ Idle → IsBegunAt s inside before after → MisleadsNone before.activity before.windows → MisleadsNone after.activity after.windows
begun_misleads_none s true before after idle (tracked, told) none =
    subst (λ a. MisleadsNone a after.windows) (sym tracked)
    (tracking_begins true s before.windows after.windows told (subst (λ a. MisleadsNone a before.windows) idle none))
begun_misleads_none s false before after idle same none =
    subst (λ a. MisleadsNone a after.windows) (sym same.activity) (ap (λ (d : FullDesk). total (misled before.activity) d.windows) same.windows.desk ∙ none)

frame_misleads_none : (call : FrameCall) (answer : FrameReply) (before after : DeskState) → gate before.activity (frame_standing call) ≡ None → IsRightState before.windows → IsFrameEffect call answer before after → MisleadsNone before.activity before.windows → MisleadsNone after.activity after.windows
frame_misleads_none (SetTitle n) Done before after may right (same, told) none =
    subst (λ a. MisleadsNone a after.windows) (sym same.activity)
    (told_total (misled before.activity) n.window (λ _. told_title n.title) (with_title n.title) (λ w its. refl) before.windows after.windows told ∙ none)
frame_misleads_none (Hilite h) Done before after may right (same, told) none =
    subst (λ a. MisleadsNone a after.windows) (sym same.activity)
    (told_total (misled before.activity) h.window (λ _. told_highlighted h.highlighted) (with_flag h.highlighted) (λ w its. refl) before.windows after.windows told ∙ none)
frame_misleads_none (TrackGoAway g) (Tracked inside) before after may right (is, begun) none = begun_misleads_none g.window inside before after (idle_now before.activity may) begun none
frame_misleads_none (StepGoAway p) (Tracked inside) before after may right (same, tracked) none =
    let now : after.activity ≡ Tracking tracked.window = same.activity ∙ tracked.tracked in
    subst (λ a. MisleadsNone a after.windows) (sym now)
    (tracking_told inside tracked.window before.windows after.windows tracked.told ∙ subst (λ a. MisleadsNone a before.windows) tracked.tracked none)
frame_misleads_none (EndGoAway p) (Tracked inside) before after may right (idle, tracked) none =
    subst (λ a. MisleadsNone a after.windows) (sym idle)
    (tracking_ends tracked.window before.windows after.windows right tracked.told (subst (λ a. MisleadsNone a before.windows) tracked.tracked none))
frame_misleads_none (SetTitle n) (Tracked inside) before after may right wrong none = absurd wrong
frame_misleads_none (Hilite h) (Tracked inside) before after may right wrong none = absurd wrong
frame_misleads_none (TrackGoAway g) Done before after may right wrong none = absurd wrong
frame_misleads_none (StepGoAway p) Done before after may right wrong none = absurd wrong
frame_misleads_none (EndGoAway p) Done before after may right wrong none = absurd wrong

pub frame_stands : (call : FrameCall) (answer : Result FrameReply Refusal) (before after : ToolboxState) → gate before.desk.activity (frame_standing call) ≡ None → Stands before → IsRightToolbox after → IsFrameStep call answer before.desk after.desk → IsRestKept before after → Stands after
frame_stands call (Ok answer) before after may was right step rest =
    let was_ws = before.desk.windows.desk.windows in
    let ws = after.desk.windows.desk.windows in
    let counts = frame_counts call (Ok answer) before.desk after.desk step in
    let active = frame_keeps (λ d. d.active) (λ d ws. refl) call (Ok answer) before.desk after.desk step in
    let stay = λ (c : Classing) (o : Option ℕ) (h : Has c o was_ws). has_when c o was_ws ws (λ s. let count = counts.count c s in omega arith) h in
    record {
      right = right.right;
      contents = right.contents;
      trackable = subst (λ (s : ControlsState). IsTrackable after.desk.activity s.controls) (sym rest.controls) (frame_trackable before.desk after.desk before.controls.controls was.trackable call (Ok answer) step);
      active = subst (λ o. Ordinary o ws) (sym active) (stay (of_class false) before.desk.windows.desk.active was.active);
      told = subst (λ (e : Events). Ordinary e.told ws) (sym rest.events) (stay (of_class false) before.events.told was.told);
      opened = stay either_class (open_window after.desk.activity) (frame_opens call answer before.desk after.desk step.0 step.1 was.opened);
      queued = subst (λ (e : Events). ArePosted e.queue.events) (sym rest.events) was.queued;
      informed = of_effect StaysInformed frames_inform call answer before.desk after.desk step.1 was.informed;
      tracked = frame_misleads_none call answer before.desk after.desk may was.right step.1 was.tracked;
      bar = bar_stays before after (frame_keeps (λ d. d.bar.titles) (λ d ws. refl) call (Ok answer) before.desk after.desk step) rest.menus was.bar;
      apart = apart_stays before after rest.menus was.apart;
      pull =
          subst (IsPullRight after.desk.activity) (sym rest.menus)
          (still_unpulled before.desk.activity after.desk.activity before.menus (frame_comes_then call before.desk.activity may)
          (frame_pulls_none call (Ok answer) before.desk after.desk may step) was.pull);
    }
frame_stands call (Err e) before after may was right step rest = stands_still before after step.1.windows.desk step.1.activity rest.controls rest.menus rest.events was right
