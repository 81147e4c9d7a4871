-- A control that is tracked stays there, and what holds of a reached state holds after a call about controls.
use Rattle.std.proofs.Common.{◌≡◌, ◌⊎◌, ⊎_elim, inl, inr, ℕ, zero, suc, ◌≤◌, Bool, true, false, not, List, [], ◌∷◌, map, Option, None, Some, Result, Ok, Err, refl, sym, ap, ◌∙◌, subst, arith}
use Rattle.std.specs.Prelude.{All, is_none, slice_get}
use Rattle.std.proofs.lemmas.List.Elements.{All-nil, All-cons, All-head, All-tail, All-same}
use Rattle.tb_geom.specs.declared.point.Point.{Point}
use Rattle.tb_geom.specs.declared.refusal.Refusal.{Refusal}
use Rattle.tb_geom.specs.Rects.{in_plane}
use Rattle.tb_geom.specs.Refusals.{first_refusal}
use Rattle.control_values.specs.declared.part.ControlPart.{ControlPart}
use Rattle.window_items.specs.Items.{are_before, items_of, count_of}
use Rattle.control_mgr.specs.Fields.{with_highlight}
use Rattle.window_items.proofs.WindowLemmas.{item_index-edit_at}
use Rattle.def_iface.specs.declared.window_def.Stage.{Stage}
use Rattle.def_iface.specs.ControlMeaning.{ControlDefinition}
use Rattle.def_iface.specs.Slots.{IsFull, SlotOf}
use Rattle.def_iface.specs.Stocks.{IsControlFull}
use Rattle.desk_call.specs.declared.activity.Activity.{Activity}
use Rattle.desk_call.specs.declared.activity.Activity.TheVariants.{Idle, Updating, Tracking, Pulling, TrackingControl, Dragging, Growing, Selecting}
use Rattle.desk_call.specs.declared.activity.Standing.TheVariants.{TracksControl}
use Rattle.desk_call.specs.declared.activity.TrackedControl.{TrackedControl}
use Rattle.desk_call.specs.declared.control.ControlCall.{ControlCall}
use Rattle.desk_call.specs.declared.control.ControlCall.TheVariants.{New, Dispose, Show, Hide, Move, Size, SetValue, SetMinimum, SetMaximum, Hilite, SetTitle, Get, Find, Test, Track, Step, End}
use Rattle.desk_call.specs.declared.control.ControlOf.{ControlOf}
use Rattle.desk_call.specs.declared.control.ControlReply.{ControlReply}
use Rattle.desk_call.specs.declared.control.PointAtControl.{PointAtControl}
use Rattle.desk_call.specs.declared.frame.FrameCall.{FrameCall}
use Rattle.desk_call.specs.declared.frame.FrameCall.TheVariants as frames
use Rattle.desk_call.specs.declared.frame.FrameReply.{FrameReply}
use Rattle.desk_call.specs.declared.frame.FrameReply.TheVariants.{Done, Tracked}
use Rattle.desk_call.specs.declared.update.UpdateCall.{UpdateCall}
use Rattle.desk_call.specs.declared.update.UpdateCall.TheVariants as updates
use Rattle.desk_call.specs.declared.window.WindowReply.{WindowReply}
use Rattle.desk_call.specs.Gates.{control_standing, gate}
use Rattle.vis_update.specs.Records.{WindowRecord}
use Rattle.window_mgr.specs.DeskStates.{DeskState}
use Rattle.window_mgr.specs.Refused.{is_missing}
use Rattle.window_update.specs.UpdateSteps.{IsUpdateEffect, IsUpdateStep}
use Rattle.window_frame.specs.Followers.{AreInformed, Knows}
use Rattle.window_frame.specs.Followers.Flag.{Highlighting, Zooming}
use Rattle.window_frame.specs.FrameSteps.{IsBegunAt, IsFrameEffect, IsFrameStep}
use Rattle.control_mgr.specs.ControlDesks.{ControlDesk, ControlRecord, ControlsState, IsControlDeskUnchanged, index_of}
use Rattle.control_mgr.specs.ControlRefusals.{control_refusals, most_controls}
use Rattle.control_mgr.specs.ControlSteps.{AreLayersOf, IsControlEffect, IsControlStep, IsHighlighted, IsControlReleased, IsShownAnew, IsStepped, IsTracked, highlight_of, is_thumb, tested}
use Rattle.control_mgr.specs.InUse.{AreStocked, IsUsedBy}
use Rattle.control_mgr.specs.Settled.{IsSettledControl}
use Rattle.control_mgr.specs.WholeControls.{AreControlsApart, AreWholeControls, IsTrackable, slots_of}
use Rattle.control_mgr.proofs.ControlBits.{bare}
use Rattle.control_mgr.proofs.ControlFacts.{IsBesideControls, IsOpenAfter, control_facts}
use Rattle.control_mgr.proofs.Settled.{retold}
use Rattle.desk_toolbox.specs.declared.events.Events.{Events}
use Rattle.desk_toolbox.specs.Reached.{open_window}
use Rattle.desk_toolbox.specs.ToolboxStates.{ToolboxState, with_controls}
use Rattle.desk_toolbox.proofs.ContentsBeside.{IsRightToolbox}
use Rattle.desk_toolbox.proofs.MenusBeside.{CoversNone}
use Rattle.desk_toolbox.proofs.PulledMenus.{IsPullRight, still_unpulled}
use Rattle.desk_toolbox.proofs.StepCounts.{HasSame}
use Rattle.desk_toolbox.proofs.Stands.{Stands, apart_stays, bar_stays, idle_now, stands_still}
use Rattle.desk_toolbox.proofs.Told.{ArePosted}
use Rattle.desk_toolbox.proofs.Totals.{Classing, Has, Ordinary, Present, Weight, copies, counted, counting, either_class, found_counts, has_when, of_class, total, total_map}
use Rattle.desk_toolbox.proofs.Tracked.{misled}

-- ---- beside calls about updates and frames

module _ (before after : DeskState) (cs : List ControlRecord) (was : IsTrackable before.activity cs) where
  opened_so : (a : Activity) → IsTrackable a cs → after.activity ≡ a → IsTrackable after.activity cs
  opened_so a any is = subst (λ b. IsTrackable b cs) (sym is) any

  same_open : after.activity ≡ before.activity → IsTrackable after.activity cs
  same_open activity = opened_so before.activity was activity

  update_effect_trackable : (call : UpdateCall) → IsUpdateEffect call before after → IsTrackable after.activity cs
  update_effect_trackable (updates.Invalidate m) (same, marked) = same_open same.activity
  update_effect_trackable (updates.Validate m) (same, marked) = same_open same.activity
  update_effect_trackable (updates.Begin s) begun = opened_so (Updating s) tt begun.opened
  update_effect_trackable (updates.Draw d) (same, drawn) = same_open same.activity
  update_effect_trackable (updates.End s) (idle, same) = opened_so Idle tt idle
  update_effect_trackable (updates.Serve s) (idle, drawn) = opened_so Idle tt idle

  begun_trackable : (s : ℕ) (inside : Bool) → IsBegunAt s inside before after → IsTrackable after.activity cs
  begun_trackable s true (tracked, told) = opened_so (Tracking s) tt tracked
  begun_trackable s false same = same_open same.activity

  frame_effect_trackable : (call : FrameCall) (answer : FrameReply) → IsFrameEffect call answer before after → IsTrackable after.activity cs
  frame_effect_trackable (frames.SetTitle n) Done (same, told) = same_open same.activity
  frame_effect_trackable (frames.Hilite n) Done (same, told) = same_open same.activity
  frame_effect_trackable (frames.TrackGoAway g) (Tracked inside) (is, begun) = begun_trackable g.window inside begun
  frame_effect_trackable (frames.StepGoAway p) (Tracked inside) (same, tracked) = same_open same.activity
  frame_effect_trackable (frames.EndGoAway p) (Tracked inside) (idle, tracked) = opened_so Idle tt idle
  frame_effect_trackable (frames.SetTitle n) (Tracked inside) wrong = absurd wrong
  frame_effect_trackable (frames.Hilite n) (Tracked inside) wrong = absurd wrong
  frame_effect_trackable (frames.TrackGoAway g) Done wrong = absurd wrong
  frame_effect_trackable (frames.StepGoAway p) Done wrong = absurd wrong
  frame_effect_trackable (frames.EndGoAway p) Done wrong = absurd wrong

  pub update_trackable : (call : UpdateCall) (answer : Result WindowReply Refusal) → IsUpdateStep call answer before after → IsTrackable after.activity cs
  update_trackable call (Ok answer) step = update_effect_trackable call step.1.1
  update_trackable call (Err e) step = same_open step.1.activity

  pub frame_trackable : (call : FrameCall) (answer : Result FrameReply Refusal) → IsFrameStep call answer before after → IsTrackable after.activity cs
  frame_trackable call (Ok answer) step = frame_effect_trackable call answer step.1
  frame_trackable call (Err e) step = same_open step.1.activity

-- ---- windows that are the same but for their layers

pub bare_total : (g : Weight) (ws vs : List WindowRecord) → map bare vs ≡ map bare ws → total g vs ≡ total g ws
bare_total g ws vs same = sym (total_map g bare (λ w. refl) vs) ∙ ap (total g) same ∙ total_map g bare (λ w. refl) ws

pub informed_bare : (ws : List WindowRecord) → AreInformed ws → AreInformed (map bare ws)
informed_bare [] h = All-nil (λ (w : WindowRecord). Knows Highlighting w × Knows Zooming w)
informed_bare (w ∷ ws) h =
    let P = λ (v : WindowRecord). Knows Highlighting v × Knows Zooming v in
    let head = All-head P w ws h in
    All-cons P (bare w) (map bare ws) (head.0, head.1) (informed_bare ws (All-tail P w ws h))

pub bare_informed : (ws : List WindowRecord) → AreInformed (map bare ws) → AreInformed ws
bare_informed [] h = All-nil (λ (w : WindowRecord). Knows Highlighting w × Knows Zooming w)
bare_informed (w ∷ ws) h =
    let P = λ (v : WindowRecord). Knows Highlighting v × Knows Zooming v in
    let head = All-head P (bare w) (map bare ws) h in
    All-cons P w ws (head.0, head.1) (bare_informed ws (All-tail P (bare w) (map bare ws) h))

pub control_counts : (call : ControlCall) (answer : Result ControlReply Refusal) (before after : ToolboxState) → IsControlStep call answer (with_controls before) (with_controls after) → HasSame before.desk.windows.desk after.desk.windows.desk
control_counts call answer before after step =
    let facts = (control_facts call answer (with_controls before) (with_controls after) step).0 in
    record { next = facts.next; count = λ c s. bare_total (counting c s) before.desk.windows.desk.windows after.desk.windows.desk.windows facts.windows }

-- ---- the control that is tracked

-- the first reasons to refuse do not hold
none_hold : (a b c : Bool) (d e f : Refusal) → first_refusal ((a, d) ∷ (b, e) ∷ (not c, f) ∷ []) ≡ None → (b ≡ false) × (c ≡ true)
none_hold true b c d e f none = absurd (cc)
none_hold false true c d e f none = absurd (cc)
none_hold false false true d e f none = (refl, refl)
none_hold false false false d e f none = absurd (cc)

module _ (before after : ControlDesk) where
  index_stays : (c k : ControlOf) (h : ℕ) → IsShownAnew c (with_highlight h) before after → index_of k after.controls.controls ≡ index_of k before.controls.controls
  index_stays c k h anew =
      ap (λ (s : ControlsState). index_of k s.controls) anew.changed.state
      ∙ ap (index_of k) anew.changed.changed.controls
      ∙ item_index-edit_at (retold (with_highlight h) anew.changed.changed.definition) (λ x. refl) (λ x. refl) k.window k.control anew.changed.at before.controls.controls

  index_lit : (thumb : Bool) (c k : ControlOf) (h : ℕ) → IsHighlighted thumb c h before after → index_of k after.controls.controls ≡ index_of k before.controls.controls
  index_lit true c k h same = ap (λ (s : ControlsState). index_of k s.controls) same.controls
  index_lit false c k h anew = index_stays c k h anew

  -- where nothing was open, it is not, or a control that is there is tracked
  tracked_there : (p : PointAtControl) (o : Option ControlPart) → before.desk.activity ≡ Idle → in_plane p.point ≡ true → is_none (index_of p.control before.controls.controls) ≡ false → IsTracked p o before after → IsTrackable after.desk.activity after.controls.controls
  tracked_there p None idle on there same = subst (λ a. IsTrackable a after.controls.controls) (sym (same.desk.activity ∙ idle)) tt
  tracked_there p (Some its) idle on there (opens, lit) =
      subst (λ a. IsTrackable a after.controls.controls) (sym opens.activity) (on, ap is_none (index_lit (is_thumb its) p.control p.control _ lit) ∙ there)

  stepped_there : (a : Activity) (p : Point) (answer : Option ControlPart) → before.desk.activity ≡ a → IsTrackable a before.controls.controls → IsStepped a p answer before after → IsTrackable after.desk.activity after.controls.controls
  stepped_there (TrackingControl k) p answer is was (told, same, lit) =
      subst (λ a. IsTrackable a after.controls.controls) (sym (same.activity ∙ is)) (was.0, ap is_none (index_lit (is_thumb k.part) k.control k.control (highlight_of answer) lit) ∙ was.1)
  stepped_there Idle p answer is was wrong = absurd wrong
  stepped_there (Updating s) p answer is was wrong = absurd wrong
  stepped_there (Tracking s) p answer is was wrong = absurd wrong
  stepped_there (Pulling m) p answer is was wrong = absurd wrong
  stepped_there (Dragging d) p answer is was wrong = absurd wrong
  stepped_there (Growing g) p answer is was wrong = absurd wrong
  stepped_there (Selecting k) p answer is was wrong = absurd wrong

  released_there : (a : Activity) (p : Point) (answer : Option ControlPart) → IsControlReleased a p answer before after → IsTrackable after.desk.activity after.controls.controls
  released_there (TrackingControl k) p answer (told, opens, anew) = subst (λ a. IsTrackable a after.controls.controls) (sym opens.activity) tt
  released_there Idle p answer wrong = absurd wrong
  released_there (Updating s) p answer wrong = absurd wrong
  released_there (Tracking s) p answer wrong = absurd wrong
  released_there (Pulling m) p answer wrong = absurd wrong
  released_there (Dragging d) p answer wrong = absurd wrong
  released_there (Growing g) p answer wrong = absurd wrong
  released_there (Selecting k) p answer wrong = absurd wrong

  -- nothing was open, and is not
  idle_still : before.desk.activity ≡ Idle → after.desk.activity ≡ before.desk.activity → IsTrackable after.desk.activity after.controls.controls
  idle_still idle same = subst (λ a. IsTrackable a after.controls.controls) (sym (same ∙ idle)) tt

  unchanged_there : IsControlDeskUnchanged before after → IsTrackable before.desk.activity before.controls.controls → IsTrackable after.desk.activity after.controls.controls
  unchanged_there same was = subst (λ (x : Activity × ControlsState). IsTrackable x.0 x.1.controls) (λ i. (sym same.desk.activity i, sym same.controls i)) was

  effect_there : (call : ControlCall) (answer : ControlReply) → gate before.desk.activity (control_standing call) ≡ None → first_refusal (control_refusals call before.desk.windows.desk before.controls) ≡ None → IsTrackable before.desk.activity before.controls.controls → IsControlEffect call answer before after → IsTrackable after.desk.activity after.controls.controls
  effect_there (New n) answer may none was (serial, is, made) = idle_still (idle_now before.desk.activity may) made.activity.activity
  effect_there (Dispose c) answer may none was (is, gone) = idle_still (idle_now before.desk.activity may) gone.activity.activity
  effect_there (Show c) answer may none was (is, done) = idle_still (idle_now before.desk.activity may) done.activity.activity
  effect_there (Hide c) answer may none was (is, done) = idle_still (idle_now before.desk.activity may) done.activity.activity
  effect_there (Move m) answer may none was (is, done) = idle_still (idle_now before.desk.activity may) done.activity.activity
  effect_there (Size z) answer may none was (is, done) = idle_still (idle_now before.desk.activity may) done.activity.activity
  effect_there (SetValue n) answer may none was (is, same, done) = idle_still (idle_now before.desk.activity may) same.activity
  effect_there (SetMinimum n) answer may none was (is, same, done) = idle_still (idle_now before.desk.activity may) same.activity
  effect_there (SetMaximum n) answer may none was (is, same, done) = idle_still (idle_now before.desk.activity may) same.activity
  effect_there (Hilite n) answer may none was (h, number, (is, same, done)) = idle_still (idle_now before.desk.activity may) same.activity
  effect_there (SetTitle t) answer may none was (is, same, done) = idle_still (idle_now before.desk.activity may) same.activity
  effect_there (Get c) answer may none was (is, same) = unchanged_there same was
  effect_there (Find p) answer may none was (is, same) = unchanged_there same was
  effect_there (Test p) answer may none was (is, same) = unchanged_there same was
  effect_there (Track p) answer may none was (is, done) =
      let hold = none_hold _ (is_none (index_of p.control before.controls.controls)) (in_plane p.point) _ _ _ none in
      tracked_there p (tested p.control before.controls.controls p.point) (idle_now before.desk.activity may) hold.1 hold.0 done
  effect_there (Step p) answer may none was (its, is, done) = stepped_there before.desk.activity p its refl was done
  effect_there (End p) answer may none was (its, is, done) = released_there before.desk.activity p its done

step_there : (call : ControlCall) (answer : Result ControlReply Refusal) (before after : ControlDesk) → gate before.desk.activity (control_standing call) ≡ None → IsTrackable before.desk.activity before.controls.controls → IsControlStep call answer before after → IsTrackable after.desk.activity after.controls.controls
step_there call (Ok answer) before after may was step = effect_there before after call answer may step.0 was step.1
step_there call (Err e) before after may was step = unchanged_there before after step.1 was

-- ---- what else holds of a reached state

-- nothing is open, or the tracking of a control
abbrev pub AtMostControl : Activity → Type 0
AtMostControl a = (a ≡ Idle) ⊎ ((k : TrackedControl) × (a ≡ TrackingControl k))

tracking_now : (a : Activity) → gate a TracksControl ≡ None → AtMostControl a
tracking_now Idle e = absurd (cc)
tracking_now (Updating s) e = absurd (cc)
tracking_now (Tracking s) e = absurd (cc)
tracking_now (TrackingControl k) e = inr (k, refl)
tracking_now (Pulling m) e = absurd (cc)
tracking_now (Dragging d) e = absurd (cc)
tracking_now (Growing g) e = absurd (cc)
tracking_now (Selecting k) e = absurd (cc)

-- a call that comes then asks, or no more is open
pub comes_then : (call : ControlCall) (answer : ControlReply) (before after : ControlDesk) → gate before.desk.activity (control_standing call) ≡ None → IsControlEffect call answer before after → IsControlDeskUnchanged before after ⊎ AtMostControl before.desk.activity
comes_then (Get c) answer before after may (is, same) = inl same
comes_then (Find p) answer before after may (is, same) = inl same
comes_then (Test p) answer before after may (is, same) = inl same
comes_then (Step p) answer before after may done = inr (tracking_now before.desk.activity may)
comes_then (End p) answer before after may done = inr (tracking_now before.desk.activity may)
comes_then _ answer before after may done = inr (inl (idle_now before.desk.activity may))

pub open_then : (ws : List WindowRecord) (a b : Activity) → AtMostControl a → IsOpenAfter ws a b → AtMostControl b
open_then ws a b was open_after = ⊎_elim
    (λ same. subst AtMostControl (sym same) was)
    (λ other. ⊎_elim (λ idle. inl idle) (λ (k, is, there). inr (k, is)) other)
    open_after

pub unpulled : (a : Activity) → AtMostControl a → CoversNone a
unpulled a most = ⊎_elim (λ idle. subst CoversNone (sym idle) tt) (λ (k, is). subst CoversNone (sym is) tt) most

as_idle : (a : Activity) (ws : List WindowRecord) → AtMostControl a → total (misled a) ws ≡ total (misled Idle) ws
as_idle a ws most = ⊎_elim (λ idle. ap (λ b. total (misled b) ws) idle) (λ (k, is). ap (λ b. total (misled b) ws) is) most

opened_present : (a b : Activity) (ws vs : List WindowRecord) → ((s : ℕ) → copies s vs ≡ copies s ws) → IsOpenAfter ws a b → Present (open_window a) ws → Present (open_window b) vs
opened_present a b ws vs count open_after was = ⊎_elim
    (λ same. subst (λ c. Present (open_window c) vs) (sym same) (has_when either_class (open_window a) ws vs (λ s. let its = count s in omega arith) was))
    (λ other. ⊎_elim
    (λ idle. subst (λ c. Present (open_window c) vs) (sym idle) tt)
    (λ (k, is, there). subst (λ c. Present (open_window c) vs) (sym is) (let some = found_counts k.control.window ws there in let its = count k.control.window in omega arith))
    other)
    open_after

pub control_stands : (call : ControlCall) (answer : Result ControlReply Refusal) (before after : ToolboxState) → gate before.desk.activity (control_standing call) ≡ None → Stands before → IsRightToolbox after → IsControlStep call answer (with_controls before) (with_controls after) → after.events ≡ before.events → after.menus ≡ before.menus → Stands after
control_stands call (Err e) before after may was right step events menus = stands_still before after step.1.desk.windows.desk step.1.desk.activity step.1.controls menus events was right
control_stands call (Ok answer) before after may was right step events menus = ⊎_elim
    (λ same. stands_still before after same.desk.windows.desk same.desk.activity same.controls menus events was right)
    moved
    (comes_then call answer (with_controls before) (with_controls after) may step.1)
  where
    ws : List WindowRecord
    ws = before.desk.windows.desk.windows

    vs : List WindowRecord
    vs = after.desk.windows.desk.windows

    facts : IsBesideControls (with_controls before) (with_controls after)
    facts = (control_facts call (Ok answer) (with_controls before) (with_controls after) step).0

    count : (c : Classing) (s : ℕ) → counted c s vs ≡ counted c s ws
    count c s = bare_total (counting c s) ws vs facts.windows

    stay : (c : Classing) (o : Option ℕ) → Has c o ws → Has c o vs
    stay c o h = has_when c o ws vs (λ s. let its = count c s in omega arith) h

    moved : AtMostControl before.desk.activity → Stands after
    moved most =
        let then = open_then ws before.desk.activity after.desk.activity most facts.activity in
        record {
          right = right.right;
          contents = right.contents;
          trackable = step_there call (Ok answer) (with_controls before) (with_controls after) may was.trackable step;
          active = subst (λ o. Ordinary o vs) (sym facts.active) (stay (of_class false) before.desk.windows.desk.active was.active);
          told = subst (λ (e : Events). Ordinary e.told vs) (sym events) (stay (of_class false) before.events.told was.told);
          opened = opened_present before.desk.activity after.desk.activity ws vs (count either_class) facts.activity was.opened;
          queued = subst (λ (e : Events). ArePosted e.queue.events) (sym events) was.queued;
          informed = bare_informed vs (subst AreInformed (sym facts.windows) (informed_bare ws was.informed));
          tracked = as_idle after.desk.activity vs then ∙ bare_total (misled Idle) ws vs facts.windows ∙ sym (as_idle before.desk.activity ws most) ∙ was.tracked;
          bar = bar_stays before after (ap (λ b. b.titles) facts.bar) menus was.bar;
          apart = apart_stays before after menus was.apart;
          pull =
              subst (IsPullRight after.desk.activity) (sym menus)
              (still_unpulled before.desk.activity after.desk.activity before.menus (unpulled before.desk.activity most) (unpulled after.desk.activity then) was.pull);
        }

-- ---- at the beginning

-- of a stock that is full none is used
pub none_used_at : {D : Type 0} (stage : D → Stage) (slots : List (SlotOf D)) (k : ℕ) → All (IsFull stage) slots → IsUsedBy stage 0 (slice_get slots k)
none_used_at stage [] k full = refl
none_used_at stage (s ∷ slots) zero full = inl (refl, All-head (IsFull stage) s slots full)
none_used_at stage (s ∷ slots) (suc k) full = none_used_at stage slots k (All-tail (IsFull stage) s slots full)

-- no controls, in no windows
pub none_whole : (windows : List WindowRecord) (s : ControlsState) → windows ≡ [] → s.controls ≡ [] → s.next ≡ Some 1 → All IsControlFull s.stock → AreWholeControls windows s
none_whole windows s bare none next full = record {
  settled = All-same IsSettledControl s.controls [] none (All-nil IsSettledControl);
  apart = subst AreControlsApart (sym none) tt;
  given = (λ i. are_before (next i) (none i));
  somewhere = All-same (λ (c : ControlRecord). is_missing c.window windows ≡ false) s.controls [] none (All-nil (λ (c : ControlRecord). is_missing c.window windows ≡ false));
  few = λ t. subst (λ cs. count_of t cs ≤ most_controls) (sym none) (omega arith);
  joined = All-same (λ (w : WindowRecord). AreLayersOf (items_of w.serial s.controls) w.layers) windows [] bare (All-nil (λ (w : WindowRecord). AreLayersOf (items_of w.serial s.controls) w.layers));
  stocked = subst (λ own. AreStocked (λ (d : ControlDefinition). d.stage) (slots_of own) s.stock) (sym none) (λ k. none_used_at (λ (d : ControlDefinition). d.stage) s.stock k full);
}
