-- What holds of a reached state, with windows counted, after calls on windows and about events.
use Rattle.std.proofs.Common.{◌≡◌, ◌⊎◌, inl, inr, ℕ, ◌≤◌, Bool, false, List, Option, None, Some, Result, Ok, Err, refl, sym, ap, ◌∙◌, subst, arith}
use Rattle.std.specs.Prelude.{All}
use Rattle.std.specs.Option.{option_map}
use Rattle.tb_geom.specs.declared.refusal.Refusal.{Refusal}
use Rattle.tb_geom.specs.Points.{PixelSet}
use Rattle.desk_call.specs.declared.activity.Activity.{Activity}
use Rattle.desk_call.specs.declared.activity.Activity.TheVariants.{Idle, Updating, Tracking, Pulling, TrackingControl, Dragging, Growing, Selecting}
use Rattle.desk_call.specs.declared.activity.Standing.{Standing}
use Rattle.desk_call.specs.declared.activity.Standing.TheVariants.{Asks, Changes}
use Rattle.desk_call.specs.declared.event.EventCall.{EventCall}
use Rattle.desk_call.specs.declared.event.EventReply.{EventReply}
use Rattle.desk_call.specs.declared.window.WindowCall.{WindowCall}
use Rattle.desk_call.specs.declared.window.WindowCall.TheVariants as asks
use Rattle.desk_call.specs.declared.window.WindowReply.{WindowReply}
use Rattle.desk_call.specs.Gates.{gate, window_standing}
use Rattle.vis_update.specs.Records.{WindowRecord, is_floating}
use Rattle.vis_update.specs.Touches.{is_this}
use Rattle.window_mgr.specs.Effects.{effect_of}
use Rattle.window_mgr.specs.Finding.{record_with}
use Rattle.window_mgr.specs.FullDesk.{FullDesk, FullState, IsRightState}
use Rattle.window_mgr.specs.DeskStates.{DeskState, narrowed}
use Rattle.control_mgr.specs.ControlDesks.{ControlsState}
use Rattle.control_mgr.specs.WholeControls.{IsTrackable}
use Rattle.list_mgr.specs.GivenBars.{AreBarsGiven}
use Rattle.menu_list.specs.Lists.{titles_of}
use Rattle.text_mgr.specs.WholeTexts.{IsSelectable}
use Rattle.menu_mgr.specs.MenuDesks.{IsBarOf, MenusState}
use Rattle.window_frame.specs.Followers.{AreInformed, IsCaughtUp, IsCaughtUpBy}
use Rattle.window_frame.proofs.FrameKeeps.{caught_up_keeps}
use Rattle.window_frame.proofs.ToldSteps.{caught_up_cases}
use Rattle.desk_toolbox.specs.declared.events.Events.{Events}
use Rattle.desk_toolbox.specs.Activations.{to_dispose}
use Rattle.desk_toolbox.specs.Classes.{AreClassed, IsOrdinary}
use Rattle.desk_toolbox.specs.EventSteps.{event_step}
use Rattle.desk_toolbox.specs.Reached.{AreRecords, AreMenusApart, AreContentsRight, AreWindowsStocked, HasLiveDefinition, IsThere, IsConsistent, open_window}
use Rattle.desk_toolbox.specs.Run.{AreControlsLeft, IsWindowAnswer, IsWindowMade, IsEventAnswer}
use Rattle.desk_toolbox.specs.ToolboxStates.{ToolboxState}
use Rattle.desk_toolbox.proofs.AskingCalls.{asked_changes_nothing}
use Rattle.desk_toolbox.proofs.HeldSteps.{AreMenusHeld}
use Rattle.desk_toolbox.proofs.PulledMenus.{IsPullRight, same_pull}
use Rattle.desk_toolbox.proofs.Totals.{Ordinary, Present, counted, counted_is_found, counted_of_class, distinct_counts, either_class, found_counts, found_of_class, has_when, of_class, total}
use Rattle.desk_toolbox.proofs.Recounts.{done_counts, done_keeps_active}
use Rattle.desk_toolbox.proofs.ContentsBeside.{IsRightToolbox}
use Rattle.desk_toolbox.proofs.KeptDesks.{made_keeps, refused_keeps_desk}
use Rattle.desk_toolbox.proofs.StepCounts.{Apart, AreNumbered, caught_up_counts, caught_up_total, right_is_numbered, same_and_same, shown_counts, stays, window_recounts}
use Rattle.desk_toolbox.proofs.Told.{ArePosted, step_are_posted}
use Rattle.desk_toolbox.proofs.Telling.{forgotten_ordinary, left_after, step_told_ordinary}
use Rattle.desk_toolbox.proofs.Tracked.{misled, none_misled, all_heard_rightly, counted_none}

pub record Stands (s : ToolboxState) : Type 0 where
  pub right : IsRightState s.desk.windows
  pub active : Ordinary s.desk.windows.desk.active s.desk.windows.desk.windows
  pub told : Ordinary s.events.told s.desk.windows.desk.windows
  pub opened : Present (open_window s.desk.activity) s.desk.windows.desk.windows
  pub contents : AreContentsRight s
  pub trackable : IsTrackable s.desk.activity s.controls.controls
  pub queued : ArePosted s.events.queue.events
  pub informed : AreInformed s.desk.windows.desk.windows
  pub tracked : total (misled s.desk.activity) s.desk.windows.desk.windows ≡ 0
  pub bar : IsBarOf s.menus s.desk.windows.desk
  pub apart : AreMenusApart s.menus.menus
  pub pull : IsPullRight s.desk.activity s.menus

there_is_present : (o : Option ℕ) (ws : List WindowRecord) → IsThere o ws → Present o ws
there_is_present None ws h = tt
there_is_present (Some s) ws h = found_counts s ws h

present_is_there : (o : Option ℕ) (ws : List WindowRecord) → Present o ws → IsThere o ws
present_is_there None ws h = tt
present_is_there (Some s) ws h = counted_is_found s ws h

-- an ordinary window that is there counts as one, and one alone that counts so is ordinary
ordinary_counts : (o : Option ℕ) (ws : List WindowRecord) → IsOrdinary o ws → Ordinary o ws
ordinary_counts None ws h = tt
ordinary_counts (Some s) ws h = by_found (record_with s ws) refl h
  where
    by_found : (o : Option WindowRecord) → record_with s ws ≡ o → option_map is_floating o ≡ Some false → Ordinary (Some s) ws
    by_found None found e = absurd (cc)
    by_found (Some w) found e =
        let its : w.floating ≡ false = cc in
        subst (λ (b : Bool). 1 ≤ counted (of_class b) s ws) its (found_of_class s ws w found)

pub counts_ordinary : (o : Option ℕ) (desk : FullDesk) → AreNumbered desk → Ordinary o desk.windows → IsOrdinary o desk.windows
counts_ordinary None desk numbered h = tt
counts_ordinary (Some s) desk numbered h = counted_of_class false s desk.windows (distinct_counts numbered.look s desk.windows numbered.distinct) h

pub stands : (s : ToolboxState) → IsConsistent s → Stands s
stands s h = record {
  right = h.right;
  active = ordinary_counts s.desk.windows.desk.active s.desk.windows.desk.windows h.active;
  told = ordinary_counts s.events.told s.desk.windows.desk.windows h.told;
  opened = there_is_present (open_window s.desk.activity) s.desk.windows.desk.windows h.opened;
  contents = h.contents;
  trackable = h.trackable;
  queued = h.queued;
  informed = h.informed;
  tracked = none_misled s.desk.activity s.desk.windows.desk.windows h.tracked;
  bar = h.bar;
  apart = h.apart;
  pull = record { pulled = h.pulled; lit = h.lit };
}

pub consistent : (s : ToolboxState) → Stands s → AreWindowsStocked s.desk.windows.desk → All HasLiveDefinition s.desk.windows.desk.windows → AreClassed s.desk.windows.desk.windows → AreMenusHeld s.menus → AreBarsGiven s.controls.next s.lists.lists
    → IsSelectable s.desk.activity s.texts.texts → AreRecords s.texts → IsConsistent s
consistent s h held live classed menus bars selectable records = record {
  right = h.right;
  active = counts_ordinary s.desk.windows.desk.active s.desk.windows.desk (right_is_numbered s.desk.windows h.right) h.active;
  told = counts_ordinary s.events.told s.desk.windows.desk (right_is_numbered s.desk.windows h.right) h.told;
  classed = classed;
  opened = present_is_there (open_window s.desk.activity) s.desk.windows.desk.windows h.opened;
  contents = h.contents;
  trackable = h.trackable;
  selectable = selectable;
  records = records;
  bars = bars;
  queued = h.queued;
  held = held;
  live = live;
  informed = h.informed;
  tracked = all_heard_rightly s.desk.activity s.desk.windows.desk.windows h.tracked;
  bar = h.bar;
  apart = h.apart;
  pulled = h.pull.pulled;
  lit = h.pull.lit;
  title = menus.title;
  stocked = menus.stocked;
}

-- the menu bar has the same titles, and they are those of the same menus
pub bar_stays : (before after : ToolboxState) → after.desk.windows.desk.bar.titles ≡ before.desk.windows.desk.bar.titles → after.menus ≡ before.menus → IsBarOf before.menus before.desk.windows.desk → IsBarOf after.menus after.desk.windows.desk
bar_stays before after titles menus was = titles ∙ was ∙ sym (ap (λ (m : MenusState). titles_of m.highlighted m.menus) menus)

-- what is open is the same, and so are the controls
pub trackable_stays : (before after : ToolboxState) → after.desk.activity ≡ before.desk.activity → after.controls ≡ before.controls → IsTrackable before.desk.activity before.controls.controls → IsTrackable after.desk.activity after.controls.controls
trackable_stays before after activity controls was = subst (λ (x : Activity × ControlsState). IsTrackable x.0 x.1.controls) (λ i. (sym activity i, sym controls i)) was

-- the menus are the same
pub apart_stays : (before after : ToolboxState) → after.menus ≡ before.menus → AreMenusApart before.menus.menus → AreMenusApart after.menus.menus
apart_stays before after menus was = subst (λ (m : MenusState). AreMenusApart m.menus) (sym menus) was

-- ---- where the desk and what is open did not change

module _ (before after : ToolboxState) (desk : after.desk.windows.desk ≡ before.desk.windows.desk) (activity : after.desk.activity ≡ before.desk.activity) (controls : after.controls ≡ before.controls) (menus : after.menus ≡ before.menus) where
  pub stands_on : Stands before → IsRightToolbox after → Ordinary after.events.told before.desk.windows.desk.windows → ArePosted after.events.queue.events → Stands after
  stands_on was right told queued = record {
    right = right.right;
    contents = right.contents;
    trackable = trackable_stays before after activity controls was.trackable;
    active = subst (λ (d : FullDesk). Ordinary d.active d.windows) (sym desk) was.active;
    told = subst (λ (d : FullDesk). Ordinary after.events.told d.windows) (sym desk) told;
    opened = subst (λ (d : FullDesk). Present (open_window after.desk.activity) d.windows) (sym desk) (subst (λ a. Present (open_window a) before.desk.windows.desk.windows) (sym activity) was.opened);
    queued = queued;
    informed = subst (λ (d : FullDesk). AreInformed d.windows) (sym desk) was.informed;
    tracked = ap (λ (d : FullDesk). total (misled after.desk.activity) d.windows) desk ∙ ap (λ a. total (misled a) before.desk.windows.desk.windows) activity ∙ was.tracked;
    bar = bar_stays before after (ap (λ (d : FullDesk). d.bar.titles) desk) menus was.bar;
    apart = apart_stays before after menus was.apart;
    pull = same_pull before.desk.activity after.desk.activity before.menus after.menus activity menus was.pull;
  }

  pub stands_still : after.events ≡ before.events → Stands before → IsRightToolbox after → Stands after
  stands_still events was right = stands_on was right
      (subst (λ (e : Events). Ordinary e.told before.desk.windows.desk.windows) (sym events) was.told)
      (subst (λ (e : Events). ArePosted e.queue.events) (sym events) was.queued)

-- ---- calls about events

pub event_stands : (call : EventCall) (answer : Result EventReply Refusal) (before after : ToolboxState) → Stands before → IsRightToolbox after → IsEventAnswer call answer before after → Stands after
event_stands call answer before after was right step =
    let active = before.desk.windows.desk.active in
    let events : after.events ≡ (event_step call active step.update before.events).1 = ap (λ (x : Result EventReply Refusal × Events). x.1) step.step in
    stands_on before after step.desk.windows.desk step.desk.activity step.controls step.menus was right
    (subst (λ (e : Events). Ordinary e.told before.desk.windows.desk.windows) (sym events) (step_told_ordinary call active step.update before.events before.desk.windows.desk.windows was.told was.active))
    (subst (λ (e : Events). ArePosted e.queue.events) (sym events) (step_are_posted call active step.update before.events was.queued))

-- ---- calls on windows

-- a call that changes anything comes while nothing is open
pub idle_now : (activity : Activity) → gate activity Changes ≡ None → activity ≡ Idle
idle_now Idle e = refl
idle_now (Updating s) e = absurd (cc)
idle_now (Tracking s) e = absurd (cc)
idle_now (TrackingControl c) e = absurd (cc)
idle_now (Dragging d) e = absurd (cc)
idle_now (Growing g) e = absurd (cc)
idle_now (Selecting k) e = absurd (cc)
idle_now (Pulling m) e = absurd (cc)

-- no window is disposed of while something of it is open
apart_open : (call : WindowCall) (activity : Activity) → gate activity (window_standing call) ≡ None → Apart (to_dispose call) (open_window activity)
apart_open (asks.Dispose s) activity e = ap (λ a. is_this (open_window a) s) (idle_now activity e)
apart_open _ activity e = tt

answer_keeps_activity : (asked : Option PixelSet) (call : WindowCall) (answer : Result WindowReply Refusal) (before after : DeskState) → IsWindowAnswer asked call answer before after → after.activity ≡ before.activity
answer_keeps_activity None call answer before after step = step.0.activity
answer_keeps_activity (Some set) call answer before after step = step.1.activity

answer_keeps_active : (asked : Option PixelSet) (call : WindowCall) (answer : WindowReply) (before after : DeskState) → IsWindowAnswer asked call (Ok answer) before after → Ordinary before.windows.desk.active before.windows.desk.windows → Ordinary after.windows.desk.active after.windows.desk.windows
answer_keeps_active None call answer before after step was = done_keeps_active call answer before.windows after.windows step.1.1 was
answer_keeps_active (Some set) call answer before after step was = subst (λ (d : FullDesk). Ordinary d.active d.windows) (sym step.1.windows.desk) was

answer_misleads_none : (asked : Option PixelSet) (call : WindowCall) (answer : WindowReply) (activity : Activity) (before after : DeskState) → IsWindowAnswer asked call (Ok answer) before after → total (misled activity) before.windows.desk.windows ≡ 0 → total (misled activity) after.windows.desk.windows ≡ 0
answer_misleads_none None call answer activity before after step none =
    counted_none (misled activity) (effect_of call before.windows.desk) before.windows.desk after.windows.desk (λ n floating. refl) (done_counts call answer before.windows after.windows step.1.1) none
answer_misleads_none (Some set) call answer activity before after step none = ap (λ (d : FullDesk). total (misled activity) d.windows) step.1.windows.desk ∙ none

answer_keeps_desk : (asked : Option PixelSet) (call : WindowCall) (answer : WindowReply) (before after : DeskState) → IsWindowAnswer asked call (Ok answer) before after → window_standing call ≡ Asks → after.windows.desk ≡ before.windows.desk
answer_keeps_desk None call answer before after step e = (asked_changes_nothing call (Ok answer) before.windows after.windows step.1 e).desk
answer_keeps_desk (Some set) call answer before after step e = step.1.windows.desk

-- where definitions were told, they know, and else nothing changed
caught_up_informs : (standing : Standing) (first before after : FullState) → IsCaughtUpBy standing before after → (standing ≡ Asks → before.desk ≡ first.desk) → AreInformed first.desk.windows → AreInformed after.desk.windows
caught_up_informs standing first before after caught kept was = by_case (caught_up_cases standing before after caught)
  where
    by_case : ((standing ≡ Asks) × (after ≡ before)) ⊎ IsCaughtUp before after → AreInformed after.desk.windows
    by_case (inl (asks, same)) = subst (λ (d : FullDesk). AreInformed d.windows) (sym (ap (λ (s : FullState). s.desk) same ∙ kept asks)) was
    by_case (inr (ts, told, informed)) = informed

-- no control is tracked while its window is disposed of
pub left_trackable : (call : WindowCall) (before after : ToolboxState) → gate before.desk.activity (window_standing call) ≡ None → after.desk.activity ≡ before.desk.activity → AreControlsLeft call before.controls after.controls → IsTrackable before.desk.activity before.controls.controls → IsTrackable after.desk.activity after.controls.controls
left_trackable (asks.Dispose s) before after may activity gone was = subst (λ a. IsTrackable a after.controls.controls) (sym (activity ∙ idle_now before.desk.activity may)) tt
left_trackable call before after may activity gone was = trackable_stays before after activity gone was

done_stands : (call : WindowCall) (answer : WindowReply) (before after : ToolboxState) → gate before.desk.activity (window_standing call) ≡ None → Stands before → IsRightToolbox after → IsWindowMade call (Ok answer) before after → Stands after
done_stands call answer before after may was right made =
    let asked = narrowed call before.desk.activity before.desk.begun in
    let was_desk = before.desk.windows.desk in
    let desk = after.desk.windows.desk in
    let recount = window_recounts call answer before.desk made.middle made.told after.desk.windows after.controls.controls after.lists.lists after.texts.texts made.answered made.caught_up made.shown in
    let followed = same_and_same made.middle.windows.desk made.told.desk desk (caught_up_counts (window_standing call) made.middle.windows made.told made.caught_up) (shown_counts after.controls.controls after.lists.lists after.texts.texts made.told after.desk.windows made.shown) in
    let activity : after.desk.activity ≡ before.desk.activity = made.activity.activity ∙ answer_keeps_activity asked call (Ok answer) before.desk made.middle made.answered in
    let left : after.events ≡ record before.events { told = _ } = made.events ∙ left_after call before.events in
    record {
      right = right.right;
      contents = right.contents;
      trackable = left_trackable call before after may activity made.controls was.trackable;
      active =
          subst (λ o. Ordinary o desk.windows) (sym (ap (λ (s : FullState). s.desk.active) made.shown ∙ caught_up_keeps (λ d. d.active) (λ d ws. refl) (window_standing call) made.middle.windows made.told made.caught_up))
          (has_when (of_class false) made.middle.windows.desk.active made.middle.windows.desk.windows desk.windows (λ s. let count = followed.count (of_class false) s in omega arith) (answer_keeps_active asked call answer before.desk made.middle made.answered was.active));
      told =
          subst (λ (e : Events). Ordinary e.told desk.windows) (sym left)
          (forgotten_ordinary (to_dispose call) before.events.told desk.windows (λ apart. stays (of_class false) (to_dispose call) before.events.told was_desk desk recount apart was.told));
      opened =
          subst (λ a. Present (open_window a) desk.windows) (sym activity)
          (stays either_class (to_dispose call) (open_window before.desk.activity) was_desk desk recount (apart_open call before.desk.activity may) was.opened);
      queued = subst (λ (e : Events). ArePosted e.queue.events) (sym left) was.queued;
      informed = subst (λ (s : FullState). AreInformed s.desk.windows) (sym made.shown) (caught_up_informs (window_standing call) before.desk.windows made.middle.windows made.told made.caught_up (answer_keeps_desk asked call answer before.desk made.middle made.answered) was.informed);
      tracked =
          ap (λ a. total (misled a) desk.windows) activity
          ∙ ap (λ (s : FullState). total (misled before.desk.activity) s.desk.windows) made.shown
          ∙ caught_up_total (misled before.desk.activity) (window_standing call) made.middle.windows made.told made.caught_up
          ∙ answer_misleads_none asked call answer before.desk.activity before.desk made.middle made.answered was.tracked;
      bar = bar_stays before after (made_keeps (λ d. d.bar.titles) (λ d ws active next stock. refl) (λ d shows. refl) call (Ok answer) before after made) made.menus was.bar;
      apart = apart_stays before after made.menus was.apart;
      pull = same_pull before.desk.activity after.desk.activity before.menus after.menus activity made.menus was.pull;
    }

pub window_stands : (call : WindowCall) (answer : Result WindowReply Refusal) (before after : ToolboxState) → gate before.desk.activity (window_standing call) ≡ None → Stands before → IsRightToolbox after → IsWindowMade call answer before after → Stands after
window_stands call (Ok answer) before after may was right made = done_stands call answer before after may was right made
window_stands call (Err e) before after may was right (answered, rest) =
    let asked = narrowed call before.desk.activity before.desk.begun in
    stands_still before after (refused_keeps_desk asked call e before.desk after.desk answered) (answer_keeps_activity asked call (Err e) before.desk after.desk answered) rest.controls rest.menus rest.events was right
