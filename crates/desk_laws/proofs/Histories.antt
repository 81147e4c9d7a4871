-- A run of the Toolbox as a row of steps of the queue's history: what it tells of the active window.
use Rattle.std.proofs.Common.{◌≡◌, ◌≢◌, inl, ℕ, nat_abs, Bool, true, false, List, [], ◌∷◌, ◌++◌, Option, None, Some, Result, Ok, Err, refl, sym, ap, ◌∙◌, subst}
use Rattle.tb_geom.specs.declared.refusal.Refusal.{Refusal}
use Rattle.event_queue.specs.declared.event.Event.{Event}
use Rattle.event_queue.specs.declared.event.EventKind.TheVariants.{Activate}
use Rattle.event_queue.specs.Events.{selects}
use Rattle.event_queue.specs.History.{Step, BecomesActive, IsDisposed, Tells, NeverActive, NeverDisposed, IsHistory, telling, told_of, Alternates, is_told_active}
use Rattle.event_queue.proofs.HistoryLemmas.{told_events_alternate, at_most_one_told}
use Rattle.desk_call.specs.declared.call.Call.{Call}
use Rattle.desk_call.specs.declared.call.Call.TheVariants as asks
use Rattle.desk_call.specs.declared.call.Reply.{Reply}
use Rattle.desk_call.specs.declared.call.Reply.TheVariants as reply
use Rattle.desk_call.specs.declared.control.ControlCall.TheVariants as controls
use Rattle.desk_call.specs.declared.control.ControlReply.TheVariants as control_reply
use Rattle.desk_call.specs.declared.event.EventCall.{EventCall}
use Rattle.desk_call.specs.declared.event.EventCall.TheVariants.{Post, Next, Avail, Flush, SetMask}
use Rattle.desk_call.specs.declared.event.EventReply.{EventReply}
use Rattle.desk_call.specs.declared.window.WindowCall.{WindowCall}
use Rattle.desk_call.specs.declared.window.WindowCall.TheVariants.{Find}
use Rattle.desk_call.specs.declared.window.WindowReply.{WindowReply}
use Rattle.window_mgr.specs.FullDesk.{FullDesk}
use Rattle.window_mgr.specs.DeskStates.{narrowed}
use Rattle.desk_toolbox.specs.declared.events.Events.{Events}
use Rattle.desk_toolbox.specs.Activations.{activate_event_told, activate_events_told, to_dispose, disposed_by, IsNeverDisposed}
use Rattle.desk_toolbox.specs.EventSteps.{EventStep}
use Rattle.desk_toolbox.specs.Reached.{IsConsistent, IsJustBegun}
use Rattle.desk_toolbox.specs.Run.{IsWindowMade, IsEventAnswer, found_menu, replied, IsStep, IsRunOfCalls}
use Rattle.desk_toolbox.specs.ToolboxStates.{ToolboxState, with_menus}
use Rattle.desk_toolbox.proofs.EachManager.{HoldsOfEach, of_step}
use Rattle.desk_call.specs.declared.window.WindowCall.TheVariants as window_calls
use Rattle.desk_call.specs.declared.window.WindowReply.TheVariants as window_reply
use Rattle.desk_toolbox.proofs.Outlined.{outline_keeps_desk}
use Rattle.desk_toolbox.specs.Run.{put_down}
use Rattle.desk_toolbox.proofs.UpdatedDesks.{update_keeps_desk}
use Rattle.desk_toolbox.proofs.StepCounts.{Recount, HasSame, IsGone, same_desk, frame_counts, menu_counts, window_recounts, gone_stays, disposed_is_gone, present_is_not_gone, right_is_numbered}
use Rattle.desk_toolbox.proofs.Stands.{Stands, stands}
use Rattle.desk_toolbox.proofs.Totals.{ordinary_is_present}
use Rattle.desk_toolbox.proofs.TrackedControls.{control_counts}
use Rattle.desk_toolbox.proofs.ListStands.{list_counts}
use Rattle.desk_toolbox.proofs.TextStands.{text_counts}
use Rattle.desk_toolbox.proofs.KeptDesks.{refused_keeps_desk}
use Rattle.desk_toolbox.proofs.Telling.{forgotten_if, left_after, telling_on, event_tells, told_if}
use Rattle.desk_laws.proofs.Consistent.{step_keeps_consistent, just_begun_is_consistent}

-- a window is disposed of, if one is, and then others
abbrev pub disposing : Option ℕ → List Step → List Step
disposing None rest = rest
disposing (Some w) rest = IsDisposed w ∷ rest

-- the steps of the history that a call is, in front of others
abbrev pub steps_of : Call → Result Reply Refusal → Option ℕ → List Step → List Step
steps_of call answer active rest = BecomesActive active ∷ disposing (disposed_by call answer) (telling_on call answer rest)

-- ---- what one step of a run is

pub record IsOneStep (call : Call) (answer : Result Reply Refusal) (before after : ToolboxState) : Type 0 where
  pub tells : (rest : List Step) → telling before.events.told before.desk.windows.desk.active (steps_of call answer after.desk.windows.desk.active rest)
      ≡ activate_event_told call answer ++ telling after.events.told after.desk.windows.desk.active rest
  pub recount : Recount (disposed_by call answer) before.desk.windows.desk after.desk.windows.desk

-- nothing is told, and what is disposed of is forgotten
quiet : (o told active new_active new : Option ℕ) (rest : List Step) → new ≡ forgotten_if o told → telling told active (BecomesActive new_active ∷ disposing o rest) ≡ telling new new_active rest
quiet None told active new_active new rest is = ap (λ t. telling t new_active rest) (sym is)
quiet (Some w) told active new_active new rest is = ap (λ t. telling t new_active rest) (sym is)

window_step : (call : WindowCall) (answer : Result WindowReply Refusal) (before after : ToolboxState) → IsWindowMade call answer before after → IsOneStep (asks.Window call) (replied reply.Window answer) before after
window_step call (Ok answer) before after made = record {
  tells = λ rest. quiet (to_dispose call) before.events.told before.desk.windows.desk.active after.desk.windows.desk.active after.events.told rest (ap (λ (e : Events). e.told) (made.events ∙ left_after call before.events));
  recount = window_recounts call answer before.desk made.middle made.told after.desk.windows after.controls.controls after.lists.lists after.texts.texts made.answered made.caught_up made.shown;
}
window_step call (Err e) before after (answered, kept) = record {
  tells = λ rest. quiet None before.events.told before.desk.windows.desk.active after.desk.windows.desk.active after.events.told rest (ap (λ (e : Events). e.told) kept.events);
  recount = inl (same_desk before.desk.windows.desk after.desk.windows.desk (refused_keeps_desk (narrowed call before.desk.activity before.desk.begun) call e before.desk after.desk answered));
}

event_step_is : (call : EventCall) (answer : Result EventReply Refusal) (before after : ToolboxState) → Stands before → IsEventAnswer call answer before after → IsOneStep (asks.Event call) (replied reply.Event answer) before after
event_step_is call answer before after was step = record {
  tells = λ rest.
      let active = before.desk.windows.desk.active in
      let now : after.desk.windows.desk.active ≡ active = ap (λ (d : FullDesk). d.active) step.desk.windows.desk in
      subst (λ o. telling before.events.told o (telling_on (asks.Event call) (replied reply.Event answer) rest) ≡ activate_event_told (asks.Event call) (replied reply.Event answer) ++ telling after.events.told o rest) (sym now)
      (subst (λ (x : EventStep). telling before.events.told active (telling_on (asks.Event call) (replied reply.Event x.0) rest) ≡ activate_event_told (asks.Event call) (replied reply.Event x.0) ++ telling x.1.told active rest) (sym step.step)
      (event_tells call active step.update before.events rest was.queued));
  recount = inl (same_desk before.desk.windows.desk after.desk.windows.desk step.desk.windows.desk);
}

-- neither events nor windows come or go
still_step : (call : Call) (answer : Result Reply Refusal) (before after : ToolboxState) → disposed_by call answer ≡ None → activate_event_told call answer ≡ [] → ((rest : List Step) → telling_on call answer rest ≡ rest) → after.events ≡ before.events → HasSame before.desk.windows.desk after.desk.windows.desk → IsOneStep call answer before after
still_step call answer before after none silent quietly events same = record {
  tells = λ rest.
      let active = before.desk.windows.desk.active in
      let now = after.desk.windows.desk.active in
      ap (λ o. telling before.events.told active (BecomesActive now ∷ disposing o (telling_on call answer rest))) none
      ∙ ap (λ (steps : List Step). telling before.events.told now steps) (quietly rest)
      ∙ ap (λ (e : Events). telling e.told now rest) (sym events)
      ∙ sym (ap (λ (es : List Event). es ++ telling after.events.told now rest) silent);
  recount = subst (λ o. Recount o before.desk.windows.desk after.desk.windows.desk) (sym none) (inl same);
}

-- a refused call tells nothing, and disposes of nothing
refused_step : (call : Call) (e : Refusal) (before after : ToolboxState) → after.events ≡ before.events → HasSame before.desk.windows.desk after.desk.windows.desk → IsOneStep call (Err e) before after
refused_step (asks.Window call) e before after events same = still_step (asks.Window call) (Err e) before after refl refl (λ rest. refl) events same
refused_step (asks.Update call) e before after events same = still_step (asks.Update call) (Err e) before after refl refl (λ rest. refl) events same
refused_step (asks.Frame call) e before after events same = still_step (asks.Frame call) (Err e) before after refl refl (λ rest. refl) events same
refused_step (asks.List call) e before after events same = still_step (asks.List call) (Err e) before after refl refl (λ rest. refl) events same
refused_step (asks.Text call) e before after events same = still_step (asks.Text call) (Err e) before after refl refl (λ rest. refl) events same
refused_step (asks.Control call) e before after events same = still_step (asks.Control call) (Err e) before after refl refl (λ rest. refl) events same
refused_step (asks.Menu call) e before after events same = still_step (asks.Menu call) (Err e) before after refl refl (λ rest. refl) events same
refused_step (asks.Outline call) e before after events same = still_step (asks.Outline call) (Err e) before after refl refl (λ rest. refl) events same
refused_step (asks.Event (Post p)) e before after events same = still_step (asks.Event (Post p)) (Err e) before after refl refl (λ rest. refl) events same
refused_step (asks.Event (Next mask)) e before after events same = still_step (asks.Event (Next mask)) (Err e) before after refl refl (λ rest. refl) events same
refused_step (asks.Event (Avail mask)) e before after events same = still_step (asks.Event (Avail mask)) (Err e) before after refl refl (λ rest. refl) events same
refused_step (asks.Event (Flush f)) e before after events same = still_step (asks.Event (Flush f)) (Err e) before after refl refl (λ rest. refl) events same
refused_step (asks.Event (SetMask mask)) e before after events same = still_step (asks.Event (SetMask mask)) (Err e) before after refl refl (λ rest. refl) events same

abbrev GoesOnByOne : Call → Result Reply Refusal → ToolboxState → ToolboxState → Type 0
GoesOnByOne call answer before after = Stands before → IsOneStep call answer before after

each_goes_on : HoldsOfEach GoesOnByOne
each_goes_on = record {
  unchanged = λ call e before after same was. refused_step call e before after same.events (same_desk before.desk.windows.desk after.desk.windows.desk same.desk.windows.desk);
  covered = λ p before after same was. still_step (asks.Window (Find p)) (Ok (reply.Window found_menu)) before after refl refl (λ rest. refl) same.events (same_desk before.desk.windows.desk after.desk.windows.desk same.desk.windows.desk);
  hidden = λ p before after same was. still_step (asks.Control (controls.Find p)) (Ok (reply.Control (control_reply.Found None))) before after refl refl (λ rest. refl) same.events (same_desk before.desk.windows.desk after.desk.windows.desk same.desk.windows.desk);
  window = λ call answer before after may step was. window_step call answer before after step;
  update = λ call answer before after may step kept was. still_step (asks.Update call) (replied reply.Window answer) before after refl refl (λ rest. refl) kept.events (same_desk before.desk.windows.desk after.desk.windows.desk (update_keeps_desk call answer before.desk after.desk step));
  frame = λ call answer before after may step kept was. still_step (asks.Frame call) (replied reply.Frame answer) before after refl refl (λ rest. refl) kept.events (frame_counts call answer before.desk after.desk step);
  control = λ call answer before after may step events lists texts menus was. still_step (asks.Control call) (replied reply.Control answer) before after refl refl (λ rest. refl) events (control_counts call answer before after step);
  list = λ call answer before after may step events texts menus was. still_step (asks.List call) (replied reply.List answer) before after refl refl (λ rest. refl) events (list_counts call answer before after step);
  text = λ call answer before after may step events controls lists menus was. still_step (asks.Text call) (replied reply.Text answer) before after refl refl (λ rest. refl) events (text_counts call answer before after step);
  menu = λ call answer before after may step events controls lists texts was. still_step (asks.Menu call) (replied reply.Menu answer) before after refl refl (λ rest. refl) events (menu_counts call answer (with_menus before) (with_menus after) step);
  outline = λ call answer before after may step kept was. still_step (asks.Outline call) (replied reply.Outline answer) before after refl refl (λ rest. refl) kept.events (same_desk before.desk.windows.desk after.desk.windows.desk (outline_keeps_desk call answer before.desk after.desk step));
  moved = λ call move before after may step was. let moved = window_step (window_calls.Move move) (Ok window_reply.Done) (put_down before) after step in record { tells = moved.tells; recount = moved.recount };
  event = λ call answer before after step was. event_step_is call answer before after was step;
}

pub one_step : (call : Call) (answer : Result Reply Refusal) (before after : ToolboxState) → Stands before → IsStep call answer before after → IsOneStep call answer before after
one_step call answer before after was step = of_step GoesOnByOne each_goes_on call answer before after step was

-- ---- runs

-- the row of steps of a run from this state, in these calls and answers
record IsHistoryOf (first : ToolboxState) (calls : List Call) (answers : List (Result Reply Refusal)) : Type 0 where
  steps : List Step
  history : IsHistory first.desk.windows.desk.active steps
  tells : telling first.events.told first.desk.windows.desk.active steps ≡ activate_events_told calls answers
  kept : (w : ℕ) → IsNeverDisposed w calls answers → NeverDisposed w steps
  gone : (w : ℕ) → IsGone w first.desk.windows.desk → NeverActive w steps

-- a step that tells changes nothing of these
with_telling : (P : List Step → Type 0) (call : Call) (answer : Result Reply Refusal) (steps : List Step) → P steps → P (Tells ∷ steps) → P (telling_on call answer steps)
with_telling P (asks.Event (Next mask)) (Ok answer) steps h more = by_selected (selects (nat_abs mask) Activate)
  where
    by_selected : (b : Bool) → P (told_if b steps)
    by_selected true = more
    by_selected false = h
with_telling P _ _ steps h more = h

-- a window that is disposed of is not active then or later
history_on : (o active : Option ℕ) (call : Call) (answer : Result Reply Refusal) (steps : List Step) → IsHistory active steps → ((w : ℕ) → o ≡ Some w → (active ≢ Some w) × NeverActive w steps) → IsHistory active (disposing o (telling_on call answer steps))
history_on None active call answer steps history gone = with_telling (IsHistory active) call answer steps history history
history_on (Some w) active call answer steps history gone =
    let never = gone w refl in
    (never.0, with_telling (NeverActive w) call answer steps never.1 never.1, with_telling (IsHistory active) call answer steps history history)

kept_on : (w : ℕ) (o : Option ℕ) (call : Call) (answer : Result Reply Refusal) (steps : List Step) → o ≢ Some w → NeverDisposed w steps → NeverDisposed w (disposing o (telling_on call answer steps))
kept_on w None call answer steps other never = with_telling (NeverDisposed w) call answer steps never never
kept_on w (Some x) call answer steps other never = ((λ e. other (ap Some e)), with_telling (NeverDisposed w) call answer steps never never)

gone_on : (w : ℕ) (o : Option ℕ) (call : Call) (answer : Result Reply Refusal) (steps : List Step) → NeverActive w steps → NeverActive w (disposing o (telling_on call answer steps))
gone_on w None call answer steps never = with_telling (NeverActive w) call answer steps never never
gone_on w (Some x) call answer steps never = with_telling (NeverActive w) call answer steps never never

history_of : (first last : ToolboxState) (calls : List Call) (answers : List (Result Reply Refusal)) → IsConsistent first → IsRunOfCalls first calls answers last → IsHistoryOf first calls answers
history_of first last [] [] was run = record { steps = []; history = tt; tells = refl; kept = λ w h. tt; gone = λ w h. tt }
history_of first last [] (answer ∷ answers) was run = absurd run
history_of first last (call ∷ calls) [] was run = absurd run
history_of first last (call ∷ calls) (answer ∷ answers) was run =
    let middle = run.0 in
    let desk = middle.desk.windows.desk in
    let before = stands first was in
    let next = step_keeps_consistent call answer first middle was run.1 in
    let after = stands middle next in
    let present = ordinary_is_present desk.active desk.windows after.active in
    let step = one_step call answer first middle before run.1 in
    let rest = history_of middle last calls answers next run.2 in
    let gone_now = λ (w : ℕ) (e : disposed_by call answer ≡ Some w).
    disposed_is_gone w first.desk.windows.desk desk (right_is_numbered first.desk.windows before.right) (subst (λ o. Recount o first.desk.windows.desk desk) e step.recount) in
    record {
      steps = steps_of call answer desk.active rest.steps;
      history = history_on (disposed_by call answer) desk.active call answer rest.steps rest.history (λ w e.
          (present_is_not_gone desk.active w desk (gone_now w e) present, rest.gone w (gone_now w e)));
      tells = step.tells rest.steps ∙ ap (λ (es : List Event). activate_event_told call answer ++ es) rest.tells;
      kept = λ w h. kept_on w (disposed_by call answer) call answer rest.steps h.0 (rest.kept w h.1);
      gone = λ w g.
          let still = gone_stays (disposed_by call answer) w first.desk.windows.desk desk step.recount g in
          (present_is_not_gone desk.active w desk still present, gone_on w (disposed_by call answer) call answer rest.steps (rest.gone w still));
    }

-- from a desk that just began
module _ (first last : ToolboxState) (calls : List Call) (answers : List (Result Reply Refusal)) (begun : IsJustBegun first) (run : IsRunOfCalls first calls answers last) where
  whole : IsHistoryOf first calls answers
  whole = history_of first last calls answers (just_begun_is_consistent first begun) run

  none_told : first.events.told ≡ None
  none_told = ap (λ (e : Events). e.told) begun.events

  tells_all : telling None None whole.steps ≡ activate_events_told calls answers
  tells_all = sym (λ i. telling (none_told i) (begun.active i) whole.steps) ∙ whole.tells

  pub run_alternates : (window : ℕ) → Alternates true (told_of window (activate_events_told calls answers))
  run_alternates window =
      subst (λ (es : List Event). Alternates true (told_of window es)) tells_all
      (told_events_alternate window whole.steps (subst (λ o. IsHistory o whole.steps) begun.active whole.history))

  pub run_tells_one : (v w : ℕ) → IsNeverDisposed v calls answers → IsNeverDisposed w calls answers → is_told_active v (activate_events_told calls answers) ≡ true → is_told_active w (activate_events_told calls answers) ≡ true → v ≡ w
  run_tells_one v w stays remains a b =
      at_most_one_told v w whole.steps (whole.kept v stays) (whole.kept w remains) (ap (is_told_active v) tells_all ∙ a) (ap (is_told_active w) tells_all ∙ b)

pub told_events_of_runs_alternate : (window : ℕ) (first last : ToolboxState) (calls : List Call) (answers : List (Result Reply Refusal)) → IsJustBegun first → IsRunOfCalls first calls answers last → Alternates true (told_of window (activate_events_told calls answers))
told_events_of_runs_alternate window first last calls answers begun run = run_alternates first last calls answers begun run window

pub at_most_one_told_in_runs : (v w : ℕ) (first last : ToolboxState) (calls : List Call) (answers : List (Result Reply Refusal)) → IsJustBegun first → IsRunOfCalls first calls answers last → IsNeverDisposed v calls answers → IsNeverDisposed w calls answers → is_told_active v (activate_events_told calls answers) ≡ true → is_told_active w (activate_events_told calls answers) ≡ true → v ≡ w
at_most_one_told_in_runs v w first last calls answers begun run stays remains a b = run_tells_one first last calls answers begun run v w stays remains a b
