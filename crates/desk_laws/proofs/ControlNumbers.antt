-- The controls that a run makes have serials that follow each other, those of scroll bars among them.
use Rattle.std.proofs.Common.{◌≡◌, ℕ, zero, suc, List, [], ◌∷◌, ◌++◌, Option, None, Some, Result, Ok, Err, refl, sym, ap, ◌∙◌, subst}
use Rattle.tb_geom.specs.declared.refusal.Refusal.{Refusal}
use Rattle.desk_call.specs.declared.call.Call.{Call}
use Rattle.desk_call.specs.declared.call.Call.TheVariants as calls
use Rattle.desk_call.specs.declared.call.Reply.{Reply}
use Rattle.desk_call.specs.declared.call.Reply.TheVariants as reply
use Rattle.desk_call.specs.declared.control.ControlCall.{ControlCall}
use Rattle.desk_call.specs.declared.control.ControlCall.TheVariants.{New, Dispose, Show, Hide, Move, Size, SetValue, SetMinimum, SetMaximum, Hilite, SetTitle, Get, Find, Test, Track, Step, End}
use Rattle.desk_call.specs.declared.control.ControlReply.{ControlReply}
use Rattle.desk_call.specs.declared.list.ListCall.{ListCall}
use Rattle.desk_call.specs.declared.list.ListCall.TheVariants as lists
use Rattle.desk_call.specs.declared.list.ListReply.{ListReply}
use Rattle.desk_call.specs.declared.window.WindowCall.{WindowCall}
use Rattle.desk_call.specs.declared.window.WindowCall.TheVariants as windows
use Rattle.desk_call.specs.declared.window.WindowReply.{WindowReply}
use Rattle.control_mgr.specs.ControlDesks.{ControlDesk, ControlRecord, ControlsState, control_of}
use Rattle.control_mgr.specs.ControlSteps.{IsControlEffect, IsControlStep, info_of}
use Rattle.control_mgr.proofs.ControlFacts.{IsNextControl, control_facts}
use Rattle.list_mgr.specs.ListRefusals.{bars_wanted}
use Rattle.list_mgr.specs.ListSteps.{IsListStep}
use Rattle.list_mgr.proofs.ListFacts.{IsNextAfter, IsNextList, list_facts}
use Rattle.desk_toolbox.specs.Run.{AreControlsLeft, AreCountedAlong, IsRunOfCalls, IsWindowMade, control_serial, controls_made, controls_taken, replied, untold}
use Rattle.desk_toolbox.specs.ToolboxStates.{ToolboxState, with_controls, with_lists}
use Rattle.desk_toolbox.proofs.EachManager.{HoldsOfEach, of_step}
use Rattle.desk_call.specs.declared.window.WindowReply.TheVariants as window_reply
use Rattle.desk_toolbox.specs.Run.{put_down}

next_counted : (before after : ControlsState) (numbers : List (Option ℕ)) → after.next ≡ before.next → AreCountedAlong after.next numbers → AreCountedAlong before.next numbers
next_counted before after numbers same h = subst (λ n. AreCountedAlong n numbers) same h

left_next : (call : WindowCall) (before after : ControlsState) → AreControlsLeft call before after → after.next ≡ before.next
left_next (windows.Dispose s) before after left = left.next
left_next call before after same = ap (λ (s : ControlsState). s.next) same

window_next : (call : WindowCall) (answer : Result WindowReply Refusal) (before after : ToolboxState) → IsWindowMade call answer before after → after.controls.next ≡ before.controls.next
window_next call (Ok answer) before after step = left_next call before.controls after.controls step.controls
window_next call (Err e) before after step = ap (λ (s : ControlsState). s.next) step.1.controls

told_none : (o : Option ControlRecord) → control_serial (info_of o) ≡ []
told_none None = refl
told_none (Some c) = refl

control_counted : (call : ControlCall) (answer : ControlReply) (before after : ControlDesk) (numbers : List (Option ℕ)) → IsControlEffect call answer before after → IsNextControl call (Ok answer) before.controls after.controls → AreCountedAlong after.controls.next numbers → AreCountedAlong before.controls.next (control_serial answer ++ numbers)
control_counted (New n) answer before after numbers effect (serial, is, first, next) h =
    subst (λ (a : ControlReply). AreCountedAlong before.controls.next (control_serial a ++ numbers)) (sym is) (first, subst (λ o. AreCountedAlong o numbers) next h)
control_counted (Dispose c) answer before after numbers (is, done) next h = subst (λ (a : ControlReply). AreCountedAlong before.controls.next (control_serial a ++ numbers)) (sym is) (next_counted before.controls after.controls numbers next h)
control_counted (Show c) answer before after numbers (is, done) next h = subst (λ (a : ControlReply). AreCountedAlong before.controls.next (control_serial a ++ numbers)) (sym is) (next_counted before.controls after.controls numbers next h)
control_counted (Hide c) answer before after numbers (is, done) next h = subst (λ (a : ControlReply). AreCountedAlong before.controls.next (control_serial a ++ numbers)) (sym is) (next_counted before.controls after.controls numbers next h)
control_counted (Move m) answer before after numbers (is, done) next h = subst (λ (a : ControlReply). AreCountedAlong before.controls.next (control_serial a ++ numbers)) (sym is) (next_counted before.controls after.controls numbers next h)
control_counted (Size z) answer before after numbers (is, done) next h = subst (λ (a : ControlReply). AreCountedAlong before.controls.next (control_serial a ++ numbers)) (sym is) (next_counted before.controls after.controls numbers next h)
control_counted (SetValue n) answer before after numbers done next h = subst (λ (a : ControlReply). AreCountedAlong before.controls.next (control_serial a ++ numbers)) (sym done.0) (next_counted before.controls after.controls numbers next h)
control_counted (SetMinimum n) answer before after numbers done next h = subst (λ (a : ControlReply). AreCountedAlong before.controls.next (control_serial a ++ numbers)) (sym done.0) (next_counted before.controls after.controls numbers next h)
control_counted (SetMaximum n) answer before after numbers done next h = subst (λ (a : ControlReply). AreCountedAlong before.controls.next (control_serial a ++ numbers)) (sym done.0) (next_counted before.controls after.controls numbers next h)
control_counted (Hilite n) answer before after numbers done next h = subst (λ (a : ControlReply). AreCountedAlong before.controls.next (control_serial a ++ numbers)) (sym done.2.0) (next_counted before.controls after.controls numbers next h)
control_counted (SetTitle t) answer before after numbers done next h = subst (λ (a : ControlReply). AreCountedAlong before.controls.next (control_serial a ++ numbers)) (sym done.0) (next_counted before.controls after.controls numbers next h)
control_counted (Get c) answer before after numbers (is, same) next h =
    subst (λ (ns : List (Option ℕ)). AreCountedAlong before.controls.next (ns ++ numbers)) (sym (ap control_serial is ∙ told_none (control_of c before.controls.controls))) (next_counted before.controls after.controls numbers next h)
control_counted (Find p) answer before after numbers (is, same) next h = subst (λ (a : ControlReply). AreCountedAlong before.controls.next (control_serial a ++ numbers)) (sym is) (next_counted before.controls after.controls numbers next h)
control_counted (Test p) answer before after numbers (is, same) next h = subst (λ (a : ControlReply). AreCountedAlong before.controls.next (control_serial a ++ numbers)) (sym is) (next_counted before.controls after.controls numbers next h)
control_counted (Track p) answer before after numbers (is, done) next h = subst (λ (a : ControlReply). AreCountedAlong before.controls.next (control_serial a ++ numbers)) (sym is) (next_counted before.controls after.controls numbers next h)
control_counted (Step p) answer before after numbers (part, is, done) next h = subst (λ (a : ControlReply). AreCountedAlong before.controls.next (control_serial a ++ numbers)) (sym is) (next_counted before.controls after.controls numbers next h)
control_counted (End p) answer before after numbers (part, is, done) next h = subst (λ (a : ControlReply). AreCountedAlong before.controls.next (control_serial a ++ numbers)) (sym is) (next_counted before.controls after.controls numbers next h)

refused_next : (call : ControlCall) (e : Refusal) (before after : ControlsState) → IsNextControl call (Err e) before after → after.next ≡ before.next
refused_next (New n) e before after next = next
refused_next call e before after next = next

control_is_counted : (call : ControlCall) (answer : Result ControlReply Refusal) (before after : ToolboxState) (numbers : List (Option ℕ)) → IsControlStep call answer (with_controls before) (with_controls after) → AreCountedAlong after.controls.next numbers → AreCountedAlong before.controls.next (controls_taken (replied reply.Control answer) (calls.Control call) ++ numbers)
control_is_counted call (Ok answer) before after numbers step h = control_counted call answer (with_controls before) (with_controls after) numbers step.1 (control_facts call (Ok answer) (with_controls before) (with_controls after) step).1 h
control_is_counted call (Err e) before after numbers step h =
    next_counted before.controls after.controls numbers (refused_next call e before.controls after.controls (control_facts call (Err e) (with_controls before) (with_controls after) step).1) h

-- so many serials that were not told, and then others
untold_counted : (k : ℕ) (before after : Option ℕ) (numbers : List (Option ℕ)) → IsNextAfter k before after → AreCountedAlong after numbers → AreCountedAlong before (untold k ++ numbers)
untold_counted zero before after numbers same h = subst (λ o. AreCountedAlong o numbers) same h
untold_counted (suc k) before after numbers (n, is, next) h = (n, is, untold_counted k _ after numbers next h)

list_is_counted : (call : ListCall) (answer : Result ListReply Refusal) (before after : ToolboxState) (numbers : List (Option ℕ)) → IsListStep call answer (with_lists before) (with_lists after) → AreCountedAlong after.controls.next numbers
    → AreCountedAlong before.controls.next (controls_taken (replied reply.List answer) (calls.List call) ++ numbers)
list_is_counted call answer before after numbers step h = by_call call answer (list_facts call answer (with_lists before) (with_lists after) step).1
  where
    by_call : (k : ListCall) (r : Result ListReply Refusal) → IsNextList k r (with_lists before) (with_lists after) → AreCountedAlong before.controls.next (controls_taken (replied reply.List r) (calls.List k) ++ numbers)
    by_call (lists.New n) (Ok a) next = untold_counted (bars_wanted n) before.controls.next after.controls.next numbers next.1 h
    by_call (lists.New n) (Err e) next = next_counted before.controls after.controls numbers next.1 h
    by_call k (Ok a) next = next_counted before.controls after.controls numbers next.1 h
    by_call k (Err e) next = next_counted before.controls after.controls numbers next.1 h

-- the calls of the other managers make no control
none_made : {R : Type 0} (reply_of : R → Reply) (call : Call) (answer : Result R Refusal) (before after : ControlsState) (numbers : List (Option ℕ)) → ((a : R) → controls_taken (Ok (reply_of a)) call ≡ []) → after.next ≡ before.next → AreCountedAlong after.next numbers
    → AreCountedAlong before.next (controls_taken (replied reply_of answer) call ++ numbers)
none_made reply_of call (Ok a) before after numbers none next h = subst (λ (ns : List (Option ℕ)). AreCountedAlong before.next (ns ++ numbers)) (sym (none a)) (next_counted before after numbers next h)
none_made reply_of call (Err e) before after numbers none next h = next_counted before after numbers next h

abbrev GoesOnCounting : Call → Result Reply Refusal → ToolboxState → ToolboxState → Type 0
GoesOnCounting call answer before after = (numbers : List (Option ℕ)) → AreCountedAlong after.controls.next numbers → AreCountedAlong before.controls.next (controls_taken answer call ++ numbers)

next_of : (before after : ToolboxState) → after.controls ≡ before.controls → after.controls.next ≡ before.controls.next
next_of before after same = ap (λ (s : ControlsState). s.next) same

each_is_counted : HoldsOfEach GoesOnCounting
each_is_counted = record {
  unchanged = λ call e before after same numbers h. next_counted before.controls after.controls numbers (next_of before after same.controls) h;
  covered = λ p before after same numbers h. next_counted before.controls after.controls numbers (next_of before after same.controls) h;
  hidden = λ p before after same numbers h. next_counted before.controls after.controls numbers (next_of before after same.controls) h;
  window = λ call answer before after may step numbers h. none_made reply.Window (calls.Window call) answer before.controls after.controls numbers (λ a. refl) (window_next call answer before after step) h;
  update = λ call answer before after may step rest numbers h. none_made reply.Window (calls.Update call) answer before.controls after.controls numbers (λ a. refl) (next_of before after rest.controls) h;
  frame = λ call answer before after may step rest numbers h. none_made reply.Frame (calls.Frame call) answer before.controls after.controls numbers (λ a. refl) (next_of before after rest.controls) h;
  control = λ call answer before after may step events lists texts menus numbers h. control_is_counted call answer before after numbers step h;
  list = λ call answer before after may step events texts menus numbers h. list_is_counted call answer before after numbers step h;
  text = λ call answer before after may step events controls lists menus numbers h. none_made reply.Text (calls.Text call) answer before.controls after.controls numbers (λ a. refl) (next_of before after controls) h;
  menu = λ call answer before after may step events controls lists texts numbers h. none_made reply.Menu (calls.Menu call) answer before.controls after.controls numbers (λ a. refl) (next_of before after controls) h;
  outline = λ call answer before after may step rest numbers h. none_made reply.Outline (calls.Outline call) answer before.controls after.controls numbers (λ a. refl) (next_of before after rest.controls) h;
  moved = λ call move before after may step numbers h. next_counted before.controls after.controls numbers (window_next (windows.Move move) (Ok window_reply.Done) (put_down before) after step) h;
  event = λ call answer before after step numbers h. none_made reply.Event (calls.Event call) answer before.controls after.controls numbers (λ a. refl) (next_of before after step.controls) h;
}

pub controls_are_counted : (first last : ToolboxState) (calls : List Call) (answers : List (Result Reply Refusal)) → IsRunOfCalls first calls answers last → AreCountedAlong first.controls.next (controls_made calls answers)
controls_are_counted first last [] [] run = tt
controls_are_counted first last [] (answer ∷ answers) run = absurd run
controls_are_counted first last (call ∷ calls) [] run = absurd run
controls_are_counted first last (call ∷ calls) (answer ∷ answers) run =
    of_step GoesOnCounting each_is_counted call answer first run.0 run.1 (controls_made calls answers) (controls_are_counted run.0 last calls answers run.2)
