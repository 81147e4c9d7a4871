-- A window that floats is never active, no activate event is told of it, and it floats for good.
use Rattle.std.proofs.Common.{◌≡◌, ◌≢◌, ℕ, ◌≤◌, ◌==◌, nat_eq, Bool, true, false, if◌then◌else◌, List, [], ◌∷◌, ◌++◌, Option, None, Some, Result, Ok, Err, refl, sym, ap, ◌∙◌, subst}
use Rattle.std.proofs.lemmas.Bool.{eqb-true}
use Rattle.std.specs.Prelude.{All}
use Rattle.std.specs.List.{find}
use Rattle.std.specs.Option.{option_map}
use Rattle.std.proofs.lemmas.List.Elements.{All-cons, All-head, All-nil, All-tail}
use Rattle.tb_geom.specs.declared.refusal.Refusal.{Refusal}
use Rattle.event_queue.specs.declared.event.Event.{Event}
use Rattle.event_queue.specs.Events.{activation, deactivation, is_selected}
use Rattle.event_queue.specs.Queues.{event_or_null, next_event, update_events}
use Rattle.event_queue.specs.Telling.{activate_events}
use Rattle.desk_call.specs.declared.call.Call.{Call}
use Rattle.desk_call.specs.declared.call.Call.TheVariants as asks
use Rattle.desk_call.specs.declared.call.Reply.{Reply}
use Rattle.desk_call.specs.declared.call.Reply.TheVariants as reply
use Rattle.desk_call.specs.declared.event.EventCall.{EventCall}
use Rattle.desk_call.specs.declared.event.EventCall.TheVariants.{Post, Next, Avail, Flush, SetMask}
use Rattle.desk_call.specs.declared.event.EventReply.{EventReply}
use Rattle.vis_update.specs.Records.{WindowRecord, is_floating}
use Rattle.window_mgr.specs.Finding.{record_with}
use Rattle.desk_toolbox.specs.Activations.{IsNeverDisposed, activate_event_told, disposed_by, if_activate, is_activate}
use Rattle.desk_toolbox.specs.Classes.{AreClassed, IsOfClass, IsOrdinary}
use Rattle.desk_toolbox.specs.EventSteps.{EventStep, after_telling, told_next, with_word, word_of}
use Rattle.desk_toolbox.specs.Reached.{IsConsistent}
use Rattle.desk_toolbox.specs.Run.{IsEventAnswer, IsRunOfCalls, IsStep, replied}
use Rattle.desk_toolbox.specs.ToolboxStates.{ToolboxState}
use Rattle.desk_laws.proofs.Consistent.{step_keeps_consistent}
use Rattle.desk_toolbox.proofs.EachManager.{HoldsOfEach, of_step}
use Rattle.desk_laws.proofs.Histories.{one_step}
use Rattle.desk_toolbox.proofs.Stands.{stands}
use Rattle.desk_toolbox.proofs.StepCounts.{Apart, right_is_numbered, stays}
use Rattle.desk_toolbox.proofs.Telling.{queued_is_no_activate}
use Rattle.desk_toolbox.proofs.Told.{ArePosted}
use Rattle.desk_toolbox.proofs.Totals.{counted, counted_of_class, distinct_counts, found_of_class, of_class}

pub floating_in_front : (s : ToolboxState) → IsConsistent s → AreClassed s.desk.windows.desk.windows
floating_in_front s h = h.classed

-- ---- what is told

-- an ordinary window is none that floats
ordinary_is_another : (n : ℕ) (o : Option ℕ) (ws : List WindowRecord) → IsOrdinary o ws → IsOfClass true n ws → o ≢ Some n
ordinary_is_another n None ws h floats e = absurd (cc)
ordinary_is_another n (Some s) ws h floats e =
    let same : s ≡ n = cc in
    let its : option_map is_floating (record_with n ws) ≡ Some false = subst (λ m. IsOfClass false m ws) same h in
    absurd (let one : Some true ≡ Some false = sym floats ∙ its in cc)

pub never_active : (n : ℕ) (s : ToolboxState) → IsConsistent s → IsOfClass true n s.desk.windows.desk.windows → s.desk.windows.desk.active ≢ Some n
never_active n s h floats = ordinary_is_another n s.desk.windows.desk.active s.desk.windows.desk.windows h.active floats

pub never_told : (n : ℕ) (s : ToolboxState) → IsConsistent s → IsOfClass true n s.desk.windows.desk.windows → s.events.told ≢ Some n
never_told n s h floats = ordinary_is_another n s.events.told s.desk.windows.desk.windows h.told floats

-- the event is about another window than this
abbrev IsOfAnother : ℕ → Event → Type 0
IsOfAnother n e = e.message ≢ n

waiting_of_another : (n : ℕ) (told active : Option ℕ) → told ≢ Some n → active ≢ Some n → All (IsOfAnother n) (activate_events told active)
waiting_of_another n None None other another = All-nil (IsOfAnother n)
waiting_of_another n None (Some a) other another = All-cons (IsOfAnother n) (activation a) [] (λ e. another (ap Some e)) (All-nil (IsOfAnother n))
waiting_of_another n (Some t) None other another = All-cons (IsOfAnother n) (deactivation t) [] (λ e. other (ap Some e)) (All-nil (IsOfAnother n))
waiting_of_another n (Some t) (Some a) other another = by_same (nat_eq t a)
  where
    by_same : (b : Bool) → All (IsOfAnother n) (if b then [] else deactivation t ∷ activation a ∷ [])
    by_same true = All-nil (IsOfAnother n)
    by_same false =
        All-cons (IsOfAnother n) (deactivation t) (activation a ∷ []) (λ e. other (ap Some e))
        (All-cons (IsOfAnother n) (activation a) [] (λ e. another (ap Some e)) (All-nil (IsOfAnother n)))

-- the first that is selected, of events about other windows, and then of others that are no activate events
first_of_another : (n : ℕ) (test : Event → Bool) (es rest : List Event) → All (IsOfAnother n) es → if_activate (event_or_null (find test rest)) ≡ [] → All (IsOfAnother n) (if_activate (event_or_null (find test (es ++ rest))))
first_of_another n test [] rest all none = subst (All (IsOfAnother n)) (sym none) (All-nil (IsOfAnother n))
first_of_another n test (e ∷ es) rest all none = by_test (test e) (first_of_another n test es rest (All-tail (IsOfAnother n) e es all) none)
  where
    by_kind : (b : Bool) → All (IsOfAnother n) (if b then e ∷ [] else [])
    by_kind true = All-cons (IsOfAnother n) e [] (All-head (IsOfAnother n) e es all) (All-nil (IsOfAnother n))
    by_kind false = All-nil (IsOfAnother n)

    by_test : (b : Bool) → All (IsOfAnother n) (if_activate (event_or_null (find test (es ++ rest)))) → All (IsOfAnother n) (if_activate (event_or_null (if b then Some e else find test (es ++ rest))))
    by_test true others = by_kind (is_activate e.what)
    by_test false others = others

next_of_another : (n mask : ℕ) (told active update : Option ℕ) (events : List Event) → told ≢ Some n → active ≢ Some n → ArePosted events → All (IsOfAnother n) (if_activate (next_event mask told active events update))
next_of_another n mask told active update events other another posted =
    first_of_another n (is_selected mask) (activate_events told active) (events ++ update_events update)
    (waiting_of_another n told active other another) (queued_is_no_activate (is_selected mask) update events posted)

-- what a step of events tells is about another window
abbrev TellsOfAnother : ℕ → EventCall → EventStep → Type 0
TellsOfAnother n call step = All (IsOfAnother n) (activate_event_told (asks.Event call) (replied reply.Event step.0))

event_tells_another : (n : ℕ) (call : EventCall) (answer : Result EventReply Refusal) (before after : ToolboxState) → IsConsistent before → IsOfClass true n before.desk.windows.desk.windows → IsEventAnswer call answer before after → All (IsOfAnother n) (activate_event_told (asks.Event call) (replied reply.Event answer))
event_tells_another n (Next mask) answer before after h floats step =
    subst (TellsOfAnother n (Next mask)) (sym step.step) (by_word (word_of mask))
  where
    active : Option ℕ
    active = before.desk.windows.desk.active

    by_word : (w : Result ℕ Refusal) → TellsOfAnother n (Next mask) (with_word w before.events (λ m. (Ok (told_next m active step.update before.events), after_telling m active before.events)))
    by_word (Ok m) = next_of_another n m before.events.told active step.update before.events.queue.events (never_told n before h floats) (never_active n before h floats) h.queued
    by_word (Err e) = All-nil (IsOfAnother n)
event_tells_another n (Post p) answer before after h floats step = All-nil (IsOfAnother n)
event_tells_another n (Avail mask) answer before after h floats step = All-nil (IsOfAnother n)
event_tells_another n (Flush f) answer before after h floats step = All-nil (IsOfAnother n)
event_tells_another n (SetMask mask) answer before after h floats step = All-nil (IsOfAnother n)

abbrev AllToldOfOthers : Call → Result Reply Refusal → ToolboxState → ToolboxState → Type 0
AllToldOfOthers call answer before after = (n : ℕ) → IsConsistent before → IsOfClass true n before.desk.windows.desk.windows → All (IsOfAnother n) (activate_event_told call answer)

-- a refused call tells nothing
refused_tells_none : (call : Call) (e : Refusal) → activate_event_told call (Err e) ≡ []
refused_tells_none (asks.Event (Next mask)) e = refl
refused_tells_none (asks.Event (Post p)) e = refl
refused_tells_none (asks.Event (Avail mask)) e = refl
refused_tells_none (asks.Event (Flush f)) e = refl
refused_tells_none (asks.Event (SetMask mask)) e = refl
refused_tells_none (asks.Window call) e = refl
refused_tells_none (asks.Update call) e = refl
refused_tells_none (asks.Frame call) e = refl
refused_tells_none (asks.Control call) e = refl
refused_tells_none (asks.List call) e = refl
refused_tells_none (asks.Text call) e = refl
refused_tells_none (asks.Menu call) e = refl
refused_tells_none (asks.Outline call) e = refl

each_tells_others : HoldsOfEach AllToldOfOthers
each_tells_others = record {
  unchanged = λ call e before after same n h floats. subst (All (IsOfAnother n)) (sym (refused_tells_none call e)) (All-nil (IsOfAnother n));
  covered = λ p before after same n h floats. All-nil (IsOfAnother n);
  hidden = λ p before after same n h floats. All-nil (IsOfAnother n);
  window = λ call answer before after may step n h floats. All-nil (IsOfAnother n);
  update = λ call answer before after may step rest n h floats. All-nil (IsOfAnother n);
  frame = λ call answer before after may step rest n h floats. All-nil (IsOfAnother n);
  control = λ call answer before after may step events lists texts menus n h floats. All-nil (IsOfAnother n);
  list = λ call answer before after may step events texts menus n h floats. All-nil (IsOfAnother n);
  text = λ call answer before after may step events controls lists menus n h floats. All-nil (IsOfAnother n);
  menu = λ call answer before after may step events controls lists texts n h floats. All-nil (IsOfAnother n);
  outline = λ call answer before after may step rest n h floats. All-nil (IsOfAnother n);
  moved = λ call move before after may step n h floats. All-nil (IsOfAnother n);
  event = λ call answer before after step n h floats. event_tells_another n call answer before after h floats step;
}

pub none_told_of_floating : (n : ℕ) (call : Call) (answer : Result Reply Refusal) (before after : ToolboxState) → IsConsistent before → IsStep call answer before after → IsOfClass true n before.desk.windows.desk.windows → All (λ e. e.message ≢ n) (activate_event_told call answer)
none_told_of_floating n call answer before after h step floats = of_step AllToldOfOthers each_tells_others call answer before after step n h floats

-- ---- a class is for good

class_counts : (floating : Bool) (n : ℕ) (ws : List WindowRecord) → IsOfClass floating n ws → 1 ≤ counted (of_class floating) n ws
class_counts floating n ws h = by_found (record_with n ws) refl h
  where
    by_found : (o : Option WindowRecord) → record_with n ws ≡ o → option_map is_floating o ≡ Some floating → 1 ≤ counted (of_class floating) n ws
    by_found None found e = absurd (cc)
    by_found (Some w) found e =
        let its : w.floating ≡ floating = cc in
        subst (λ (b : Bool). 1 ≤ counted (of_class b) n ws) its (found_of_class n ws w found)

another_is_apart : (o : Option ℕ) (n : ℕ) → o ≢ Some n → Apart o (Some n)
another_is_apart None n other = tt
another_is_apart (Some d) n other = by_same (d == n) refl
  where
    by_same : (b : Bool) → (d == n) ≡ b → (d == n) ≡ false
    by_same true e = absurd (other (ap Some (eqb-true d n e)))
    by_same false e = e

step_keeps_class : (floating : Bool) (n : ℕ) (call : Call) (answer : Result Reply Refusal) (before after : ToolboxState) → IsConsistent before → IsConsistent after → IsStep call answer before after → disposed_by call answer ≢ Some n → IsOfClass floating n before.desk.windows.desk.windows → IsOfClass floating n after.desk.windows.desk.windows
step_keeps_class floating n call answer before after was now step other h =
    let recount = (one_step call answer before after (stands before was) step).recount in
    let numbered = right_is_numbered after.desk.windows now.right in
    let ws = after.desk.windows.desk.windows in
    counted_of_class floating n ws (distinct_counts numbered.look n ws numbered.distinct)
    (stays (of_class floating) (disposed_by call answer) (Some n) before.desk.windows.desk after.desk.windows.desk recount
    (another_is_apart (disposed_by call answer) n other) (class_counts floating n before.desk.windows.desk.windows h))

pub class_is_for_good : (floating : Bool) (n : ℕ) (first last : ToolboxState) (calls : List Call) (answers : List (Result Reply Refusal)) → IsConsistent first → IsRunOfCalls first calls answers last → IsNeverDisposed n calls answers
    → IsOfClass floating n first.desk.windows.desk.windows → IsOfClass floating n last.desk.windows.desk.windows
class_is_for_good floating n first last [] [] was run never h = subst (λ (s : ToolboxState). IsOfClass floating n s.desk.windows.desk.windows) (sym run) h
class_is_for_good floating n first last [] (answer ∷ answers) was run never h = absurd run
class_is_for_good floating n first last (call ∷ calls) [] was run never h = absurd run
class_is_for_good floating n first last (call ∷ calls) (answer ∷ answers) was run never h =
    let now = step_keeps_consistent call answer first run.0 was run.1 in
    class_is_for_good floating n run.0 last calls answers now run.2 never.1
    (step_keeps_class floating n call answer first run.0 was now run.1 never.0 h)
