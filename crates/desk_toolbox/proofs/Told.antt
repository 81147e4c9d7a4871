-- Calls about events: what is queued, which window was last told active, and which activate event is told.
use Rattle.std.proofs.Common.{◌≡◌, ℕ, nat_lt, Bool, true, false, if◌then◌else◌, List, [], ◌∷◌, ◌++◌, length, drop, Option, None, Some, Result, Ok, Err, refl}
use Rattle.std.proofs.lemmas.List.Elements.{All-cons, All-head, All-tail, All-push, All-drop}
use Rattle.std.specs.List.{find}
use Rattle.std.specs.Prelude.{All}
use Rattle.tb_geom.specs.declared.refusal.Refusal.{Refusal}
use Rattle.tb_geom.specs.declared.refusal.Refusal.TheVariants.{OutOfRange}
use Rattle.event_queue.specs.declared.event.Event.{Event}
use Rattle.event_queue.specs.Events.{is_posted, is_selected}
use Rattle.event_queue.specs.Queues.{added, posted, without_first, flushed, events_from}
use Rattle.event_queue.specs.Telling.{activate_events}
use Rattle.desk_call.specs.declared.event.EventCall.{EventCall}
use Rattle.desk_call.specs.declared.event.EventCall.TheVariants.{Post, Next, Avail, Flush, SetMask}
use Rattle.desk_call.specs.declared.event.EventReply.TheVariants.{Posted}
use Rattle.desk_toolbox.specs.declared.events.Events.{Events}
use Rattle.desk_toolbox.specs.EventSteps.{EventStep, word_of, with_word, asked_event, posting, told_next, after_telling, event_step, with_queued}

-- ---- what is queued

-- these are events that were posted
abbrev pub ArePosted : List Event → Type 0
ArePosted events = All (λ (e : Event). is_posted e.what ≡ true) events

abbrev pub IsPosted : Event → Type 0
IsPosted e = is_posted e.what ≡ true

added_are_posted : (events : List Event) (e : Event) → is_posted e.what ≡ true → ArePosted events → ArePosted (added events e)
unfolding added
added_are_posted events e this h = by_room (nat_lt (length events) 20)
  where
    by_room : (b : Bool) → ArePosted (if b then events ++ e ∷ [] else drop 1 events ++ e ∷ [])
    by_room true = All-push IsPosted events e h this
    by_room false = All-push IsPosted (drop 1 events) e (All-drop IsPosted 1 events h) this

without_are_posted : (test : Event → Bool) (events : List Event) → ArePosted events → ArePosted (without_first test events)
without_are_posted test [] h = h
without_are_posted test (e ∷ events) h = by_test (test e) (without_are_posted test events (All-tail IsPosted e events h))
  where
    by_test : (b : Bool) → ArePosted (without_first test events) → ArePosted (if b then events else e ∷ without_first test events)
    by_test true rest = All-tail IsPosted e events h
    by_test false rest = All-cons IsPosted e (without_first test events) (All-head IsPosted e events h) rest

flushed_are_posted : (test stop : Event → Bool) (events : List Event) → ArePosted events → ArePosted (flushed test stop events)
flushed_are_posted test stop [] h = h
flushed_are_posted test stop (e ∷ events) h = by_stop (stop e) (test e) (flushed_are_posted test stop events (All-tail IsPosted e events h))
  where
    by_stop : (b c : Bool) → ArePosted (flushed test stop events) → ArePosted (if b then e ∷ events else if c then flushed test stop events else e ∷ flushed test stop events)
    by_stop true c rest = h
    by_stop false true rest = rest
    by_stop false false rest = All-cons IsPosted e (flushed test stop events) (All-head IsPosted e events h) rest

left_are_posted : (mask : ℕ) (events : List Event) (o : Option Event) → ArePosted events → ArePosted (events_from mask events o)
left_are_posted mask events None h = without_are_posted (is_selected mask) events h
left_are_posted mask events (Some e) h = h

-- the queue that a step leaves
abbrev QueueOf : EventStep → Type 0
QueueOf x = ArePosted x.1.queue.events

by_word_posted : (w : Result ℕ Refusal) (before : Events) (step : ℕ → EventStep) → ArePosted before.queue.events → ((m : ℕ) → QueueOf (step m)) → QueueOf (with_word w before step)
by_word_posted (Ok m) before step h each = each m
by_word_posted (Err e) before step h each = h

posting_posted : (o : Option Event) (before : Events) → ArePosted before.queue.events → QueueOf (posting o before)
posting_posted None before h = h
posting_posted (Some e) before h = by_posted (is_posted e.what) refl
  where
    by_selected : (b : Bool) → is_posted e.what ≡ true → ArePosted (if b then added before.queue.events e else before.queue.events)
    by_selected true is = added_are_posted before.queue.events e is h
    by_selected false is = h

    by_posted : (b : Bool) → is_posted e.what ≡ b → QueueOf (if b then (Ok (Posted (is_selected before.queue.system_mask e)), with_queued (posted before.queue.system_mask before.queue.events e) before) else (Err OutOfRange, before))
    by_posted true is = by_selected (is_selected before.queue.system_mask e) is
    by_posted false is = h

pub step_are_posted : (call : EventCall) (active update : Option ℕ) (before : Events) → ArePosted before.queue.events → ArePosted (event_step call active update before).1.queue.events
step_are_posted (Post p) active update before h = posting_posted (asked_event p) before h
step_are_posted (Next mask) active update before h = by_word_posted (word_of mask) before (λ m. (Ok (told_next m active update before), after_telling m active before)) h (λ m. left_are_posted m before.queue.events (find (is_selected m) (activate_events before.told active)) h)
step_are_posted (Avail mask) active update before h = by_word_posted (word_of mask) before (λ m. (Ok (told_next m active update before), before)) h (λ m. h)
step_are_posted (Flush f) active update before h = by_word_posted (word_of f.mask) before _ h (λ m. by_word_posted (word_of f.stop) before _ h (λ stop. flushed_are_posted (is_selected m) (is_selected stop) before.queue.events h))
step_are_posted (SetMask mask) active update before h = by_word_posted (word_of mask) before _ h (λ m. h)
