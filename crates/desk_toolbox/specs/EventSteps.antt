-- What a call about events answers, and what it leaves.
use Rattle.std.specs.Prelude.{ℕ, ℤ, pos, nat_abs, int_le, Bool, ◌&&◌, if◌then◌else◌, List, [], Option, None, Some, Result, Ok, Err}
use Rattle.std.specs.Option.{option_map}
use Rattle.tb_geom.specs.declared.refusal.Refusal.{Refusal}
use Rattle.tb_geom.specs.declared.refusal.Refusal.TheVariants.{OutOfRange}
use Rattle.tb_geom.specs.Rects.{in_plane}
use Rattle.event_queue.specs.declared.event.Event.{Event}
use Rattle.event_queue.specs.declared.event.EventKind.{EventKind}
use Rattle.event_queue.specs.Events.{kind_of, is_posted, is_selected}
use Rattle.event_queue.specs.Queues.{posted, flushed, next_event, told_after, events_after}
use Rattle.event_queue.specs.Telling.{forgotten}
use Rattle.desk_call.specs.declared.event.EventCall.{EventCall}
use Rattle.desk_call.specs.declared.event.EventCall.TheVariants.{Post, Next, Avail, Flush, SetMask}
use Rattle.desk_call.specs.declared.event.EventReply.{EventReply}
use Rattle.desk_call.specs.declared.event.EventReply.TheVariants.{Done, Posted, Told}
use Rattle.desk_call.specs.declared.event.PostEvent.{PostEvent}
use Rattle.desk_call.specs.declared.window.WindowCall.{WindowCall}
use Rattle.desk_call.specs.declared.window.WindowCall.TheVariants.{Dispose}
use Rattle.desk_toolbox.specs.declared.events.Events.{Events}

-- ---- the numbers of a call

-- an event code, an event mask, a message or modifiers
abbrev pub is_word : ℤ → Bool
is_word z = int_le (pos 0) z && int_le z (pos 65535)

-- a time, in ticks
abbrev pub is_time : ℤ → Bool
is_time z = int_le (pos 0) z && int_le z (pos 999999999)

abbrev pub is_in_ranges : PostEvent → Bool
is_in_ranges p = is_word p.kind && (is_word p.message && (is_word p.modifiers && (is_time p.when && in_plane p.place)))

-- the event of a kind with these numbers
abbrev pub event_of : PostEvent → EventKind → Event
event_of p k = record {
  what = k;
  message = nat_abs p.message;
  when = nat_abs p.when;
  h = p.place.h;
  v = p.place.v;
  modifiers = nat_abs p.modifiers;
}

-- the event that is to be posted; none where a number lies outside its range, or no kind has the code
abbrev pub asked_event : PostEvent → Option Event
asked_event p = if is_in_ranges p then option_map (event_of p) (kind_of (nat_abs p.kind)) else None

-- ---- the steps: the answer, and the events of the desk after it

abbrev pub EventStep : Type 0
EventStep = Result EventReply Refusal × Events

-- a refused call changes nothing
abbrev pub refused : Events → EventStep
refused before = (Err OutOfRange, before)

-- what a number stands for that has to be a word
abbrev pub word_of : ℤ → Result ℕ Refusal
word_of z = if is_word z then Ok (nat_abs z) else Err OutOfRange

-- a step by a number that has to be a word
abbrev pub with_word : Result ℕ Refusal → Events → (ℕ → EventStep) → EventStep
with_word (Ok m) before step = step m
with_word (Err e) before step = (Err e, before)

abbrev pub by_word : ℤ → Events → (ℕ → EventStep) → EventStep
by_word z before step = with_word (word_of z) before step

-- these are queued then
abbrev pub with_queued : List Event → Events → Events
with_queued queued before = record before { queue = record before.queue { events = queued } }

-- an event is posted, if events of its kind are
abbrev pub posting : Option Event → Events → EventStep
posting None before = refused before
posting (Some e) before =
    if is_posted e.what
    then (Ok (Posted (is_selected before.queue.system_mask e)), with_queued (posted before.queue.system_mask before.queue.events e) before)
    else refused before

-- the event that is told next, where this window is active, and this one is to be updated first
abbrev pub told_next : ℕ → Option ℕ → Option ℕ → Events → EventReply
told_next mask active update before = Told (next_event mask before.told active before.queue.events update)

-- what is left once it was told
abbrev pub after_telling : ℕ → Option ℕ → Events → Events
after_telling mask active before =
    record (with_queued (events_after mask before.told active before.queue.events) before) { told = told_after mask before.told active }

abbrev pub event_step : EventCall → Option ℕ → Option ℕ → Events → EventStep
event_step (Post p) active update before = posting (asked_event p) before
event_step (Next mask) active update before = by_word mask before (λ m. (Ok (told_next m active update before), after_telling m active before))
event_step (Avail mask) active update before = by_word mask before (λ m. (Ok (told_next m active update before), before))
event_step (Flush f) active update before =
    by_word f.mask before (λ m. by_word f.stop before (λ stop.
    (Ok Done, with_queued (flushed (is_selected m) (is_selected stop) before.queue.events) before)))
event_step (SetMask mask) active update before = by_word mask before (λ m. (Ok Done, record before { queue = record before.queue { system_mask = m } }))

-- ---- the events of the desk, apart from these calls

-- at the beginning: no event is queued, the system event mask selects all kinds but key-up, and no window was told active
abbrev pub first_events : Events
first_events = record { queue = record { events = []; system_mask = 65519 }; told = None }

-- after a window was disposed of: it is forgotten, and that it is active no more is never told
abbrev pub without_window : ℕ → Events → Events
without_window w before = record before { told = forgotten w before.told }

-- after a call on windows that was done
abbrev pub events_left : WindowCall → Events → Events
events_left (Dispose w) before = without_window w before
events_left _ before = before
