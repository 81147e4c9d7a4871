-- The queue of posted events, and what is answered of it.
use Rattle.std.specs.Prelude.{ℕ, ◌≡◌, ◌≤◌, Bool, if◌then◌else◌, nat_lt, List, [], ◌∷◌, ◌++◌, length, drop, Option, None, Some}
use Rattle.std.specs.List.{find}
use Rattle.event_queue.specs.declared.event.Event.{Event}
use Rattle.event_queue.specs.Events.{is_selected, null_event, update_event}
use Rattle.event_queue.specs.Telling.{activate_events, told_from}

-- the events in the order in which they were posted, and the system event mask, which says what is queued
pub record Queue : Type 0 where
  pub events : List Event
  pub system_mask : ℕ

-- there is room for 20 events, and there are no more
pub record IsBounded (events : List Event) (capacity : ℕ) : Type 0 where
  pub room : capacity ≡ 20
  pub within : length events ≤ 20

-- one event more; where there are 20 the oldest is dropped
unfoldable pub added : List Event → Event → List Event
added events e = if nat_lt (length events) 20 then events ++ e ∷ [] else drop 1 events ++ e ∷ []

-- an event that the system mask does not select is not queued
abbrev pub posted : ℕ → List Event → Event → List Event
posted system_mask events e = if is_selected system_mask e then added events e else events

-- without the first event of a mask
abbrev pub without_first : (Event → Bool) → List Event → List Event
without_first test [] = []
without_first test (e ∷ events) = if test e then events else e ∷ without_first test events

-- without the events of a mask, up to the first one of the stop mask, which stays
abbrev pub flushed : (Event → Bool) → (Event → Bool) → List Event → List Event
flushed test stop [] = []
flushed test stop (e ∷ events) = if stop e then e ∷ events else if test e then flushed test stop events else e ∷ flushed test stop events

-- the update event of the first window that is to be updated, if there is one
abbrev pub update_events : Option ℕ → List Event
update_events None = []
update_events (Some w) = update_event w ∷ []

-- all that waits to be told, in its order: activate events, queued events, the update event
abbrev pub waiting : Option ℕ → Option ℕ → List Event → Option ℕ → List Event
waiting told active events update = activate_events told active ++ (events ++ update_events update)

-- an event, or the null event
abbrev pub event_or_null : Option Event → Event
event_or_null None = null_event
event_or_null (Some e) = e

-- the event that is answered: of those that wait the first that the mask selects; the null event where there is none
abbrev pub next_event : ℕ → Option ℕ → Option ℕ → List Event → Option ℕ → Event
next_event mask told active events update = event_or_null (find (is_selected mask) (waiting told active events update))

-- the window last told active, once the event was answered
abbrev pub told_after : ℕ → Option ℕ → Option ℕ → Option ℕ
told_after mask told active = told_from told (find (is_selected mask) (activate_events told active))

-- a queued event that is answered is taken out: the first one of the mask, where no activate event goes before it
abbrev pub events_from : ℕ → List Event → Option Event → List Event
events_from mask events None = without_first (is_selected mask) events
events_from mask events (Some activate) = events

-- the queued events, once the event was answered
abbrev pub events_after : ℕ → Option ℕ → Option ℕ → List Event → List Event
events_after mask told active events = events_from mask events (find (is_selected mask) (activate_events told active))
