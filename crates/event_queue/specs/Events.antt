-- Events, and which of them a mask selects.
use Rattle.std.specs.Prelude.{ℕ, ◌/◌, ◌%◌, ◌^◌, pos, Bool, true, false, nat_eq, List, [], ◌∷◌, Option}
use Rattle.std.specs.List.{find}
use Rattle.event_queue.specs.declared.event.Event.{Event}
use Rattle.event_queue.specs.declared.event.EventKind.{EventKind}
use Rattle.event_queue.specs.declared.event.EventKind.TheVariants.{Null, MouseDown, MouseUp, KeyDown, KeyUp, Update, Activate}

-- the event code of a kind of events
abbrev pub number_of : EventKind → ℕ
number_of Null = 0
number_of MouseDown = 1
number_of MouseUp = 2
number_of KeyDown = 3
number_of KeyUp = 4
number_of Update = 6
number_of Activate = 8

abbrev pub kinds : List EventKind
kinds = Null ∷ MouseDown ∷ MouseUp ∷ KeyDown ∷ KeyUp ∷ Update ∷ Activate ∷ []

-- the kind with this event code
abbrev pub kind_of : ℕ → Option EventKind
kind_of code = find (λ k. nat_eq (number_of k) code) kinds

-- the kinds that are posted: those with the codes 1 .. 4
abbrev pub is_posted : EventKind → Bool
is_posted Null = false
is_posted MouseDown = true
is_posted MouseUp = true
is_posted KeyDown = true
is_posted KeyUp = true
is_posted Update = false
is_posted Activate = false

-- a mask selects the kinds whose bits are set in it: bit n, from the lowest on, is that of the kind with the code n
unfoldable pub selects : ℕ → EventKind → Bool
selects mask kind = nat_eq (mask / 2 ^ number_of kind % 2) 1

-- whether a mask selects an event
abbrev pub is_selected : ℕ → Event → Bool
is_selected mask e = selects mask e.what

-- the event that says that there is none: 0 throughout
abbrev pub null_event : Event
null_event = record { what = Null; message = 0; when = 0; h = pos 0; v = pos 0; modifiers = 0 }

-- a window is to be updated
abbrev pub update_event : ℕ → Event
update_event w = record { what = Update; message = w; when = 0; h = pos 0; v = pos 0; modifiers = 0 }

-- a window became active
abbrev pub activation : ℕ → Event
activation w = record { what = Activate; message = w; when = 0; h = pos 0; v = pos 0; modifiers = 1 }

-- a window is active no more
abbrev pub deactivation : ℕ → Event
deactivation w = record { what = Activate; message = w; when = 0; h = pos 0; v = pos 0; modifiers = 0 }

-- of an activate event: whether it says that the window became active
abbrev pub is_activation : Event → Bool
is_activation e = nat_eq e.modifiers 1
