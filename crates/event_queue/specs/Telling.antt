-- What is told of the active window. `told` is the window that was last told active, and `active` the active one.
use Rattle.std.specs.Prelude.{ℕ, Bool, false, if◌then◌else◌, nat_eq, List, [], ◌∷◌, Option, None, Some}
use Rattle.event_queue.specs.declared.event.Event.{Event}
use Rattle.event_queue.specs.Events.{activation, deactivation, is_activation}

-- the activate events that are still to be told, in their order
abbrev pub activate_events : Option ℕ → Option ℕ → List Event
activate_events None None = []
activate_events None (Some a) = activation a ∷ []
activate_events (Some t) None = deactivation t ∷ []
activate_events (Some t) (Some a) = if nat_eq t a then [] else deactivation t ∷ activation a ∷ []

-- the window that is told active once an activate event was told
abbrev pub told_by : Event → Option ℕ
told_by e = if is_activation e then Some e.message else None

-- the first of some events, if there is one
abbrev pub first_event : List Event → Option Event
first_event [] = None
first_event (e ∷ events) = Some e

-- the window last told active, once this activate event was told, or none was
abbrev pub told_from : Option ℕ → Option Event → Option ℕ
told_from told None = told
told_from told (Some e) = told_by e

-- whether a window, or none, is the window w
abbrev pub is_window : ℕ → Option ℕ → Bool
is_window w None = false
is_window w (Some t) = nat_eq t w

-- the window last told active, once the window w was disposed of: it is forgotten, and its deactivation is never told
abbrev pub forgotten : ℕ → Option ℕ → Option ℕ
forgotten w told = if is_window w told then None else told
