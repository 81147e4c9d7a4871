-- Rows of steps of three kinds, and what they tell.
use Rattle.std.specs.Prelude.{ℕ, ◌≡◌, ◌≢◌, Bool, false, not, if◌then◌else◌, nat_eq, List, [], ◌∷◌, ◌++◌, Option, None, Some}
use Rattle.event_queue.specs.declared.event.Event.{Event}
use Rattle.event_queue.specs.Events.{is_activation}
use Rattle.event_queue.specs.Telling.{activate_events, first_event, told_from, forgotten}

-- a window, or none, becomes active; a window is disposed of; the first activate event, if there is one, is told
pub data Step : Type 0 where
  BecomesActive : (window : Option ℕ) → Step
  IsDisposed : (window : ℕ) → Step
  Tells : Step

-- no step makes the window active
abbrev pub NeverActive : ℕ → List Step → Type 0
NeverActive w [] = Unit {0}
NeverActive w (BecomesActive a ∷ steps) = (a ≢ Some w) × NeverActive w steps
NeverActive w (IsDisposed x ∷ steps) = NeverActive w steps
NeverActive w (Tells ∷ steps) = NeverActive w steps

-- no step disposes of the window
abbrev pub NeverDisposed : ℕ → List Step → Type 0
NeverDisposed w [] = Unit {0}
NeverDisposed w (BecomesActive a ∷ steps) = NeverDisposed w steps
NeverDisposed w (IsDisposed x ∷ steps) = (x ≢ w) × NeverDisposed w steps
NeverDisposed w (Tells ∷ steps) = NeverDisposed w steps

-- from this active window on: a window that is disposed of is not active then or later
abbrev pub IsHistory : Option ℕ → List Step → Type 0
IsHistory active [] = Unit {0}
IsHistory active (BecomesActive a ∷ steps) = IsHistory a steps
IsHistory active (IsDisposed w ∷ steps) = (active ≢ Some w) × NeverActive w steps × IsHistory active steps
IsHistory active (Tells ∷ steps) = IsHistory active steps

-- an event, or none
abbrev pub event_list : Option Event → List Event
event_list None = []
event_list (Some e) = e ∷ []

-- the events that the steps tell, in their order, from this window told and this one active
abbrev pub telling : Option ℕ → Option ℕ → List Step → List Event
telling told active [] = []
telling told active (BecomesActive a ∷ steps) = telling told a steps
telling told active (IsDisposed w ∷ steps) = telling (forgotten w told) active steps
telling told active (Tells ∷ steps) =
    event_list (first_event (activate_events told active)) ++ telling (told_from told (first_event (activate_events told active))) active steps

-- what events say of a window, in their order: that it became active, or that it is active no more
abbrev pub told_of : ℕ → List Event → List Bool
told_of w [] = []
told_of w (e ∷ events) = if nat_eq e.message w then is_activation e ∷ told_of w events else told_of w events

-- the first is `next`, and each further one is the other than that before it
abbrev pub Alternates : Bool → List Bool → Type 0
Alternates next [] = Unit {0}
Alternates next (b ∷ bs) = (b ≡ next) × Alternates (not next) bs

-- the last of them; `before` where there is none
abbrev pub last_told : Bool → List Bool → Bool
last_told before [] = before
last_told before (b ∷ bs) = last_told b bs

-- whether events told a window active, and did not tell since that it is so no more
abbrev pub is_told_active : ℕ → List Event → Bool
is_told_active w events = last_told false (told_of w events)
