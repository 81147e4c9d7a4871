-- What a run tells of active windows, and which windows it disposes of.
use Rattle.std.specs.Prelude.{◌≢◌, ℕ, Bool, true, false, if◌then◌else◌, List, [], ◌∷◌, ◌++◌, Option, None, Some, Result, Ok}
use Rattle.tb_geom.specs.declared.refusal.Refusal.{Refusal}
use Rattle.event_queue.specs.declared.event.Event.{Event}
use Rattle.event_queue.specs.declared.event.EventKind.{EventKind}
use Rattle.event_queue.specs.declared.event.EventKind.TheVariants.{Activate}
use Rattle.desk_call.specs.declared.call.Call.{Call}
use Rattle.desk_call.specs.declared.call.Call.TheVariants as asks
use Rattle.desk_call.specs.declared.call.Reply.{Reply}
use Rattle.desk_call.specs.declared.call.Reply.TheVariants as reply
use Rattle.desk_call.specs.declared.event.EventCall.TheVariants.{Next}
use Rattle.desk_call.specs.declared.event.EventReply.TheVariants.{Told}
use Rattle.desk_call.specs.declared.window.WindowCall.{WindowCall}
use Rattle.desk_call.specs.declared.window.WindowCall.TheVariants.{Dispose}

abbrev pub is_activate : EventKind → Bool
is_activate Activate = true
is_activate _ = false

-- the event, if it is an activate event
abbrev pub if_activate : Event → List Event
if_activate e = if is_activate e.what then e ∷ [] else []

-- the activate event that this call told, if it told one; a call that only looks for an event leaves it to be told
abbrev pub activate_event_told : Call → Result Reply Refusal → List Event
activate_event_told (asks.Event (Next mask)) (Ok (reply.Event (Told e))) = if_activate e
activate_event_told _ _ = []

-- the activate events that a run told, in their order
abbrev pub activate_events_told : List Call → List (Result Reply Refusal) → List Event
activate_events_told (call ∷ calls) (answer ∷ answers) = activate_event_told call answer ++ activate_events_told calls answers
activate_events_told _ _ = []

-- the window that this call is to dispose of, if one is
abbrev pub to_dispose : WindowCall → Option ℕ
to_dispose (Dispose w) = Some w
to_dispose _ = None

-- the window that this call disposed of, if it did
abbrev pub disposed_by : Call → Result Reply Refusal → Option ℕ
disposed_by (asks.Window call) (Ok answer) = to_dispose call
disposed_by _ _ = None

-- no call of a run disposed of this window
abbrev pub IsNeverDisposed : ℕ → List Call → List (Result Reply Refusal) → Type 0
IsNeverDisposed w (call ∷ calls) (answer ∷ answers) = (disposed_by call answer ≢ Some w) × IsNeverDisposed w calls answers
IsNeverDisposed w _ _ = Unit {0}
