-- The line of what is answered about events.
use Rattle.std.specs.Prelude.{ℕ, not, List, ◌++◌, codes, decimal}
use Rattle.std.specs.Fmt.{signed_decimal}
use Rattle.desk_call.specs.declared.event.EventReply.{EventReply}
use Rattle.desk_call.specs.declared.event.EventReply.TheVariants.{Done, Posted, Told}
use Rattle.event_queue.specs.declared.event.Event.{Event}
use Rattle.event_queue.specs.Events.{number_of}
use Rattle.line_words.specs.Replies.{done_text, number_text, flag_number}

-- an event: its code, message, time, the column and row of the mouse, and modifier flags
abbrev pub event_text : Event → List ℕ
event_text event =
    codes "ok " ++ (decimal (number_of event.what) ++ (codes " " ++ (decimal event.message ++ (codes " " ++ (decimal event.when
    ++ (codes " " ++ (signed_decimal event.h ++ (codes " " ++ (signed_decimal event.v
    ++ (codes " " ++ (decimal event.modifiers ++ codes "\n")))))))))))

-- what was answered; an event that was to be posted: 0 where it was queued, and 1 where the system event mask did not
-- select it
abbrev pub event_reply_text : EventReply → List ℕ
event_reply_text Done = done_text
event_reply_text (Posted queued) = number_text (flag_number (not queued))
event_reply_text (Told event) = event_text event
