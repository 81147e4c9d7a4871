-- The words of the commands for events.
use Rattle.desk_call.specs.declared.event.EventCall.{EventCall}
use Rattle.desk_call.specs.declared.event.EventCall.TheVariants as calls
use Rattle.line_words.specs.Shapes.{Shape, says, number, point}
use Rattle.command_words.specs.declared.events.EventVerb.{EventVerb}
use Rattle.command_words.specs.declared.events.EventVerb.TheVariants as verbs

-- KIND message when h v modifiers
abbrev pub post_shape : Shape EventCall
post_shape = number (λ kind. number (λ message. number (λ when. point (λ place. number (λ modifiers.
    says (calls.Post (record { kind = kind; message = message; when = when; place = place; modifiers = modifiers })))))))

-- MASK STOP
abbrev pub flush_shape : Shape EventCall
flush_shape = number (λ mask. number (λ stop. says (calls.Flush (record { mask = mask; stop = stop }))))

-- the words that follow a first word, and what they ask
unfoldable pub event_shape : EventVerb → Shape EventCall
event_shape verbs.Post = post_shape
event_shape verbs.Next = number (λ mask. says (calls.Next mask))
event_shape verbs.Avail = number (λ mask. says (calls.Avail mask))
event_shape verbs.Flush = flush_shape
event_shape verbs.SetMask = number (λ mask. says (calls.SetMask mask))
