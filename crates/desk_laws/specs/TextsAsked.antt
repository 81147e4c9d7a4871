-- Calls that ask for a text record.
use Rattle.std.specs.Prelude.{Bool, true, false}
use Rattle.desk_call.specs.declared.call.Call.{Call}
use Rattle.desk_call.specs.declared.call.Call.TheVariants.{Text}
use Rattle.desk_call.specs.declared.text.TextCall.TheVariants.{New}

-- the call asks for a new text record
abbrev pub asks_for_text : Call → Bool
asks_for_text (Text (New n)) = true
asks_for_text _ = false
