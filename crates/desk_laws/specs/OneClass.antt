-- Windows as a script of version 1 has them.
use Rattle.std.specs.Prelude.{◌≡◌, Bool, true, false, List, All}
use Rattle.desk_call.specs.declared.call.Call.{Call}
use Rattle.desk_call.specs.declared.call.Call.TheVariants.{Window}
use Rattle.desk_call.specs.declared.window.WindowCall.TheVariants.{NewFloating}
use Rattle.vis_update.specs.Records.{WindowRecord}

-- none of them floats
abbrev pub AreOrdinary : List WindowRecord → Type 0
AreOrdinary ws = All (λ w. w.floating ≡ false) ws

-- the call asks for a window that floats
abbrev pub asks_to_float : Call → Bool
asks_to_float (Window (NewFloating w)) = true
asks_to_float _ = false
