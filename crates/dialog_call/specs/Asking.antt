-- Which calls about the items of dialogs ask: they leave all as it is.
use Rattle.std.specs.Prelude.{Bool, true, false}
use Rattle.dialog_call.specs.declared.calls.DialogCall.{DialogCall}
use Rattle.dialog_call.specs.declared.calls.DialogCall.TheVariants.{Get, Info, Find}

abbrev pub asks : DialogCall → Bool
asks (Get i) = true
asks (Info s) = true
asks (Find p) = true
asks _ = false
