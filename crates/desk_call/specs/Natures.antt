-- What kind of call it is, as far as the desk asks before or after a manager performs it.
use Rattle.std.specs.Prelude.{ℕ, Option, None, Some}
use Rattle.desk_call.specs.declared.activity.Standing.{Standing}
use Rattle.desk_call.specs.declared.call.Call.{Call}
use Rattle.desk_call.specs.declared.call.Call.TheVariants.{Window, Control}
use Rattle.desk_call.specs.declared.control.ControlCall.{ControlCall}
use Rattle.desk_call.specs.declared.control.ControlCall.TheVariants as controls
use Rattle.desk_call.specs.declared.nature.Asked.{Asked}
use Rattle.desk_call.specs.declared.nature.Asked.TheVariants.{Nothing, WindowAt, ControlAt}
use Rattle.desk_call.specs.declared.nature.Asked.TheVariants as asked
use Rattle.desk_call.specs.declared.nature.Nature.{Nature}
use Rattle.desk_call.specs.declared.window.WindowCall.{WindowCall}
use Rattle.desk_call.specs.declared.window.WindowCall.TheVariants.{Dispose, Find, VisibleRegion, UpdateRegion}
use Rattle.desk_call.specs.Gates.{control_standing, standing_of, window_standing}

-- the window that is gone once the call was done
abbrev pub window_ends : WindowCall → Option ℕ
window_ends (Dispose s) = Some s
window_ends _ = None

-- what a call asks for that something in front of the windows may answer: a point of the screen, a point of a window, or a region
abbrev pub window_asks : WindowCall → Asked
window_asks (Find p) = WindowAt p
window_asks (VisibleRegion s) = asked.VisibleRegion s
window_asks (UpdateRegion s) = asked.UpdateRegion s
window_asks _ = Nothing

abbrev pub control_asks : ControlCall → Asked
control_asks (controls.Find p) = ControlAt p
control_asks _ = Nothing

-- a call of this standing, and no more than that
abbrev pub plain : Standing → Nature
plain standing = record { standing = standing; ends = None; asks = Nothing }

abbrev pub window_nature : WindowCall → Nature
window_nature call = record { standing = window_standing call; ends = window_ends call; asks = window_asks call }

abbrev pub control_nature : ControlCall → Nature
control_nature call = record (plain (control_standing call)) { asks = control_asks call }

-- of any call
abbrev pub ends_of : Call → Option ℕ
ends_of (Window call) = window_ends call
ends_of _ = None

abbrev pub asked_of : Call → Asked
asked_of (Window call) = window_asks call
asked_of (Control call) = control_asks call
asked_of _ = Nothing

abbrev pub nature_of : Call → Nature
nature_of call = record { standing = standing_of call; ends = ends_of call; asks = asked_of call }
