-- The numbers of a control's setting, and the calls that set them.
use Rattle.std.specs.Prelude.{ℤ, Bool, ◌&&◌, int_le}
use Rattle.control_values.specs.Settings.{Setting, is_in_range, settled}
use Rattle.desk_call.specs.declared.control.ControlCall.{ControlCall}
use Rattle.desk_call.specs.declared.control.ControlCall.TheVariants.{SetMaximum, SetMinimum, SetValue}
use Rattle.desk_call.specs.declared.control.ControlNumber.{ControlNumber}
use Rattle.control_mgr.specs.declared.setting.WhichNumber.{WhichNumber}
use Rattle.control_mgr.specs.declared.setting.WhichNumber.TheVariants.{Maximum, Minimum, Value}

-- the call that sets a number
abbrev pub call_of : WhichNumber → ControlNumber → ControlCall
call_of Value n = SetValue n
call_of Minimum n = SetMinimum n
call_of Maximum n = SetMaximum n

-- whether a setting may have that number
abbrev pub may_have_number : WhichNumber → ℤ → Setting → Bool
may_have_number Value n s = is_in_range n
may_have_number Minimum n s = is_in_range n && int_le n s.maximum
may_have_number Maximum n s = is_in_range n && int_le s.minimum n

-- the setting with that number, by which its value is moved between the other two
abbrev pub with_number : WhichNumber → ℤ → Setting → Setting
with_number Value n s = settled s.minimum s.maximum n
with_number Minimum n s = settled n s.maximum s.value
with_number Maximum n s = settled s.minimum n s.value
