use Rattle.std.proofs.Common.{rules}
use Rattle.control_values.specs.Settings.{is_in_range}
use Rattle.def_iface.proofs.control_keeping.KeptControl.new.Goals as goal

pub unwrap-requires-2 : goal.unwrap-requires-2
unfolding is_in_range
unwrap-requires-2 c = search (rules, c.new-2.ensures.in_range)
