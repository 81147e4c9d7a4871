use Rattle.std.proofs.Common.{◌≡◌, ◌≤◌, ◌*◌}
use Rattle.bit_map.specs.Bits.{bit}
use Rattle.def_iface.specs.contracts.taken_window.TakenWindowDefined.TheImpl as taken
use Rattle.def_iface.specs.contracts.taken_control.TakenControlDefined.TheImpl as taken_control
use Rattle.def_iface.specs.contracts.taken_list.TakenListDefined.TheImpl as taken_list
use Rattle.def_iface.specs.contracts.taken_menu.TakenMenuDefined.TheImpl as taken_menu
use Rattle.desk_toolbox.specs.WholeToolbox.{toolbox_state}
use Rattle.scratch_paint.specs.Differences.{differences_of}
use Rattle.desk_toolbox.specs.Boxed.{no_slots}
use Rattle.scratch_paint.proofs.difference.differences_from.Given as goal

abbrev pub invariant-loop-row : goal.invariant-loop-row
invariant-loop-row g l = record {
  counted : l.count ≡ differences_of (toolbox_state (taken.loan-value g.dyn-1).it (taken_menu.loan-value g.dyn-3).it (taken_control.loan-value g.dyn-2).it (taken_list.loan-value g.dyn-4).it l.fn.toolbox no_slots) (bit l.fn.painted) l.fn.painted.width l.row;
  few : l.count ≤ l.fn.painted.width * l.row;
}
