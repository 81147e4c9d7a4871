use Rattle.def_iface.specs.contracts.taken_window.TakenWindowDefined.TheImpl as taken
use Rattle.def_iface.specs.contracts.taken_control.TakenControlDefined.TheImpl as taken_control
use Rattle.def_iface.specs.contracts.taken_list.TakenListDefined.TheImpl as taken_list
use Rattle.def_iface.specs.contracts.taken_menu.TakenMenuDefined.TheImpl as taken_menu
use Rattle.desk_toolbox.specs.WholeToolbox.{toolbox_state}
use Rattle.desk_toolbox.specs.Boxed.{no_slots}
use Rattle.scratch_paint.proofs.DifferenceLemmas.{as_many_differ}
use Rattle.scratch_paint.proofs.difference.differences.Goals as goal

pub differences_from-requires-clause-large : goal.differences_from-requires-clause-large
differences_from-requires-clause-large g c = record { wide = c.in_ok-painted.ensures.wide; high = c.in_ok-painted.ensures.high }

pub returns : goal.returns
returns g c =
    as_many_differ (toolbox_state (taken.loan-value g.dyn-1).it (taken_menu.loan-value g.dyn-3).it (taken_control.loan-value g.dyn-2).it (taken_list.loan-value g.dyn-4).it c.args.toolbox.now no_slots) c.in_ok-painted.painted c.in_ok-painted.ensures c.differences_from.result c.differences_from.ensures
