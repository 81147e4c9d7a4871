use Rattle.std.proofs.Common.{sym, ◌∙◌}
use Rattle.def_iface.specs.contracts.taken_window.TakenWindowDefined.TheImpl as window
use Rattle.def_iface.specs.contracts.taken_control.TakenControlDefined.TheImpl as control
use Rattle.control_mgr.proofs.Finds.{settled_at, test_told}
use Rattle.control_mgr.proofs.asking.Controls+TakenControl.test.Goals as goal

pub part_tested-requires-clause-settled : goal.part_tested-requires-clause-settled
part_tested-requires-clause-settled g c =
    settled_at (control.loan-value g.dyn-1).it c.args.self.now.list.items.items c.in_ok-spot.spot.control c.index-control.result.now
    c.in_ok-spot.ensures.low c.index-control.ensures c.requires.beside.whole.settled

pub returns : goal.returns
returns g c o =
    test_told (window.loan-value g.dyn-2).it (control.loan-value g.dyn-1).it c.args.windows.now c.args.self.now c.args.asked c.in_ok-spot.spot o c.index-control.result.now _
    c.in_ok-spot.ensures c.index-control.ensures (sym c.is_in_range.ensures ∙ c.if-not-is_in_range.false) c.part_tested.ensures
