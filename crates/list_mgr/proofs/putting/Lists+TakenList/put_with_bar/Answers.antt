use Rattle.def_iface.specs.contracts.taken_control.TakenControlDefined.TheImpl as control
use Rattle.def_iface.specs.contracts.taken_list.TakenListDefined.TheImpl as list
use Rattle.list_mgr.proofs.PutWithBar as put
use Rattle.list_mgr.proofs.putting.Lists+TakenList.put_with_bar.Goals as goal

pub control-control-requires : goal.control-control-requires
control-control-requires g c =
    (put.good _ (control.loan-value g.dyn-2).it (list.loan-value g.dyn-1).it c.args.new.now c.args.ticket ((control.loan-value g.dyn-2).it c.args.bar) c.args.windows.now c.args.controls.now c.args.self.now c.requires.kept c.requires.took c.requires.lists c.requires.ticket
    c.plan_with_bar.new.controls c.plan_with_bar.new.self c.plan_with_bar.ensures.same_controls c.plan_with_bar.ensures.same c.in-Ok.planned c.in-Ok.ensures.planned).sized

pub add-requires-clause-beside : goal.add-requires-clause-beside
add-requires-clause-beside g c =
    put.bar_beside _ (control.loan-value g.dyn-2).it (list.loan-value g.dyn-1).it c.args.new.now c.args.ticket ((control.loan-value g.dyn-2).it c.args.bar) c.args.windows.now c.args.controls.now c.args.self.now c.requires.kept c.requires.took c.requires.lists c.requires.ticket
    c.plan_with_bar.new.controls c.plan_with_bar.new.self c.plan_with_bar.ensures.same_controls c.plan_with_bar.ensures.same c.in-Ok.planned c.in-Ok.ensures.planned

pub add-requires-clause-addition : goal.add-requires-clause-addition
add-requires-clause-addition g c =
    put.addition _ (control.loan-value g.dyn-2).it (list.loan-value g.dyn-1).it c.args.new.now c.args.ticket ((control.loan-value g.dyn-2).it c.args.bar) c.args.windows.now c.args.controls.now c.args.self.now c.requires.kept c.requires.took c.requires.lists c.requires.ticket
    c.plan_with_bar.new.controls c.plan_with_bar.new.self c.plan_with_bar.ensures.same_controls c.plan_with_bar.ensures.same c.in-Ok.planned c.in-Ok.ensures.planned
    c.control-control.result c.control-control.ensures

pub place-requires-clause-kept : goal.place-requires-clause-kept
place-requires-clause-kept g c =
    put.kept_then _ (control.loan-value g.dyn-2).it (list.loan-value g.dyn-1).it c.args.new.now c.args.ticket ((control.loan-value g.dyn-2).it c.args.bar) c.args.windows.now c.args.controls.now c.args.self.now c.requires.kept c.requires.took c.requires.lists c.requires.ticket
    c.plan_with_bar.new.controls c.plan_with_bar.new.self c.plan_with_bar.ensures.same_controls c.plan_with_bar.ensures.same c.in-Ok.planned c.in-Ok.ensures.planned
    c.add.new.windows c.add.new.self c.control-control.result c.control-control.ensures c.add.ensures.step c.add.ensures.put

pub place-requires-clause-beside : goal.place-requires-clause-beside
place-requires-clause-beside g c =
    put.lists_then _ (control.loan-value g.dyn-2).it (list.loan-value g.dyn-1).it c.args.new.now c.args.ticket ((control.loan-value g.dyn-2).it c.args.bar) c.args.windows.now c.args.controls.now c.args.self.now c.requires.kept c.requires.took c.requires.lists c.requires.ticket
    c.plan_with_bar.new.controls c.plan_with_bar.new.self c.plan_with_bar.ensures.same_controls c.plan_with_bar.ensures.same c.in-Ok.planned c.in-Ok.ensures.planned
    c.add.new.windows c.add.new.self c.control-control.result c.control-control.ensures c.add.ensures.step c.add.ensures.put

pub place-requires-clause-ready : goal.place-requires-clause-ready
place-requires-clause-ready g c =
    put.ready_then _ (control.loan-value g.dyn-2).it (list.loan-value g.dyn-1).it c.args.new.now c.args.ticket ((control.loan-value g.dyn-2).it c.args.bar) c.args.windows.now c.args.controls.now c.args.self.now c.requires.kept c.requires.took c.requires.lists c.requires.ticket
    c.plan_with_bar.new.controls c.plan_with_bar.new.self c.plan_with_bar.ensures.same_controls c.plan_with_bar.ensures.same c.in-Ok.planned c.in-Ok.ensures.planned
    c.add.new.windows c.add.new.self c.control-control.result c.control-control.ensures c.add.ensures.step c.add.ensures.put

pub returns-in-Ok-clause-put : goal.returns-in-Ok-clause-put
returns-in-Ok-clause-put g c held rest before left taken next_taken =
    put.made _ (control.loan-value g.dyn-2).it (list.loan-value g.dyn-1).it c.args.new.now c.args.ticket ((control.loan-value g.dyn-2).it c.args.bar) c.args.windows.now c.args.controls.now c.args.self.now c.requires.kept c.requires.took c.requires.lists c.requires.ticket
    c.plan_with_bar.new.controls c.plan_with_bar.new.self c.plan_with_bar.ensures.same_controls c.plan_with_bar.ensures.same c.in-Ok.planned c.in-Ok.ensures.planned
    c.add.new.windows c.add.new.self c.control-control.result c.control-control.ensures c.add.ensures.step c.add.ensures.put
    c.place.new.windows c.place.new.self c.only-bars.result.vertical c.only-bars.result.horizontal c.only-bars.ensures.vertical c.only-bars.ensures.horizontal held rest before left taken (c.place.ensures before left next_taken)
