use Rattle.def_iface.specs.contracts.taken_control.TakenControlDefined.TheImpl as control
use Rattle.def_iface.specs.contracts.taken_list.TakenListDefined.TheImpl as list
use Rattle.list_mgr.proofs.PutWithBars as put
use Rattle.list_mgr.proofs.putting.Lists+TakenList.put_with_bars.Goals as goal

pub control-control-requires : goal.control-control-requires
control-control-requires g c =
    (put.good_first _ (control.loan-value g.dyn-2).it (list.loan-value g.dyn-1).it c.args.new.now c.args.ticket ((control.loan-value g.dyn-2).it c.args.vertical) ((control.loan-value g.dyn-2).it c.args.horizontal) c.args.windows.now c.args.controls.now c.args.self.now
    c.requires.kept c.requires.took c.requires.lists c.requires.ticket
    c.plan_with_bars.new.controls c.plan_with_bars.new.self c.plan_with_bars.ensures.same_controls c.plan_with_bars.ensures.same c.in-Ok.planned c.in-Ok.ensures.planned).sized

pub add-requires-clause-beside : goal.add-requires-clause-beside
add-requires-clause-beside g c =
    put.bar_beside _ (control.loan-value g.dyn-2).it (list.loan-value g.dyn-1).it c.args.new.now c.args.ticket ((control.loan-value g.dyn-2).it c.args.vertical) ((control.loan-value g.dyn-2).it c.args.horizontal) c.args.windows.now c.args.controls.now c.args.self.now
    c.requires.kept c.requires.took c.requires.lists c.requires.ticket
    c.plan_with_bars.new.controls c.plan_with_bars.new.self c.plan_with_bars.ensures.same_controls c.plan_with_bars.ensures.same c.in-Ok.planned c.in-Ok.ensures.planned

pub add-requires-clause-addition : goal.add-requires-clause-addition
add-requires-clause-addition g c =
    put.addition _ (control.loan-value g.dyn-2).it (list.loan-value g.dyn-1).it c.args.new.now c.args.ticket ((control.loan-value g.dyn-2).it c.args.vertical) ((control.loan-value g.dyn-2).it c.args.horizontal) c.args.windows.now c.args.controls.now c.args.self.now
    c.requires.kept c.requires.took c.requires.lists c.requires.ticket
    c.plan_with_bars.new.controls c.plan_with_bars.new.self c.plan_with_bars.ensures.same_controls c.plan_with_bars.ensures.same c.in-Ok.planned c.in-Ok.ensures.planned
    c.control-control.result c.control-control.ensures

pub control-control-requires-in-Ok : goal.control-control-requires-in-Ok
control-control-requires-in-Ok g c =
    (put.good_second _ (control.loan-value g.dyn-2).it (list.loan-value g.dyn-1).it c.args.new.now c.args.ticket ((control.loan-value g.dyn-2).it c.args.vertical) ((control.loan-value g.dyn-2).it c.args.horizontal) c.args.windows.now c.args.controls.now c.args.self.now
    c.requires.kept c.requires.took c.requires.lists c.requires.ticket
    c.plan_with_bars.new.controls c.plan_with_bars.new.self c.plan_with_bars.ensures.same_controls c.plan_with_bars.ensures.same c.in-Ok.planned c.in-Ok.ensures.planned).sized

pub add-requires-in-Ok-clause-kept : goal.add-requires-in-Ok-clause-kept
add-requires-in-Ok-clause-kept g c =
    put.kept_then _ (control.loan-value g.dyn-2).it (list.loan-value g.dyn-1).it c.args.new.now c.args.ticket ((control.loan-value g.dyn-2).it c.args.vertical) ((control.loan-value g.dyn-2).it c.args.horizontal) c.args.windows.now c.args.controls.now c.args.self.now
    c.requires.kept c.requires.took c.requires.lists c.requires.ticket
    c.plan_with_bars.new.controls c.plan_with_bars.new.self c.plan_with_bars.ensures.same_controls c.plan_with_bars.ensures.same c.in-Ok.planned c.in-Ok.ensures.planned
    c.add.new.windows c.add.new.self c.control-control.result c.control-control.ensures c.add.ensures.step c.add.ensures.put c.add.ensures.room

pub add-requires-in-Ok-clause-beside : goal.add-requires-in-Ok-clause-beside
add-requires-in-Ok-clause-beside g c =
    put.beside_then _ (control.loan-value g.dyn-2).it (list.loan-value g.dyn-1).it c.args.new.now c.args.ticket ((control.loan-value g.dyn-2).it c.args.vertical) ((control.loan-value g.dyn-2).it c.args.horizontal) c.args.windows.now c.args.controls.now c.args.self.now
    c.requires.kept c.requires.took c.requires.lists c.requires.ticket
    c.plan_with_bars.new.controls c.plan_with_bars.new.self c.plan_with_bars.ensures.same_controls c.plan_with_bars.ensures.same c.in-Ok.planned c.in-Ok.ensures.planned
    c.add.new.windows c.add.new.self c.control-control.result c.control-control.ensures c.add.ensures.step c.add.ensures.put c.add.ensures.room

pub add-requires-in-Ok-clause-addition : goal.add-requires-in-Ok-clause-addition
add-requires-in-Ok-clause-addition g c =
    put.next_addition _ (control.loan-value g.dyn-2).it (list.loan-value g.dyn-1).it c.args.new.now c.args.ticket ((control.loan-value g.dyn-2).it c.args.vertical) ((control.loan-value g.dyn-2).it c.args.horizontal) c.args.windows.now c.args.controls.now c.args.self.now
    c.requires.kept c.requires.took c.requires.lists c.requires.ticket
    c.plan_with_bars.new.controls c.plan_with_bars.new.self c.plan_with_bars.ensures.same_controls c.plan_with_bars.ensures.same c.in-Ok.planned c.in-Ok.ensures.planned
    c.add.new.windows c.add.new.self c.control-control.result c.control-control.ensures c.add.ensures.step c.add.ensures.put c.add.ensures.room
    c.control-control-in-Ok.result c.control-control-in-Ok.ensures

pub place-requires-clause-kept : goal.place-requires-clause-kept
place-requires-clause-kept g c =
    put.kept_last _ (control.loan-value g.dyn-2).it (list.loan-value g.dyn-1).it c.args.new.now c.args.ticket ((control.loan-value g.dyn-2).it c.args.vertical) ((control.loan-value g.dyn-2).it c.args.horizontal) c.args.windows.now c.args.controls.now c.args.self.now
    c.requires.kept c.requires.took c.requires.lists c.requires.ticket
    c.plan_with_bars.new.controls c.plan_with_bars.new.self c.plan_with_bars.ensures.same_controls c.plan_with_bars.ensures.same c.in-Ok.planned c.in-Ok.ensures.planned
    c.add.new.windows c.add.new.self c.control-control.result c.control-control.ensures c.add.ensures.step c.add.ensures.put c.add.ensures.room
    c.add-in-Ok.new.windows c.add-in-Ok.new.self c.control-control-in-Ok.result c.control-control-in-Ok.ensures c.add-in-Ok.ensures.step c.add-in-Ok.ensures.put

pub place-requires-clause-beside : goal.place-requires-clause-beside
place-requires-clause-beside g c =
    put.lists_last _ (control.loan-value g.dyn-2).it (list.loan-value g.dyn-1).it c.args.new.now c.args.ticket ((control.loan-value g.dyn-2).it c.args.vertical) ((control.loan-value g.dyn-2).it c.args.horizontal) c.args.windows.now c.args.controls.now c.args.self.now
    c.requires.kept c.requires.took c.requires.lists c.requires.ticket
    c.plan_with_bars.new.controls c.plan_with_bars.new.self c.plan_with_bars.ensures.same_controls c.plan_with_bars.ensures.same c.in-Ok.planned c.in-Ok.ensures.planned
    c.add.new.windows c.add.new.self c.control-control.result c.control-control.ensures c.add.ensures.step c.add.ensures.put c.add.ensures.room
    c.add-in-Ok.new.windows c.add-in-Ok.new.self c.control-control-in-Ok.result c.control-control-in-Ok.ensures c.add-in-Ok.ensures.step c.add-in-Ok.ensures.put

pub place-requires-clause-ready : goal.place-requires-clause-ready
place-requires-clause-ready g c =
    put.ready_last _ (control.loan-value g.dyn-2).it (list.loan-value g.dyn-1).it c.args.new.now c.args.ticket ((control.loan-value g.dyn-2).it c.args.vertical) ((control.loan-value g.dyn-2).it c.args.horizontal) c.args.windows.now c.args.controls.now c.args.self.now
    c.requires.kept c.requires.took c.requires.lists c.requires.ticket
    c.plan_with_bars.new.controls c.plan_with_bars.new.self c.plan_with_bars.ensures.same_controls c.plan_with_bars.ensures.same c.in-Ok.planned c.in-Ok.ensures.planned
    c.add.new.windows c.add.new.self c.control-control.result c.control-control.ensures c.add.ensures.step c.add.ensures.put c.add.ensures.room
    c.add-in-Ok.new.windows c.add-in-Ok.new.self c.control-control-in-Ok.result c.control-control-in-Ok.ensures c.add-in-Ok.ensures.step c.add-in-Ok.ensures.put

pub returns-in-Ok-clause-put : goal.returns-in-Ok-clause-put
returns-in-Ok-clause-put g c held mid rest before left taken next_taken last_taken =
    put.made _ (control.loan-value g.dyn-2).it (list.loan-value g.dyn-1).it c.args.new.now c.args.ticket ((control.loan-value g.dyn-2).it c.args.vertical) ((control.loan-value g.dyn-2).it c.args.horizontal) c.args.windows.now c.args.controls.now c.args.self.now
    c.requires.kept c.requires.took c.requires.lists c.requires.ticket
    c.plan_with_bars.new.controls c.plan_with_bars.new.self c.plan_with_bars.ensures.same_controls c.plan_with_bars.ensures.same c.in-Ok.planned c.in-Ok.ensures.planned
    c.add.new.windows c.add.new.self c.control-control.result c.control-control.ensures c.add.ensures.step c.add.ensures.put c.add.ensures.room
    c.add-in-Ok.new.windows c.add-in-Ok.new.self c.control-control-in-Ok.result c.control-control-in-Ok.ensures c.add-in-Ok.ensures.step c.add-in-Ok.ensures.put
    c.place.new.windows c.place.new.self held mid rest before left taken next_taken (c.place.ensures before left last_taken)
