use Rattle.def_iface.specs.contracts.taken_control.TakenControlDefined.TheImpl as control
use Rattle.def_iface.specs.contracts.taken_list.TakenListDefined.TheImpl as list
use Rattle.list_mgr.proofs.GoodBars.{place_of}
use Rattle.list_mgr.proofs.PutSteps.{beside_roomier, put_plain}
use Rattle.list_mgr.proofs.putting.Lists+TakenList.put.Goals as goal

pub plan-requires-clause-place : goal.plan-requires-clause-place
plan-requires-clause-place g c = place_of _ _ _ c.args.new.now _ _ c.args.windows.now c.args.controls.now c.args.self.now c.args.ticket c.requires.kept c.requires.ticket

pub place-requires-clause-beside : goal.place-requires-clause-beside
place-requires-clause-beside g c = beside_roomier _ _ c.args.self.now c.plan.new.self c.plan.ensures.same c.args.windows.now c.requires.lists

pub returns-in-Ok-clause-put : goal.returns-in-Ok-clause-put
returns-in-Ok-clause-put g c held before left took =
    put_plain _ (list.loan-value g.dyn-1).it (control.loan-value g.dyn-2).it c.args.new.now c.args.ticket.serial c.args.windows.now c.place.new.windows c.args.controls.now c.args.self.now c.plan.new.self c.place.new.self
    before left c.requires.unbarred c.plan.ensures.same c.none.result.vertical c.none.result.horizontal c.none.ensures.vertical c.none.ensures.horizontal (c.place.ensures before left took) held
