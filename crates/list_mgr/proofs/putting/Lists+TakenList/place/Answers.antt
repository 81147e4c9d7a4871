use Rattle.std.proofs.Common.{sym, subst}
use Rattle.def_iface.specs.contracts.taken_list.TakenListDefined.TheImpl as list
use Rattle.list_mgr.specs.WholeLists.{AreSettled}
use Rattle.list_mgr.proofs.ListPut as putting
use Rattle.list_mgr.proofs.putting.Lists+TakenList.place.Goals as goal

pub begin-requires-clause-fits : goal.begin-requires-clause-fits
begin-requires-clause-fits g c = putting.cells_fit c.args.new.now c.requires.ready.place.good

pub commit_layers-requires-clause-planned : goal.commit_layers-requires-clause-planned
commit_layers-requires-clause-planned g c =
    putting.planned_is _ (list.loan-value g.dyn-1).it c.args.new.now c.args.ticket.now c.args.windows.now c.args.self.now c.args.planned c.requires.ready

pub commit_layers-requires-clause-whole : goal.commit_layers-requires-clause-whole
commit_layers-requires-clause-whole g c =
    let list_loan = (list.loan-value g.dyn-1).it in
    let begun = list_loan c.begin.new.self in
    subst AreSettled
    (sym (putting.pushed list_loan c.args.self.now c.push.new.self.items.items _ _ c.push.ensures.items
    (putting.list_seen list_loan c.args.new.now c.args.ticket.now c.args.planned.cells c.args.bars.vertical c.args.bars.horizontal c.begin.new.self (list_loan c.args.taken).slot c.requires.ready.place.view c.requires.ready.cells c.begin.ensures.slot)))
    (putting.settled_put _ list_loan c.args.new.now c.args.ticket.now c.args.windows.now c.args.self.now c.args.planned c.requires.ready c.args.bars.vertical c.args.bars.horizontal
    (list_loan c.args.taken).definition begun.definition (list_loan c.args.taken).slot c.begin.ensures.begun c.requires.beside)

pub returns : goal.returns
returns g c =
    let list_loan = (list.loan-value g.dyn-1).it in
    let begun = list_loan c.begin.new.self in
    putting.put_over _ list_loan c.args.new.now c.args.ticket.now c.args.windows.now c.args.self.now c.args.planned c.requires.ready c.args.bars.vertical c.args.bars.horizontal
    (list_loan c.args.taken).definition begun.definition (list_loan c.args.taken).slot c.begin.ensures.begun
    c.commit_layers.new.self (record { alloc = c.args.self.now.alloc; list = c.push.new.self })
    (putting.pushed list_loan c.args.self.now c.push.new.self.items.items _ _ c.push.ensures.items
    (putting.list_seen list_loan c.args.new.now c.args.ticket.now c.args.planned.cells c.args.bars.vertical c.args.bars.horizontal c.begin.new.self (list_loan c.args.taken).slot c.requires.ready.place.view c.requires.ready.cells c.begin.ensures.slot))
    c.push.ensures.next c.commit_layers.ensures.set
