use Rattle.std.proofs.Common.{rules}
use Rattle.def_iface.specs.contracts.taken_control.TakenControlDefined.TheImpl as control
use Rattle.window_mgr.specs.Edits.{IsWindowAt}
use Rattle.window_mgr.proofs.Remarked.{area_there}
use Rattle.control_mgr.proofs.Added.{may_grow}
use Rattle.control_mgr.proofs.Planned.{ready_now}
use Rattle.control_mgr.proofs.making.Controls+TakenControl.plan.Goals as goal

pub area-requires : goal.area-requires
area-requires g c = area_there _ c.args.windows.now c.requires.kept c.in_ok-ticket.ticket.window c.in_ok-ticket.ensures.1.window.0

pub grow-requires-clause-may : goal.grow-requires-clause-may
grow-requires-clause-may g c =
    let w = c.at.result.now in
    let lies : IsWindowAt c.args.windows.now.windows.records.items c.in_ok-ticket.ticket.window w = search rules in
    may_grow _ (control.loan-value g.dyn-1).it c.args.new.now _ c.args.windows.now c.args.self.now c.in_ok-ticket.ticket c.requires.kept c.requires.beside c.in_ok-ticket.ensures.1 w lies

pub returns-clause-ok : goal.returns-clause-ok
returns-clause-ok g c =
    let w = c.at.result.now in
    let lies : IsWindowAt c.args.windows.now.windows.records.items c.in_ok-ticket.ticket.window w = search rules in
    c.in_ok-addition.ensures.planned c.args.windows.now c.reserve.new.self
    (ready_now _ (control.loan-value g.dyn-1).it c.args.new.now _ c.args.windows.now c.args.self.now c.reserve.new.self c.in_ok-ticket.ticket c.requires.kept c.requires.beside c.reserve.ensures.same
    c.in_ok-ticket.ensures.1 w lies c.area.result.now c.area.ensures c.in_ok-reserve.ensures.made)
