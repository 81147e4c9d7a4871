use Rattle.std.proofs.Common.{◌≡◌, nat_abs, rules, ap, arith}
use Rattle.std.specs.Option.{is_some}
use Rattle.def_iface.specs.contracts.taken_control.TakenControlDefined.TheImpl as control
use Rattle.list_cells.specs.Grids.{empty_grid}
use Rattle.window_mgr.specs.Edits.{IsWindowAt}
use Rattle.window_mgr.proofs.Remarked.{area_there}
use Rattle.list_mgr.proofs.PutWithBar as put
use Rattle.list_mgr.proofs.planning.Lists+TakenList.plan_with_bar.Goals as goal

pub unwrap-requires : goal.unwrap-requires
unwrap-requires g c =
    ap is_some (put.given _ _ _ c.args.new.now c.args.ticket.now ((control.loan-value g.dyn-2).it c.args.taken.now) c.args.windows.now c.args.controls.now c.args.self.now c.requires.kept c.requires.took c.requires.lists c.requires.ticket)

pub area-requires : goal.area-requires
area-requires g c = area_there _ c.args.windows.now c.requires.kept c.args.ticket.now.window c.requires.ticket.ticket.window.0

pub control-control-requires : goal.control-control-requires
control-control-requires g c =
    let made : c.in_ok-cells.cells ≡ empty_grid (nat_abs c.args.new.now.columns) (nat_abs c.args.new.now.rows) = search rules in
    (put.so_good _ _ _ c.args.new.now c.args.ticket.now ((control.loan-value g.dyn-2).it c.args.taken.now) c.args.windows.now c.args.controls.now c.args.self.now c.requires.kept c.requires.took c.requires.lists c.requires.ticket
    c.wanted_bar-bar.result
    (put.bar_is _ _ _ c.args.new.now c.args.ticket.now ((control.loan-value g.dyn-2).it c.args.taken.now) c.args.windows.now c.args.controls.now c.args.self.now c.requires.kept c.requires.took c.requires.lists c.requires.ticket
    c.wanted_bar-bar.result c.args.ticket.now.view c.in_ok-cells.cells c.requires.ticket.ticket.view made c.wanted_bar-bar.ensures)).sized

pub grow-requires-clause-may : goal.grow-requires-clause-may
grow-requires-clause-may g c =
    let made : c.in_ok-cells.cells ≡ empty_grid (nat_abs c.args.new.now.columns) (nat_abs c.args.new.now.rows) = search rules in
    let lies : IsWindowAt c.args.windows.now.windows.records.items c.args.ticket.now.window c.at.result.now = search rules in
    put.so_may _ _ _ c.args.new.now c.args.ticket.now ((control.loan-value g.dyn-2).it c.args.taken.now) c.args.windows.now c.args.controls.now c.args.self.now c.requires.kept c.requires.took c.requires.lists c.requires.ticket
    c.wanted_bar-bar.result
    (put.bar_is _ _ _ c.args.new.now c.args.ticket.now ((control.loan-value g.dyn-2).it c.args.taken.now) c.args.windows.now c.args.controls.now c.args.self.now c.requires.kept c.requires.took c.requires.lists c.requires.ticket
    c.wanted_bar-bar.result c.args.ticket.now.view c.in_ok-cells.cells c.requires.ticket.ticket.view made c.wanted_bar-bar.ensures)
    c.unwrap.result c.unwrap.ensures c.ticket-given.result c.ticket-given.ensures c.control-control.result c.control-control.ensures c.at.result.now lies

pub lay-requires-clause-may : goal.lay-requires-clause-may
lay-requires-clause-may g c =
    let lies : IsWindowAt c.args.windows.now.windows.records.items c.args.ticket.now.window c.at.result.now = search rules in
    put.list_may _ _ _ c.args.new.now c.args.ticket.now ((control.loan-value g.dyn-2).it c.args.taken.now) c.args.windows.now c.args.controls.now c.args.self.now c.requires.kept c.requires.took c.requires.lists c.requires.ticket
    c.at.result.now lies c.control-control.result c.ticket-given.result c.in_ok-addition.addition c.in_ok-addition.ensures.grown

pub returns-clause-planned : goal.returns-clause-planned
returns-clause-planned g c =
    let made : c.in_ok-cells.cells ≡ empty_grid (nat_abs c.args.new.now.columns) (nat_abs c.args.new.now.rows) = search rules in
    let lies : IsWindowAt c.args.windows.now.windows.records.items c.args.ticket.now.window c.at.result.now = search rules in
    put.so_planned _ _ _ c.args.new.now c.args.ticket.now ((control.loan-value g.dyn-2).it c.args.taken.now) c.args.windows.now c.args.controls.now c.args.self.now c.requires.kept c.requires.took c.requires.lists c.requires.ticket
    c.wanted_bar-bar.result
    (put.bar_is _ _ _ c.args.new.now c.args.ticket.now ((control.loan-value g.dyn-2).it c.args.taken.now) c.args.windows.now c.args.controls.now c.args.self.now c.requires.kept c.requires.took c.requires.lists c.requires.ticket
    c.wanted_bar-bar.result c.args.ticket.now.view c.in_ok-cells.cells c.requires.ticket.ticket.view made c.wanted_bar-bar.ensures)
    c.unwrap.result c.unwrap.ensures c.ticket-given.result c.ticket-given.ensures c.control-control.result c.control-control.ensures
    c.reserve.new.self (record { alloc = c.args.self.now.alloc; list = c.reserve-2.new.self }) c.reserve.ensures.same c.in_ok-reserve.ensures.made (let made = c.in_ok-reserve-2.ensures.made in omega (arith, made))
    c.at.result.now lies c.area.result.now c.area.ensures c.in_ok-addition.addition c.in_ok-addition.ensures.grown c.in_ok-addition.ensures.planned
    (record { cells = c.in_ok-cells.cells; laid = c.in_ok-laid.laid }) made c.in_ok-laid.ensures
