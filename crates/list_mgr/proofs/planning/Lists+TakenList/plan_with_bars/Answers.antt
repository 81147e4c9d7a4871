use Rattle.std.proofs.Common.{◌≡◌, ◌+◌, ◌<◌, ◌^◌, ap, arith, nat_abs, rules}
use Rattle.std.specs.Option.{is_some}
use Rattle.def_iface.specs.contracts.taken_control.TakenControlDefined.TheImpl as control
use Rattle.list_cells.specs.Grids.{empty_grid}
use Rattle.window_mgr.specs.Edits.{IsWindowAt}
use Rattle.window_mgr.proofs.Remarked.{area_there}
use Rattle.list_mgr.proofs.BarsPlanned as bars
use Rattle.list_mgr.proofs.planning.Lists+TakenList.plan_with_bars.Goals as goal

pub unwrap-serial-requires : goal.unwrap-serial-requires
unwrap-serial-requires g c =
    ap is_some (bars.given _ _ _ c.args.new.now c.args.ticket.now ((control.loan-value g.dyn-2).it c.args.vertical.now) ((control.loan-value g.dyn-2).it c.args.horizontal.now) c.args.windows.now c.args.controls.now c.args.self.now
    c.requires.kept c.requires.took c.requires.lists c.requires.ticket)

pub area-requires : goal.area-requires
area-requires g c = area_there _ c.args.windows.now c.requires.kept c.args.ticket.now.window c.requires.ticket.ticket.window.0

pub control-control-requires : goal.control-control-requires
control-control-requires g c =
    let made : c.in_ok-cells.cells ≡ empty_grid (nat_abs c.args.new.now.columns) (nat_abs c.args.new.now.rows) = search rules in
    (bars.so_first_good _ _ _ c.args.new.now c.args.ticket.now ((control.loan-value g.dyn-2).it c.args.vertical.now) ((control.loan-value g.dyn-2).it c.args.horizontal.now) c.args.windows.now c.args.controls.now c.args.self.now
    c.requires.kept c.requires.took c.requires.lists c.requires.ticket c.vertical_bar-first.result
    (bars.first_is _ _ _ c.args.new.now c.args.ticket.now ((control.loan-value g.dyn-2).it c.args.vertical.now) ((control.loan-value g.dyn-2).it c.args.horizontal.now) c.args.windows.now c.args.controls.now c.args.self.now
    c.requires.kept c.requires.took c.requires.lists c.requires.ticket c.vertical_bar-first.result c.args.ticket.now.view c.in_ok-cells.cells c.requires.ticket.ticket.view made c.vertical_bar-first.ensures)).sized

pub grow-requires-clause-may : goal.grow-requires-clause-may
grow-requires-clause-may g c =
    let made : c.in_ok-cells.cells ≡ empty_grid (nat_abs c.args.new.now.columns) (nat_abs c.args.new.now.rows) = search rules in
    let lies : IsWindowAt c.args.windows.now.windows.records.items c.args.ticket.now.window c.at.result.now = search rules in
    bars.so_first _ _ _ c.args.new.now c.args.ticket.now ((control.loan-value g.dyn-2).it c.args.vertical.now) ((control.loan-value g.dyn-2).it c.args.horizontal.now) c.args.windows.now c.args.controls.now c.args.self.now
    c.requires.kept c.requires.took c.requires.lists c.requires.ticket c.unwrap-serial.result c.unwrap-serial.ensures c.vertical_bar-first.result
    (bars.first_is _ _ _ c.args.new.now c.args.ticket.now ((control.loan-value g.dyn-2).it c.args.vertical.now) ((control.loan-value g.dyn-2).it c.args.horizontal.now) c.args.windows.now c.args.controls.now c.args.self.now
    c.requires.kept c.requires.took c.requires.lists c.requires.ticket c.vertical_bar-first.result c.args.ticket.now.view c.in_ok-cells.cells c.requires.ticket.ticket.view made c.vertical_bar-first.ensures)
    c.ticket-given.result c.ticket-given.ensures c.control-control.result c.control-control.ensures c.at.result.now lies

pub overflow_add-serial : goal.overflow_add-serial
overflow_add-serial g c =
    let low : c.unwrap-serial.result + 1 < 2 ^ 64 = bars.next_low _ _ _ c.args.new.now c.args.ticket.now ((control.loan-value g.dyn-2).it c.args.vertical.now) ((control.loan-value g.dyn-2).it c.args.horizontal.now) c.args.windows.now c.args.controls.now c.args.self.now
    c.requires.kept c.requires.took c.requires.lists c.requires.ticket c.unwrap-serial.result c.unwrap-serial.ensures in
    omega (arith, low)

pub overflow_add-ticket : goal.overflow_add-ticket
overflow_add-ticket g c =
    let few : c.args.ticket.now.controls + 1 < 64 = bars.few _ _ _ c.args.new.now c.args.ticket.now ((control.loan-value g.dyn-2).it c.args.vertical.now) ((control.loan-value g.dyn-2).it c.args.horizontal.now) c.args.windows.now c.args.controls.now c.args.self.now
    c.requires.kept c.requires.took c.requires.lists c.requires.ticket in
    omega (arith, few)

pub control-control-requires-2 : goal.control-control-requires-2
control-control-requires-2 g c =
    let made : c.in_ok-cells.cells ≡ empty_grid (nat_abs c.args.new.now.columns) (nat_abs c.args.new.now.rows) = search rules in
    (bars.so_second_good _ _ _ c.args.new.now c.args.ticket.now ((control.loan-value g.dyn-2).it c.args.vertical.now) ((control.loan-value g.dyn-2).it c.args.horizontal.now) c.args.windows.now c.args.controls.now c.args.self.now
    c.requires.kept c.requires.took c.requires.lists c.requires.ticket c.horizontal_bar-second.result
    (bars.second_is _ _ _ c.args.new.now c.args.ticket.now ((control.loan-value g.dyn-2).it c.args.vertical.now) ((control.loan-value g.dyn-2).it c.args.horizontal.now) c.args.windows.now c.args.controls.now c.args.self.now
    c.requires.kept c.requires.took c.requires.lists c.requires.ticket c.horizontal_bar-second.result c.args.ticket.now.view c.in_ok-cells.cells c.requires.ticket.ticket.view made c.horizontal_bar-second.ensures)).sized

pub grow-requires-2-clause-may : goal.grow-requires-2-clause-may
grow-requires-2-clause-may g c =
    let made : c.in_ok-cells.cells ≡ empty_grid (nat_abs c.args.new.now.columns) (nat_abs c.args.new.now.rows) = search rules in
    let lies : IsWindowAt c.args.windows.now.windows.records.items c.args.ticket.now.window c.at.result.now = search rules in
    bars.so_second _ _ _ c.args.new.now c.args.ticket.now ((control.loan-value g.dyn-2).it c.args.vertical.now) ((control.loan-value g.dyn-2).it c.args.horizontal.now) c.args.windows.now c.args.controls.now c.args.self.now
    c.requires.kept c.requires.took c.requires.lists c.requires.ticket c.unwrap-serial.result c.unwrap-serial.ensures c.vertical_bar-first.result
    (bars.first_is _ _ _ c.args.new.now c.args.ticket.now ((control.loan-value g.dyn-2).it c.args.vertical.now) ((control.loan-value g.dyn-2).it c.args.horizontal.now) c.args.windows.now c.args.controls.now c.args.self.now
    c.requires.kept c.requires.took c.requires.lists c.requires.ticket c.vertical_bar-first.result c.args.ticket.now.view c.in_ok-cells.cells c.requires.ticket.ticket.view made c.vertical_bar-first.ensures)
    c.ticket-given.result c.ticket-given.ensures c.control-control.result c.control-control.ensures c.at.result.now lies
    c.in_ok-one.one c.in_ok-one.ensures.grown c.horizontal_bar-second.result
    (bars.second_is _ _ _ c.args.new.now c.args.ticket.now ((control.loan-value g.dyn-2).it c.args.vertical.now) ((control.loan-value g.dyn-2).it c.args.horizontal.now) c.args.windows.now c.args.controls.now c.args.self.now
    c.requires.kept c.requires.took c.requires.lists c.requires.ticket c.horizontal_bar-second.result c.args.ticket.now.view c.in_ok-cells.cells c.requires.ticket.ticket.view made c.horizontal_bar-second.ensures)
    c.ticket-given-2.result c.ticket-given-2.ensures c.control-control-2.result c.control-control-2.ensures

pub lay-requires-clause-may : goal.lay-requires-clause-may
lay-requires-clause-may g c =
    let lies : IsWindowAt c.args.windows.now.windows.records.items c.args.ticket.now.window c.at.result.now = search rules in
    bars.list_may _ _ _ c.args.new.now c.args.ticket.now ((control.loan-value g.dyn-2).it c.args.vertical.now) ((control.loan-value g.dyn-2).it c.args.horizontal.now) c.args.windows.now c.args.controls.now c.args.self.now
    c.requires.kept c.requires.took c.requires.lists c.requires.ticket c.at.result.now lies
    c.control-control.result c.control-control-2.result c.ticket-given.result c.ticket-given-2.result c.in_ok-one.one c.in_ok-two.two c.in_ok-one.ensures.grown c.in_ok-two.ensures.grown

pub returns-clause-planned : goal.returns-clause-planned
returns-clause-planned g c =
    let made : c.in_ok-cells.cells ≡ empty_grid (nat_abs c.args.new.now.columns) (nat_abs c.args.new.now.rows) = search rules in
    let lies : IsWindowAt c.args.windows.now.windows.records.items c.args.ticket.now.window c.at.result.now = search rules in
    bars.so_planned _ _ _ c.args.new.now c.args.ticket.now ((control.loan-value g.dyn-2).it c.args.vertical.now) ((control.loan-value g.dyn-2).it c.args.horizontal.now) c.args.windows.now c.args.controls.now c.args.self.now
    c.requires.kept c.requires.took c.requires.lists c.requires.ticket c.unwrap-serial.result c.unwrap-serial.ensures c.vertical_bar-first.result
    (bars.first_is _ _ _ c.args.new.now c.args.ticket.now ((control.loan-value g.dyn-2).it c.args.vertical.now) ((control.loan-value g.dyn-2).it c.args.horizontal.now) c.args.windows.now c.args.controls.now c.args.self.now
    c.requires.kept c.requires.took c.requires.lists c.requires.ticket c.vertical_bar-first.result c.args.ticket.now.view c.in_ok-cells.cells c.requires.ticket.ticket.view made c.vertical_bar-first.ensures)
    c.ticket-given.result c.ticket-given.ensures c.control-control.result c.control-control.ensures c.at.result.now lies
    c.in_ok-one.one c.in_ok-one.ensures.grown c.horizontal_bar-second.result
    (bars.second_is _ _ _ c.args.new.now c.args.ticket.now ((control.loan-value g.dyn-2).it c.args.vertical.now) ((control.loan-value g.dyn-2).it c.args.horizontal.now) c.args.windows.now c.args.controls.now c.args.self.now
    c.requires.kept c.requires.took c.requires.lists c.requires.ticket c.horizontal_bar-second.result c.args.ticket.now.view c.in_ok-cells.cells c.requires.ticket.ticket.view made c.horizontal_bar-second.ensures)
    c.ticket-given-2.result c.ticket-given-2.ensures c.control-control-2.result c.control-control-2.ensures
    c.reserve.new.self (record { alloc = c.args.self.now.alloc; list = c.reserve-2.new.self }) c.reserve.ensures.same c.in_ok-reserve.ensures.made (let made = c.in_ok-reserve-2.ensures.made in omega (arith, made))
    c.area.result.now c.area.ensures c.in_ok-one.ensures.planned c.in_ok-two.two c.in_ok-two.ensures.grown c.in_ok-two.ensures.planned
    (record { cells = c.in_ok-cells.cells; laid = c.in_ok-laid.laid }) made c.in_ok-laid.ensures
