use Rattle.std.proofs.Common.{◌≡◌, nat_abs, rules, refl, arith}
use Rattle.list_cells.specs.Grids.{empty_grid}
use Rattle.window_mgr.specs.Edits.{IsWindowAt}
use Rattle.window_mgr.proofs.Remarked.{area_there}
use Rattle.list_mgr.proofs.ListLayers.{may_lay}
use Rattle.list_mgr.proofs.PutSteps as steps
use Rattle.list_mgr.proofs.planning.Lists+TakenList.plan.Goals as goal

pub area-requires : goal.area-requires
area-requires g c = area_there _ c.args.windows.now c.requires.kept c.args.ticket.now.window c.requires.place.window.0

pub lay-requires-clause-may : goal.lay-requires-clause-may
lay-requires-clause-may g c =
    let lies : IsWindowAt c.args.windows.now.windows.records.items c.args.ticket.now.window c.at.result.now = search rules in
    may_lay _ _ c.args.new.now c.args.windows.now c.args.self.now c.args.ticket.now c.requires.kept c.requires.beside c.requires.place c.at.result.now lies

pub returns-clause-planned : goal.returns-clause-planned
returns-clause-planned g c =
    let lies : IsWindowAt c.args.windows.now.windows.records.items c.args.ticket.now.window c.at.result.now = search rules in
    let made : c.in_ok-cells.cells ≡ empty_grid (nat_abs c.args.new.now.columns) (nat_abs c.args.new.now.rows) = search rules in
    steps.ready_now _ c.args.new.now c.args.ticket.now c.args.windows.now c.args.self.now (record { alloc = c.args.self.now.alloc; list = c.reserve.new.self }) c.requires.kept
    (record { lists = c.reserve.ensures.items; next = c.reserve.ensures.next; alloc = refl; room = c.reserve.ensures.room }) c.requires.place c.at.result.now lies c.area.result.now c.area.ensures
    (record { cells = c.in_ok-cells.cells; laid = c.in_ok-laid.laid }) made c.in_ok-laid.ensures (let made = c.in_ok-reserve.ensures.made in omega (arith, made))
