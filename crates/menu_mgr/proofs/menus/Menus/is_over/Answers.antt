use Rattle.std.proofs.Common.{[], true, sym, ◌∙◌}
use Rattle.def_iface.specs.contracts.taken_window.TakenWindowDefined.TheImpl as window
use Rattle.def_iface.specs.contracts.taken_menu.TakenMenuDefined.TheImpl as definition
use Rattle.window_mgr.specs.Records.{desk_of}
use Rattle.menu_mgr.proofs.UnderPoints.{on_it, nowhere, over_it}
use Rattle.menu_mgr.proofs.menus.Menus.is_over.Goals as goal

pub returns-then-contains : goal.returns-then-contains
returns-then-contains g c =
    let loan = (window.loan-value g.dyn-2).it in
    over_it (definition.loan-value g.dyn-1).it (desk_of loan c.args.windows.now []) c.args.pulled c.args.self.now.list.menus.items c.args.point c.in-Some.field-0 c.pulled_rect.result
    true c.contains-then-contains.result c.in-Some.ensures.first c.in-Some.ensures.within
    (sym c.if-contains.true ∙ on_it loan c.args.windows.now c.screen.result.now c.bounds.result c.args.point c.contains.result c.screen.ensures c.bounds.ensures.sides c.contains.ensures)
    c.pulled_rect.ensures c.contains-then-contains.ensures

pub returns-in-None : goal.returns-in-None
returns-in-None g c =
    let desk = desk_of (window.loan-value g.dyn-2).it c.args.windows.now [] in
    sym (nowhere (definition.loan-value g.dyn-1).it desk c.args.pulled c.args.self.now.list.menus.items c.args.point c.in-None.ensures.first)
