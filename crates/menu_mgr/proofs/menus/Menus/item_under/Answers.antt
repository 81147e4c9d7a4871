use Rattle.std.proofs.Common.{[], sym, ◌∙◌}
use Rattle.def_iface.specs.contracts.taken_window.TakenWindowDefined.TheImpl as window
use Rattle.def_iface.specs.contracts.taken_menu.TakenMenuDefined.TheImpl as definition
use Rattle.menu_list.proofs.ListLemmas.{read_there}
use Rattle.window_mgr.specs.Records.{desk_of}
use Rattle.menu_mgr.proofs.UnderPoints.{on_it, no_item, item_there}
use Rattle.menu_mgr.proofs.menus.Menus.item_under.Goals as goal

pub returns-in_err-at : goal.returns-in_err-at
returns-in_err-at g c =
    let desk = desk_of (window.loan-value g.dyn-2).it c.args.windows.now [] in
    c.from_residual.ensures ∙ sym (no_item (definition.loan-value g.dyn-1).it desk c.args.pulled c.args.self.now.list.menus.items c.args.point c.in_err-at.ensures.first)

pub returns : goal.returns
returns g c =
    let xs = c.args.self.now.list.menus.items in
    let x = c.index-listed.result.now in
    let loan = (window.loan-value g.dyn-2).it in
    item_there (definition.loan-value g.dyn-1).it (desk_of loan c.args.windows.now []) c.args.pulled xs c.args.point c.in_ok-at.at x c.pulled_rect-area.result
    c.contains.result c.contains-else-not-contains.result c.parts.result.font.now c.seen_from.result c.choose.result
    c.in_ok-at.ensures.first (read_there xs c.in_ok-at.at x c.in_ok-at.ensures.within c.index-listed.ensures) c.if-not-contains.false c.if-not-contains-2.false
    (on_it loan c.args.windows.now c.screen.result.now c.bounds.result c.args.point c.contains.result c.screen.ensures c.bounds.ensures.sides c.contains.ensures)
    c.pulled_rect-area.ensures c.contains-else-not-contains.ensures c.parts.ensures.font c.seen_from.ensures c.choose.ensures.value
