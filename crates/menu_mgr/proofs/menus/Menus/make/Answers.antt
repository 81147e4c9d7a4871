use Rattle.std.proofs.Common.{rules, refl}
use Rattle.def_iface.specs.contracts.taken_menu.MenuStockStocked.TheImpl as stock
use Rattle.menu_mgr.proofs.Made.{as_made, made_where_left, refused_as_judged, refused_as_taken, refused_made}
use Rattle.menu_mgr.proofs.menus.Menus.make.Goals as goal

pub returns-in_err-menu : goal.returns-in_err-menu
returns-in_err-menu g c =
    let slots = (stock.slots-value g.dyn-1).it c.args.stock.now in
    refused_made _ c.args.new.now c.args.self.now slots _ _ c.in_err-menu.field-0.0 (search rules) refl
    (refused_as_judged _ c.args.new.now c.args.self.now slots (search rules) _ c.in_err-menu.ensures)

pub returns-in_err-taken : goal.returns-in_err-taken
returns-in_err-taken g c =
    let slots = (stock.slots-value g.dyn-1).it c.args.stock.now in
    refused_made _ c.args.new.now c.args.self.now slots _ _ c.in_err-taken.field-0.0 (search rules) c.in_err-taken.ensures.kept
    (refused_as_taken _ c.args.new.now c.args.self.now slots (search rules) _ c.in_ok-menu.ensures.0 c.in_err-taken.ensures.refused)

pub returns : goal.returns
returns g c =
    let slots = (stock.slots-value g.dyn-1).it c.args.stock.now in
    let taken = c.in_ok-taken.ensures.taken in (
      refl,
      made_where_left _ c.args.new.now c.args.self.now slots (search rules) _ c.in_ok-menu.ensures.0 taken.first,
      as_made _ c.args.new.now _ _ slots _ c.in_ok-menu.menu _ c.in_ok-menu.ensures.1 taken c.list.ensures,
    )
