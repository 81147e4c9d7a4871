use Rattle.std.proofs.Common.{length}
use Rattle.def_iface.specs.contracts.taken_menu.TakenMenuDefined.TheImpl as taken
use Rattle.def_iface.specs.contracts.taken_menu.MenuStockStocked.TheImpl as stock
use Rattle.menu_mgr.specs.WholeMenus.{menus_of}
use Rattle.menu_mgr.proofs.Ending.{IsUnderWay}
use Rattle.menu_mgr.proofs.making.put_all_away.Given as goal

abbrev pub invariant-loop-listed : goal.invariant-loop-listed
invariant-loop-listed g l =
    let loan = (taken.loan-value g.dyn-1).it in
    let slots = (stock.slots-value g.dyn-1).it in
    IsUnderWay (menus_of loan l.fn.list.menus.items) (menus_of loan l.menus.items) (slots l.fn.stock) (slots l.stock)

abbrev pub decreases-loop-listed : goal.decreases-loop-listed
decreases-loop-listed g l = length l.menus.items
