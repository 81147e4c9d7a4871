use Rattle.def_iface.specs.contracts.taken_control.TakenControlDefined.TheImpl as control
use Rattle.def_iface.specs.contracts.taken_list.TakenListDefined.TheImpl as list
use Rattle.list_mgr.specs.Offers.{seen_offers}
use Rattle.list_mgr.proofs.Offered.{bars_back, horizontal_back, list_back, lists_back, vertical_back}
use Rattle.list_mgr.proofs.making.Offers.give_back.Goals as goal

pub put_bar_back-requires : goal.put_bar_back-requires
put_bar_back-requires g c =
    horizontal_back c.args.new.now (seen_offers (control.loan-value g.dyn-2).it (list.loan-value g.dyn-1).it c.args.self) c.requires.kept _ c.requires.held _ c.requires.offered

pub put_bar_back-requires-2 : goal.put_bar_back-requires-2
put_bar_back-requires-2 g c =
    vertical_back c.args.new.now (seen_offers (control.loan-value g.dyn-2).it (list.loan-value g.dyn-1).it c.args.self) c.requires.kept _ c.requires.held _ c.requires.offered _ c.put_bar_back.ensures

pub put_list_back-requires : goal.put_list_back-requires
put_list_back-requires g c =
    list_back c.args.new.now (seen_offers (control.loan-value g.dyn-2).it (list.loan-value g.dyn-1).it c.args.self) c.requires.kept _ c.requires.held _ c.requires.offered

pub returns : goal.returns
returns g c kept held offered =
    let offers = seen_offers (control.loan-value g.dyn-2).it (list.loan-value g.dyn-1).it c.args.self in (
      lists_back c.args.new.now offers kept _ held _ offered _ c.put_list_back.ensures,
      bars_back c.args.new.now offers kept _ held _ offered _ c.put_bar_back.ensures _ c.put_bar_back-2.ensures,
    )
