use Rattle.def_iface.specs.ControlMeaning.{ControlDefinition}
use Rattle.def_iface.specs.contracts.taken_control.ControlStockStocked.TheImpl as bars
use Rattle.def_iface.specs.contracts.taken_list.ListStockStocked.TheImpl as lists
use Rattle.list_mgr.specs.ListRefusals.{scroll_kind}
use Rattle.list_mgr.proofs.Offered.{across_kind, kind_stays}
use Rattle.list_mgr.proofs.making.Offers.take.Goals as goal

pub take_bar-horizontal-requires : goal.take_bar-horizontal-requires
take_bar-horizontal-requires g c wanted =
    let slots = (bars.slots-value g.dyn-2).it in
    kind_stays (λ (d : ControlDefinition). d.stage) scroll_kind c.args.new.now.vertical_bar _ (slots c.args.bars.now) (slots c.take_bar-vertical.new.bars) c.take_bar-vertical.ensures
    (across_kind c.args.new.now ((lists.slots-value g.dyn-1).it c.args.stock.now) (slots c.args.bars.now) c.requires wanted)
