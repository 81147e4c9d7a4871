use Rattle.std.proofs.Common.{◌≡◌, false, sym, ap, ◌∙◌, rules}
use Rattle.def_iface.specs.contracts.taken_control.ControlStockStocked.TheImpl as bars
use Rattle.def_iface.specs.contracts.taken_list.ListStockStocked.TheImpl as lists
use Rattle.def_iface.specs.contracts.taken_window.TakenWindowDefined.TheImpl as window
use Rattle.def_iface.specs.contracts.taken_control.TakenControlDefined.TheImpl as control
use Rattle.def_iface.specs.contracts.taken_list.TakenListDefined.TheImpl as list
use Rattle.list_mgr.specs.Offers.{seen_offers}
use Rattle.list_mgr.proofs.MadeSteps.{made_step, offered_again, unmade_step}
use Rattle.list_mgr.proofs.making.Lists+TakenList.make.Goals as goal

pub make_with-requires-clause-out : goal.make_with-requires-clause-out
make_with-requires-clause-out g c = record {
  rest = (lists.slots-value g.dyn-1).it c.take-offers.new.stock;
  left = (bars.slots-value g.dyn-2).it c.take-offers.new.bars;
  out = record {
    kept = (lists.slots-value g.dyn-1).it c.args.stock.now;
    held = (bars.slots-value g.dyn-2).it c.args.bars.now;
    offered = c.take-offers.ensures;
  };
  whole = c.requires.controls;
}

pub returns-in-Ok : goal.returns-in-Ok
returns-in-Ok g c =
    let control_loan = (control.loan-value g.dyn-2).it in
    let list_loan = (list.loan-value g.dyn-1).it in
    let kinds = (lists.slots-value g.dyn-1).it in
    let slots = (bars.slots-value g.dyn-2).it in
    let has : c.lacks_kind.result ≡ false = search rules in
    made_step (window.loan-value g.dyn-3).it control_loan list_loan c.args.new.now c.args.windows.now c.args.controls.now c.args.self.now (seen_offers control_loan list_loan c.take-offers.result)
    (kinds c.args.stock.now) (kinds c.take-offers.new.stock) (slots c.args.bars.now) (slots c.take-offers.new.bars) c.take-offers.ensures (sym c.lacks_kind.ensures ∙ has)
    c.make_with.new.windows c.make_with.new.controls c.make_with.new.self c.in-Ok.serial c.in-Ok.ensures.unrefused
    (c.in-Ok.ensures.made (kinds c.args.stock.now) (kinds c.take-offers.new.stock) (slots c.args.bars.now) (slots c.take-offers.new.bars) c.take-offers.ensures)

pub returns-in-Err : goal.returns-in-Err
returns-in-Err g c =
    let control_loan = (control.loan-value g.dyn-2).it in
    let list_loan = (list.loan-value g.dyn-1).it in
    let kinds = (lists.slots-value g.dyn-1).it in
    let slots = (bars.slots-value g.dyn-2).it in
    let has : c.lacks_kind.result ≡ false = search rules in
    let offers = seen_offers control_loan list_loan c.take-offers.result in
    let back = c.give_back.ensures (kinds c.args.stock.now) (slots c.args.bars.now)
    (offered_again (window.loan-value g.dyn-3).it control_loan list_loan c.args.new.now c.args.windows.now c.args.controls.now c.args.self.now offers
    (kinds c.args.stock.now) (kinds c.take-offers.new.stock) (slots c.args.bars.now) (slots c.take-offers.new.bars) c.take-offers.ensures (sym c.lacks_kind.ensures ∙ has)
    _ (ap (seen_offers control_loan list_loan) c.in-Err.ensures.refused.0)) in
    unmade_step (window.loan-value g.dyn-3).it control_loan list_loan c.args.new.now c.args.windows.now c.args.controls.now c.args.self.now offers
    (kinds c.args.stock.now) (kinds c.take-offers.new.stock) (slots c.args.bars.now) (slots c.take-offers.new.bars) c.take-offers.ensures (sym c.lacks_kind.ensures ∙ has)
    c.make_with.new.windows c.make_with.new.controls c.make_with.new.self (slots c.give_back.new.bars) (kinds c.give_back.new.stock) _ c.in-Err.ensures.refused.1
    c.in-Err.ensures.same.0 c.in-Err.ensures.same.1 c.in-Err.ensures.same.2 back.1 back.0
