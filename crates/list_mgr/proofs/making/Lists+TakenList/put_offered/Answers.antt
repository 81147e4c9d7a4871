use Rattle.std.proofs.Common.{ap}
use Rattle.std.specs.Option.{option_map}
use Rattle.def_iface.specs.contracts.taken_window.TakenWindowDefined.TheImpl as window
use Rattle.def_iface.specs.contracts.taken_control.TakenControlDefined.TheImpl as control
use Rattle.def_iface.specs.contracts.taken_list.TakenListDefined.TheImpl as list
use Rattle.list_mgr.specs.ListSteps.{IsListMade}
use Rattle.list_mgr.specs.Offers.{seen_offers}
use Rattle.list_mgr.proofs.MadeSteps.{over_same}
use Rattle.list_mgr.proofs.Offered.{both_taken, horizontal_taken, list_taken, no_bar_taken, vertical_taken}
use Rattle.list_mgr.proofs.making.Lists+TakenList.put_offered.Goals as goal

pub put_with_bar-requires-in-Some-None-clause-took : goal.put_with_bar-requires-in-Some-None-clause-took
put_with_bar-requires-in-Some-None-clause-took g c =
    let control_loan = (control.loan-value g.dyn-2).it in
    let offers = seen_offers control_loan (list.loan-value g.dyn-1).it c.args.offers in
    let out = c.requires.out in
    record {
      before = out.out.held;
      left = out.left;
      taken = vertical_taken c.args.new.now offers out.out.kept out.rest out.out.held out.left out.out.offered _ (ap (option_map control_loan) c.in-Some-None.is-0) (ap (option_map control_loan) c.in-Some-None.is-1);
      whole = out.whole;
    }

pub put_with_bar-requires-clause-took : goal.put_with_bar-requires-clause-took
put_with_bar-requires-clause-took g c =
    let control_loan = (control.loan-value g.dyn-2).it in
    let offers = seen_offers control_loan (list.loan-value g.dyn-1).it c.args.offers in
    let out = c.requires.out in
    record {
      before = out.out.held;
      left = out.left;
      taken = horizontal_taken c.args.new.now offers out.out.kept out.rest out.out.held out.left out.out.offered _ (ap (option_map control_loan) c.in-None-Some.is-0) (ap (option_map control_loan) c.in-None-Some.is-1);
      whole = out.whole;
    }

pub put_with_bars-requires-clause-took : goal.put_with_bars-requires-clause-took
put_with_bars-requires-clause-took g c =
    let control_loan = (control.loan-value g.dyn-2).it in
    let offers = seen_offers control_loan (list.loan-value g.dyn-1).it c.args.offers in
    let out = c.requires.out in
    let both = both_taken c.args.new.now offers out.out.kept out.rest out.out.held out.left out.out.offered _ _ (ap (option_map control_loan) c.in-Some-Some.is-0) (ap (option_map control_loan) c.in-Some-Some.is-1) in
    record {
      before = out.out.held;
      mid = out.out.offered.between;
      left = out.left;
      vertical = both.0;
      horizontal = both.1;
      whole = out.whole;
    }

pub returns-in-Ok-clause-made : goal.returns-in-Ok-clause-made
returns-in-Ok-clause-made g c kept rest held left offered =
    let control_loan = (control.loan-value g.dyn-2).it in
    let list_loan = (list.loan-value g.dyn-1).it in
    let offers = seen_offers control_loan list_loan c.args.offers in
    over_same (window.loan-value g.dyn-3).it control_loan list_loan (IsListMade c.args.new.now c.args.ticket.serial) held left kept rest c.args.windows.now c.args.controls.now c.args.self.now c.put.new.windows c.args.controls.now c.put.new.self
    (no_bar_taken c.args.new.now offers kept rest held left offered (ap (option_map control_loan) c.in-None-None.is-0) (ap (option_map control_loan) c.in-None-None.is-1))
    (c.in-Ok.ensures.put held kept rest (list_taken c.args.new.now offers kept rest held left offered _ (ap (option_map list_loan) c.unwrap-list.ensures)))

pub returns-in-Ok-put_with_bar-clause-made : goal.returns-in-Ok-put_with_bar-clause-made
returns-in-Ok-put_with_bar-clause-made g c kept rest held left offered =
    let control_loan = (control.loan-value g.dyn-2).it in
    let list_loan = (list.loan-value g.dyn-1).it in
    let offers = seen_offers control_loan list_loan c.args.offers in
    c.in-Ok-put_with_bar.ensures.put held left kept rest
    (horizontal_taken c.args.new.now offers kept rest held left offered _ (ap (option_map control_loan) c.in-None-Some.is-0) (ap (option_map control_loan) c.in-None-Some.is-1))
    (list_taken c.args.new.now offers kept rest held left offered _ (ap (option_map list_loan) c.unwrap-list.ensures))

pub returns-in-Ok-put_with_bar-2-clause-made : goal.returns-in-Ok-put_with_bar-2-clause-made
returns-in-Ok-put_with_bar-2-clause-made g c kept rest held left offered =
    let control_loan = (control.loan-value g.dyn-2).it in
    let list_loan = (list.loan-value g.dyn-1).it in
    let offers = seen_offers control_loan list_loan c.args.offers in
    c.in-Ok-put_with_bar-2.ensures.put held left kept rest
    (vertical_taken c.args.new.now offers kept rest held left offered _ (ap (option_map control_loan) c.in-Some-None.is-0) (ap (option_map control_loan) c.in-Some-None.is-1))
    (list_taken c.args.new.now offers kept rest held left offered _ (ap (option_map list_loan) c.unwrap-list.ensures))

pub returns-in-Ok-put_with_bars-clause-made : goal.returns-in-Ok-put_with_bars-clause-made
returns-in-Ok-put_with_bars-clause-made g c kept rest held left offered =
    let control_loan = (control.loan-value g.dyn-2).it in
    let list_loan = (list.loan-value g.dyn-1).it in
    let offers = seen_offers control_loan list_loan c.args.offers in
    let both = both_taken c.args.new.now offers kept rest held left offered _ _ (ap (option_map control_loan) c.in-Some-Some.is-0) (ap (option_map control_loan) c.in-Some-Some.is-1) in
    c.in-Ok-put_with_bars.ensures.put held offered.between left kept rest both.0 both.1
    (list_taken c.args.new.now offers kept rest held left offered _ (ap (option_map list_loan) c.unwrap-list.ensures))
