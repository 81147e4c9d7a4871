use Rattle.std.proofs.Common.{[], ◌∙◌, sym, subst}
use Rattle.def_iface.specs.contracts.taken_window.TakenWindowDefined.TheImpl as taken
use Rattle.def_iface.specs.contracts.taken_control.TakenControlDefined.TheImpl as taken_control
use Rattle.def_iface.specs.contracts.taken_list.TakenListDefined.TheImpl as taken_list
use Rattle.def_iface.specs.contracts.stock.StockStockedAll.TheImpl as stock
use Rattle.window_mgr.specs.Records.{desk_of}
use Rattle.window_paint.specs.White.{all_white}
use Rattle.control_mgr.specs.ControlDesks.{controls_show}
use Rattle.control_mgr.specs.WholeControls.{records_of}
use Rattle.list_mgr.specs.ListDesks.{lists_show}
use Rattle.text_mgr.specs.TextDesks.{texts_show}
use Rattle.list_mgr.specs.WholeLists as lists
use Rattle.window_outline.proofs.OutlinesShowing.{let_go_showing}
use Rattle.desk_toolbox.specs.Economy.{IsDropEconomical}
use Rattle.desk_toolbox.proofs.toolbox.Toolbox.outline_call.Goals as goal

pub returns-in-None-clause-whole : goal.returns-in-None-clause-whole
returns-in-None-clause-whole g c = c.outline.ensures.whole _ c.requires.whole

pub returns-in-None-clause-step : goal.returns-in-None-clause-step
returns-in-None-clause-step g c =
    let old = c.args.self.now in
    let shows = controls_show (lists_show (texts_show (λ font. all_white) old.texts.list.items.items) (lists.records_of (taken_list.loan-value g.dyn-4).it old.lists)) (records_of (taken_control.loan-value g.dyn-2).it old.controls) in
    let windows = desk_of (taken.loan-value g.dyn-1).it old.windows [] in
    let none = let_go_showing shows ((stock.all_slots-value g.dyn-1 g.dyn-2 g.dyn-4 g.dyn-3).it c.args.stock.now).windows windows c.args.call.now old.activity ∙ sym c.in-None.ensures in
    rw none (c.outline.ensures.step _ c.requires.whole)

pub returns-in-None-clause-economy : goal.returns-in-None-clause-economy
returns-in-None-clause-economy g c informed = subst (λ o. IsDropEconomical (taken.loan-value g.dyn-1).it o c.args.self.now.windows c.outline.new.self.windows) c.in-None.ensures tt

pub returns-in-Some-clause-economy : goal.returns-in-Some-clause-economy
returns-in-Some-clause-economy g c informed = subst (λ o. IsDropEconomical (taken.loan-value g.dyn-1).it o c.args.self.now.windows c.drop_window.new.self.windows) c.in-Some.ensures (c.drop_window.ensures.economy informed)
