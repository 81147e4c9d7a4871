use Rattle.std.proofs.Common.{ap, ◌∙◌}
use Rattle.std.proofs.lemmas.Int.{to_z-of_z}
use Rattle.def_iface.specs.contracts.taken_list.TakenListDefined.TheImpl as list
use Rattle.list_view.specs.Views.{scrolled}
use Rattle.list_mgr.proofs.Drawn.{seen_there}
use Rattle.list_mgr.proofs.Scrolled.{lists_scrolled, other_list}
use Rattle.list_mgr.proofs.lines.Lists+TakenList.scroll_by.Goals as goal
use Rattle.window_items.proofs.LentLemmas.{lent_and_written}
use Rattle.window_items.specs.Lends.{with_value}

pub returns-clause-lists : goal.returns-clause-lists
returns-clause-lists g c =
    let list_loan = (list.loan-value g.dyn-1).it in
    let x = c.index-list.result.now in
    lists_scrolled list_loan c.args.self.now (record c.args.self.now { list = with_value c.args.self.now.list c.args.spot.list (record c.at_mut.result.now { view = c.scrolled-new.result }) }) c.args.spot.list c.args.columns c.args.rows x
    (seen_there list_loan c.args.self.now.list.items.items c.args.spot.list x c.requires c.index-list.ensures) c.scrolled-new.result
    (simp (to_z-of_z, c.ranges.columns, c.ranges.rows) at c.scrolled-new.ensures ∙ ap (λ (k : _ × _). scrolled k.0 k.1 c.args.columns c.args.rows x.kept.view) (λ i. (c.columns.ensures.columns i, c.rows.ensures.rows i)))
    (lent_and_written (λ k. record k { view = c.scrolled-new.result }) c.args.self.now.list c.args.spot.list _ c.at_mut.ensures.value)

pub returns-clause-changes : goal.returns-clause-changes
returns-clause-changes g c =
    let list_loan = (list.loan-value g.dyn-1).it in
    let x = c.index-list.result.now in
    other_list list_loan c.args.self.now (record c.args.self.now { list = with_value c.args.self.now.list c.args.spot.list (record c.at_mut.result.now { view = c.scrolled-new.result }) }) c.args.spot.list c.args.columns c.args.rows x
    (seen_there list_loan c.args.self.now.list.items.items c.args.spot.list x c.requires c.index-list.ensures) c.scrolled-new.result
    (simp (to_z-of_z, c.ranges.columns, c.ranges.rows) at c.scrolled-new.ensures ∙ ap (λ (k : _ × _). scrolled k.0 k.1 c.args.columns c.args.rows x.kept.view) (λ i. (c.columns.ensures.columns i, c.rows.ensures.rows i)))
    _ c.differ.ensures
