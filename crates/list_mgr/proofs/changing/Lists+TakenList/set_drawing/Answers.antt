use Rattle.std.proofs.Common.{refl, ap, ◌∙◌}
use Rattle.def_iface.specs.contracts.taken_list.TakenListDefined.TheImpl as list
use Rattle.list_mgr.specs.Seen.{all_seen, kept_seen}
use Rattle.window_items.proofs.SeenLemmas.{edit_at-seen}
use Rattle.list_mgr.proofs.DrawingSet.{drawing_set}
use Rattle.list_mgr.proofs.changing.Lists+TakenList.set_drawing.Goals as goal
use Rattle.window_items.proofs.LentLemmas.{lent_and_written}
use Rattle.list_mgr.specs.Fields.{with_drawing}
use Rattle.window_items.specs.Lends.{with_value}

pub returns : goal.returns
returns g c =
    let list_loan = (list.loan-value g.dyn-1).it in
    drawing_set _ list_loan c.args.windows.now c.args.self.now (record c.args.self.now { list = with_value c.args.self.now.list c.in_ok-spot.spot.list (record c.at_mut.result.now { drawing = c.args.set.drawing }) }) c.args.set c.in_ok-spot.spot c.in_ok-spot.ensures
    (ap (all_seen list_loan) (lent_and_written (λ k. record k { drawing = c.args.set.drawing }) c.args.self.now.list c.in_ok-spot.spot.list _ c.at_mut.ensures.value) ∙ edit_at-seen (kept_seen list_loan) (with_drawing c.args.set.drawing) (with_drawing c.args.set.drawing) (λ l. refl) c.in_ok-spot.spot.list c.args.self.now.list.items.items) refl
