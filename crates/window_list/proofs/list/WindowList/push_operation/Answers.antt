use Rattle.std.proofs.Common.{◌≡◌, Some, sym, ap, ◌∙◌}
use Rattle.std.specs.Prelude.{slice_get}
use Rattle.std.proofs.lemmas.Option.{slice_get-get_or}
use Rattle.window_list.specs.Lends.{with_value}
use Rattle.window_list.specs.Lists.{with_operation}
use Rattle.window_list.proofs.ListLemmas.{written, where_ok}
use Rattle.window_list.proofs.list.WindowList.push_operation.Goals as goal

pub returns-clause-added : goal.returns-clause-added
returns-clause-added g c =
    where_ok c.push.result c.push.ensures.added (λ more.
    ap (λ ops. record c.args.self.now { records = with_value c.args.self.now.records c.args.at (record c.at_mut-window.result.now { picture = ops }) }) more
    ∙ ap (λ r. record c.args.self.now { records = r }) (written (with_operation c.args.operation) c.args.self.now.records c.args.at c.at_mut-window.result.now c.at_mut-window.ensures.value))

pub returns-clause-refused : goal.returns-clause-refused
returns-clause-refused g c =
    let there : slice_get c.args.self.now.records.items c.args.at ≡ Some c.at_mut-window.result.now = slice_get-get_or _ _ _ c.requires ∙ ap Some (sym c.at_mut-window.ensures.value) in
    rw there c.push.ensures.refused
