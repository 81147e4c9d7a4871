use Rattle.std.proofs.Common.{ap}
use Rattle.window_list.specs.Lists.{with_layers}
use Rattle.window_list.proofs.ListLemmas.{written}
use Rattle.window_list.proofs.list.WindowList.set_layers.Goals as goal

pub returns : goal.returns
returns g c = ap (λ r. record c.args.self.now { records = r }) (written (with_layers c.args.layers) c.args.self.now.records c.args.at c.at_mut-window.result.now c.at_mut-window.ensures.value)
