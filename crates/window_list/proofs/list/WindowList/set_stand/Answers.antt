use Rattle.std.proofs.Common.{ap, ◌∙◌}
use Rattle.window_list.specs.Lends.{with_value}
use Rattle.window_list.specs.Lists.{with_stand}
use Rattle.window_list.proofs.ListLemmas.{written}
use Rattle.window_list.proofs.list.WindowList.set_stand.Goals as goal

pub returns : goal.returns
returns g c =
    (λ i. record c.args.self.now {
      records = with_value c.args.self.now.records c.args.at (record c.at_mut-window.result.now {
        place = c.args.place;
        shown = c.args.shown;
        user_state = c.args.user_state;
        layers = c.go_to.ensures i;
      });
    })
    ∙ ap (λ r. record c.args.self.now { records = r }) (written (with_stand c.args.place c.args.shown c.args.user_state) c.args.self.now.records c.args.at c.at_mut-window.result.now c.at_mut-window.ensures.value)
