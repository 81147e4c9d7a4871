use Rattle.std.proofs.Common.{refl, rules}
use Rattle.window_mgr.proofs.Steps as steps
use Rattle.window_mgr.proofs.manager.WindowManager.answer_info.Goals as goal

pub returns : goal.returns
returns g c slots whole =
    let found = steps.found _ c.args.self.now c.args.self.now slots whole c.in-Some.at c.args.window c.at-found.result.now c.in-Some.ensures.0 (search rules) (c.in-Some.ensures.1 c.at-found.result.now (search rules)) in (
      whole,
      (
        steps.not_missing _ c.args.self.now c.args.self.now slots whole c.in-Some.at c.args.window c.at-found.result.now c.in-Some.ensures.0 (search rules) (c.in-Some.ensures.1 c.at-found.result.now (search rules)),
        (search rules, record { desk = refl; stale = λ p on. refl; image = λ p on. refl }),
      ),
    )
