use Rattle.std.proofs.Common.{refl, sym, ap, ◌∙◌}
use Rattle.tb_geom.specs.Rects.{in_plane}
use Rattle.window_list.specs.Lists.{edit_at, with_origin}
use Rattle.window_mgr.proofs.Remarked.{area_there}
use Rattle.window_mgr.proofs.ScrollSteps as steps
use Rattle.window_mgr.proofs.manager.WindowManager.scroll.Goals as goal

pub returns-in_default-moved_origin-clause-step : goal.returns-in_default-moved_origin-clause-step
returns-in_default-moved_origin-clause-step g c =
    steps.out_of_range _ c.args.self.now c.args.scroll c.in-Some.at c.in-Some.ensures c.at-found.result.now c.at-found.ensures c.in_default-moved_origin.ensures.none

pub returns-in_default-plan_scroll-clause-step : goal.returns-in_default-plan_scroll-clause-step
returns-in_default-plan_scroll-clause-step g c =
    steps.no_memory _ c.args.self.now c.args.scroll c.in-Some.at c.in-Some.ensures c.at-found.result.now c.at-found.ensures
    (ap in_plane (sym c.in-Some-moved_origin.ensures.some.0) ∙ c.in-Some-moved_origin.ensures.some.1)

pub commit_scroll-requires : goal.commit_scroll-requires
commit_scroll-requires g c = area_there _ c.args.self.now c.requires c.in-Some.at c.in-Some.ensures.0

pub returns-clause-step : goal.returns-clause-step
returns-clause-step g c =
    steps.scrolls _ c.args.self.now c.args.scroll c.in-Some.at c.in-Some.ensures c.at-found.result.now c.at-found.ensures
    (ap in_plane (sym c.in-Some-moved_origin.ensures.some.0) ∙ c.in-Some-moved_origin.ensures.some.1) c.in-Ok.scrolled c.commit_scroll.new.self _ c.in-Ok.ensures c.commit_scroll.ensures
    (c.set_origin.ensures ∙ ap (λ origin. record c.commit_scroll.new.self.windows { records = edit_at (with_origin origin) c.in-Some.at c.commit_scroll.new.self.windows.records }) c.in-Some-moved_origin.ensures.some.0) refl
