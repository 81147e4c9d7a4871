use Rattle.std.proofs.Common.{[], ◌∙◌, refl, ap, rules}
use Rattle.vis_update.specs.declared.plan.Touch.{Touch}
use Rattle.window_mgr.proofs.SameDeskLemmas.{plan_stays_by}
use Rattle.window_mgr.proofs.manager.WindowManager.plan_window.Goals as goal

pub returns-clause-ok : goal.returns-clause-ok
returns-clause-ok g c = (
  search rules,
  record {
    ticket = record { next = ap (λ l. l.next) c.in_ok-reserve.ensures.others ∙ c.in_ok-ticket.ensures.1.next; title = c.in_ok-ticket.ensures.1.title };
    touch = search rules;
    plan = plan_stays_by _ c.args.self.now (record c.args.self.now { windows = c.reserve.new.self; areas = c.reserve-2.new.self }) [] [] (record { screen = refl; bar = refl; font = refl; gray = refl; desktop = refl; windows = c.in_ok-reserve.ensures.items; areas = search rules; active = search rules; next = search rules }) refl c.args.floating c.args.window.now c.new_touch-touch.result.window _ _ c.new_touch-touch.result _ (ap (λ (x : Touch). x.window) c.new_touch-touch.ensures) c.in_ok-plan.ensures.plan;
    some = search rules;
    room = search rules;
    area_room = search rules;
    within = search rules;
  },
)
