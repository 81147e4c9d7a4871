use Rattle.std.proofs.Common.{length, sym, ap, ◌∙◌}
use Rattle.window_mgr.proofs.Seating.{as_many}
use Rattle.window_mgr.proofs.NewWindowLemmas as adding
use Rattle.window_mgr.proofs.SlotLemmas as slots
use Rattle.window_mgr.proofs.SameDeskLemmas as keeping
use Rattle.window_mgr.proofs.KeptLemmas.{kept}
use Rattle.window_mgr.proofs.manager.WindowManager.new_window.Goals as goal

pub plan_window-requires : goal.plan_window-requires
plan_window-requires g c = kept _ c.args.self.now _ c.requires

pub add_window-requires-clause-fits : goal.add_window-requires-clause-fits
add_window-requires-clause-fits g c =
    adding.unrefused_fits c.args.window.now _ _ c.args.self.now.windows.next c.in-Ok-plan_window.ensures.ok.0

pub returns-in-Err-plan_window-clause-whole : goal.returns-in-Err-plan_window-clause-whole
returns-in-Err-plan_window-clause-whole g c =
    keeping.stays_whole _ _ _ _ _ c.plan_window.ensures.same (slots.put_back_is_old _ _ _ _ c.in-Ok.ensures.taken _ c.put_back.ensures) c.requires

pub returns-in-Err-plan_window-clause-step : goal.returns-in-Err-plan_window-clause-step
returns-in-Err-plan_window-clause-step g c =
    adding.is_not_made _ c.args.floating c.args.window.now _ _ _ _ _ _ _ c.requires (slots.taken_named _ _ _ _ _ c.as_slice.ensures c.in-Ok.ensures.taken) c.in-Err-plan_window.ensures.err c.plan_window.ensures.same c.put_back.ensures

pub returns-in-Err-plan_window-clause-quiet : goal.returns-in-Err-plan_window-clause-quiet
returns-in-Err-plan_window-clause-quiet g c = c.plan_window.ensures.same.screen

pub returns-in-Ok-plan_window-clause-whole : goal.returns-in-Ok-plan_window-clause-whole
returns-in-Ok-plan_window-clause-whole g c =
    adding.is_whole _ c.args.floating _ _ _ _ _ _ _ _ _ _ (record {
      whole = c.requires;
      same = c.plan_window.ensures.same;
      unrefused_is = c.in-Ok-plan_window.ensures.ok.0;
      touch_is = c.in-Ok-plan_window.ensures.ok.1.touch;
      plan_with = c.in-Ok-plan_window.ensures.ok.1.plan;
      number = c.in-Ok-plan_window.ensures.ok.1.ticket.next;
      added = c.add_window.ensures;
      took = slots.taken_named _ _ _ _ _ c.as_slice.ensures c.in-Ok.ensures.taken;
      within = c.in-Ok-plan_window.ensures.ok.1.within;
    })

pub returns-in-Ok-plan_window-clause-step : goal.returns-in-Ok-plan_window-clause-step
returns-in-Ok-plan_window-clause-step g c =
    adding.is_made _ c.args.floating c.args.window.now _ _ _ _ _ _ _ _ _ (record {
      whole = c.requires;
      same = c.plan_window.ensures.same;
      unrefused_is = c.in-Ok-plan_window.ensures.ok.0;
      touch_is = c.in-Ok-plan_window.ensures.ok.1.touch;
      plan_with = c.in-Ok-plan_window.ensures.ok.1.plan;
      number = c.in-Ok-plan_window.ensures.ok.1.ticket.next;
      added = c.add_window.ensures;
      took = slots.taken_named _ _ _ _ _ c.as_slice.ensures c.in-Ok.ensures.taken;
      within = c.in-Ok-plan_window.ensures.ok.1.within;
    })

pub add_window-requires-clause-settled : goal.add_window-requires-clause-settled
add_window-requires-clause-settled g c = keeping.settled_stay _ _ _ c.plan_window.ensures.same c.requires.sound.settled

pub add_window-requires-clause-may_stand : goal.add_window-requires-clause-may_stand
add_window-requires-clause-may_stand g c =
    adding.unrefused_placed c.args.window.now _ _ c.args.self.now.windows.next c.in-Ok-plan_window.ensures.ok.0

pub returns-in-Err-NoDefinition-clause-step : goal.returns-in-Err-NoDefinition-clause-step
returns-in-Err-NoDefinition-clause-step g c =
    adding.is_not_given _ c.args.floating c.args.window.now _ _ _ c.args.self.now _ _ c.as_slice.ensures c.in-Err-NoDefinition.field-0-is c.in-Err-NoDefinition.ensures.refused c.refusal_without.ensures c.in-Err-NoDefinition.ensures.kept

pub add_window-requires-clause-areas : goal.add_window-requires-clause-areas
add_window-requires-clause-areas g c =
    ap length c.plan_window.ensures.same.areas ∙ as_many _ c.args.self.now (kept _ c.args.self.now _ c.requires) ∙ ap length (sym c.plan_window.ensures.same.windows)
