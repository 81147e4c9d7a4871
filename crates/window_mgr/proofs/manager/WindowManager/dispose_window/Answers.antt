use Rattle.window_mgr.proofs.DisposeCalls as closing
use Rattle.window_mgr.proofs.KeptLemmas.{kept}
use Rattle.window_mgr.proofs.Seating.{as_many}
use Rattle.window_mgr.proofs.manager.WindowManager.dispose_window.Goals as goal

pub plan_without-requires-clause-kept : goal.plan_without-requires-clause-kept
plan_without-requires-clause-kept g c = kept _ c.args.self.now _ c.requires

pub take_off-taken-requires-clause-areas : goal.take_off-taken-requires-clause-areas
take_off-taken-requires-clause-areas g c = as_many _ c.args.self.now (kept _ c.args.self.now _ c.requires)

pub take_off-taken-requires-clause-settled : goal.take_off-taken-requires-clause-settled
take_off-taken-requires-clause-settled g c = closing.rest_settled _ c.args.self.now _ _ c.in-Some.ensures.0 c.requires.sound.settled

pub put_away-requires-clause-live : goal.put_away-requires-clause-live
put_away-requires-clause-live g c =
    closing.is_live _ c.args.self.now _ c.in-Some.at _ _ _ c.take_off-taken.ensures c.in-Some.ensures.0 c.requires.sound.settled

pub put_away-requires-clause-left : goal.put_away-requires-clause-left
put_away-requires-clause-left g c =
    closing.slot_is_left _ c.args.self.now _ _ c.in-Some.at _ _ _ c.take_off-taken.ensures c.in-Some.ensures.0 c.requires.sound.stocked.left

pub returns-in_default-plan_without-clause-step : goal.returns-in_default-plan_without-clause-step
returns-in_default-plan_without-clause-step g c =
    closing.no_memory _ c.args.self.now _ c.args.window c.in-Some.at c.requires c.in-Some.ensures.0 c.in-Some.ensures.1

pub returns : goal.returns
returns g c =
    let call : closing.IsDisposeCall _ c.args.window c.in-Some.at _ _ c.take_off-taken.result c.args.self.now c.take_off-taken.new.self _ _ = record {
      whole = c.requires;
      low = c.in-Some.ensures.0;
      serial = c.in-Some.ensures.1;
      becomes = c.in-Ok.ensures.activation;
      planned = c.in-Ok.ensures.plan;
      off = c.take_off-taken.ensures;
      shut = c.put_away.ensures;
    } in
    let done = closing.dispose_done _ c.args.window c.in-Some.at _ _ c.take_off-taken.result c.args.self.now c.take_off-taken.new.self _ _ call in
    record { whole = done.0; step = done.1; sparing = closing.dispose_spares _ c.args.window c.in-Some.at _ _ c.take_off-taken.result c.args.self.now c.take_off-taken.new.self _ _ call; quiet = tt }
