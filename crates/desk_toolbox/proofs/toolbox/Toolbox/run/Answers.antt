use Rattle.std.proofs.Common.{rules, arith, refl}
use Rattle.desk_toolbox.specs.EconomicalRuns.{IsEconomicalStep}
use Rattle.desk_toolbox.specs.Run.{IsStep}
use Rattle.desk_toolbox.proofs.Runs.{run_is_right, run_of_all, run_step}
use Rattle.desk_toolbox.proofs.toolbox.Toolbox.run.Goals as goal

pub loop-call-preserved : goal.loop-call-preserved
loop-call-preserved g c = record {
  whole = c.call-answer.ensures.whole;
  run = run_step IsStep _ _ _ c.args.calls.now c.loop-call.answers.items _ c.loop-call.call-index c.call-item.result c.call-answer.result (search rules) c.call-item.is c.loop-call.invariant.run (omega arith) c.call-answer.ensures.step;
  economy = run_step (IsEconomicalStep _ _ _ _) _ _ _ c.args.calls.now c.loop-call.answers.items _ c.loop-call.call-index c.call-item.result c.call-answer.result (search rules) c.call-item.is c.loop-call.invariant.economy (omega arith)
      (record { step = c.call-answer.ensures.step; economy = c.call-answer.ensures.economy; quiet = c.call-answer.ensures.quiet });
  room = search rules;
  made = search rules;
}

pub returns-clause-right : goal.returns-clause-right
returns-clause-right g c right = run_is_right _ _ _ _ right (record { controls = c.requires.managers.controls; lists = c.requires.managers.lists; texts = c.requires.managers.texts; known = c.requires.managers.known; shown = refl }) c.loop-call.invariant.run

pub returns-clause-run : goal.returns-clause-run
returns-clause-run g c = run_of_all IsStep _ _ c.args.calls.now c.loop-call.answers.items c.loop-call.call-index (search rules) c.loop-call.invariant.run

pub returns-clause-economy : goal.returns-clause-economy
returns-clause-economy g c = run_of_all (IsEconomicalStep _ _ _ _) _ _ c.args.calls.now c.loop-call.answers.items c.loop-call.call-index (search rules) c.loop-call.invariant.economy
