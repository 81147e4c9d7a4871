use Rattle.std.proofs.Common.{rules, refl}
use Rattle.desk_toolbox.proofs.Runs.{admitted_stays_right}
use Rattle.desk_toolbox.proofs.toolbox.Toolbox.call.Goals as goal

pub returns-in-Ok-clause-whole : goal.returns-in-Ok-clause-whole
returns-in-Ok-clause-whole g c = record {
  managers = c.perform.ensures.whole;
  right = (admitted_stays_right c.args.call.now c.perform.result _ _ (search rules)
      (record { right = c.requires.right; contents = record { controls = c.requires.managers.controls; lists = c.requires.managers.lists; texts = c.requires.managers.texts; known = c.requires.managers.known; shown = refl } }) c.perform.ensures.step).right;
}

pub returns-in-Ok-clause-right : goal.returns-in-Ok-clause-right
returns-in-Ok-clause-right g c right = (admitted_stays_right c.args.call.now c.perform.result _ _ (search rules) (record { right = right; contents = record { controls = c.requires.managers.controls; lists = c.requires.managers.lists; texts = c.requires.managers.texts; known = c.requires.managers.known; shown = refl } }) c.perform.ensures.step).right

pub returns-in-Ok-clause-economy : goal.returns-in-Ok-clause-economy
returns-in-Ok-clause-economy g c consistent = c.perform.ensures.economy consistent.informed
