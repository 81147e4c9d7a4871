use Rattle.script_runner.proofs.ChoicesLemmas.{both_there, chosen_by_words, taken_by_words}
use Rattle.script_runner.proofs.command_line.options.Goals as goal

pub returns-then-choices-2-clause-refused : goal.returns-then-choices-2-clause-refused
returns-then-choices-2-clause-refused g c =
    let chosen = chosen_by_words _ _ c.in-Ok-try_get_matches_from.matches c.chosen-choices.result c.in-Ok.ensures c.in-Ok-try_get_matches_from.ensures.matches c.chosen-choices.ensures.script c.chosen-choices.ensures.font c.chosen-choices.ensures.raw c.chosen-choices.ensures.check in
    let taken = taken_by_words _ _ c.in-Ok.ensures c.in-Ok-try_get_matches_from.ensures.kinds in
    both_there _ c.chosen-choices.result chosen taken c.if-choices.true c.if-choices-2.true

pub returns-else-choices-clause-chosen : goal.returns-else-choices-clause-chosen
returns-else-choices-clause-chosen g c =
    chosen_by_words _ _ c.in-Ok-try_get_matches_from.matches c.chosen-choices.result c.in-Ok.ensures c.in-Ok-try_get_matches_from.ensures.matches c.chosen-choices.ensures.script c.chosen-choices.ensures.font c.chosen-choices.ensures.raw c.chosen-choices.ensures.check

pub returns-else-choices-clause-taken : goal.returns-else-choices-clause-taken
returns-else-choices-clause-taken g c =
    taken_by_words _ _ c.in-Ok.ensures c.in-Ok-try_get_matches_from.ensures.kinds
