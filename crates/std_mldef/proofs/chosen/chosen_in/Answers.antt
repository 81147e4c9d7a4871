use Rattle.std.proofs.Common.{sym, ◌∙◌, rules}
use Rattle.std_mldef.proofs.RowLemmas.{choice_is}
use Rattle.std_mldef.proofs.chosen.chosen_in.Goals as goal

pub returns-then-can_choose-clause-choice : goal.returns-then-can_choose-clause-choice
returns-then-can_choose-clause-choice c = choice_is c.args.menu.now c.loop-at.at c.index-items-at.result (search rules) (search rules) (sym c.can_choose.ensures ∙ c.if-can_choose.true)
