use Rattle.layer_steps.proofs.steps.Desk.update_by.Goals as goal

pub returns-clause-whole : goal.returns-clause-whole
returns-clause-whole g c = c.update.ensures.windows _ c.requires.whole
