use Rattle.layer_steps.proofs.steps.Desk.update_at_once.Goals as goal

pub returns : goal.returns
returns g c = c.update_at_once.ensures _ c.requires
