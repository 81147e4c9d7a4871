use Rattle.layer_steps.proofs.steps.Desk.new.Goals as goal

pub open-requires : goal.open-requires
open-requires g c = (c.in-Ok.ensures.begun _ c.requires).whole
