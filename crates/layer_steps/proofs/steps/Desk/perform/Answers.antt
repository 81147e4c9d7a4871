use Rattle.layer_steps.proofs.steps.Desk.perform.Goals as goal

pub returns-in-Put : goal.returns-in-Put
returns-in-Put g c = c.put.ensures _ c.requires

pub returns-in-TakeOut : goal.returns-in-TakeOut
returns-in-TakeOut g c = c.take_out.ensures _ c.requires
