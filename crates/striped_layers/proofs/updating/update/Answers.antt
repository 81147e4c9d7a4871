use Rattle.striped_layers.proofs.updating.update.Goals as goal

pub returns-in_err-_done-clause-windows : goal.returns-in_err-_done-clause-windows
returns-in_err-_done-clause-windows g c slots whole = (c.perform.ensures.step slots whole).0

pub returns-clause-windows : goal.returns-clause-windows
returns-clause-windows g c slots whole = (c.perform.ensures.step slots whole).0
