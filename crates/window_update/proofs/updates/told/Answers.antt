use Rattle.window_update.proofs.ServeLemmas.{not_told}
use Rattle.window_update.proofs.updates.told.Goals as goal

pub returns-in-Err : goal.returns-in-Err
returns-in-Err c = not_told c.args.region.now c.in-Err.refusal c.in-Err.ensures
