use Rattle.window_mgr.proofs.EditSeats.{there_is}
use Rattle.window_update.proofs.MarkLemmas.{marks_within}
use Rattle.window_update.proofs.marking.mark.Goals as goal

pub set_update-requires-clause-within : goal.set_update-requires-clause-within
set_update-requires-clause-within g c =
    let x = there_is c.args.windows.now.windows.records.items c.args.at c.requires.at in
    marks_within _ c.args.windows.now c.requires.kept c.args.at c.requires.at c.args.area.now c.args.verdict c.in-Ok.update c.in-Ok.ensures x.0 x.1
