use Rattle.window_outline.proofs.WindowsRead.{read, read_settled}
use Rattle.window_outline.proofs.reading.window_of.Goals as goal

pub returns-clause-found : goal.returns-clause-found
returns-clause-found g c = read _ c.args.windows.now c.requires c.args.serial c.in_ok-at.at c.in_ok-at.ensures c.at.result.now (rw c.list.ensures at c.at.ensures)

pub returns-clause-settled : goal.returns-clause-settled
returns-clause-settled g c = read_settled _ c.args.windows.now c.requires c.args.serial c.in_ok-at.at c.in_ok-at.ensures c.at.result.now (rw c.list.ensures at c.at.ensures)
