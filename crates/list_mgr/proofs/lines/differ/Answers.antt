use Rattle.list_mgr.proofs.Scrolled.{other_by}
use Rattle.list_mgr.proofs.lines.differ.Goals as goal

pub returns : goal.returns
returns c = other_by c.ne.result c.args.old c.args.new c.ne.ensures
