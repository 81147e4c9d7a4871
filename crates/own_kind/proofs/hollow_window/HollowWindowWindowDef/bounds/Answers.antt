use Rattle.own_kind.proofs.HoleFacts.{exact}
use Rattle.own_kind.proofs.hollow_window.HollowWindowWindowDef.bounds.Goals as goal

pub returns-clause-exact : goal.returns-clause-exact
returns-clause-exact c = rw c.outline.ensures (exact c.args.size c.requires)
