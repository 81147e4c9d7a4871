use Rattle.own_kind.proofs.RingFacts.{exact}
use Rattle.own_kind.proofs.ring_control.RingControlControlDef.bounds.Goals as goal

pub returns-clause-exact : goal.returns-clause-exact
returns-clause-exact c = rw c.rect.ensures (exact c.args.size c.requires)
