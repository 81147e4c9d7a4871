use Rattle.own_kind.proofs.Hearing.{ring_hears}
use Rattle.own_kind.proofs.ring_control.RingControlControlDef.told.Goals as goal

pub returns-clause-heard : goal.returns-clause-heard
returns-clause-heard c = rw c.after-kept.ensures (ring_hears c.args.change.now c.args.self.now)
