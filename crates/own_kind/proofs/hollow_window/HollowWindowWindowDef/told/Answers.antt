use Rattle.own_kind.proofs.Hearing.{hollow_hears}
use Rattle.own_kind.proofs.hollow_window.HollowWindowWindowDef.told.Goals as goal

pub returns-clause-heard : goal.returns-clause-heard
returns-clause-heard c = rw c.flags_after.ensures (rw c.title_after-title.ensures (rw c.size_after.ensures (hollow_hears c.args.change c.args.self.now)))
