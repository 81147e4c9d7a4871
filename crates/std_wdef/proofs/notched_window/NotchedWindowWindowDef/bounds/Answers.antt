use Rattle.std_wdef.proofs.NotchFacts.{notched-exact, notched-within}
use Rattle.std_wdef.proofs.notched_window.NotchedWindowWindowDef.bounds.Goals as goal

pub returns-clause-exact : goal.returns-clause-exact
returns-clause-exact c = rw c.ring.ensures (notched-exact c.args.size c.requires)

pub returns-clause-content : goal.returns-clause-content
returns-clause-content c = notched-within c.args.size
