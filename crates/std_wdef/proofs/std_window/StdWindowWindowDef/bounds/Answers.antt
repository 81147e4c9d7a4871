use Rattle.std_wdef.proofs.AreaFacts.{exact, within}
use Rattle.std_wdef.proofs.std_window.StdWindowWindowDef.bounds.Goals as goal

pub returns-clause-exact : goal.returns-clause-exact
returns-clause-exact c = rw c.structure_box.ensures (exact c.args.self.now.variation c.args.size c.requires)

pub returns-clause-content : goal.returns-clause-content
returns-clause-content c = within c.args.self.now.variation c.args.size
