use Rattle.std_wdef.proofs.RoundFacts.{content_within, round_exact}
use Rattle.std_wdef.proofs.round_window.RoundWindowWindowDef.bounds.Goals as goal

pub returns-clause-exact : goal.returns-clause-exact
returns-clause-exact c = rw c.document_box.ensures (round_exact c.args.size c.requires)

pub returns-clause-content : goal.returns-clause-content
returns-clause-content c = content_within c.args.size
