use Rattle.std.proofs.Common.{◌∙◌}
use Rattle.window_list.proofs.RanksLemmas.{as_many}
use Rattle.window_list.proofs.ranks.Ranks.len.Goals as goal

pub returns : goal.returns
returns g c = c.len.ensures ∙ (as_many c.self.inside _ c.self.view_is c.self.invariant).0
