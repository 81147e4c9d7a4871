use Rattle.strike_font.proofs.PartLemmas.{texts_join}
use Rattle.strike_font.proofs.laws.texts_join.Goals as goal

pub returns : goal.returns
returns c = texts_join
