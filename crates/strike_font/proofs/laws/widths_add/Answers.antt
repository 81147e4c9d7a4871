use Rattle.strike_font.proofs.PartLemmas.{widths_add}
use Rattle.strike_font.proofs.laws.widths_add.Goals as goal

pub returns : goal.returns
returns c = widths_add
