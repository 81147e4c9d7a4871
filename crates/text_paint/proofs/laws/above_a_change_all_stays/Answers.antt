use Rattle.text_paint.proofs.AboveLemmas.{all_above}
use Rattle.text_paint.proofs.laws.above_a_change_all_stays.Goals as goal

pub returns : goal.returns
returns c = all_above
