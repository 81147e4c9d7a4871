use Rattle.std.proofs.Common.{◌∙◌, arith}
use Rattle.bit_blit.proofs.InkLemmas.{inverts}
use Rattle.bit_blit.proofs.inverting.InverseRule.words.Goals as goal

pub returns : goal.returns
returns c = record { ruled = record { all = c.lay.ensures.all; each = λ n low. c.lay.ensures.each n low ∙ c.all.ensures _ _ (omega arith) ∙ inverts _ } }
