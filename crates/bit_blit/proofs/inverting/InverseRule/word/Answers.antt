use Rattle.std.proofs.Common.{◌∙◌, ◌<◌, arith}
use Rattle.bit_blit.proofs.InkLemmas.{inverts}
use Rattle.bit_blit.proofs.inverting.InverseRule.word.Goals as goal

pub returns : goal.returns
returns c = record { ruled = λ k low. let within : k < 64 = omega (arith, low, c.requires.short) in c.of.ensures k within ∙ c.all.ensures k _ within ∙ inverts _ }
