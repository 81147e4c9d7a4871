use Rattle.std.proofs.Common.{◌∙◌, cond, ◌+◌, ◌-◌, ◌%◌, nat_lt}
use Rattle.bit_map.specs.Words.{bit_in}
use Rattle.bit_map.proofs.MoveLemmas.{word_from-is}
use Rattle.bit_map.proofs.moves.word_from.Goals as goal

pub returns : goal.returns
returns c = λ k low. word_from-is c.args.words.now c.args.place c.joined.result k low
    (c.joined.ensures k low ∙ (λ i. cond (nat_lt (c.args.place % 64 + k) 64) (bit_in (c.word_at-near.ensures i) (c.args.place % 64 + k)) (bit_in (c.word_at-far.ensures i) (c.args.place % 64 + k - 64))))
