use Rattle.std.proofs.Common.{◌∙◌, ap, arith, cond, ◌/◌, ◌%◌, ◌^◌, get_or}
use Rattle.std.proofs.lemmas.List.{length-set}
use Rattle.bit_map.specs.Words.{bit_in}
use Rattle.bit_map.proofs.PartLemmas.{word_part, ruled_word}
use Rattle.bit_map.proofs.run.rule_part.Goals as goal

pub returns-then-count-gt0 : goal.returns-then-count-gt0
returns-then-count-gt0 g c =
    let part = word_part c.args.words.now c.args.place c.args.count c.blended.result _ (omega arith) c.requires.one
    (ruled_word (g.R.Rule.value c.args.rule.now) c.args.start c.args.words.now c.args.place c.args.count c.word.result c.requires.one c.word.ensures.ruled c.blended.result
    (λ k low. c.blended.ensures k low ∙ ap (λ t. cond t (bit_in (c.word.result / 2 ^ (c.args.place % 64)) k) (bit_in (get_or c.args.words.now (c.args.place / 64) 0) k)) (c.black_run.ensures k low))) in
    record { all = length-set _ _ _; run = part.run; before = part.before; after = part.after }
