use Rattle.std.proofs.Common.{◌∙◌, ap, arith, cond, ◌/◌, ◌%◌, ◌^◌, get_or}
use Rattle.bit_map.specs.Words.{bit_in}
use Rattle.bit_map.proofs.MoveLemmas.{moved_part}
use Rattle.bit_map.proofs.moves.move_part.Goals as goal

pub returns-then-count-gt0 : goal.returns-then-count-gt0
returns-then-count-gt0 c =
    moved_part c.args.words.now c.args.place c.args.source c.args.count c.word_from.result c.blended.result (omega arith) c.requires.one c.word_from.ensures
    (λ k low. c.blended.ensures k low ∙ ap (λ t. cond t (bit_in (c.word_from.result / 2 ^ (c.args.place % 64)) k) (bit_in (get_or c.args.words.now (c.args.place / 64) 0) k)) (c.black_run-mask.ensures k low))
