use Rattle.bit_map.proofs.MoveLemmas.{moved_word}
use Rattle.bit_map.proofs.moves.move_word.Goals as goal

pub returns : goal.returns
returns c = moved_word c.args.words.now c.args.at _ c.word_of.result c.requires.within c.word_of.ensures
