use Rattle.strike_font.proofs.WordsLemmas.{short_bit}
use Rattle.strike_font.proofs.glyph.narrow_word.Goals as goal

pub returns : goal.returns
returns c = λ k low. short_bit c.args.bytes.now c.args.column c.args.row c.args.row_words c.eight_within.result k c.requires.words low c.eight_within.ensures
