use Rattle.std.proofs.Common.{◌≡◌, ℕ, ◌+◌, ◌*◌, ◌/◌, ◌%◌, ◌∙◌, get_or, arith}
use Rattle.bit_map.specs.Patterns.{bit_of}
use Rattle.strike_font.proofs.WordsLemmas.{short_bit, strike_bit}
use Rattle.strike_font.proofs.glyph.strike_word.Goals as goal

from_first : (j : ℕ) → 0 + j ≡ j
from_first j = omega arith

pub returns-then-columns-le57 : goal.returns-then-columns-le57
returns-then-columns-le57 c =
    let bytes = c.args.bytes.now in
    let column = c.args.column in
    let row = c.args.row in
    let w = c.args.row_words in
    λ k low less. short_bit bytes column row w c.bits_from.result k c.requires.words (omega (arith, less, c.if-columns-le57.true))
    (λ j l. c.bits_from.ensures j l ∙ (λ i. bit_of (get_or bytes (26 + row * (2 * w) + column / 8 + from_first j i / 8) 0) (from_first j i % 8)))

pub returns : goal.returns
returns c =
    λ k low less. c.bits_from-2.ensures k low
    ∙ strike_bit c.args.bytes.now c.args.column c.args.row c.args.row_words k c.requires.words
