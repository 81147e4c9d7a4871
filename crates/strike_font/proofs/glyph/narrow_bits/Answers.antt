use Rattle.std.proofs.Common.{◌≡◌, ◌<◌, ◌∙◌, true, ◌+ℤ◌, ◌/◌, pos, refl, SFits, w32, rules, arith}
use Rattle.std.proofs.lemmas.Int.{to_z-of_z}
use Rattle.bit_map.specs.Bits.{is_below}
use Rattle.bit_map.specs.Words.{bit_in}
use Rattle.bit_map.proofs.WordLemmas.{bit_in-and}
use Rattle.strike_font.specs.Record.{height}
use Rattle.strike_font.proofs.WordsLemmas.{either_bits, row_bits, row_within, below_z}
use Rattle.strike_font.proofs.glyph.narrow_bits.Goals as goal

pub narrow_word-requires : goal.narrow_word-requires
narrow_word-requires c = record {
  font = c.requires.font;
  words = c.requires.words;
  within = row_within c.args.bytes.now c.args.row_words c.args.row (c.args.read / 8) 8 c.requires.words c.requires.row_in c.requires.within;
}

pub returns : goal.returns
returns c =
    let glyph = c.args.glyph in
    let fits : SFits w32 c.args.start = search rules in
    let on : is_below (height c.args.bytes.now) (pos c.args.row) ≡ true = search rules in
    let back = simp to_z-of_z at c.back_of.ensures in
    λ k low. bit_in-and _ c.args.own k
    ∙ row_bits c.args.bytes.now glyph (c.args.start +ℤ pos k) (pos c.args.row) c.args.row _ (bit_in c.args.own k) on refl
    (c.requires.own k low)
    (λ e. let both = below_z glyph.columns (c.args.start +ℤ pos k) e in
    either_bits c.args.bytes.now glyph.first glyph.columns c.args.row c.args.read c.back_of.result c.narrow_word.result k c.args.start c.requires.read back
    (λ j l less. c.narrow_word.ensures j (omega (arith, less, c.requires.narrow))) low both.0 both.1)
