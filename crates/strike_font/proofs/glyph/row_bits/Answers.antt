use Rattle.std.proofs.Common.{◌≡◌, ◌∙◌, true, ◌+ℤ◌, pos, refl, SFits, w32, rules}
use Rattle.std.proofs.lemmas.Int.{to_z-of_z}
use Rattle.bit_map.specs.Bits.{is_below}
use Rattle.bit_map.specs.Words.{bit_in}
use Rattle.bit_map.proofs.WordLemmas.{bit_in-and}
use Rattle.strike_font.specs.Record.{height}
use Rattle.strike_font.proofs.WordsLemmas.{row_bits, below_z}
use Rattle.strike_font.proofs.glyph.row_bits.Goals as goal

pub returns : goal.returns
returns c =
    let glyph = c.args.glyph in
    let fits : SFits w32 c.args.start = search rules in
    let on : is_below (height c.args.bytes.now) (pos c.args.row) ≡ true = search rules in
    let bits = simp to_z-of_z at c.strike_from.ensures in
    λ k low. bit_in-and c.strike_from.result c.args.own k
    ∙ row_bits c.args.bytes.now glyph (c.args.start +ℤ pos k) (pos c.args.row) c.args.row (bit_in c.strike_from.result k) (bit_in c.args.own k) on refl
    (c.requires.own k low) (λ e. let both = below_z glyph.columns (c.args.start +ℤ pos k) e in bits k low both.0 both.1)
