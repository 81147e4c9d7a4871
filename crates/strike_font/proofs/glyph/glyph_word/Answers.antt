use Rattle.std.proofs.Common.{◌∙◌, ◌+ℤ◌, pos, ap, SFits, w64, w32, rules}
use Rattle.std.proofs.lemmas.Int.{to_z-of_z}
use Rattle.bit_map.specs.Words.{bit_in}
use Rattle.strike_font.specs.Record.{signed}
use Rattle.strike_font.proofs.TextLemmas.{glyph-is}
use Rattle.strike_font.proofs.WordsLemmas.{column-turn}
use Rattle.strike_font.proofs.glyph.glyph_word.Goals as goal

pub returns : goal.returns
returns c =
    let fc : SFits w64 c.column_of-start.result = search rules in
    let fr : SFits w64 c.row_of-row.result = search rules in
    let fs : SFits w32 c.signed.result = search rules in
    let fx : SFits w64 c.args.x = search rules in
    let fy : SFits w64 c.args.y = search rules in
    let e = simp to_z-of_z at c.glyph_bits.ensures in
    let ce = simp to_z-of_z at c.column_of-start.ensures in
    let re = simp to_z-of_z at c.row_of-row.ensures in
    λ k low. glyph-is c.args.bytes.now c.args.glyph c.word-2.result c.signed.result (c.args.x +ℤ pos k) c.args.y (c.column_of-start.result +ℤ pos k) c.row_of-row.result (bit_in c.glyph_bits.result k)
    (c.signed.ensures ∙ ap signed c.word.ensures) c.word-2.ensures (ap (λ x. x +ℤ pos k) ce ∙ column-turn c.args.x c.signed.result (pos c.args.glyph.offset) k) re (e k low)
