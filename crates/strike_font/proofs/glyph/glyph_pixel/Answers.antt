use Rattle.std.proofs.Common.{◌∙◌, ap, rules, SFits, w64, w32}
use Rattle.std.proofs.lemmas.Int.{to_z-of_z}
use Rattle.strike_font.specs.Record.{signed}
use Rattle.strike_font.proofs.TextLemmas.{glyph-is}
use Rattle.strike_font.proofs.glyph.glyph_pixel.Goals as goal

pub returns : goal.returns
returns c =
    let fc : SFits w64 c.column_of-column.result = search rules in
    let fr : SFits w64 c.row_of-row.result = search rules in
    let fs : SFits w32 c.signed.result = search rules in
    let fx = c.ranges.x in
    let fy = c.ranges.y in
    let e = simp to_z-of_z at c.glyph_bit.ensures in
    let ce = simp to_z-of_z at c.column_of-column.ensures in
    let re = simp to_z-of_z at c.row_of-row.ensures in
    glyph-is c.args.bytes.now c.args.glyph c.word-2.result c.signed.result c.args.x c.args.y c.column_of-column.result c.row_of-row.result c.glyph_bit.result
    (c.signed.ensures ∙ ap signed c.word.ensures) c.word-2.ensures ce re e
