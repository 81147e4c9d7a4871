use Rattle.std.proofs.Common.{◌/◌, ◌%◌, ◌∙◌, ◌||◌, ◌+ℤ◌, pos, ap, refl, SFits, w64, w32, rules}
use Rattle.std.proofs.lemmas.Int.{to_z-of_z}
use Rattle.bit_map.specs.Words.{place_bit}
use Rattle.strike_font.specs.Record.{signed}
use Rattle.strike_font.proofs.TextLemmas.{glyph-is}
use Rattle.strike_font.proofs.WordsLemmas.{column-turn}
use Rattle.strike_font.proofs.TileLemmas.{over_bit, row-turn}
use Rattle.strike_font.proofs.tile.put_glyph.Goals as goal

pub returns : goal.returns
returns c =
    let bytes = c.args.bytes.now in
    let glyph = c.args.glyph in
    let column = c.column_of-column.result in
    let row = c.row_of-row.result in
    let fc : SFits w64 column = search rules in
    let fr : SFits w64 row = search rules in
    let fs : SFits w32 c.signed.result = search rules in
    let fx : SFits w64 c.args.x = search rules in
    let fy : SFits w64 c.args.y = search rules in
    let e = simp to_z-of_z at c.put_columns.ensures in
    let ce = simp to_z-of_z at c.column_of-column.ensures in
    let re = simp to_z-of_z at c.row_of-row.ensures in
    λ n low. e n low ∙ ap (λ b. place_bit c.args.words.now n || b)
    (glyph-is bytes glyph c.word-2.result c.signed.result (c.args.x +ℤ pos (n % 512)) (c.args.y +ℤ pos (n / 512)) (column +ℤ pos (n % 512)) (row +ℤ pos (n / 512)) (over_bit bytes glyph column row n)
    (c.signed.ensures ∙ ap signed c.word.ensures) c.word-2.ensures
    (ap (λ x. x +ℤ pos (n % 512)) ce ∙ column-turn c.args.x c.signed.result (pos glyph.offset) (n % 512))
    (ap (λ y. y +ℤ pos (n / 512)) re ∙ row-turn c.args.y (pos c.word-2.result) (n / 512)) refl)
