use Rattle.std.proofs.Common.{SFits, w32, rules}
use Rattle.std.proofs.lemmas.Int.{to_z-of_z}
use Rattle.strike_font.proofs.WordsLemmas.{either_bits}
use Rattle.strike_font.proofs.glyph.strike_from.Goals as goal

pub returns : goal.returns
returns c =
    let fits : SFits w32 c.args.start = search rules in
    let read = simp to_z-of_z at c.column_read-column.ensures in
    let back = simp to_z-of_z at c.back_of.ensures in
    λ k low inside before. either_bits c.args.bytes.now c.args.first c.args.columns c.args.row c.column_read-column.result c.back_of.result c.strike_word.result k c.args.start read back c.strike_word.ensures low inside before
