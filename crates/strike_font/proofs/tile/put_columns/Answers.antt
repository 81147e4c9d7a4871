use Rattle.std.proofs.Common.{SFits, w64, rules}
use Rattle.std.proofs.lemmas.Int.{to_z-of_z}
use Rattle.strike_font.proofs.TileLemmas.{columns_none, columns_more, columns_all}
use Rattle.strike_font.proofs.tile.put_columns.Goals as goal

pub loop-at-init : goal.loop-at-init
loop-at-init c =
    let fits : SFits w64 c.args.column = search rules in
    let fits_r : SFits w64 c.args.row = search rules in
    let before = simp to_z-of_z at c.first_word-at.ensures.before in
    simp to_z-of_z (columns_none c.args.bytes.now c.args.glyph c.args.column c.args.row c.first_word-at.result c.args.words.now before)

pub loop-at-preserved : goal.loop-at-preserved
loop-at-preserved c =
    let fits : SFits w64 c.args.column = search rules in
    let fits_r : SFits w64 c.args.row = search rules in
    let here = simp to_z-of_z at c.put_column.ensures.here in
    let was = simp to_z-of_z at c.loop-at.invariant in
    simp to_z-of_z (columns_more c.args.bytes.now c.args.glyph c.args.column c.args.row c.loop-at.at c.args.words.now c.loop-at.words c.put_column.new.words here c.put_column.ensures.elsewhere was)

pub returns : goal.returns
returns c =
    let fits : SFits w64 c.args.column = search rules in
    let fits_r : SFits w64 c.args.row = search rules in
    let after = simp to_z-of_z at c.end_word-at-end.ensures.after in
    let was = simp to_z-of_z at c.loop-at.invariant in
    columns_all c.args.bytes.now c.args.glyph c.args.column c.args.row c.loop-at.at c.end_word-at-end.result c.args.words.now c.loop-at.words (search rules) after was
