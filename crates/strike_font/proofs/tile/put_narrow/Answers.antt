use Rattle.std.proofs.Common.{◌≡◌, ◌<◌, ◌*◌, ◌+◌, ◌≤ℤ◌, ◌<ℤ◌, ◌+ℤ◌, pos, refl, SFits, w64, w32, rules, arith}
use Rattle.std.proofs.lemmas.Int.{ints, to_z-of_z}
use Rattle.strike_font.specs.Record.{height}
use Rattle.strike_font.proofs.TileLemmas.{rows_more, rows_all}
use Rattle.strike_font.proofs.tile.put_narrow.Goals as goal

pub row_at-there-requires : goal.row_at-there-requires
row_at-there-requires c =
    let row = c.args.row in
    let down = c.loop-down.down in
    let fits : SFits w64 row = search rules in
    let under : down < 16 = omega (arith, c.end_row-down-end.ensures.within, c.loop-down-test.true) in
    let low : pos 0 ≤ℤ (row +ℤ pos down) = simp to_z-of_z at (c.first_row-down.ensures.after down under c.loop-down.auto.down) in
    let high : (row +ℤ pos down) <ℤ pos c.word-height.result = simp to_z-of_z at (c.end_row-down-end.ensures.before down c.loop-down-test.true) in
    let small : c.word-height.result < 65536 = search rules in
    simp to_z-of_z (record { down_in = under; low = low; high = omega (arith, ints, high, small) })

pub loop-down-preserved : goal.loop-down-preserved
loop-down-preserved c =
    let row = c.args.row in
    let column = c.args.column in
    let down = c.loop-down.down in
    let start = c.column_at-start.result in
    let fits : SFits w64 row = search rules in
    let fits_c : SFits w64 column = search rules in
    let fits_s : SFits w32 start = search rules in
    let start_is = simp to_z-of_z at c.column_at-start.ensures in
    let row_is = simp to_z-of_z at c.row_at-there.ensures in
    let bits = simp to_z-of_z at c.narrow_bits.ensures in
    let was = simp to_z-of_z at c.loop-down.invariant in
    simp to_z-of_z (rows_more c.args.bytes.now c.args.glyph column row start c.args.at down c.row_at-there.result (8 * down + c.args.at) c.narrow_bits.result c.args.words.now c.loop-down.words c.requires.at_in refl (search rules) start_is row_is bits was)

pub returns-clause-here : goal.returns-clause-here
returns-clause-here c =
    let fits : SFits w64 c.args.row = search rules in
    let fits_c : SFits w64 c.args.column = search rules in
    let below = simp to_z-of_z at c.end_row-down-end.ensures.after in
    let was = simp to_z-of_z at c.loop-down.invariant in
    let tall : c.word-height.result ≡ height c.args.bytes.now = c.word-height.ensures in
    rows_all c.args.bytes.now c.args.glyph c.args.column c.args.row c.args.at c.loop-down.down c.end_row-down-end.result c.args.words.now c.loop-down.words (search rules) (rw tall at below) was
