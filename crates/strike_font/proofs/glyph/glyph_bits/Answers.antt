use Rattle.std.proofs.Common.{◌≡◌, ◌∙◌, sym, true, false, ◌≤◌, ◌+ℤ◌, pos, SFits, w64, w32, rules, arith}
use Rattle.std.proofs.lemmas.Int.{ints, to_z-of_z}
use Rattle.bit_map.specs.Bits.{is_below}
use Rattle.bit_map.proofs.WordLemmas.{bit_in-none}
use Rattle.strike_font.specs.Record.{height}
use Rattle.strike_font.specs.Text.{glyph_bit}
use Rattle.strike_font.proofs.WordsLemmas.{row_none, near_column, near_bit, below_row}
use Rattle.strike_font.proofs.glyph.glyph_bits.Goals as goal

pub returns-then-not-is_row : goal.returns-then-not-is_row
returns-then-not-is_row c =
    let off : is_below (height c.args.bytes.now) c.args.row ≡ false = search rules in
    λ k low. bit_in-none k ∙ sym (row_none c.args.bytes.now c.args.glyph _ c.args.row off)

pub returns : goal.returns
returns c =
    let bytes = c.args.bytes.now in
    let glyph = c.args.glyph in
    let fits_r : SFits w64 c.args.row = search rules in
    let fits_c : SFits w64 c.args.column = search rules in
    let on : is_below (height bytes) c.args.row ≡ true = search rules in
    let row = below_row (height bytes) c.args.row on in
    let few : glyph.columns ≤ 65535 = search (rules, arith) in
    let start : c.clamp-start.result ≡ near_column c.args.column = simp to_z-of_z at c.clamp-start.ensures.value in
    let fits_s : SFits w64 c.clamp-start.result = search rules in
    let near_s : SFits w32 c.clamp-start.result = search (rules, ints) in
    let bits = simp to_z-of_z at c.row_bits.ensures in
    λ k low. bits k low ∙ (λ i. glyph_bit bytes glyph (start i +ℤ pos k) (sym row i)) ∙ near_bit bytes glyph c.args.column c.args.row k few low
