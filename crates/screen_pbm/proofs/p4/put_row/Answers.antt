use Rattle.std.proofs.Common.{◌≡◌, ℕ, ◌+◌, ◌-◌, ◌*◌, ◌/◌, ◌%◌, ◌^◌, ◌<◌, ◌∙◌, arith, rules}
use Rattle.bit_map.specs.Bits.{bit}
use Rattle.screen_pbm.proofs.Words.{row_is, row_of_words, cut_row}
use Rattle.screen_pbm.proofs.p4.put_row.Goals as goal

pub returns-else-width-gt0-clause-row : goal.returns-else-width-gt0-clause-row
returns-else-width-gt0-clause-row c =
    let map = c.args.map.now in
    let bytes = c.put_words.new.bytes in
    let all = c.put_words.ensures.all in
    let none : map.width % 8 ≡ 0 = omega arith in
    let columns = row_of_words map.width (bit map) c.args.row bytes c.row.result.now c.row.ensures.words c.put_words.ensures.bits c.row.ensures.bits in
    row_is map.width (bit map) c.args.row bytes all c.requires.width (search rules) (λ h low. columns h (omega (arith, low, none)))

pub returns-then-width-gt0-clause-row : goal.returns-then-width-gt0-clause-row
returns-then-width-gt0-clause-row c =
    let map = c.args.map.now in
    let bytes = c.put_words.new.bytes in
    let all = c.put_words.ensures.all in
    let some : 0 < map.width % 8 = omega arith in
    let width : c.from-width.result ≡ map.width = c.from-width.ensures ∙ c.width_of.ensures in
    let columns = row_of_words map.width (bit map) c.args.row bytes c.row.result.now c.row.ensures.words c.put_words.ensures.bits c.row.ensures.bits in
    rw width (row_is map.width (bit map) c.args.row _ (search rules) c.requires.width (search rules) (cut_row map.width (bit map) c.args.row bytes all c.requires.width some columns))
