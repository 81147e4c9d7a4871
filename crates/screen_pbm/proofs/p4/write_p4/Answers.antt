use Rattle.std.proofs.Common.{◌≡◌, ◌+◌, ◌*◌, ◌/◌, ◌≤◌, ◌∙◌, take, codes, arith, rules}
use Rattle.std.specs.List.{flat_map, range_with_len}
use Rattle.bit_map.specs.Bits.{bit}
use Rattle.screen_pbm.specs.Pbm.{head_text, row_bytes, p4}
use Rattle.screen_pbm.proofs.Ranges.{Sent-range_add, Sends-range_part, Sent-range_end}
use Rattle.watched_io.proofs.Written.{Sent-trans, Sends-after, Sends-exit_first}
use Rattle.screen_pbm.proofs.p4.write_p4.Goals as goal

pub returns-in_err-write_head : goal.returns-in_err-write_head
unfolding p4
returns-in_err-write_head g c =
    let map = c.args.map.now in
    let head = head_text (codes "P4") map.width map.height in
    Sends-exit_first _ _ c.from_residual.result c.in_err-write_head.field-0.0 head
    (flat_map (row_bytes map.width (bit map)) (range_with_len 0 map.height))
    c.from_residual.ensures.1 (rw (c.width_of-width.ensures, c.height_of-height.ensures) at c.in_err-write_head.ensures)

pub returns-in_err-send : goal.returns-in_err-send
unfolding p4
returns-in_err-send g c =
    let map = c.args.map.now in
    let row = c.loop-row.row in
    let count = c.min-count.result in
    let stride : c.from-stride.result ≡ (map.width + 7) / 8 = search rules in
    let rows : take (c.from-stride.result * c.from.result) c.put_rows.new.bytes ≡ flat_map (row_bytes map.width (bit map)) (range_with_len row count) =
    (λ i. take (stride i * c.from.ensures i) c.put_rows.new.bytes) ∙ c.put_rows.ensures.rows in
    let within : row + count ≤ map.height = omega arith in
    let head = head_text (codes "P4") map.width map.height in
    Sends-after _ _ _ c.from_residual-in_err-send.result head _
    (rw (c.width_of-width.ensures, c.height_of-height.ensures) at c.in_ok-write_head.ensures)
    (Sends-range_part _ _ _ c.from_residual-in_err-send.result c.in_err-send.field-0.0
    (row_bytes map.width (bit map)) map.height row count within
    c.from_residual-in_err-send.ensures.1 c.loop-row.invariant.sent
    (rw rows at c.in_err-send.ensures))

pub loop-row-preserved : goal.loop-row-preserved
loop-row-preserved g c =
    let map = c.args.map.now in
    let row = c.loop-row.row in
    let count = c.min-count.result in
    let stride : c.from-stride.result ≡ (map.width + 7) / 8 = search rules in
    let rows : take (c.from-stride.result * c.from.result) c.put_rows.new.bytes ≡ flat_map (row_bytes map.width (bit map)) (range_with_len row count) =
    (λ i. take (stride i * c.from.ensures i) c.put_rows.new.bytes) ∙ c.put_rows.ensures.rows in
    record {
      low = omega arith;
      sent = Sent-range_add _ _ _ (row_bytes map.width (bit map)) row count c.loop-row.invariant.sent (rw rows at c.in_ok-send.ensures);
    }

pub returns : goal.returns
unfolding p4
returns g c =
    let map = c.args.map.now in
    Sent-trans _ _ _ (head_text (codes "P4") map.width map.height) _
    (rw (c.width_of-width.ensures, c.height_of-height.ensures) at c.in_ok-write_head.ensures)
    (Sent-range_end _ _ (row_bytes map.width (bit map)) map.height c.loop-row.row (omega arith) c.loop-row.invariant.sent)
