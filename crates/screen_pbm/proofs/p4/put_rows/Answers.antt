use Rattle.std.proofs.Common.{◌≡◌, ◌+◌, ◌-◌, ◌*◌, ◌/◌, ◌≤◌, ◌∙◌, length, take, sym, ap, arith, rules}
use Rattle.std.proofs.Math.Nat.{mul-le-mul_left}
use Rattle.bit_map.specs.Bits.{bit}
use Rattle.bit_map.proofs.PartLemmas.{length-mid}
use Rattle.screen_pbm.specs.Pbm.{row_bytes}
use Rattle.screen_pbm.proofs.Ranges.{flat_map-more_from}
use Rattle.screen_pbm.proofs.Together.{row_more}
use Rattle.screen_pbm.proofs.p4.put_rows.Goals as goal

pub overflow_add-first : goal.overflow_add-first
overflow_add-first c = record { fits = omega (arith, c.requires.near) }

pub loop-k-preserved : goal.loop-k-preserved
loop-k-preserved c =
    let map = c.args.map.now in
    let k = c.loop-k.k in
    let at = c.from-stride.result * c.from.result in
    let bytes = c.loop-k.bytes in
    let new = c.put_row.new.bytes in
    let stride : c.from-stride.result ≡ (map.width + 7) / 8 = search rules in
    let is_at : at ≡ (map.width + 7) / 8 * k = λ i. stride i * c.from.ensures i in
    let less : at + 128 - at ≡ 128 = omega arith in
    let was = c.loop-k.invariant in
    let more : (map.width + 7) / 8 * k ≤ (map.width + 7) / 8 * c.args.count = mul-le-mul_left ((map.width + 7) / 8) was.low in
    let room : at + 128 ≤ length bytes = omega (arith, is_at, more, c.requires.room, was.all) in
    let short : (map.width + 7) / 8 ≤ 128 = omega (arith, c.requires.width) in
    let step : (map.width + 7) / 8 * (k + 1) ≡ (map.width + 7) / 8 * k + (map.width + 7) / 8 = grind arith in
    let next : (map.width + 7) / 8 * (k + 1) ≡ at + (map.width + 7) / 8 = omega (arith, step, is_at) in
    rw less (record {
      all = length-mid at 128 bytes new room c.put_row.ensures.all ∙ was.all;
      low = omega arith;
      rows = row_more bytes new _ _ at ((map.width + 7) / 8) _ room c.put_row.ensures.all short next (ap (λ j. take j bytes) is_at ∙ was.rows) c.put_row.ensures.row
          ∙ sym (flat_map-more_from (row_bytes map.width (bit map)) c.args.first k);
    })
