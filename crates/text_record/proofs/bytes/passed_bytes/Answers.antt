use Rattle.std.proofs.Common.{rules, arith, SFits, w64, to_z, ◌+ℤ◌, ◌-ℤ◌, ◌≤ℤ◌, ℤ, pos}
use Rattle.std.proofs.lemmas.Int.{ints, to_z-of_z}
use Rattle.text_record.proofs.PassLemmas.{passes}
use Rattle.text_record.proofs.bytes.passed_bytes.Goals as goal

pub loop-byte-preserved : goal.loop-byte-preserved
loop-byte-preserved c =
    let ahead : SFits w64 c.args.ahead = search rules in
    let wide : SFits w64 c.from-wide.result = search rules in
    let left : ℤ = to_z w64 c.loop-byte.left-bits in
    let fits : SFits w64 (left -ℤ c.from-wide.result) = search (arith, ints) in
    let reaches : pos c.byte_width.result ≤ℤ (left +ℤ left) = search (arith, ints) in
    let h = simp to_z-of_z at c.loop-byte.invariant.value in
    let low = simp to_z-of_z at c.loop-byte.invariant.from in
    let high = simp to_z-of_z at c.loop-byte.invariant.to in
    let k = c.from-wide.ensures in
    let m = c.byte_width.ensures in
    simp to_z-of_z (record {
      value = rw k (passes c.args.widths.now c.args.bytes.now c.loop-byte.byte-index c.loop-byte.passed c.byte_width.result _ left c.loop-byte-test.true m.value reaches h);
      count = omega arith;
      from = omega (arith, ints, k, m.small, low);
      to = omega (arith, ints, k, high);
    })
