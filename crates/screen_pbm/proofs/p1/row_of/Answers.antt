use Rattle.std.proofs.Common.{◌≡◌, ◌<◌, ◌≤◌, ℕ, ◌+◌, ◌-◌, ◌*◌, ◌++◌, ◌∷◌, [], List, length, take, drop, sym, ap, ◌∙◌, arith, rules, length-append, append_assoc}
use Rattle.std.specs.List.{flat_map, range_with_len}
use Rattle.std.proofs.lemmas.List.{length-take, length-drop}
use Rattle.bit_map.specs.Bits.{bit}
use Rattle.screen_pbm.specs.Pbm.{row_digits, line_text, row_text}
use Rattle.screen_pbm.proofs.Ranges.{flat_map-range_more}
use Rattle.screen_pbm.proofs.Digits.{line_is}
use Rattle.screen_pbm.proofs.p1.row_of.Goals as goal

pub unwrap-requires : goal.unwrap-requires
unwrap-requires c =
    let from : ℕ = 70 * c.loop-line.line in
    let part = take (c.min-end.result - from) (drop from c.digits_from-digits.result) in
    let short : length part ≤ c.min-end.result - from = omega (arith, length-take (c.min-end.result - from) (drop from c.digits_from-digits.result)) in
    c.try_extend_from_slice.ensures.variant.1 (omega (arith, short))

pub loop-line-preserved : goal.loop-line-preserved
loop-line-preserved c =
    let map = c.args.map.now in
    let from : ℕ = 70 * c.loop-line.line in
    let end : ℕ = c.min-end.result in
    let digits = c.digits_from-digits.result in
    let all : length digits ≡ 1024 = search rules in
    let line : take (end - from) (drop from digits) ++ 10 ∷ [] ≡ line_text (row_digits map.width (bit map) c.args.row) c.loop-line.line =
    line_is map.width (bit map) c.args.row c.row.result.now digits c.loop-line.line from end c.digits_from-digits.ensures all c.requires.width (omega (arith, c.row.ensures.words)) c.row.ensures.bits (omega arith) (omega arith) in
    let grown : c.try_extend_from_slice.new.self.items ≡ c.loop-line.text.items ++ take (end - from) (drop from digits) = search rules in
    record {
      lines = c.push.ensures.items ∙ ap (λ (l : List ℕ). l ++ 10 ∷ []) grown ∙ append_assoc c.loop-line.text.items (take (end - from) (drop from digits)) (10 ∷ [])
          ∙ (λ i. c.loop-line.invariant.lines i ++ line i)
          ∙ sym (flat_map-range_more (line_text (row_digits map.width (bit map) c.args.row)) c.loop-line.line);
      len =
          let long = length-take (end - from) (drop from digits) in
          let left = length-drop from digits in
          let sum = ap length grown ∙ length-append c.loop-line.text.items (take (end - from) (drop from digits)) in
          omega (arith, all, long, left, sum, c.push.ensures.len, c.loop-line.invariant.len);
    }

pub returns : goal.returns
unfolding row_text
returns c =
    let digits = row_digits c.args.map.now.width (bit c.args.map.now) c.args.row in
    c.loop-line.invariant.lines ∙ ap (λ (n : ℕ). flat_map (line_text digits) (range_with_len 0 n)) (omega arith)
