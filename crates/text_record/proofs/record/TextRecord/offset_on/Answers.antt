use Rattle.std.proofs.Common.{◌∙◌, ap, arith, rules, SFits, w32, w64, ◌-ℤ◌}
use Rattle.std.proofs.lemmas.Int.{ints, to_z-of_z}
use Rattle.text_record.specs.Texts.{Record, Lined}
use Rattle.std.specs.Prelude.{slice_range}
use Rattle.text_record.specs.Places.{passed_bytes}
use Rattle.text_record.proofs.PlaceLemmas.{offset_is}
use Rattle.text_record.proofs.record.TextRecord.offset_on.Goals as goal

pub returns-clause-value : goal.returns-clause-value
returns-clause-value c =
    let h : SFits w32 c.args.h = search rules in
    let pen : SFits w32 c.pen.result = search rules in
    let wide_h : SFits w64 c.from.result = search rules in
    let wide_pen : SFits w64 c.from-2.result = search rules in
    let ahead : SFits w64 (c.from.result -ℤ c.from-2.result) = search (arith, ints) in
    let passed = simp to_z-of_z at c.passed_bytes.ensures.value in
    let h_is = simp to_z-of_z at c.from.ensures in
    let pen_is = simp to_z-of_z at c.from-2.ensures in
    let text = ap (λ (r : Record). r.text) c.self.view_is in
    let widths = c.widths.ensures ∙ ap (λ (t : Lined). t.widths) text in
    let start = c.from-start.result in
    let last = c.last_offset.result in
    let bytes = c.bytes.result.now in
    offset_is c.args.self.now c.args.number start last c.passed_bytes.result c.args.h c.pen.result c.line.result c.widths.result.now bytes c.line.ensures.value c.from-start.ensures c.pen.ensures.value c.last_offset.ensures.value
    widths c.bytes.ensures.bytes (passed ∙ (λ i. passed_bytes c.widths.result.now (h_is i -ℤ pen_is i) (slice_range bytes start last)))
