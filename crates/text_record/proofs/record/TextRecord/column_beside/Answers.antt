use Rattle.std.proofs.Common.{◌≡◌, ◌∙◌, ap, arith, rules, SFits, w32, to_z, pos, ◌+ℤ◌, ℕ}
use Rattle.std.proofs.lemmas.Int.{ints, to_z-of_z}
use Rattle.text_lines.specs.declared.line.TextLine.{TextLine}
use Rattle.text_record.specs.Texts.{Record, Lined}
use Rattle.text_record.specs.Places.{line_in}
use Rattle.text_record.proofs.PlaceLemmas.{row_lies, column_is}
use Rattle.text_record.proofs.record.TextRecord.column_beside.Goals as goal

pub bytes_between-before-requires-clause-order : goal.bytes_between-before-requires-clause-order
bytes_between-before-requires-clause-order c =
    let here = row_lies c.args.self.now.text c.args.offset in
    let begun = here.begun in
    omega (arith, begun, c.from-start.ensures, ap (λ (l : TextLine). l.start) c.line.ensures.value, ap (λ (k : ℕ). (line_in c.args.self.now k).start) c.row_of-number.ensures.value)

pub returns-clause-value : goal.returns-clause-value
returns-clause-value c =
    let pen : SFits w32 c.pen_beside.result = search rules in
    let sum : SFits w32 (c.pen_beside.result +ℤ pos c.bytes_width.result) = search (arith, ints) in
    let text = ap (λ (r : Record). r.text) c.self.view_is in
    let widths = c.widths.ensures ∙ ap (λ (t : Lined). t.widths) text in
    let wide : to_z w32 c.bytes_width.result ≡ pos c.bytes_width.result = omega (arith, ints, c.bytes_width.ensures.small, c.bytes_between-before.ensures.within, c.bytes.ensures.short) in
    simp (wide, to_z-of_z) (column_is c.args.self.now c.args.offset c.row_of-number.result c.from-start.result c.bytes_width.result c.pen_beside.result c.line.result c.widths.result.now c.bytes.result.now c.bytes_between-before.result.now
    c.row_of-number.ensures.value c.line.ensures.value c.from-start.ensures c.pen_beside.ensures.value widths c.bytes.ensures.bytes c.bytes_between-before.ensures.bytes c.bytes_width.ensures.value)
