use Rattle.std.proofs.Common.{ap, arith, ◌<◌, ◌+◌, length}
use Rattle.text_lines.specs.declared.line.TextLine.{TextLine}
use Rattle.text_record.specs.Texts.{lines_of}
use Rattle.text_record.proofs.PlaceLemmas.{line_filled}
use Rattle.text_record.proofs.record.TextRecord.last_offset.Goals as goal

pub overflow_sub-result : goal.overflow_sub-result
overflow_sub-result c =
    let more : c.args.number + 1 < length (lines_of c.args.self.now.text) = rw (← c.line_count-count.ensures.value) c.if-number-count.true in
    omega (arith, line_filled c.args.self.now.text c.args.number more, c.from-end.ensures, ap (λ (l : TextLine). l.end) c.line.ensures.value)

pub returns-then-number-count-clause-from : goal.returns-then-number-count-clause-from
returns-then-number-count-clause-from c =
    let more : c.args.number + 1 < length (lines_of c.args.self.now.text) = rw (← c.line_count-count.ensures.value) c.if-number-count.true in
    omega (arith, line_filled c.args.self.now.text c.args.number more, c.from-end.ensures, ap (λ (l : TextLine). l.end) c.line.ensures.value)
