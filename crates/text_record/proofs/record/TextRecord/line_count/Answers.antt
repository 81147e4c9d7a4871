use Rattle.std.proofs.Common.{arith}
use Rattle.text_record.proofs.PlaceLemmas.{some_line, few_lines}
use Rattle.text_record.proofs.record.TextRecord.line_count.Goals as goal

pub returns-clause-some : goal.returns-clause-some
returns-clause-some c = rw c.lines.ensures (some_line c.self.inside.text)

pub returns-clause-few : goal.returns-clause-few
returns-clause-few c = rw c.lines.ensures (omega (arith, few_lines c.self.inside.text, c.self.invariant.short))
