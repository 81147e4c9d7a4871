use Rattle.text_record.proofs.PlaceLemmas.{line_rises, line_in_text}
use Rattle.text_record.proofs.record.TextRecord.line.Goals as goal

pub returns-clause-order : goal.returns-clause-order
returns-clause-order c = rw c.lines.ensures (line_rises c.args.self.now.text c.args.number c.requires)

pub returns-clause-within : goal.returns-clause-within
returns-clause-within c = rw c.lines.ensures (line_in_text c.args.self.now.text c.args.number c.requires)
