use Rattle.text_record.proofs.PlaceLemmas.{row_lies}
use Rattle.text_record.proofs.record.TextRecord.row_of.Goals as goal

pub returns-clause-within : goal.returns-clause-within
returns-clause-within c =
    rw (c.line_of.ensures.value, c.lines.ensures) (row_lies c.args.self.now.text c.args.offset).there
