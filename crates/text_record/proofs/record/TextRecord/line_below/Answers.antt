use Rattle.std.proofs.Common.{◌*◌, ap, arith, rules, SFits, w32, pos, ◌+ℤ◌, length, ◌∙◌}
use Rattle.std.proofs.lemmas.Int.{to_z-of_z}
use Rattle.text_record.specs.Texts.{Record}
use Rattle.text_record.proofs.PlaceLemmas.{few_lines}
use Rattle.text_record.proofs.record.TextRecord.line_below.Goals as goal

pub rows_down-requires-clause-lines : goal.rows_down-requires-clause-lines
rows_down-requires-clause-lines c =
    let same = ap (λ (r : Record). length r.text.bytes) c.self.view_is in
    omega (arith, few_lines c.args.self.now.text, same, c.self.invariant.short)

pub returns-clause-value : goal.returns-clause-value
returns-clause-value c =
    let below : SFits w32 c.rows_down.result = search rules in
    simp to_z-of_z (ap (λ z. c.args.self.now.top +ℤ z) (c.rows_down.ensures.value ∙ ap (λ (r : Record). pos (c.args.number * r.height)) c.self.view_is))
