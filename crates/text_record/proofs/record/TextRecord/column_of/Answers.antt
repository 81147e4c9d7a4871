use Rattle.std.proofs.Common.{◌∙◌, ap, arith, rules, SFits, w32, ◌+ℤ◌}
use Rattle.std.proofs.lemmas.Int.{ints, to_z-of_z}
use Rattle.text_record.specs.Texts.{Record}
use Rattle.text_record.proofs.record.TextRecord.column_of.Goals as goal

pub returns-clause-value : goal.returns-clause-value
returns-clause-value c =
    let left : SFits w32 c.self.inside.left = search rules in
    let by : SFits w32 c.column_beside.result = search rules in
    let sum : SFits w32 (c.self.inside.left +ℤ c.column_beside.result) = search (arith, ints) in
    simp to_z-of_z (ap (λ (r : Record). r.left +ℤ c.column_beside.result) c.self.view_is ∙ c.column_beside.ensures.value)
