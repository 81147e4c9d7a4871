use Rattle.std.proofs.Common.{◌∙◌, ap, arith, rules, SFits, w32, ◌+ℤ◌}
use Rattle.std.proofs.lemmas.Int.{ints, to_z-of_z}
use Rattle.text_record.specs.Texts.{Record}
use Rattle.text_record.proofs.record.TextRecord.line_top.Goals as goal

pub returns-clause-value : goal.returns-clause-value
returns-clause-value c =
    let top : SFits w32 c.self.inside.top = search rules in
    let rows : SFits w32 c.line_below.result = search rules in
    let sum : SFits w32 (c.self.inside.top +ℤ c.line_below.result) = search (arith, ints) in
    simp to_z-of_z (ap (λ (r : Record). r.top +ℤ c.line_below.result) c.self.view_is ∙ c.line_below.ensures.value)
