use Rattle.std.proofs.Common.{ap, arith, rules, SFits, w32, pos, ◌+ℤ◌}
use Rattle.std.proofs.lemmas.Int.{ints, to_z-of_z}
use Rattle.text_record.specs.Texts.{Record}
use Rattle.text_record.proofs.PlaceLemmas.{pen_is}
use Rattle.text_record.proofs.record.TextRecord.pen_beside.Goals as goal

pub returns-clause-value : goal.returns-clause-value
returns-clause-value c =
    let by : SFits w32 c.indent.result = search rules in
    let spare : SFits w32 c.spare.result = search rules in
    let sum : SFits w32 (pos 1 +ℤ c.indent.result) = search (arith, ints) in
    let is = simp to_z-of_z at c.indent.ensures.value in
    simp to_z-of_z (pen_is c.indent.result c.spare.result c.self.inside.justification c.args.self.now c.args.number
    (ap (λ (r : Record). r.justification) c.self.view_is) is c.spare.ensures.value)
