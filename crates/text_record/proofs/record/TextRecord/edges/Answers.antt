use Rattle.std.proofs.Common.{◌≡◌, ◌∙◌, ap, arith, rules, SFits, w32, pos, ◌+ℤ◌, ℤ}
use Rattle.std.proofs.lemmas.Int.{ints, to_z-of_z}
use Rattle.text_record.specs.Texts.{Record}
use Rattle.text_record.proofs.record.TextRecord.edges.Goals as goal

pub returns-clause-left : goal.returns-clause-left
returns-clause-left c =
    let left : SFits w32 c.self.inside.left = search rules in
    let first : SFits w32 (c.self.inside.left +ℤ pos 1) = search (arith, ints) in
    simp to_z-of_z (ap (λ (r : Record). r.left +ℤ pos 1) c.self.view_is)

pub returns-clause-right : goal.returns-clause-right
returns-clause-right c =
    let left : SFits w32 c.self.inside.left = search rules in
    let wide : SFits w32 c.from.result = search rules in
    let last : SFits w32 (c.self.inside.left +ℤ c.from.result) = search (arith, ints) in
    let width = c.from.ensures ∙ ap pos c.width.ensures in
    simp to_z-of_z (ap (λ z. c.self.inside.left +ℤ z) width ∙ ap (λ (r : Record). r.left +ℤ pos r.text.width) c.self.view_is)
