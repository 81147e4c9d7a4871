use Rattle.std.proofs.Common.{◌∙◌, ap, arith, rules, SFits, w32, pos, ◌-ℤ◌}
use Rattle.std.proofs.lemmas.Int.{ints, to_z-of_z}
use Rattle.text_record.specs.Texts.{Record}
use Rattle.text_record.specs.Places.{column_of}
use Rattle.text_record.proofs.ShowLemmas.{right_is}
use Rattle.text_record.proofs.record.TextRecord.showing_left.Goals as goal

pub returns-clause-value : goal.returns-clause-value
returns-clause-value c =
    let left : SFits w32 c.self.inside.left = search rules in
    let first : SFits w32 c.self.inside.view.left = search rules in
    let end : SFits w32 c.self.inside.view.right = search rules in
    let beside : SFits w32 c.column_beside-beside.result = search rules in
    let less : SFits w32 (c.column_beside-beside.result -ℤ pos 1) = search (arith, ints) in
    let moved : SFits w32 c.moved_across.result = search rules in
    let value = simp to_z-of_z at c.moved_across.ensures.value in
    let same = c.self.view_is in
    simp to_z-of_z (right_is c.args.self.now c.self.inside.left c.column_beside-beside.result c.self.inside.view.left c.self.inside.view.right c.moved_across.result
    (ap (λ (r : Record). r.left) same) (ap (λ (r : Record). r.view.left) same) (ap (λ (r : Record). r.view.right) same)
    (c.column_beside-beside.ensures.value ∙ ap (λ (r : Record). column_of c.args.self.now r.end) same) value)
