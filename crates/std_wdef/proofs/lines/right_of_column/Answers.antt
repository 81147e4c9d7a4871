use Rattle.std.proofs.Common.{SFits, w32, rules, ◌∙◌}
use Rattle.std.proofs.lemmas.Int.{to_z-of_z}
use Rattle.looks.specs.Marks.{box}
use Rattle.std_wdef.proofs.lines.right_of_column.Goals as goal

pub returns : goal.returns
returns c =
    let w : SFits w32 c.args.size.width = search rules in
    let left : SFits w32 c.back.result = search rules in
    let top : SFits w32 c.back-2.result = search rules in
    let bottom : SFits w32 c.back-3.result = search rules in
    let height : SFits w32 c.args.size.height = search rules in
    let placed = simp to_z-of_z at c.sides.ensures in
    let before = simp to_z-of_z at c.back.ensures in
    let above = simp to_z-of_z at c.back-2.ensures in
    let below = simp to_z-of_z at c.back-3.ensures in
    placed ∙ (λ i. box (before i) (above i) c.args.size.width (below i))
