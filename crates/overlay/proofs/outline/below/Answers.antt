use Rattle.std.proofs.Common.{SFits, w32, rules}
use Rattle.std.proofs.lemmas.Int.{to_z-of_z}
use Rattle.overlay.proofs.OutlineLemmas.{with_top}
use Rattle.overlay.proofs.outline.below.Goals as goal

pub returns : goal.returns
returns c =
    let left : SFits w32 c.args.line.left = search rules in
    let top : SFits w32 c.args.line.top = search rules in
    let right : SFits w32 c.args.line.right = search rules in
    let bottom : SFits w32 c.args.line.bottom = search rules in
    let bar : SFits w32 c.args.bar = search rules in
    let below : SFits w32 c.max.result = search rules in
    let value = simp to_z-of_z at c.max.ensures.value in
    simp to_z-of_z (with_top c.args.line c.max.result _ value)
