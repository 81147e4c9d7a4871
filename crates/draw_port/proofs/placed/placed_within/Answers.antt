use Rattle.std.proofs.Common.{◌∙◌, SFits, w32, rules, arith}
use Rattle.std.proofs.lemmas.Int.{ints}
use Rattle.draw_port.proofs.PlacedLemmas.{holds-within, IsNear}
use Rattle.draw_port.proofs.placed.placed_within.Goals as goal

pub returns : goal.returns
returns c =
    let clip = c.args.clip in
    let l : SFits w32 clip.left = search rules in
    let t : SFits w32 clip.top = search rules in
    let r : SFits w32 clip.right = search rules in
    let b : SFits w32 clip.bottom = search rules in
    let near : IsNear clip = record { left = omega (arith, ints); top = omega (arith, ints); right = omega (arith, ints); bottom = omega (arith, ints) } in
    λ p. c.sect.ensures.pixels p ∙ holds-within clip c.args.rect c.placed.result c.args.origin near c.placed.ensures p
