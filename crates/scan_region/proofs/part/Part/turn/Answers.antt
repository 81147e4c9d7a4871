use Rattle.std.proofs.Common.{subst, ap, sym, ◌∙◌, rules, SFits, w32}
use Rattle.std.proofs.lemmas.Int.{to_z-of_z}
use Rattle.scan_region.specs.Parts.{IsPart, IsAcross, part_counts}
use Rattle.scan_region.proofs.PartSteps.{layer_steady, layer_turned}
use Rattle.scan_region.proofs.part.Part.turn.Goals as goal

pub returns-in-Lined-clause-steady : goal.returns-in-Lined-clause-steady
returns-in-Lined-clause-steady c =
    let fits_at = c.ranges.at in
    let fits_limit = c.ranges.limit in
    let fits : SFits w32 c.turn.result = search rules in
    let turn = simp to_z-of_z at c.turn.ensures.turn in
    let across = subst (λ part. IsAcross part c.args.at c.args.limit) c.in-Lined.is c.requires.across in
    simp to_z-of_z (λ s r. layer_steady c.args.words.now c.in-Lined.layer s c.args.v c.args.at c.args.limit c.turn.result c.requires.order across.1 turn (subst (λ part. IsPart c.args.words.now part s c.args.v c.args.at) c.in-Lined.is r))

pub returns-in-Lined-clause-turned : goal.returns-in-Lined-clause-turned
returns-in-Lined-clause-turned c =
    let fits_at = c.ranges.at in
    let fits_limit = c.ranges.limit in
    let fits : SFits w32 c.turn.result = search rules in
    let turn = simp to_z-of_z at c.turn.ensures.turn in
    let across = subst (λ part. IsAcross part c.args.at c.args.limit) c.in-Lined.is c.requires.across in
    simp to_z-of_z (λ m counts s r. layer_turned c.args.words.now c.in-Lined.layer s c.args.v c.args.at c.args.limit c.turn.result c.requires.order across.1 turn (subst (λ part. IsPart c.args.words.now part s c.args.v c.args.at) c.in-Lined.is r) m (sym (ap part_counts c.in-Lined.is) ∙ counts))
