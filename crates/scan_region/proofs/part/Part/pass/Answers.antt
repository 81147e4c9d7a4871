use Rattle.std.proofs.Common.{subst}
use Rattle.std.proofs.lemmas.Int.{to_z-of_z}
use Rattle.region_rows.specs.Layers.{IsLayer}
use Rattle.scan_region.specs.Parts.{IsPart}
use Rattle.scan_region.proofs.part.Part.pass.Goals as goal

pub returns-in-Lined-clause-part : goal.returns-in-Lined-clause-part
returns-in-Lined-clause-part c = λ s at on steady r.
    let fits_to = c.ranges.to in
    let t : IsLayer c.args.words.now c.in-Lined.layer s c.args.v at = subst (λ part. IsPart c.args.words.now part s c.args.v at) c.in-Lined.is r in
    let p = simp to_z-of_z at c.pass.ensures.layer in
    p s c.args.v at on (steady s r) t
