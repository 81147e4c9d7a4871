use Rattle.std.proofs.Common.{◌∙◌, subst}
use Rattle.std.proofs.lemmas.Int.{to_z-of_z}
use Rattle.region_rows.specs.Layers.{IsLayer}
use Rattle.scan_region.specs.Parts.{IsPart, IsFit}
use Rattle.scan_region.proofs.part.Part.down.Goals as goal

pub returns-in-Lined-clause-part : goal.returns-in-Lined-clause-part
returns-in-Lined-clause-part c = λ s w at order r.
    let fits_v = c.ranges.v in
    let t : IsLayer c.args.words.now c.in-Lined.layer s w at = subst (λ part. IsPart c.args.words.now part s w at) c.in-Lined.is r in
    let f = c.requires.fit in
    let fit = subst (IsFit c.args.left f.0 f.1 f.2) c.in-Lined.is f.3 in
    let d = simp to_z-of_z at c.down.ensures.layer in
    subst (IsLayer c.down.new.words c.down.new.self s c.args.v) (c.down.ensures.left ∙ fit.0) (d s t.f w order t.to)
