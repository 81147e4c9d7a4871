use Rattle.std.proofs.Common.{◌∙◌, sym, subst, arith, rules, SFits, w32}
use Rattle.std.proofs.lemmas.Int.{ints, to_z-of_z}
use Rattle.region_rows.specs.Layers.{IsLayer}
use Rattle.scan_region.specs.Parts.{IsPart}
use Rattle.scan_region.proofs.part.Part.until.Goals as goal

pub returns-in-Lined : goal.returns-in-Lined
returns-in-Lined c =
    let fits : SFits w32 c.until.result = search rules in
    simp to_z-of_z (λ words s at r h w a b.
    let t : IsLayer words c.in-Lined.layer s c.args.v at = subst (λ part. IsPart words part s c.args.v at) c.in-Lined.is r in
    c.until.ensures words s t.f c.args.v t.to h w a b ∙ sym (c.until.ensures words s t.f c.args.v t.to h c.args.v (omega (arith, ints)) (omega (arith, ints))))
