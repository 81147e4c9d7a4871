use Rattle.std.proofs.Common.{ap, rules, SFits, w32}
use Rattle.std.proofs.lemmas.Int.{to_z-of_z}
use Rattle.tb_geom.specs.Pixels.{holds}
use Rattle.region_rows.specs.Edges.{differ}
use Rattle.scan_region.specs.Parts.{lets}
use Rattle.region_rows.specs.Seen.{seen_point, seen_set}
use Rattle.region_rows.proofs.LineTurns.{line_new}
use Rattle.region_rows.proofs.SeenRows.{layer_same}
use Rattle.scan_region.proofs.part.Part.new.Goals as goal

pub returns-clause-part : goal.returns-clause-part
returns-clause-part c = λ words none v.
    let fits_l : SFits w32 c.args.columns.left = search rules in
    let fits_r : SFits w32 c.args.columns.right = search rules in
    let told = simp to_z-of_z at c.layer.ensures.layer in
    layer_same words c.layer.result
    (λ p. differ c.args.lacks (holds c.in-Some.region.now (seen_point c.args.columns.up p)))
    (seen_set c.args.columns.up (lets c.args.lacks c.args.region))
    v c.args.columns.right
    (λ p. ap (λ part. lets c.args.lacks part (seen_point c.args.columns.up p)) c.in-Some.is)
    (told words (line_new words _ none) v)
