use Rattle.std.proofs.lemmas.Int.{to_z-of_z}
use Rattle.region_rows.proofs.LayerSteps.{begun}
use Rattle.region_rows.proofs.layers.Layer.down.Goals as goal

pub returns-clause-layer : goal.returns-clause-layer
returns-clause-layer c =
    let fits_v = c.ranges.v in
    let read = simp to_z-of_z at c.read_to.ensures.layer in
    λ s f w l t. begun _ c.read_to.new.self s c.args.v (read s f w l t)
