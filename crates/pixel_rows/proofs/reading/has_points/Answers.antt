use Rattle.std.proofs.Common.{◌≡◌, rules, SFits, w32}
use Rattle.std.proofs.lemmas.Int.{ints, to_z-of_z}
use Rattle.tb_geom.specs.Pixels.{holds}
use Rattle.pixel_rows.proofs.ColumnLemmas.{turns_passed, none_turn}
use Rattle.pixel_rows.proofs.reading.has_points.Goals as goal

pub loop-p-preserved : goal.loop-p-preserved
loop-p-preserved c =
    let fits_v = c.ranges.v in
    let fits_p : SFits w32 c.in-Some.p.v = search rules in
    let other : c.in-Some.p.v ≡ c.args.v → ⊥ = search (rules, ints) in
    let so_far = simp to_z-of_z at c.loop-p.invariant in
    simp to_z-of_z (turns_passed c.in-Some.p c.loop-p.p-iterator c.next.new.self (holds c.args.region.now) c.args.v c.in-Some.ensures.steps other so_far)

pub returns : goal.returns
returns c =
    let fits_v = c.ranges.v in
    let so_far = simp to_z-of_z at c.loop-p.invariant in
    λ _. none_turn c.loop-p.p-iterator (holds c.args.region.now) c.args.v c.in-None.ensures.steps.0 so_far
