use Rattle.std.proofs.Common.{◌≤ℤ◌, ◌<ℤ◌, rules, SFits, w32}
use Rattle.std.proofs.lemmas.Int.{ints, to_z-of_z}
use Rattle.tb_geom.specs.Pixels.{holds}
use Rattle.pixel_rows.proofs.ColumnLemmas.{edges_turned, edges_passed, all_edges}
use Rattle.pixel_rows.proofs.reading.row_edges.Goals as goal

pub loop-p-preserved-then-p-v : goal.loop-p-preserved-then-p-v
loop-p-preserved-then-p-v c =
    let fits_v = c.ranges.v in
    let fits_h : SFits w32 c.in-Some.p.h = search rules in
    let fits_p : SFits w32 c.in-Some.p.v = search rules in
    let upper : c.in-Some.p.v ≤ℤ c.args.v = search (rules, ints) in
    let flipped = simp to_z-of_z at c.flip.ensures in
    let so_far = simp to_z-of_z at c.loop-p.invariant in
    simp to_z-of_z (edges_turned c.loop-p.edges _ c.in-Some.p c.loop-p.p-iterator c.next.new.self (holds c.args.region.now) c.args.v c.in-Some.ensures.steps upper flipped so_far)

pub loop-p-preserved : goal.loop-p-preserved
loop-p-preserved c =
    let fits_v = c.ranges.v in
    let fits_p : SFits w32 c.in-Some.p.v = search rules in
    let lower : c.args.v <ℤ c.in-Some.p.v = search (rules, ints) in
    let so_far = simp to_z-of_z at c.loop-p.invariant in
    simp to_z-of_z (edges_passed c.loop-p.edges c.in-Some.p c.loop-p.p-iterator c.next.new.self (holds c.args.region.now) c.args.v c.in-Some.ensures.steps lower so_far)

pub returns : goal.returns
returns c =
    let fits_v = c.ranges.v in
    let so_far = simp to_z-of_z at c.loop-p.invariant in
    all_edges c.loop-p.edges c.loop-p.p-iterator (holds c.args.region.now) c.args.v c.in-None.ensures.steps.0 so_far
