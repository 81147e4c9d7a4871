use Rattle.std.proofs.Common.{◌+◌, ◌/◌, arith, sym, ◌∙◌}
use Rattle.std.proofs.lemmas.Int.{to_z-of_z}
use Rattle.shape_arcs.specs.Sights.{from_at}
use Rattle.shape_arcs.proofs.RayLemmas.{stays_at, lacks_at, edge_at}
use Rattle.shape_arcs.proofs.ray.columns_before.Goals as goal

pub loop-low-init : goal.loop-low-init
loop-low-init c = record {
  order = omega arith;
  all = omega arith;
  before = λ i below. absurd (omega arith);
  after = λ i from below. absurd (omega arith);
}

pub loop-low-preserved-then-from_at : goal.loop-low-preserved-then-from_at
loop-low-preserved-then-from_at c =
    let fits_v = c.ranges.v in
    let test = c.loop-low-test.true in
    let all = c.loop-low.invariant.all in
    let here = simp to_z-of_z at (sym c.from_at.ensures ∙ c.if-from_at.true) in
    simp to_z-of_z (record {
      order = omega arith;
      all = omega arith;
      before = simp to_z-of_z at c.loop-low.invariant.before;
      after = λ i from below. stays_at c.args.rect c.args.direction c.args.v ((c.loop-low.low + c.loop-low.high) / 2) i c.requires.up c.requires.top c.requires.bottom from here;
    })

pub loop-low-preserved : goal.loop-low-preserved
loop-low-preserved c =
    let fits_v = c.ranges.v in
    let test = c.loop-low-test.true in
    let all = c.loop-low.invariant.all in
    let here = simp to_z-of_z at (sym c.from_at.ensures ∙ c.if-from_at.false) in
    simp to_z-of_z (record {
      order = omega arith;
      all = all;
      before = λ i below. lacks_at c.args.rect c.args.direction c.args.v i ((c.loop-low.low + c.loop-low.high) / 2) c.requires.up c.requires.top c.requires.bottom (omega (arith, below)) here;
      after = simp to_z-of_z at c.loop-low.invariant.after;
    })

pub returns-clause-edge : goal.returns-clause-edge
returns-clause-edge c =
    let fits_v = c.ranges.v in
    let test = c.loop-low-test.false in
    let order = c.loop-low.invariant.order in
    let before = simp to_z-of_z at c.loop-low.invariant.before in
    let after = simp to_z-of_z at c.loop-low.invariant.after in
    edge_at (from_at c.args.rect c.args.direction c.args.v) c.loop-low.low c.args.columns before (λ i from below. after i (omega (arith, from)) below)
