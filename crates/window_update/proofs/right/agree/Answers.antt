use Rattle.std.proofs.Common.{◌≡◌, true, ◌&&◌, rules, SFits, w32}
use Rattle.tb_geom.specs.declared.point.Point.{Point}
use Rattle.tb_geom.specs.Points.{minus}
use Rattle.tb_geom.specs.Pixels.{holds}
use Rattle.bit_map.specs.Bits.{bit}
use Rattle.scan_region.specs.Scan.{span_holds}
use Rattle.window_update.specs.Sets.{judged_set}
use Rattle.window_update.proofs.RightLemmas.{span_differs}
use Rattle.window_update.proofs.right.agree.Goals as goal

pub returns-then-not-agree_in_row : goal.returns-then-not-agree_in_row
returns-then-not-agree_in_row c =
    let span = c.in-Some.span in
    let fits_v : SFits w32 span.v = search rules in
    let fits_l : SFits w32 span.left = search rules in
    let fits_r : SFits w32 span.right = search rules in
    let fits_ph : SFits w32 c.args.place.h = search rules in
    let fits_pv : SFits w32 c.args.place.v = search rules in
    let differs : (p : Point) × ((span_holds span p && judged_set c.args.area.now (minus p c.args.place)) ≡ true) × (bit c.args.screen.now p ≡ bit c.args.image.now p → ⊥) = search rules in
    span_differs c.args.screen.now c.args.image.now (λ (p : Point). judged_set c.args.area.now (minus p c.args.place)) (holds c.args.region.now) c.loop-span.yielded span _ c.next.new.self c.in-Some.ensures.steps c.loop-span.invariant.scan differs
