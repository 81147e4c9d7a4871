use Rattle.std.proofs.Common.{◌≤ℤ◌, ◌<ℤ◌, ◌∙◌, refl, rules, SFits, w32, map}
use Rattle.std.proofs.lemmas.Int.{ints, to_z-of_z}
use Rattle.region_rows.specs.Edges.{differ, inside}
use Rattle.region_rows.specs.Seen.{sign}
use Rattle.region_rows.proofs.LayerSteps.{later, read_before, read_all, read_more, rows_more, shorter, apart_same}
use Rattle.region_rows.proofs.layers.Layer.read_to.Goals as goal

pub loop-next-init : goal.loop-next-init
loop-next-init c = record { layer = λ s f w l t. (f, later _ _ s f w _ l t); rows = c.requires.rows; apart = λ k o. refl; length = refl; left = refl; right = refl; base = refl }

pub returns-then-v-next-clause-layer : goal.returns-then-v-next-clause-layer
returns-then-v-next-clause-layer c =
    let fits_v = c.ranges.v in
    let fits : SFits w32 c.in-Some.next.v = search rules in
    let below : c.args.v <ℤ c.in-Some.next.v = search (rules, ints) in
    let so_far = simp to_z-of_z at c.loop-next.invariant.layer in
    λ s f w l t. let g = so_far s f w l t in read_before _ c.loop-next.self s g.0 c.args.v c.in-Some.next.v _ _ g.1 c.loop-next.invariant.rows c.in-Some.ensures.some below

pub loop-next-preserved : goal.loop-next-preserved
loop-next-preserved c =
    let fits_v = c.ranges.v in
    let fits : SFits w32 c.in-Some.next.v = search rules in
    let upto : c.in-Some.next.v ≤ℤ c.args.v = search (rules, ints) in
    let so_far = simp to_z-of_z at c.loop-next.invariant.layer in
    let t = c.toggle_points.ensures in
    let i = c.loop-next.invariant in
    simp to_z-of_z (record {
      layer = λ s f w l r.
          let g = so_far s f w l r in
          (λ h. differ (inside (map (sign c.loop-next.self.up) c.in-Some.next.points.now) h) (g.0 h), read_more _ _ c.loop-next.self _ s g.0 c.args.v c.in-Some.next.v _ _ refl refl c.in-Some.ensures.some upto (t.line g.0 g.1.line) g.1);
      rows = rows_more c.loop-next.self _ c.in-Some.next.v _ _ refl refl c.in-Some.ensures.some c.in-Some.ensures.rest i.rows;
      apart = λ k o. t.apart k (apart_same c.args.self.now.line c.loop-next.self.line k i.left i.right i.base o) ∙ i.apart k o;
      length = t.length ∙ i.length;
      left = t.left ∙ i.left;
      right = t.right ∙ i.right;
      base = t.base ∙ i.base;
    })

pub loop-next-smaller : goal.loop-next-smaller
loop-next-smaller c = shorter c.loop-next.self.up c.loop-next.self.rows.now c.in-Some.next.v _ c.in-Some.next.rest.now c.in-Some.ensures.some

pub returns-clause-layer : goal.returns-clause-layer
returns-clause-layer c =
    let fits_v = c.ranges.v in
    let so_far = simp to_z-of_z at c.loop-next.invariant.layer in
    λ s f w l t. let g = so_far s f w l t in read_all _ c.loop-next.self s g.0 c.args.v g.1 c.in_default.ensures.none
