use Rattle.std.specs.Ordering.{int_eq}
use Rattle.std.proofs.Common.{◌≡◌, ◌&&◌, ap, ℤ, pos, ◌+ℤ◌, ◌≤ℤ◌, ◌<ℤ◌, ◌∙◌, refl, SFits, w32, to_z, rules, arith}
use Rattle.std.proofs.lemmas.Int.{ints, clamps, to_z-of_z}
use Rattle.tb_geom.specs.declared.point.Point.{Point}
use Rattle.tb_geom.specs.Rects.{rect_holds}
use Rattle.tb_geom.proofs.Steps.{fits_next}
use Rattle.shape_strips.specs.Runs.{run_holds}
use Rattle.bit_blit.proofs.DrawsLemmas.{Draws-where}
use Rattle.draw_port.specs.Canvases.{canvas_holds, canvas_point}
use Rattle.draw_port.specs.Ops.{shade_value}
use Rattle.draw_port.proofs.CanvasLemmas.{SameFrame-none, SameFrame-then}
use Rattle.draw_port.proofs.ClippedLemmas.{row-here}
use Rattle.draw_port.proofs.StripLemmas.{no_rows, one_row, rows_through}
use Rattle.draw_port.proofs.canvas.Canvas.strip_rows.Goals as goal

pub loop-v-init : goal.loop-v-init
loop-v-init g c =
    let fits_top : SFits w32 c.args.rows.top = search rules in
    simp to_z-of_z (record {
      same_map = refl;
      same_frame = SameFrame-none c.args.self.now;
      low = omega (arith, ints);
      within = grind (arith, ints, clamps);
      drawn = no_rows c.args.self.now _ (g.S.Strip.pixels c.args.strip.now) c.args.rows.top c.args.self.now.map.now;
    })

pub row_of-requires : goal.row_of-requires
row_of-requires g c =
    let fits_bottom : SFits w32 c.args.rows.bottom = search rules in
    let v : ℤ = to_z w32 c.loop-v.v-bits in
    let below : v <ℤ c.args.rows.bottom = search (rules, ints) in
    let high = fits_bottom.sfits in
    omega (arith, ints)

pub loop-v-preserved : goal.loop-v-preserved
loop-v-preserved g c =
    let fits_bottom : SFits w32 c.args.rows.bottom = search rules in
    let v : ℤ = to_z w32 c.loop-v.v-bits in
    let fits_v : SFits w32 v = search rules in
    let below : v <ℤ c.args.rows.bottom = search (rules, ints) in
    let fits : SFits w32 (v +ℤ pos 1) = fits_next _ _ fits_v fits_bottom below in
    let was = c.loop-v.invariant in
    let low = was.low in
    let left : SFits w32 c.run-run.result.left = search rules in
    let right : SFits w32 c.run-run.result.right = search rules in
    let span = simp to_z-of_z at c.row_of.ensures in
    let row : (q : Point) → rect_holds c.row_of.result q ≡ (g.S.Strip.pixels c.args.strip.now (record { h = q.h; v = v }) && int_eq v q.v) = λ q.
    ap (λ r. rect_holds r q) span ∙ ap (λ t. run_holds c.run-run.result q.h && t) (row-here v q.v) ∙ ap (λ t. t && int_eq v q.v) (c.run-run.ensures q.h) in
    simp to_z-of_z (record {
      same_map = c.draw.ensures.same_map ∙ was.same_map;
      same_frame = SameFrame-then _ _ _ was.same_frame c.draw.ensures.same_frame;
      low = omega (arith, ints);
      within = grind (arith, ints, clamps, low, below);
      drawn = one_row c.args.self.now c.loop-v.self (shade_value c.args.shade.now) (g.S.Strip.pixels c.args.strip.now) c.args.rows.top v c.row_of.result _ _ _ was.same_frame low row was.drawn c.draw.ensures.drawn;
    })

pub returns-clause-drawn : goal.returns-clause-drawn
returns-clause-drawn g c =
    let fits_top : SFits w32 c.args.rows.top = search rules in
    let fits_bottom : SFits w32 c.args.rows.bottom = search rules in
    let v : ℤ = to_z w32 c.loop-v.v-bits in
    let was = c.loop-v.invariant in
    let canvas = c.args.self.now in
    let past : c.args.rows.bottom ≤ℤ v = search (rules, ints) in
    Draws-where _ _ _ _ _
    (λ p on. ap (λ t. canvas_holds canvas p && (g.S.Strip.pixels c.args.strip.now (canvas_point canvas p) && t)) (rows_through c.args.rows.top c.args.rows.bottom v (canvas_point canvas p).v was.low past was.within))
    was.drawn
