use Rattle.std.proofs.Common.{ap, sym, ◌∙◌, subst}
use Rattle.tb_geom.specs.Pixels.{holds}
use Rattle.region_bytes.specs.Points.{in_rows}
use Rattle.region_rows.specs.Edges.{differ}
use Rattle.region_rows.specs.Rows.{AreRows}
use Rattle.region_rows.specs.Seen.{seen_point}
use Rattle.region_rows.specs.declared.layers.Layer.{Layer}
use Rattle.region_rows.proofs.SeenRows.{region_layer, region_rows, layer_same}
use Rattle.region_rows.proofs.Plane.{has_viewed}
use Rattle.scan_region.proofs.Opened.{opened}
use Rattle.scan_region.proofs.region.Region.layer.Goals as goal

pub returns-clause-layer : goal.returns-clause-layer
returns-clause-layer c = λ words line v.
    let s = c.self.inside in
    let l : Layer = record { rows = c.as_slice.result; up = c.args.up; line = c.args.line; counts = c.args.line.first } in
    layer_same words l
    (λ p. differ c.args.line.first (in_rows c.as_slice.result.now (seen_point c.args.up p).h (seen_point c.args.up p).v))
    (λ p. differ c.args.line.first (holds c.args.self.now (seen_point c.args.up p)))
    v c.args.line.right
    (λ p. ap (differ c.args.line.first) (has_viewed s.rows.items c.args.self.now c.self.view_is (opened _ _ c.self.invariant).are_rows (seen_point c.args.up p).h (seen_point c.args.up p).v
    ∙ ap (λ rows. in_rows rows (seen_point c.args.up p).h (seen_point c.args.up p).v) (sym c.as_slice.ensures.value)))
    (region_layer words l v (subst AreRows (sym c.as_slice.ensures.value) (opened _ _ c.self.invariant).are_rows) line)

pub returns-clause-rows : goal.returns-clause-rows
returns-clause-rows c =
    let l : Layer = record { rows = c.as_slice.result; up = c.args.up; line = c.args.line; counts = c.args.line.first } in
    region_rows l (subst AreRows (sym c.as_slice.ensures.value) (opened _ _ c.self.invariant).are_rows)
