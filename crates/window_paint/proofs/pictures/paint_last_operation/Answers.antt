use Rattle.std.proofs.Common.{◌≡◌, ◌∙◌, ap, rules}
use Rattle.std.proofs.lemmas.Bool.{and_parts}
use Rattle.tb_geom.specs.Points.{minus}
use Rattle.draw_port.specs.Ops.{op_value}
use Rattle.window_paint.proofs.CutLemmas.{painted_within}
use Rattle.window_paint.proofs.PictureLemmas.{plus_is_near, minus_twice, last_is}
use Rattle.window_paint.proofs.pictures.paint_last_operation.Goals as goal

pub invariant_of-canvas : goal.invariant_of-canvas
invariant_of-canvas g c = record { near = rw c.picture_place.ensures (plus_is_near c.args.window.now.place c.args.window.now.origin c.requires.placed c.requires.origin) }

pub returns-clause-drawn : goal.returns-clause-drawn
returns-clause-drawn g c before op is =
    let same : c.in-Some.operation.now ≡ op = last_is before c.ops.result.now op c.in-Some.operation.now (c.ops.ensures.same ∙ is) c.in-Some.ensures.value in
    painted_within c.picture_cut-cut.result _ c.bbox-clip.result _ _ c.args.map.now c.paint.new.self.map.now _ c.picture_cut-cut.ensures (search rules) (λ p e. c.bbox-clip.ensures.exact.holds p (and_parts _ _ e).0)
    (λ p value. (λ i. op_value c.args.font.now (same i) ((ap (minus p) c.picture_place.ensures ∙ minus_twice p c.args.window.now.place c.args.window.now.origin) i) value))
    c.paint.ensures.drawn
