use Rattle.std.proofs.Common.{◌∙◌, ap, rules}
use Rattle.std.proofs.lemmas.Bool.{and_parts}
use Rattle.tb_geom.specs.Points.{minus}
use Rattle.draw_port.specs.Ops.{picture_bit}
use Rattle.window_paint.proofs.CutLemmas.{painted_within}
use Rattle.window_paint.proofs.PictureLemmas.{plus_is_near, minus_twice}
use Rattle.window_paint.proofs.pictures.paint_picture.Goals as goal

pub invariant_of-canvas : goal.invariant_of-canvas
invariant_of-canvas g c = record { near = rw c.picture_place-origin.ensures (plus_is_near c.args.window.now.place c.args.window.now.origin c.requires.placed c.requires.origin) }

pub returns : goal.returns
returns g c =
    painted_within c.picture_cut-cut.result _ c.bbox-clip.result _ _ c.args.map.now c.paint_picture.new.self.map.now _ c.picture_cut-cut.ensures (search rules) (λ p e. c.bbox-clip.ensures.exact.holds p (and_parts _ _ e).0)
    (λ p value. ap (picture_bit c.args.font.now c.args.window.now.picture) (ap (minus p) c.picture_place-origin.ensures ∙ minus_twice p c.args.window.now.place c.args.window.now.origin))
    c.paint_picture.ensures.drawn
