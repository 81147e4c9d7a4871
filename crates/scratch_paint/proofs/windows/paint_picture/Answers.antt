use Rattle.std.proofs.Common.{◌∙◌, refl, ap, rules}
use Rattle.tb_geom.specs.Points.{minus}
use Rattle.draw_port.specs.Ops.{picture_bit}
use Rattle.window_paint.proofs.PictureLemmas.{plus_is_near, minus_twice}
use Rattle.scratch_paint.proofs.CutLemmas.{drawn_in_both}
use Rattle.scratch_paint.proofs.windows.paint_picture.Goals as goal

pub invariant_of-canvas : goal.invariant_of-canvas
invariant_of-canvas g c = record { near = rw c.picture_place.ensures (plus_is_near c.args.window.now.place c.args.window.now.origin c.requires.placed c.requires.origin) }

pub returns : goal.returns
returns g c =
    drawn_in_both c.args.gray c.args.content c.args.gray.now c.args.content.now c.bbox-clip.result _ _ c.args.image.now c.paint_picture.new.self.map.now _ refl refl (search rules) (λ p e. c.bbox-clip.ensures.exact.holds p e)
    (λ p. ap (picture_bit c.args.font.now c.args.window.now.picture) (ap (minus p) c.picture_place.ensures ∙ minus_twice p c.args.window.now.place c.args.window.now.origin))
    (rw c.meeting-cut.ensures at c.paint_picture.ensures.drawn)
