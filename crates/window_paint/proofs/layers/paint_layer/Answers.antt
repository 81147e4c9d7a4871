use Rattle.std.proofs.Common.{ap, ◌∙◌, ◌&&◌, refl}
use Rattle.std.proofs.lemmas.Bool.{and_parts}
use Rattle.tb_geom.specs.Pixels.{holds}
use Rattle.scan_region.specs.Cuts.{cut_holds}
use Rattle.window_paint.proofs.CutLemmas.{cut_holds-both, painted_within}
use Rattle.window_paint.proofs.layers.paint_layer.Goals as goal

pub returns : goal.returns
returns g c l read =
    painted_within c.meeting-cut.result _ c.bbox.result _ _ c.args.map.now c.draw_layer.new.map _
    (λ p. ap (λ k. cut_holds k p) c.meeting-cut.ensures ∙ cut_holds-both c.args.region c.owned.result p ∙ ap (λ b. holds c.args.region.now p && b) (c.owned.ensures l read p))
    refl (λ p e. c.bbox.ensures.exact.holds p (and_parts _ _ e).0)
    (λ p value. refl)
    (c.draw_layer.ensures.drawn l read)
