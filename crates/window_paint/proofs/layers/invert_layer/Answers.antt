use Rattle.std.proofs.Common.{ap, ◌∙◌, ◌&&◌, refl, rules}
use Rattle.std.proofs.lemmas.Bool.{and_parts}
use Rattle.tb_geom.specs.Pixels.{holds}
use Rattle.scan_region.specs.Cuts.{cut_holds}
use Rattle.window_paint.proofs.CutLemmas.{cut_holds-both, painted_within}
use Rattle.window_paint.proofs.layers.invert_layer.Goals as goal

pub returns : goal.returns
returns g c l read =
    painted_within c.meeting-own.result _ c.bbox.result _ _ c.args.map.now c.invert.new.canvas.map.now _
    (λ p. ap (λ k. cut_holds k p) c.meeting-own.ensures ∙ cut_holds-both c.args.region c.owned.result p ∙ ap (λ b. holds c.args.region.now p && b) (c.owned.ensures l read p))
    (search rules) (λ p e. c.bbox.ensures.exact.holds p (and_parts _ _ e).0)
    (λ p value. refl)
    c.invert.ensures.drawn
