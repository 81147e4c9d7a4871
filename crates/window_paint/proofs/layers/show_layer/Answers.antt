use Rattle.std.proofs.Common.{ap, ◌∙◌, ◌&&◌, not, refl}
use Rattle.std.proofs.lemmas.Bool.{and_parts}
use Rattle.tb_geom.specs.Points.{minus}
use Rattle.tb_geom.specs.Pixels.{holds}
use Rattle.tb_geom.specs.Rects.{rect_holds}
use Rattle.window_paint.proofs.CutLemmas.{painted_placed, written_placed}
use Rattle.window_paint.proofs.layers.show_layer.Goals as goal

pub returns-clause-drawn : goal.returns-clause-drawn
returns-clause-drawn g c l read =
    painted_placed c.meeting_but-cut.result _ (λ p. rect_holds c.args.within (minus p c.args.window.now.place)) c.placed_within-clip.result c.bbox.result _ c.args.map.now c.draw_layer.new.map _
    (λ p. c.meeting_but-cut.ensures p ∙ ap (λ b. (holds c.args.region.now p && b) && not (holds c.args.but.now p)) (c.owned.ensures l read p))
    refl (λ p e. c.bbox.ensures.exact.holds p (and_parts _ _ (and_parts _ _ e).0).0)
    c.placed_within-clip.ensures
    (c.draw_layer.ensures.drawn l read)

pub returns-clause-written : goal.returns-clause-written
returns-clause-written g c l read =
    written_placed c.meeting_but-cut.result _ (λ p. rect_holds c.args.within (minus p c.args.window.now.place)) c.placed_within-clip.result c.bbox.result c.args.map.now c.draw_layer.new.map
    (λ p. c.meeting_but-cut.ensures p ∙ ap (λ b. (holds c.args.region.now p && b) && not (holds c.args.but.now p)) (c.owned.ensures l read p))
    (λ p e. c.bbox.ensures.exact.holds p (and_parts _ _ (and_parts _ _ e).0).0)
    c.placed_within-clip.ensures
    c.draw_layer.ensures.written
