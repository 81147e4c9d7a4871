use Rattle.std.proofs.Common.{◌<◌, ◌+◌, sym, ◌∙◌, subst, take, length, rules}
use Rattle.tb_geom.specs.Pixels.{holds}
use Rattle.window_paint.proofs.KindLayers.{AreKindDrawn, picture_of_kind, this_kind, other_kind, all_of_kind}
use Rattle.window_paint.proofs.kinds.paint_kind.Goals as goal
use Rattle.window_paint.proofs.kinds.paint_kind.Goals.{then-is_of-2, else-is_of-2}

pub loop-at-preserved : goal.loop-at-preserved
loop-at-preserved g c =
    let low : c.loop-at.at < length c.args.window.now.layers.layers = search rules in
    elim c.if-is_of-2.branch [
      | then-is_of-2 w ↦ subst (λ m. AreKindDrawn c.args.kind c.args.font.now (g.S.Showing.shows c.args.layers.now c.args.font.now) c.args.window.now (holds c.args.region.now) (take (c.loop-at.at + 1) c.args.window.now.layers.layers) c.args.map.now m) (sym w.map-is)
          (this_kind c.args.kind c.args.font.now (g.S.Showing.shows c.args.layers.now c.args.font.now) c.args.window.now (holds c.args.region.now) c.loop-at.at low c.at.result.now c.at.ensures c.args.map.now c.loop-at.map w.paint_layer.new.map (sym c.is_of-in-loop-at.ensures ∙ w.if-is_of-2.true) c.requires.apart c.loop-at.invariant w.paint_layer.ensures)
      | else-is_of-2 w ↦ subst (λ m. AreKindDrawn c.args.kind c.args.font.now (g.S.Showing.shows c.args.layers.now c.args.font.now) c.args.window.now (holds c.args.region.now) (take (c.loop-at.at + 1) c.args.window.now.layers.layers) c.args.map.now m) (sym w.map-is)
          (other_kind c.args.kind c.args.font.now (g.S.Showing.shows c.args.layers.now c.args.font.now) c.args.window.now (holds c.args.region.now) c.loop-at.at low c.at.result.now c.at.ensures c.args.map.now c.loop-at.map (sym c.is_of-in-loop-at.ensures ∙ w.if-is_of-2.false) c.loop-at.invariant)
    ]

pub returns-then-is_of : goal.returns-then-is_of
returns-then-is_of g c =
    picture_of_kind c.args.kind c.args.font.now (g.S.Showing.shows c.args.layers.now c.args.font.now) c.args.window.now (holds c.args.region.now) c.args.map.now c.paint_picture.new.map (sym c.is_of.ensures ∙ c.if-is_of.true) c.requires.apart c.paint_picture.ensures

pub returns : goal.returns
returns g c =
    all_of_kind c.args.kind c.args.font.now (g.S.Showing.shows c.args.layers.now c.args.font.now) c.args.window.now (holds c.args.region.now) c.loop-at.at c.args.map.now c.loop-at.map (search rules) (sym c.is_of.ensures ∙ c.if-is_of.false) c.loop-at.invariant
