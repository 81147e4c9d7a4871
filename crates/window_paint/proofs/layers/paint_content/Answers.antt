use Rattle.std.proofs.Common.{◌<◌, length, rules}
use Rattle.tb_geom.specs.Pixels.{holds}
use Rattle.window_paint.proofs.ContentLemmas.{picture_drawn, drawn_more, all_content}
use Rattle.window_paint.proofs.layers.paint_content.Goals as goal

pub loop-at-init : goal.loop-at-init
loop-at-init g c =
    picture_drawn c.args.font.now (g.S.Showing.shows c.args.layers.now c.args.font.now) c.args.window.now (holds c.args.region.now) c.args.map.now c.paint_picture.new.map c.requires.apart c.paint_picture.ensures

pub loop-at-preserved : goal.loop-at-preserved
loop-at-preserved g c =
    let low : c.loop-at.at < length c.args.window.now.layers.layers = search rules in
    drawn_more c.args.font.now (g.S.Showing.shows c.args.layers.now c.args.font.now) c.args.window.now (holds c.args.region.now) c.loop-at.at c.args.map.now c.loop-at.map c.paint_layer.new.map low c.requires.apart c.loop-at.invariant c.paint_layer.ensures

pub returns : goal.returns
returns g c =
    all_content c.args.font.now (g.S.Showing.shows c.args.layers.now c.args.font.now) c.args.window.now (holds c.args.region.now) c.loop-at.at c.args.map.now c.loop-at.map (search rules) c.loop-at.invariant
