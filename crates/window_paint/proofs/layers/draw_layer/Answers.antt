use Rattle.std.proofs.Common.{◌≡◌, ap, rules}
use Rattle.tb_geom.specs.Points.{minus}
use Rattle.window_list.specs.declared.layer.Layer.{Layer}
use Rattle.window_paint.proofs.ContentLemmas.{layer_same}
use Rattle.window_paint.proofs.CutLemmas.{drawn_as, written_as}
use Rattle.window_paint.proofs.layers.draw_layer.Goals as goal

pub returns-clause-drawn : goal.returns-clause-drawn
returns-clause-drawn g c l read =
    let same : c.at-layer.result.now ≡ l = layer_same c.args.window.now.layers.layers c.args.at c.at-layer.result.now l c.requires.at c.at-layer.ensures read in
    drawn_as _ _ _ c.args.map.now c.draw.new.canvas.map.now _ (search rules)
    (λ p value. ap (λ (k : Layer). g.S.Showing.shows c.args.layers.now c.args.font.now k.part (minus p c.args.window.now.place)) same)
    c.draw.ensures.drawn

pub returns-clause-written : goal.returns-clause-written
returns-clause-written g c = written_as _ c.args.map.now c.draw.new.canvas.map.now _ (search rules) c.draw.ensures.same_frame.written
