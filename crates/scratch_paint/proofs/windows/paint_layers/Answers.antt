use Rattle.std.proofs.Common.{◌≡◌, ◌+◌, ◌-◌, ◌<◌, length, subst, rules}
use Rattle.def_iface.specs.contracts.taken_window.TakenWindowDefined.TheImpl as taken
use Rattle.vis_update.specs.Records.{WindowRecord, record_of}
use Rattle.scratch_paint.specs.Paints.{look_in}
use Rattle.scratch_paint.proofs.PaintLemmas.{AreLayersFrom, content_stays, layer_takes, no_layer, one_layer_more}
use Rattle.scratch_paint.proofs.windows.paint_layers.Goals as goal

pub loop-at-init : goal.loop-at-init
loop-at-init g c = record {
  within = search rules;
  painted = no_layer (look_in (g.S.Showing.shows c.args.layers.now) c.args.font.now) c.args.gray.now (record_of (taken.loan-value g.dyn-1).it c.args.window.now) _ c.args.image.now (search rules);
}

pub layer_region-requires : goal.layer_region-requires
layer_region-requires g c = content_stays (record_of (taken.loan-value g.dyn-1).it c.args.window.now) c.args.content.now c.requires.settled c.requires.content.pixels

pub loop-at-preserved : goal.loop-at-preserved
loop-at-preserved g c =
    let look = look_in (g.S.Showing.shows c.args.layers.now) c.args.font.now in
    let w : WindowRecord = record_of (taken.loan-value g.dyn-1).it c.args.window.now in
    let low : c.loop-at.at - 1 < length c.args.window.now.layers.layers = search rules in
    let next : c.loop-at.at ≡ c.loop-at.at - 1 + 1 = search rules in
    record {
      within = search rules;
      painted = one_layer_more look c.args.gray.now w (c.loop-at.at - 1) c.at-layer.result.now c.in_ok-region.region c.args.image.now c.loop-at.image c.paint_layer.new.image low c.at-layer.ensures
          c.requires.shown c.requires.content.within
          (layer_takes w c.at-layer.result.now c.args.content.now c.in_ok-region.region c.requires.content.pixels c.in_ok-region.ensures)
          (subst (λ n. AreLayersFrom look c.args.gray.now w n c.args.image.now c.loop-at.image) next c.loop-at.invariant.painted)
          c.paint_layer.ensures;
    }
