use Rattle.std.proofs.Common.{◌≡◌, ◌<◌, length, sym, ◌∙◌, rules, arith}
use Rattle.bit_map.proofs.BitsLemmas.{on_map-same}
use Rattle.window_mgr.proofs.WriteLemmas.{parts_more, parts_all}
use Rattle.window_mgr.proofs.PaintLemmas.{settled_in, painted_more, painted_all}
use Rattle.window_mgr.proofs.commit.paint_parts.Goals as goal

pub paint_part-requires-clause-placed : goal.paint_part-requires-clause-placed
paint_part-requires-clause-placed g c =
    let low : c.loop-at.at < length c.args.windows.now.records.items = search rules in
    (settled_in _ c.args.windows.now.records.items c.loop-at.at c.at.result.now low c.at.ensures c.requires.settled).placed

pub paint_part-requires-clause-live : goal.paint_part-requires-clause-live
paint_part-requires-clause-live g c =
    let low : c.loop-at.at < length c.args.windows.now.records.items = search rules in
    (settled_in _ c.args.windows.now.records.items c.loop-at.at c.at.result.now low c.at.ensures c.requires.settled).live

pub paint_part-requires-clause-told : goal.paint_part-requires-clause-told
paint_part-requires-clause-told g c =
    let low : c.loop-at.at < length c.args.windows.now.records.items = search rules in
    let its = settled_in _ c.args.windows.now.records.items c.loop-at.at c.at.result.now low c.at.ensures c.requires.settled in
    rw its.told its.fits

pub loop-at-preserved : goal.loop-at-preserved
loop-at-preserved g c =
    let low : c.loop-at.at < length c.args.windows.now.records.items = search rules in
    let was = c.loop-at.invariant in
    record {
      painted = painted_more _ c.args.font.now c.args.windows.now.records.items c.args.parts.now c.loop-at.at c.at.result.now c.index-parts-at.result c.args.screen.now c.loop-at.screen c.paint_part.new.map low c.requires.parts c.at.ensures c.index-parts-at.is was.painted c.paint_part.ensures.painted;
      written = parts_more c.args.parts.now c.loop-at.at c.index-parts-at.result c.args.screen.now c.loop-at.screen c.paint_part.new.map (omega (arith, low, c.requires.parts)) c.index-parts-at.is (λ p. on_map-same c.args.screen.now c.loop-at.screen p was.painted.width was.painted.height) was.written c.paint_part.ensures.written;
    }

pub returns-clause-painted : goal.returns-clause-painted
returns-clause-painted g c = painted_all _ c.args.font.now c.args.windows.now.records.items c.args.parts.now c.loop-at.at c.args.screen.now c.loop-at.screen (search rules) c.requires.parts c.loop-at.invariant.painted

pub returns-clause-written : goal.returns-clause-written
returns-clause-written g c =
    let all : c.loop-at.at ≡ length c.args.windows.now.records.items = search rules in
    parts_all c.args.parts.now c.loop-at.at c.args.screen.now c.loop-at.screen (all ∙ sym c.requires.parts) c.loop-at.invariant.written
