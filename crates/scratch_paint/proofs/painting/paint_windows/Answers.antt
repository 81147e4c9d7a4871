use Rattle.std.proofs.Common.{◌≡◌, ◌+◌, ◌-◌, ◌<◌, length, subst, rules}
use Rattle.def_iface.specs.contracts.taken_window.TakenWindowDefined.TheImpl as taken
use Rattle.window_mgr.proofs.PaintLemmas.{settled_in}
use Rattle.scratch_paint.specs.Paints.{look_in}
use Rattle.scratch_paint.proofs.PaintLemmas.{ArePaintedFrom, one_more}
use Rattle.scratch_paint.proofs.painting.paint_windows.Goals as goal

pub paint_window-requires-clause-settled : goal.paint_window-requires-clause-settled
paint_window-requires-clause-settled g c =
    let low : c.loop-at.at - 1 < length c.args.windows.now.records.items = search rules in
    settled_in _ c.args.windows.now.records.items (c.loop-at.at - 1) c.at.result.now low c.at.ensures c.requires.settled

pub loop-at-preserved : goal.loop-at-preserved
loop-at-preserved g c =
    let loan = (taken.loan-value g.dyn-1).it in
    let look = look_in (g.S.Showing.shows c.args.layers.now) c.args.font.now in
    let low : c.loop-at.at - 1 < length c.args.windows.now.records.items = search rules in
    let next : c.loop-at.at ≡ c.loop-at.at - 1 + 1 = search rules in
    record {
      within = search rules;
      painted = one_more loan look c.args.gray.now c.args.windows.now.records.items (c.loop-at.at - 1) c.at.result.now c.args.image.now c.loop-at.image c.paint_window.new.image low c.at.ensures
          (subst (λ n. ArePaintedFrom loan look c.args.gray.now c.args.windows.now.records.items n c.args.image.now c.loop-at.image) next c.loop-at.invariant.painted)
          c.in_ok-paint_window.ensures;
    }
