use Rattle.std.proofs.Common.{rules, SFits, w32}
use Rattle.std.proofs.lemmas.Int.{to_z-of_z}
use Rattle.def_iface.specs.contracts.taken_window.TakenWindowDefined.TheImpl as taken
use Rattle.scratch_paint.proofs.PaintLemmas.{kept_painted, few_columns}
use Rattle.scratch_paint.proofs.painting.paint_base.Goals as goal

pub paint_windows-requires-clause-settled : goal.paint_windows-requires-clause-settled
paint_windows-requires-clause-settled g c = rw c.parts-width.ensures.windows c.requires.settled

pub returns : goal.returns
returns g c =
    let fits_w : SFits w32 c.parts-width.result.width = search rules in
    let fits_h : SFits w32 c.parts-width.result.height = search rules in
    let fits_b : SFits w32 c.parts-width.result.bar = search rules in
    let painted = simp to_z-of_z at c.in-Ok.ensures.painted in
    kept_painted (taken.loan-value g.dyn-1).it (g.S.Showing.shows c.args.layers.now) c.args.windows.now _ _ _ _ _ c.parts-width.result.windows.now c.in-Ok.ground c.paint_windows.new.image c.draw_bar.new.map
    c.parts-width.ensures.width c.parts-width.ensures.height c.parts-width.ensures.bar c.parts-width.ensures.titles c.parts-width.ensures.font c.parts-width.ensures.windows
    c.requires.sides painted c.in_ok-paint_windows.ensures (simp to_z-of_z at c.draw_bar.ensures)

pub draw_bar-requires : goal.draw_bar-requires
draw_bar-requires g c =
    let fits_w : SFits w32 c.parts-width.result.width = search rules in
    let fits_h : SFits w32 c.parts-width.result.height = search rules in
    let fits_b : SFits w32 c.parts-width.result.bar = search rules in
    let in_range = simp to_z-of_z at c.in-Ok.ensures.in_range in
    let painted = simp to_z-of_z at c.in-Ok.ensures.painted in
    few_columns c.parts-width.result.width c.parts-width.result.height c.parts-width.result.bar c.in-Ok.ground.screen.width c.paint_windows.new.image.width in_range painted.wide c.in_ok-paint_windows.ensures.width
