use Rattle.std.proofs.Common.{◌≤◌, length}
use Rattle.def_iface.specs.contracts.taken_window.TakenWindowDefined.TheImpl as taken
use Rattle.scratch_paint.specs.Paints.{look_in}
use Rattle.scratch_paint.proofs.PaintLemmas.{ArePaintedFrom}
use Rattle.scratch_paint.proofs.painting.paint_windows.Given as goal

abbrev pub invariant-loop-at : goal.invariant-loop-at
invariant-loop-at g l = record {
  within : l.at ≤ length l.windows.records.items;
  painted : ArePaintedFrom (taken.loan-value g.dyn-1).it (look_in (g.S.Showing.shows l.layers) l.font) l.gray l.windows.records.items l.at l.fn.image l.image;
}
