use Rattle.std.proofs.Common.{◌≤◌, length}
use Rattle.def_iface.specs.contracts.taken_window.TakenWindowDefined.TheImpl as taken
use Rattle.vis_update.specs.Records.{record_of}
use Rattle.scratch_paint.specs.Paints.{look_in}
use Rattle.scratch_paint.proofs.PaintLemmas.{AreLayersFrom}
use Rattle.scratch_paint.proofs.windows.paint_layers.Given as goal

abbrev pub invariant-loop-at : goal.invariant-loop-at
invariant-loop-at g l = record {
  within : l.at ≤ length l.window.layers.layers;
  painted : AreLayersFrom (look_in (g.S.Showing.shows l.layers) l.font) l.gray (record_of (taken.loan-value g.dyn-1).it l.window) l.at l.fn.image l.image;
}
