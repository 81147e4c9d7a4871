use Rattle.std.proofs.Common.{take}
use Rattle.tb_geom.specs.Pixels.{holds}
use Rattle.window_paint.proofs.ContentLemmas.{AreDrawn}
use Rattle.window_paint.proofs.layers.paint_content.Given as goal

abbrev pub invariant-loop-at : goal.invariant-loop-at
invariant-loop-at g l = AreDrawn l.font (g.S.Showing.shows l.layers l.font) l.window (holds l.region) (take l.at l.window.layers.layers) l.fn.map l.map
