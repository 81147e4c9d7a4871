use Rattle.std.proofs.Common.{◌≡◌, ◌≤ℤ◌, true, not, ◌&&◌, ◌++◌}
use Rattle.tb_geom.specs.declared.point.Point.{Point}
use Rattle.tb_geom.specs.Rects.{rect_holds}
use Rattle.scan_region.specs.Cuts.{cut_holds}
use Rattle.scan_region.specs.Scan.{IsScanOf}
use Rattle.bit_blit.specs.Draws.{Draws}
use Rattle.bit_blit.proofs.SpansLemmas.{spans_hold}
use Rattle.draw_port.specs.Canvases.{canvas_holds, canvas_point, SameFrame}
use Rattle.draw_port.proofs.canvas.Canvas.draw_spans.Given as goal

abbrev pub invariant-loop-span : goal.invariant-loop-span
invariant-loop-span g l = record {
  same_map : l.self.map.ghost_name ≡ l.fn.self.map.ghost_name;
  same_frame : SameFrame l.fn.self l.self;
  scan : IsScanOf (l.yielded ++ l.span-iterator) (λ p. rect_holds l.fn.rect p && cut_holds l.fn.cut p);
  upright : l.block.top ≤ℤ l.block.bottom;
  within : (q : Point) → rect_holds l.block q ≡ true → spans_hold l.yielded q ≡ true;
  drawn : Draws (λ p. canvas_holds l.fn.self p && (spans_hold l.yielded (canvas_point l.fn.self p) && not (rect_holds l.block (canvas_point l.fn.self p)))) (λ p d. g.R.Rule.value l.rule (canvas_point l.fn.self p) d) l.fn.self.map.now l.self.map.now;
}
