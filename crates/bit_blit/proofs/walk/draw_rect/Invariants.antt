use Rattle.std.proofs.Common.{◌≡◌, ◌≤ℤ◌}
use Rattle.bit_blit.specs.Draws.{DrawsOnce}
use Rattle.bit_blit.proofs.WalkLemmas.{in_rows}
use Rattle.bit_blit.proofs.walk.draw_rect.Given as goal

abbrev pub invariant-loop-v : goal.invariant-loop-v
invariant-loop-v g l = record {
  low : l.shared.top ≤ℤ l.v;
  high : l.shared.top ≤ℤ l.shared.bottom → l.v ≤ℤ l.shared.bottom;
  none : l.shared.bottom ≤ℤ l.shared.top → l.v ≡ l.shared.top;
  drawn : DrawsOnce (in_rows l.shared.left l.shared.right l.shared.top l.v) (g.R.Rule.value l.rule) l.fn.map l.map;
}
