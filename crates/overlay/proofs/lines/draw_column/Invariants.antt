use Rattle.std.proofs.Common.{◌≡◌, ◌≤ℤ◌}
use Rattle.bit_map.specs.Patterns.{pattern_bit, gray}
use Rattle.bit_blit.specs.Draws.{Draws}
use Rattle.bit_blit.proofs.WalkLemmas.{in_rows}
use Rattle.overlay.proofs.OutlineLemmas.{inverted}
use Rattle.overlay.proofs.lines.draw_column.Given as goal

abbrev pub invariant-loop-v : goal.invariant-loop-v
invariant-loop-v l = record {
  low : l.column.top ≤ℤ l.v;
  high : l.column.top ≤ℤ l.column.bottom → l.v ≤ℤ l.column.bottom;
  none : l.column.bottom ≤ℤ l.column.top → l.v ≡ l.column.top;
  black : l.black ≡ pattern_bit gray (record { h = l.column.left; v = l.v });
  drawn : Draws (in_rows l.column.left l.column.right l.column.top l.v) inverted l.fn.map l.map;
}
