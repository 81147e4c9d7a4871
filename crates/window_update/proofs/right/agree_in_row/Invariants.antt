use Rattle.std.proofs.Common.{◌≡◌, ◌&&◌, true, ◌≤ℤ◌}
use Rattle.tb_geom.specs.declared.point.Point.{Point}
use Rattle.tb_geom.specs.Points.{minus}
use Rattle.bit_map.specs.Bits.{bit}
use Rattle.bit_blit.specs.Draws.{in_row}
use Rattle.window_update.specs.Sets.{judged_set}
use Rattle.window_update.proofs.right.agree_in_row.Given as goal

abbrev pub invariant-loop-h : goal.invariant-loop-h
invariant-loop-h l = record {
  low : l.span.left ≤ℤ l.h;
  high : l.span.left ≤ℤ l.span.right → l.h ≤ℤ l.span.right;
  none : l.span.right ≤ℤ l.span.left → l.h ≡ l.span.left;
  same : (p : Point) → (in_row l.span.v l.span.left l.h p && judged_set l.fn.area (minus p l.place)) ≡ true → bit l.fn.screen p ≡ bit l.fn.image p;
}
