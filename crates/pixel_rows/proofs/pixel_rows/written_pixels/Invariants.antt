use Rattle.std.proofs.Common.{◌≡◌, ℤ, pos, ◌-ℤ◌, ◌≤ℤ◌}
use Rattle.pixel_rows.specs.Columns.{has_column}
use Rattle.pixel_rows.proofs.ChangeLemmas.{AreRowsTo}
use Rattle.pixel_rows.proofs.pixel_rows.written_pixels.Given as goal

abbrev pub invariant-loop-v : goal.invariant-loop-v
invariant-loop-v g l = record {
  low : l.bounds.top ≤ℤ l.v;
  high : l.v ≤ℤ pos 16384;
  above : (h : ℤ) → has_column l.above h ≡ g.P.PixelRows.pixels l.set (record { h = h; v = l.v -ℤ pos 1 });
  so_far : AreRowsTo (g.P.PixelRows.pixels l.set) l.out l.v;
}
