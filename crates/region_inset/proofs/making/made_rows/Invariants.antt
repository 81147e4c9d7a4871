use Rattle.std.proofs.Common.{◌≡◌, ℤ, pos, ◌-ℤ◌, ◌≤ℤ◌}
use Rattle.pixel_rows.specs.Columns.{has_column}
use Rattle.pixel_rows.proofs.ChangeLemmas.{AreMadeTo}
use Rattle.region_inset.proofs.making.made_rows.Given as goal

abbrev pub invariant-loop-v : goal.invariant-loop-v
invariant-loop-v g l = record {
  low : l.bounds.top ≤ℤ l.v;
  high : l.v ≤ℤ pos 16384;
  above : (h : ℤ) → has_column l.above h ≡ g.P.PixelRows.pixels l.set (record { h = h; v = l.v -ℤ pos 1 });
  made : AreMadeTo (g.P.PixelRows.pixels l.set) l.rows.items l.v;
}
