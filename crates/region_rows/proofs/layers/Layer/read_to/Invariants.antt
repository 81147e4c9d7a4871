use Rattle.std.proofs.Common.{◌≡◌, ◌⊎◌, ◌<◌, ◌≤◌, ◌+◌, ℕ, ℤ, Bool, ◌≤ℤ◌, length}
use Rattle.tb_geom.specs.Points.{PixelSet}
use Rattle.region_rows.specs.Bits.{has_bit}
use Rattle.region_rows.specs.Layers.{HasRows, IsLayerTo}
use Rattle.region_rows.specs.Counts.{count_to}
use Rattle.region_rows.proofs.layers.Layer.read_to.Given as goal

abbrev pub invariant-loop-next : goal.invariant-loop-next
invariant-loop-next l = record {
  layer : (s : PixelSet) (f : ℤ → Bool) (w : ℤ) → w ≤ℤ l.v → IsLayerTo l.fn.words l.fn.self s f w → (g : ℤ → Bool) × IsLayerTo l.words l.self s g l.v;
  rows : HasRows l.self;
  apart : (k : ℕ) → (k < l.fn.self.line.base) ⊎ (l.fn.self.line.base + count_to l.fn.self.line.left l.fn.self.line.right ≤ k) → has_bit l.words k ≡ has_bit l.fn.words k;
  length : length l.words ≡ length l.fn.words;
  left : l.self.line.left ≡ l.fn.self.line.left;
  right : l.self.line.right ≡ l.fn.self.line.right;
  base : l.self.line.base ≡ l.fn.self.line.base;
}

abbrev pub decreases-loop-next : goal.decreases-loop-next
decreases-loop-next l = length l.self.rows.now
