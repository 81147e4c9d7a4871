-- How a region lets the pixels of a row through.
use Rattle.std.specs.Prelude.{◌≡◌, Bool, List, ℕ, map, ℤ, ◌<ℤ◌, ◌≤ℤ◌, All}
use Rattle.tb_geom.specs.Points.{PixelSet}
use Rattle.region_bytes.specs.Points.{IsInRange, in_rows, top_of}
use Rattle.region_rows.specs.Edges.{differ, IsRising}
use Rattle.region_rows.specs.Seen.{seen}
use Rattle.region_rows.specs.Lines.{IsLine}
use Rattle.region_rows.specs.declared.layers.Layer.{Layer}

-- the rows that the layer is to read come in their order
pub record HasRows (l : Layer) : Type 0 where
  pub in_range : All IsInRange l.rows.now
  pub rising : IsRising (map top_of (seen l.up l.rows.now))

-- from the row v on the set is what the line has, turned at the rows that are to be read
pub record IsLayerTo (words : List ℕ) (l : Layer) (s : PixelSet) (f : ℤ → Bool) (v : ℤ) : Type 0 where
  pub line : IsLine words l.line f
  pub rest : (h w : ℤ) → v ≤ℤ w → s (record { h = h; v = w }) ≡ differ (f h) (in_rows (seen l.up l.rows.now) h w)

-- left of the end of the row v, the line is that of the set's row, and the layer counts the pixel in the column `at` as the set does
pub record IsLayer (words : List ℕ) (l : Layer) (s : PixelSet) (v at : ℤ) : Type 0 where
  pub f : ℤ → Bool
  pub to : IsLayerTo words l s f v
  pub row : at <ℤ l.line.right → (x : ℤ) → f x ≡ s (record { h = x; v = v })
  pub counts : at <ℤ l.line.right → l.counts ≡ f at
