-- The columns of a row, one bit each, and where a row of a set differs from the row above.
use Rattle.std.specs.Prelude.{◌≡◌, Bool, true, false, ◌&&◌, ℤ, pos, negsuc, ◌-ℤ◌}
use Rattle.tb_geom.specs.Points.{PixelSet}
use Rattle.tb_geom.specs.Rects.{between, is_coordinate}
use Rattle.region_rows.specs.Bits.{has_bit}
use Rattle.region_rows.specs.Counts.{count_to}
use Rattle.region_rows.specs.Edges.{differ}
use Rattle.pixel_rows.specs.declared.columns.Columns.{Columns}

-- whether a column, which may be any, is one of them
unfoldable pub has_column : Columns → ℤ → Bool
has_column c h = is_coordinate h && has_bit c.words (count_to (negsuc 16383) h)

-- they lie from `left` on and left of `right`
abbrev pub AreWithin : ℤ → ℤ → Columns → Type 0
AreWithin left right c = (h : ℤ) → between left h right ≡ false → has_column c h ≡ false

-- at these columns a row begins or ends that lies from `left` on and left of `right`
pub record AreEdgesOf (edges : Columns) (left right : ℤ) (row : ℤ → Bool) : Type 0 where
  pub within : (h : ℤ) → between left h right ≡ false → row h ≡ false
  pub each : (h : ℤ) → between left h right ≡ true → has_column edges h ≡ differ (row h) (row (h -ℤ pos 1))

-- whether a column is one of a row or of that above, and not of both
abbrev pub changes : Columns → Columns → ℤ → Bool
changes above row h = differ (has_column above h) (has_column row h)

-- whether one of a pixel and the one left of it is in the set, and the other is not
abbrev pub is_edge : PixelSet → ℤ → ℤ → Bool
is_edge s h v = differ (s (record { h = h; v = v })) (s (record { h = h -ℤ pos 1; v = v }))

-- the row v of a set has the pixels of the row above
abbrev pub IsSteady : PixelSet → ℤ → Type 0
IsSteady s v = (h : ℤ) → s (record { h = h; v = v }) ≡ s (record { h = h; v = v -ℤ pos 1 })

-- where it has others
abbrev pub row_turns : PixelSet → ℤ → ℤ → Bool
row_turns s v h = differ (s (record { h = h; v = v -ℤ pos 1 })) (s (record { h = h; v = v }))
