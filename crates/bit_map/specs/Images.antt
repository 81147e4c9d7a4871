-- Rows of bits: bit images.
use Rattle.std.specs.Prelude.{ℕ, ◌+◌, ◌*◌, ◌/◌, ◌%◌, Bool, ◌&&◌, List, nat_abs, slice_index}
use Rattle.tb_geom.specs.Points.{PixelSet}
use Rattle.bit_map.specs.Bits.{is_below}
use Rattle.bit_map.specs.Patterns.{bit_of}

-- a size, and the bytes of the rows, of which each takes (width + 7) / 8
pub record Image : Type 0 where
  pub width : ℕ
  pub height : ℕ
  pub rows : List ℕ

-- the bit in column x and row y, white where there are too few bytes
abbrev pub row_bit : Image → ℕ → ℕ → Bool
row_bit i x y = bit_of (slice_index i.rows (y * ((i.width + 7) / 8) + x / 8)) (x % 8)

-- whether the image has the pixel at a point
unfoldable pub image_holds : Image → PixelSet
image_holds i p = is_below i.width p.h && is_below i.height p.v

-- the bit at a point that the image has
unfoldable pub image_bit : Image → PixelSet
image_bit i p = row_bit i (nat_abs p.h) (nat_abs p.v)
