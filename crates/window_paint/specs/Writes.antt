-- How often the pixels of a map are written.
use Rattle.std.specs.Prelude.{◌≡◌, ◌≢◌, ℕ, ◌+◌, ◌<◌, ◌≤◌, Bool, true, false, Option, None, Some}
use Rattle.tb_geom.specs.declared.point.Point.{Point}
use Rattle.tb_geom.specs.Points.{PixelSet}
use Rattle.tb_geom.specs.Pixels.{Pixels, holds}
use Rattle.bit_map.specs.Bits.{Bits, on_map, bit, count}

-- 1 where that is so
abbrev pub one : Bool → ℕ
one true = 1
one false = 0

-- no pixel
abbrev pub nowhere : PixelSet
nowhere p = false

-- each pixel was written at most so many times, but for these, of which nothing is said; no number fell, and where the bit
-- changed it grew
pub record IsWrittenBy (times : Point → ℕ) (often : PixelSet) (old new : Bits) : Type 0 where
  pub at_most : (p : Point) → on_map old p ≡ true → often p ≡ false → count new p ≤ count old p + times p
  pub rises : (p : Point) → on_map old p ≡ true → count old p ≤ count new p
  pub changed : (p : Point) → on_map old p ≡ true → bit new p ≢ bit old p → count old p < count new p

-- how often a pixel is written where pixels arrive, if any do
abbrev pub arrives : Pixels → Option Point → Point → ℕ
arrives arriving None p = 0
arrives arriving (Some by) p = one (holds arriving p)
