-- What a drawing leaves on a map: its bits, and how often its pixels were written.
use Rattle.std.specs.Prelude.{◌≡◌, ◌≢◌, ◌+◌, ◌<◌, ◌≤◌, Bool, true, false, if◌then◌else◌}
use Rattle.tb_geom.specs.declared.point.Point.{Point}
use Rattle.tb_geom.specs.Points.{PixelSet}
use Rattle.bit_map.specs.Bits.{Bits, on_map, bit, count}
pub use Rattle.bit_map.specs.Bits.{in_row}

-- at most these pixels of a map were written: no other number changed, none fell, and where the bit changed it grew
pub record IsWritten (holds : PixelSet) (old new : Bits) : Type 0 where
  pub outside : (p : Point) → on_map old p ≡ true → holds p ≡ false → count new p ≡ count old p
  pub rises : (p : Point) → on_map old p ≡ true → count old p ≤ count new p
  pub changed : (p : Point) → on_map old p ≡ true → bit new p ≢ bit old p → count old p < count new p

-- the drawing gave each pixel of the map that `holds` has the value made of the point and its old bit, and left every other
pub record Draws (holds : PixelSet) (value : Point → Bool → Bool) (old new : Bits) : Type 0 where
  pub pixels : (p : Point) → on_map old p ≡ true → bit new p ≡ (if holds p then value p (bit old p) else bit old p)
  pub width : new.width ≡ old.width
  pub height : new.height ≡ old.height

-- the drawing did so, and wrote each of these pixels once and no other
pub record DrawsOnce (holds : PixelSet) (value : Point → Bool → Bool) (old new : Bits) : Type 0 where
  pub pixels : (p : Point) → on_map old p ≡ true → bit new p ≡ (if holds p then value p (bit old p) else bit old p)
  pub width : new.width ≡ old.width
  pub height : new.height ≡ old.height
  pub once : (p : Point) → on_map old p ≡ true → count new p ≡ (if holds p then count old p + 1 else count old p)
