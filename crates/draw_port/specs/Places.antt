-- A point seen from another, in numbers of 32 bits.
use Rattle.std.specs.Prelude.{◌≡◌, ℕ, ◌<◌, true, false, not, ◌&&◌, pos, negsuc, ◌-ℤ◌}
use Rattle.std.specs.Int.{saturate_signed, w32}
use Rattle.tb_geom.specs.declared.point.Point.{Point}
use Rattle.tb_geom.specs.declared.rect.Rect.{Rect}
use Rattle.tb_geom.specs.Points.{PixelSet}
use Rattle.tb_geom.specs.Rects.{between, rect_holds}
use Rattle.bit_map.specs.Rules.{right_of, HasColumns}

-- the point p as seen from o, where each number stops at the ends of 32 bits
abbrev pub stopped : Point → Point → Point
stopped p o = record { h = saturate_signed w32 (p.h -ℤ o.h); v = saturate_signed w32 (p.v -ℤ o.v) }

-- whether the pixel lies past the numbers of 32 bits, or at the last of them
abbrev pub is_far : PixelSet
is_far p = not (between (negsuc 2147483647) p.h (pos 2147483647) && between (negsuc 2147483647) p.v (pos 2147483647))

-- the rectangle encloses the pixels of the set that are not far
abbrev pub Encloses : Rect → PixelSet → Type 0
Encloses r s = (p : Point) → is_far p ≡ false → s p ≡ true → rect_holds r p ≡ true

-- of the points that are not far, the rectangle has those of the set
abbrev pub HasNear : Rect → PixelSet → Type 0
HasNear r s = (p : Point) → is_far p ≡ false → rect_holds r p ≡ s p

-- seen from the origin a run begins at `seen`, and numbers of 32 bits go as far as it
pub record IsSeenRun (origin start : Point) (count : ℕ) (seen : Point) : Type 0 where
  pub columns : HasColumns seen count
  pub each : (k : ℕ) → k < count → stopped (right_of start k) origin ≡ right_of seen k
