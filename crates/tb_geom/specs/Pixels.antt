-- Finite sets of pixels: what a region means.
use Rattle.std.specs.Prelude.{Bool, ℕ, zero, suc, ℤ, pos, negsuc}
use Rattle.std.specs.Coded.{Coded, coded×, coded_ℤ}
use Rattle.std.specs.declared.cmp.Ordering.{Ordering}
use Rattle.std.specs.Ordering.{int_cmp, on, then_cmp}
use Rattle.std.specs.FinSet as set
use Rattle.tb_geom.specs.Points.{PixelSet}

-- the order of pixels, each a column and a row: by rows, and by columns in a row
abbrev pub pixel_cmp : ℤ × ℤ → ℤ × ℤ → Ordering
pixel_cmp = then_cmp (on (λ p. p.1) int_cmp) (on (λ p. p.0) int_cmp)

-- a finite set of pixels
abbrev pub Pixels : Type 0
Pixels = set.FinSet pixel_cmp

abbrev pub pixels_code : Coded Pixels
pixels_code = set.code (coded× coded_ℤ coded_ℤ)

-- whether the set has the pixel at column h and row v
unfoldable pub has : Pixels → ℤ → ℤ → Bool
has s h v = set.contains s (h, v)

-- whether it has the pixel at a point
abbrev pub holds : Pixels → PixelSet
holds s p = has s p.h p.v

-- the set s, with the columns -n..n-1 of the row v
unfoldable pub with_line : ℤ → ℕ → Pixels → Pixels
with_line v zero s = s
with_line v (suc n) s = set.insert (set.insert (with_line v n s) (negsuc n, v)) (pos n, v)

-- the columns -n..n-1 of the rows -m..m-1
unfoldable pub square : ℕ → ℕ → Pixels
square n zero = set.empty
square n (suc m) = with_line (pos m) n (with_line (negsuc m) n (square n m))

-- the pixels at which a test holds, of those with coordinates in -16384..16383
unfoldable pub pixels_where : (ℤ → ℤ → Bool) → Pixels
pixels_where test = set.retain (square 16384 16384) (λ p. test p.0 p.1)
