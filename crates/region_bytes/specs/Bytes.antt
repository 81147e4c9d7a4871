-- The bytes of a set of pixels, and bytes in their form.
use Rattle.std.specs.Prelude.{◌≡◌, ◌≢◌, ℕ, ◌<◌, ◌≤◌, ◌⊎◌, false, List, length, ℤ, pos, negsuc, ◌≤ℤ◌, All}
use Rattle.tb_geom.specs.declared.point.Point.{Point}
use Rattle.tb_geom.specs.declared.refusal.Refusal.{Refusal}
use Rattle.tb_geom.specs.declared.refusal.Refusal.TheVariants.{NoMemory, OutOfRange, TooLong, BadRegion}
use Rattle.tb_geom.specs.Pixels.{Pixels, holds}
use Rattle.region_bytes.specs.Points.{PointRow, inverted, points_of, IsCanonical, IsInRange}
use Rattle.region_bytes.specs.Words.{bytes_of, is_short}

-- these are the bytes of the set: those of its one list of inversion points
pub record IsRegionBytes (bytes : List ℕ) (s : Pixels) : Type 0 where
  pub rows : List PointRow
  pub canonical : IsCanonical rows
  pub in_range : All IsInRange rows
  pub pixels : (p : Point) → holds s p ≡ inverted (points_of rows) p
  pub written : bytes ≡ bytes_of rows
  pub fits : length bytes ≤ 32766

-- the bytes of the set would be more than a size word may say
pub record IsTooLong (s : Pixels) : Type 0 where
  pub rows : List PointRow
  pub canonical : IsCanonical rows
  pub in_range : All IsInRange rows
  pub pixels : (p : Point) → holds s p ≡ inverted (points_of rows) p
  pub long : 32766 < length (bytes_of rows)

-- the number is one of 16 bits
abbrev pub IsWord : ℤ → Type 0
IsWord z = (negsuc 32767 ≤ℤ z) × (z ≤ℤ pos 32767)

-- the row and its columns are
abbrev pub IsOfWords : PointRow → Type 0
IsOfWords row = IsWord row.0 × All IsWord row.1

-- neither is 32767, which ends rows and data
abbrev pub IsWithoutEnd : PointRow → Type 0
IsWithoutEnd row = (row.0 ≢ pos 32767) × All (λ x. x ≢ pos 32767) row.1

-- the bytes have the form of a region's, and say these rows, which may lie outside -16384..16383
pub record IsForm (bytes : List ℕ) (rows : List PointRow) : Type 0 where
  pub canonical : IsCanonical rows
  pub words : All IsOfWords rows
  pub told : is_short rows ≡ false → All IsWithoutEnd rows
  pub written : bytes ≡ bytes_of rows
  pub fits : length bytes ≤ 32766

-- why bytes are refused as a region's: they have not the form, or they have, and a coordinate lies out of range
abbrev pub IsBad : List ℕ → Refusal → Type 0
IsBad bytes e =
    ((e ≡ BadRegion) × ((rows : List PointRow) → IsForm bytes rows → ⊥))
    ⊎ ((e ≡ OutOfRange) × ((rows : List PointRow) × IsForm bytes rows × (All IsInRange rows → ⊥)))

-- why no region is made of bytes: they are refused, or are a region's and memory is
abbrev pub IsUnread : List ℕ → Refusal → Type 0
IsUnread bytes e = IsBad bytes e ⊎ ((e ≡ NoMemory) × ((s : Pixels) × IsRegionBytes bytes s))

-- why a set is not written: it is too long, or it is not and memory is refused
abbrev pub IsUnwritten : Pixels → Refusal → Type 0
IsUnwritten s e = ((e ≡ TooLong) × IsTooLong s) ⊎ ((e ≡ NoMemory) × ((bytes : List ℕ) × IsRegionBytes bytes s))
