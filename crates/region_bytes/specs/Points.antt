-- Inversion points: the set of pixels that a list of them stands for, and the one list of a set.
use Rattle.std.specs.Prelude.{◌≡◌, ◌<◌, Bool, false, ◌&&◌, List, [], ◌∷◌, ◌++◌, map, length, ℤ, ◌≤ℤ◌, int_le, All}
use Rattle.std.specs.List.{AllPairs}
use Rattle.tb_geom.specs.declared.point.Point.{Point}
use Rattle.tb_geom.specs.declared.rect.Rect.{Rect}
use Rattle.tb_geom.specs.Points.{PixelSet}
use Rattle.region_bytes.specs.Edges.{differ, inside, is_odd, IsRising, IsCoordinate}

-- whether the set has the pixel at p: an odd number of the points lies at it, above it, left of it or both
unfoldable pub inverted : List Point → PixelSet
inverted [] p = false
inverted (x ∷ points) p = differ (int_le x.h p.h && int_le x.v p.v) (inverted points p)

-- the inversion points of a rectangle, the upper two first
abbrev pub corners : Rect → List Point
corners r = (record { h = r.left; v = r.top }) ∷ (record { h = r.right; v = r.top }) ∷ (record { h = r.left; v = r.bottom }) ∷ (record { h = r.right; v = r.bottom }) ∷ []

-- the points come row by row, from the top down
abbrev pub IsDown : List Point → Type 0
IsDown points = AllPairs (λ (a b : Point). a.v ≤ℤ b.v) points

-- a row of inversion points, as its v and their columns
abbrev pub PointRow : Type 0
PointRow = ℤ × List ℤ

-- the place of a row
abbrev pub top_of : PointRow → ℤ
top_of row = row.0

-- the points of a row
abbrev pub row_points : PointRow → List Point
row_points row = map (λ x. record { h = x; v = row.0 }) row.1

-- the points of all rows
unfoldable pub points_of : List PointRow → List Point
points_of [] = []
points_of (row ∷ rows) = row_points row ++ points_of rows

-- a row has points, an even number of them, from left to right
pub record IsPointRow (row : PointRow) : Type 0 where
  pub rising : IsRising row.1
  pub even : is_odd (length row.1) ≡ false
  pub some : 0 < length row.1

-- the rows lie from the top down, and each has points
pub record ArePointRows (rows : List PointRow) : Type 0 where
  pub rising : IsRising (map top_of rows)
  pub each : All IsPointRow rows

-- the rows are the one list of a set of pixels: below the last of them no pixel is in
pub record IsCanonical (rows : List PointRow) : Type 0 where
  pub are_rows : ArePointRows rows
  pub closed : (p : Point) → All (λ row. row.0 ≤ℤ p.v) rows → inverted (points_of rows) p ≡ false

-- the row and its columns lie in -16384..16383
abbrev pub IsInRange : PointRow → Type 0
IsInRange row = IsCoordinate row.0 × All IsCoordinate row.1

-- whether the rows have the pixel at column h and row v, row by row: each row at v or above it turns the columns from its points on
unfoldable pub in_rows : List PointRow → ℤ → ℤ → Bool
in_rows [] h v = false
in_rows (row ∷ rows) h v = differ (int_le row.0 v && inside row.1 h) (in_rows rows h v)
