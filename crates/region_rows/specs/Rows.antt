-- A region as its rows of inversion points, from the top down.
use Rattle.std.specs.Prelude.{◌≡◌, Bool, List, [], ◌∷◌, ◌++◌, ℤ, ◌<ℤ◌, ◌≤ℤ◌, All}
use Rattle.tb_geom.specs.declared.rect.Rect.{Rect}
use Rattle.region_bytes.specs.Points.{PointRow, IsCanonical, IsInRange, in_rows}
use Rattle.region_bytes.specs.Edges.{inside, IsRow}

-- a row, as its v and the columns of its inversion points: the edges at which it differs from the row above
abbrev pub EdgeRow : Type 0
EdgeRow = PointRow

-- whether the rows have the pixel at column h and row v
abbrev pub has_in_rows : List EdgeRow → ℤ → ℤ → Bool
has_in_rows rows h v = in_rows rows h v

-- the two rows of a rectangle
abbrev pub two_rows : Rect → List EdgeRow
two_rows r = (r.top, r.left ∷ r.right ∷ []) ∷ (r.bottom, r.left ∷ r.right ∷ []) ∷ []

-- the rows with one more, if it has points
abbrev pub with_row : List EdgeRow → ℤ → List ℤ → List EdgeRow
with_row rows v [] = rows
with_row rows v (x ∷ xs) = rows ++ (v, x ∷ xs) ∷ []

-- the rows of a region are the one list of its pixels, and lie in range
pub record AreRows (rows : List EdgeRow) : Type 0 where
  pub canonical : IsCanonical rows
  pub in_range : All IsInRange rows

-- the rows with one more, of the points of these pixels
pub record IsPushed (old new : List EdgeRow) (v : ℤ) (s : ℤ → Bool) : Type 0 where
  pub points : List ℤ
  pub pixels : (h : ℤ) → inside points h ≡ s h
  pub row : IsRow points
  pub pushed : new ≡ with_row old v points

-- the rows of the one lie above those of the other
pub record AreAbove (a b : List EdgeRow) : Type 0 where
  pub line : ℤ
  pub upper : All (λ row. row.0 ≤ℤ line) a
  pub lower : All (λ row. line <ℤ row.0) b
