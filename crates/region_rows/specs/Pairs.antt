-- Two rectangles that share rows.
use Rattle.std.specs.Prelude.{◌≡◌, Bool, true, false, not, ◌&&◌, ◌||◌, List, [], ◌∷◌, ◌++◌, ℕ, ◌<◌, length, map, slice_index_or, ℤ, pos, int_le, int_lt, ◌<ℤ◌, ◌≤ℤ◌, All}
use Rattle.tb_geom.specs.declared.rect.Rect.{Rect}
use Rattle.tb_geom.specs.Points.{PixelSet}
use Rattle.tb_geom.specs.Rects.{between, rect_holds}
use Rattle.region_bytes.specs.Points.{ArePointRows, IsInRange, in_rows, top_of}
use Rattle.region_rows.specs.Edges.{differ, IsCoordinate}
use Rattle.region_rows.specs.Rows.{EdgeRow}
use Rattle.region_rows.specs.declared.pair.Pair.{Pair}
use Rattle.region_rows.specs.declared.pair.Run.{Run}

-- whether a column is one of the run
abbrev pub columns : Run → ℤ → Bool
columns r h = between r.left h r.right

-- and none of the other one
abbrev pub alone : Run → Run → ℤ → Bool
alone r other h = columns r h && not (columns other h)

-- or one of the other one
abbrev pub either : Run → Run → ℤ → Bool
either r other h = columns r h || columns other h

-- both ends of a run, if it has columns
abbrev pub ends_if : Bool → ℤ → ℤ → List ℤ
ends_if true x y = x ∷ y ∷ []
ends_if false x y = []

-- the edges of the columns from x up to y, and from z up to w
abbrev pub around : ℤ → ℤ → ℤ → ℤ → List ℤ
around x y z w = ends_if (int_lt x y) x y ++ ends_if (int_lt z w) z w

-- whether the rectangle has the column, in the rows that it has
abbrev pub across : Rect → ℤ → Bool
across r h = between r.left h r.right

-- whether a pixel lies in the columns of one of the two, and not above it
abbrev pub begun : Rect → Rect → ℤ → ℤ → Bool
begun a b h w = (across a h && int_le a.top w) || (across b h && int_le b.top w)

-- whether it lies in the columns of one, and not above the end of any of which it does
abbrev pub gone : Rect → Rect → ℤ → ℤ → Bool
gone a b h w = (across a h || across b h) && not ((across a h && int_lt w a.bottom) || (across b h && int_lt w b.bottom))

-- whether one of the two has the pixel at p
abbrev pub pair_holds : Pair → PixelSet
pair_holds pair p = rect_holds pair.upper p || rect_holds pair.lower p

-- the ends of the run are coordinates, and it has columns
pub record IsRun (r : Run) : Type 0 where
  pub left_in : IsCoordinate r.left
  pub right_in : IsCoordinate r.right
  pub order : r.left <ℤ r.right

-- the sides of the rectangle are coordinates, and it has a pixel
pub record IsProper (r : Rect) : Type 0 where
  pub left_in : IsCoordinate r.left
  pub top_in : IsCoordinate r.top
  pub right_in : IsCoordinate r.right
  pub bottom_in : IsCoordinate r.bottom
  pub across : r.left <ℤ r.right
  pub down : r.top <ℤ r.bottom

-- the second one begins within the rows of the first
pub record IsPair (pair : Pair) : Type 0 where
  pub upper : IsProper pair.upper
  pub lower : IsProper pair.lower
  pub first : pair.upper.top ≤ℤ pair.lower.top
  pub within : pair.lower.top <ℤ pair.upper.bottom

-- the rows lie from the top down, in range, and none below the row `upto`
pub record AreStacked (rows : List EdgeRow) (upto : ℤ) : Type 0 where
  pub rows_ok : ArePointRows rows
  pub in_range : All IsInRange rows
  pub below : (k : ℕ) → k < length (map top_of rows) → slice_index_or (map top_of rows) k (pos 0) ≤ℤ upto

-- rows are added from one row down to another, and turn these pixels
pub record AreTurnedFrom (old new : List EdgeRow) (top bottom : ℤ) (turned : ℤ → ℤ → Bool) : Type 0 where
  pub pixels : (h w : ℤ) → in_rows new h w ≡ differ (turned h w) (in_rows old h w)
  pub stacked : (upto : ℤ) → AreStacked old upto → upto <ℤ top → AreStacked new bottom
