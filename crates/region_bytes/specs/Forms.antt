-- The forms in which a region's bytes say a set of pixels.
use Rattle.std.specs.Prelude.{◌≡◌, ℕ, true, List, All}
use Rattle.tb_geom.specs.declared.point.Point.{Point}
use Rattle.tb_geom.specs.Rects.{rect_holds, is_in_range, is_empty_rect, empty_rect}
use Rattle.tb_geom.specs.declared.rect.Rect as rect
use Rattle.tb_geom.specs.Pixels.{Pixels, holds}
use Rattle.region_bytes.specs.Points.{PointRow, inverted, points_of, IsCanonical, IsInRange}
use Rattle.region_bytes.specs.Words.{words_in, data_words}
use Rattle.region_bytes.specs.declared.region.Form.{Form}
use Rattle.region_bytes.specs.declared.region.Form.TheVariants.{Rect, Rows}

-- the set is the rectangle's, whose sides are in range; the empty set is that of 0 0 0 0
pub record IsRectOf (s : Pixels) (r : rect.Rect) : Type 0 where
  pub pixels : (p : Point) → holds s p ≡ rect_holds r p
  pub in_range : is_in_range r ≡ true
  pub none : is_empty_rect r ≡ true → r ≡ empty_rect

-- the bytes are the data of rows of points in canonical form, which are in range and invert the set
pub record IsRowsOf (s : Pixels) (bytes : List ℕ) : Type 0 where
  pub rows : List PointRow
  pub canonical : IsCanonical rows
  pub in_range : All IsInRange rows
  pub written : data_words rows ≡ words_in bytes
  pub pixels : (p : Point) → holds s p ≡ inverted (points_of rows) p

-- the form says the set
abbrev pub IsFormOf : Pixels → Form → Type 0
IsFormOf s (Rect r) = IsRectOf s r
IsFormOf s (Rows bytes) = IsRowsOf s bytes.now
