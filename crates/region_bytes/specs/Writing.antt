-- How far the bytes of a region are written.
use Rattle.std.specs.Prelude.{◌≡◌, ◌<◌, ◌≤◌, false, List, length, ℤ, None, Option, IfSome, All}
use Rattle.std.specs.List.{flat_map, fold}
use Rattle.tb_geom.specs.declared.point.Point.{Point}
use Rattle.tb_geom.specs.declared.rect.Rect.{Rect}
use Rattle.region_bytes.specs.declared.writing.RegionWriter.{RegionWriter}
use Rattle.region_bytes.specs.Edges.{IsCoordinate}
use Rattle.region_bytes.specs.Points.{PointRow, points_of, IsCanonical, IsInRange}
use Rattle.region_bytes.specs.Words.{word_bytes, row_words, data_words, grown}

-- these words are written, and these points are in the box; the words are counted until they are too many, and their bytes are kept while memory lasts
pub record IsWritten (out : RegionWriter) (words : List ℤ) (points : List Point) : Type 0 where
  pub few : out.words ≤ 16378 → out.words ≡ length words
  pub many : 16378 < out.words → 16378 < length words
  pub kept : out.words ≤ 16378 → out.lost ≡ false → out.bytes.items ≡ flat_map word_bytes words
  pub bounds : out.bounds ≡ fold grown None points

-- these rows are
abbrev pub AreWritten : RegionWriter → List PointRow → Type 0
AreWritten out rows = IsWritten out (flat_map row_words rows) (points_of rows)

-- the words and points of all rows of a region are
pub record IsWholeWriter (out : RegionWriter) : Type 0 where
  pub rows : List PointRow
  pub canonical : IsCanonical rows
  pub in_range : All IsInRange rows
  pub written : IsWritten out (data_words rows) (points_of rows)

-- the sides of a box, if there is one, lie in -16384..16383
abbrev pub IsBoxOfCoordinates : Option Rect → Type 0
IsBoxOfCoordinates bounds = IfSome bounds (λ r. IsCoordinate r.left × IsCoordinate r.top × IsCoordinate r.right × IsCoordinate r.bottom)
