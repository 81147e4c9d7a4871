-- How the region of a set of pixels is written, and a row of it.
use Rattle.std.specs.Prelude.{◌≡◌, ◌++◌, Bool, List, ℤ}
use Rattle.tb_geom.specs.declared.point.Point.{Point}
use Rattle.tb_geom.specs.Points.{PixelSet}
use Rattle.region_bytes.specs.declared.writing.RegionWriter.{RegionWriter}
use Rattle.region_bytes.specs.Points.{in_rows, points_of, row_points}
use Rattle.region_bytes.specs.Words.{data_words}
use Rattle.region_bytes.specs.Writing.{IsWritten}
use Rattle.region_rows.specs.Edges.{inside, IsRow}
use Rattle.region_rows.specs.Rows.{EdgeRow, AreRows}

-- the words and points of all rows of the set's region are written
pub record AreWrittenRows (s : PixelSet) (out : RegionWriter) : Type 0 where
  pub rows : List EdgeRow
  pub are_rows : AreRows rows
  pub pixels : (h v : ℤ) → in_rows rows h v ≡ s (record { h = h; v = v })
  pub written : IsWritten out (data_words rows) (points_of rows)

-- the columns of the inversion points of a row are written, which turns these pixels
pub record AreWrittenChanges (out : RegionWriter) (v : ℤ) (turns : ℤ → Bool)
    (words : List ℤ) (points : List Point) : Type 0 where
  pub columns : List ℤ
  pub pixels : (h : ℤ) → inside columns h ≡ turns h
  pub row : IsRow columns
  pub written : IsWritten out (words ++ columns) (points ++ row_points (v, columns))
