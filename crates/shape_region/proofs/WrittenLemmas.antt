-- How far the rows of a shape are written.
use Rattle.std.proofs.Common.{List, ℤ}
use Rattle.tb_geom.specs.Points.{PixelSet}
use Rattle.region_bytes.specs.declared.writing.RegionWriter.{RegionWriter}
use Rattle.region_bytes.specs.Writing.{AreWritten}
use Rattle.region_rows.specs.Rows.{EdgeRow}
use Rattle.shape_region.proofs.MadeLemmas.{AreMade}

-- rows of a set above the row v are made, and these are written
pub record AreMadeAndWritten (s : PixelSet) (out : RegionWriter) (above : List ℤ) (v : ℤ) : Type 0 where
  pub rows : List EdgeRow
  pub made : AreMade s rows above v
  pub written : AreWritten out rows
