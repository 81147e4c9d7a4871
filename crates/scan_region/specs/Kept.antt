-- What every region keeps of its rows and its box.
use Rattle.std.specs.Prelude.{List}
use Rattle.tb_geom.specs.declared.rect.Rect.{Rect}
use Rattle.region_rows.specs.Rows.{EdgeRow}
use Rattle.region_rows.specs.Hull.{IsRegion}

-- these are the rows of a region, and its box; a word of its own, so that proofs about regions need not read what it says
unfoldable pub IsKept : List EdgeRow → Rect → Type 0
IsKept rows r = IsRegion rows r
