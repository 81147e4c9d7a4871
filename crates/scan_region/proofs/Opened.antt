-- What every region keeps, read and made.
use Rattle.std.specs.Prelude.{List}
use Rattle.tb_geom.specs.declared.rect.Rect.{Rect}
use Rattle.region_rows.specs.Rows.{EdgeRow}
use Rattle.region_rows.specs.Hull.{IsRegion}
use Rattle.scan_region.specs.Kept.{IsKept}

pub opened : (rows : List EdgeRow) (r : Rect) → IsKept rows r → IsRegion rows r
unfolding IsKept
opened rows r kept = kept

pub kept : (rows : List EdgeRow) (r : Rect) → IsRegion rows r → IsKept rows r
unfolding IsKept
kept rows r region = region
