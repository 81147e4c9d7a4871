use Rattle.std.proofs.Common.{negsuc}
use Rattle.std.proofs.lemmas.Bool.{and_right}
use Rattle.tb_geom.specs.Rects.{is_coordinate}
use Rattle.region_rows.specs.Counts.{count_to}
use Rattle.pixel_rows.specs.Columns.{has_column}
use Rattle.pixel_rows.proofs.ColumnLemmas.{no_bit}
use Rattle.pixel_rows.proofs.columns.Columns.none.Goals as goal

pub returns : goal.returns
unfolding has_column
returns c = λ h. and_right (is_coordinate h) _ (no_bit 512 (count_to (negsuc 16383) h))
