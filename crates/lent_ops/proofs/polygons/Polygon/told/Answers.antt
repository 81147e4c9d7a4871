use Rattle.std.proofs.Common.{◌∙◌}
use Rattle.lent_ops.proofs.polygons.Polygon.told.Goals as goal

pub returns : goal.returns
returns c = rw (c.as_slice.ensures ∙ c.new.ensures) at c.polygon_bytes.ensures
