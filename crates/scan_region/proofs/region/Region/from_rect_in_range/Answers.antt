use Rattle.std.proofs.Common.{◌∙◌}
use Rattle.scan_region.proofs.region.Region.from_rect_in_range.Goals as goal

pub returns : goal.returns
returns c = λ p. c.of_rows.ensures p.h p.v ∙ c.in_ok-rows.ensures.pixels p.h p.v
