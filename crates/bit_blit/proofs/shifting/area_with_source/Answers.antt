use Rattle.std.proofs.Common.{rules}
use Rattle.tb_geom.proofs.RectLemmas.{same_rect}
use Rattle.bit_blit.proofs.ShiftLemmas.{source_area}
use Rattle.bit_blit.proofs.shifting.area_with_source.Goals as goal

pub returns : goal.returns
returns c =
    source_area c.args.map.now c.args.distance c.bounds-bounds.result _ c.sect.result c.bounds-bounds.ensures.limits.0 c.bounds-bounds.ensures.limits.1
    c.sect.ensures.pixels c.bounds-bounds.ensures.pixels (same_rect _ _ (search rules) (search rules) (search rules) (search rules))
