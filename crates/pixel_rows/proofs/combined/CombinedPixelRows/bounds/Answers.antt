use Rattle.tb_geom.specs.Pixels.{holds}
use Rattle.pixel_rows.proofs.BoxLemmas.{both_bounds}
use Rattle.pixel_rows.proofs.combined.CombinedPixelRows.bounds.Goals as goal

pub returns : goal.returns
returns c =
    let s = c.args.self.now in
    both_bounds s.how (holds s.first.now) (holds s.second.now) _ _ _ c.region_bounds.ensures.bounds c.region_bounds-2.ensures.bounds c.union.ensures.exact c.union.ensures.none
