use Rattle.std.proofs.Common.{rules, SFits, w32}
use Rattle.std.proofs.lemmas.Int.{to_z-of_z}
use Rattle.tb_geom.specs.Pixels.{holds}
use Rattle.region_inset.specs.Insets.{inset}
use Rattle.region_inset.proofs.RangeLemmas.{around_all}
use Rattle.region_inset.proofs.inset.InsetPixelRows.bounds.Goals as goal

pub returns : goal.returns
returns c =
    let s = c.args.self.now in
    let fits_dh : SFits w32 c.args.self.now.dh = search rules in
    let fits_dv : SFits w32 c.args.self.now.dv = search rules in
    let around = simp to_z-of_z at c.inset_bounds.ensures.around in
    around_all (inset (holds s.region.now) s.dh s.dv) c.inset_bounds.result s.in_range c.inset_bounds.ensures.in_range around
