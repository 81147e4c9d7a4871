use Rattle.std.proofs.Common.{◌≡◌, arith, SFits, w32, rules}
use Rattle.std.specs.Int.{int_min, int_max}
use Rattle.std.proofs.lemmas.Int.{ints, clamps, to_z-of_z}
use Rattle.std.proofs.lemmas.Bool.{and_parts}
use Rattle.tb_geom.specs.Rects.{is_coordinate}
use Rattle.shape_strips.proofs.RangeLemmas.{coordinate_low, coordinate_high, in_range_from}
use Rattle.shape_strips.proofs.BandLemmas.{band_outside}
use Rattle.shape_strips.proofs.band.BandStripStrip.bounds.Goals as goal

pub returns-clause-in_range : goal.returns-clause-in_range
returns-clause-in_range c =
    let from = and_parts (is_coordinate c.args.self.now.from.h) (is_coordinate c.args.self.now.from.v) c.args.self.now.from_in in
    let to = and_parts (is_coordinate c.args.self.now.to.h) (is_coordinate c.args.self.now.to.v) c.args.self.now.to_in in
    let fhl = coordinate_low c.args.self.now.from.h from.0 in
    let fhh = coordinate_high c.args.self.now.from.h from.0 in
    let fvl = coordinate_low c.args.self.now.from.v from.1 in
    let fvh = coordinate_high c.args.self.now.from.v from.1 in
    let thl = coordinate_low c.args.self.now.to.h to.0 in
    let thh = coordinate_high c.args.self.now.to.h to.0 in
    let tvl = coordinate_low c.args.self.now.to.v to.1 in
    let tvh = coordinate_high c.args.self.now.to.v to.1 in
    let rl = coordinate_low c.args.self.now.right c.args.self.now.right_in in
    let rh = coordinate_high c.args.self.now.right c.args.self.now.right_in in
    let fits_r : SFits w32 c.args.self.now.right = search rules in
    let fits_1 : SFits w32 c.min.result = search rules in
    let fits_2 : SFits w32 c.min-2.result = search rules in
    let fits_3 : SFits w32 c.max.result = search rules in
    let l : c.min.result ≡ int_min c.args.self.now.from.h c.args.self.now.to.h = search rules in
    let t : c.min-2.result ≡ int_min c.args.self.now.from.v c.args.self.now.to.v = search rules in
    let m : c.max.result ≡ int_max c.args.self.now.from.v c.args.self.now.to.v = search rules in
    simp to_z-of_z (in_range_from (record { left = c.min.result; top = c.min-2.result; right = c.args.self.now.right; bottom = c.max.result }) (record {
      left_low = omega (arith, ints, clamps);
      left_high = omega (arith, ints, clamps);
      top_low = omega (arith, ints, clamps);
      top_high = omega (arith, ints, clamps);
      right_low = rl;
      right_high = rh;
      bottom_low = omega (arith, ints, clamps);
      bottom_high = omega (arith, ints, clamps);
    }))

pub returns-clause-around : goal.returns-clause-around
returns-clause-around c =
    let fits_r : SFits w32 c.args.self.now.right = search rules in
    let fits_1 : SFits w32 c.min.result = search rules in
    let fits_2 : SFits w32 c.min-2.result = search rules in
    let fits_3 : SFits w32 c.max.result = search rules in
    let l : c.min.result ≡ int_min c.args.self.now.from.h c.args.self.now.to.h = search rules in
    let t : c.min-2.result ≡ int_min c.args.self.now.from.v c.args.self.now.to.v = search rules in
    let m : c.max.result ≡ int_max c.args.self.now.from.v c.args.self.now.to.v = search rules in
    λ p. simp to_z-of_z (band_outside c.args.self.now.from c.args.self.now.to p c.min.result c.min-2.result c.args.self.now.right c.max.result l t m)
