use Rattle.std.proofs.Common.{◌+ℤ◌, refl, rules, SFits, w32}
use Rattle.std.proofs.lemmas.Bool.{and_parts}
use Rattle.std.proofs.lemmas.Int.{to_z-of_z}
use Rattle.tb_geom.specs.Rects.{is_coordinate}
use Rattle.list_view.proofs.WalkLemmas.{sum_fits}
use Rattle.list_view.proofs.walk.corner_place.Goals as goal

pub returns : goal.returns
returns c =
    let origin_h : SFits w32 c.args.origin.h = search rules in
    let origin_v : SFits w32 c.args.origin.v = search rules in
    let corner_h : SFits w32 c.args.corner.h = search rules in
    let corner_v : SFits w32 c.args.corner.v = search rules in
    let both = and_parts (is_coordinate c.args.origin.h) (is_coordinate c.args.origin.v) c.requires.origin in
    let h : SFits w32 (c.args.origin.h +ℤ c.args.corner.h) = sum_fits c.args.origin.h c.args.corner.h both.0 c.requires.across in
    let v : SFits w32 (c.args.origin.v +ℤ c.args.corner.v) = sum_fits c.args.origin.v c.args.corner.v both.1 c.requires.down in
    simp to_z-of_z refl
