use Rattle.std.proofs.Common.{◌+ℤ◌, ◌-ℤ◌, SFits, w32, refl}
use Rattle.std.proofs.lemmas.Int.{to_z-of_z}
use Rattle.window_outline.proofs.WayNumbers.{small, sum_fits, way_fits}
use Rattle.window_outline.proofs.reading.moved_number.Goals as goal

pub returns : goal.returns
returns c =
    let number = c.ranges.number in
    let from = c.ranges.from in
    let to = c.ranges.to in
    let n = small c.args.number c.requires.number in
    let f = small c.args.from c.requires.from in
    let t = small c.args.to c.requires.to in
    let way : SFits w32 (c.args.to -ℤ c.args.from) = way_fits c.args.number c.args.from c.args.to n f t in
    let sum : SFits w32 (c.args.number +ℤ (c.args.to -ℤ c.args.from)) = sum_fits c.args.number c.args.from c.args.to n f t in
    simp to_z-of_z refl
