use Rattle.std.proofs.Common.{◌≡◌, pos, ◌+ℤ◌, ap, arith, SFits, w32, rules}
use Rattle.std.specs.Int.{int_min, int_max}
use Rattle.std.proofs.lemmas.Int.{ints, to_z-of_z}
use Rattle.shape_strips.proofs.LineNumbers.{are_columns}
use Rattle.shape_strips.proofs.JoinLemmas.{level_joined}
use Rattle.shape_strips.proofs.line.thin_run.Goals as goal

pub returns-clause-joined : goal.returns-clause-joined
returns-clause-joined c =
    let fits_uv : SFits w32 c.args.upper.v = search rules in
    let fits_lv : SFits w32 c.args.lower.v = search rules in
    let fits_l : SFits w32 c.min.result = search rules in
    let fits_m : SFits w32 c.max.result = search rules in
    let least : c.min.result ≡ int_min c.args.upper.h c.args.lower.h = search rules in
    let most : c.max.result ≡ int_max c.args.upper.h c.args.lower.h = search rules in
    let are = are_columns c.args.upper c.args.lower c.requires.upper_in c.requires.lower_in in
    let fits_r : SFits w32 (c.max.result +ℤ pos 1) = rw most are.right_fits in
    let test = c.if-upper-lower.false in
    let top = c.requires.top in
    let order = c.requires.order in
    let bottom = c.requires.bottom in
    let level : c.args.upper.v ≡ c.args.lower.v = omega (arith, ints) in
    simp to_z-of_z (level_joined c.args.upper c.args.lower c.args.first c.args.last c.min.result (c.max.result +ℤ pos 1) level top order bottom least (ap (λ z. z +ℤ pos 1) most))
