use Rattle.std.proofs.Common.{◌-ℤ◌, SFits, w32, rules}
use Rattle.std.proofs.lemmas.Int.{to_z-of_z}
use Rattle.list_mgr.proofs.Judged.{size_fits}
use Rattle.list_mgr.specs.ListRefusals.{size_of}
use Rattle.list_mgr.proofs.judging.size_of.Goals as goal

pub returns : goal.returns
returns c =
    let both = size_fits (size_of c.args.bar) c.requires in
    let width : SFits w32 (c.args.bar.right -ℤ c.args.bar.left) = both.0 in
    let height : SFits w32 (c.args.bar.bottom -ℤ c.args.bar.top) = both.1 in
    let left : SFits w32 c.args.bar.left = search rules in
    let top : SFits w32 c.args.bar.top = search rules in
    let right : SFits w32 c.args.bar.right = search rules in
    let bottom : SFits w32 c.args.bar.bottom = search rules in
    simp to_z-of_z
