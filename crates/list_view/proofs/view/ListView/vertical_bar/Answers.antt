use Rattle.std.proofs.Common.{◌+ℤ◌, pos, rules, arith, SFits, w32}
use Rattle.std.proofs.lemmas.Int.{ints, to_z-of_z}
use Rattle.list_view.proofs.ViewLemmas.{vertical_bar_is}
use Rattle.list_view.proofs.view.ListView.vertical_bar.Goals as goal

pub returns : goal.returns
returns c =
    let left : SFits w32 c.end-left.result = search rules in
    let top : SFits w32 c.down-down.result.start = search rules in
    let right : SFits w32 (c.end-left.result +ℤ pos 16) = search (arith, ints) in
    let bottom : SFits w32 c.end.result = search rules in
    simp to_z-of_z (vertical_bar_is c.args.self c.across.result c.down-down.result c.end-left.result c.end.result c.across.ensures.value c.down-down.ensures.value c.end-left.ensures c.end.ensures)
