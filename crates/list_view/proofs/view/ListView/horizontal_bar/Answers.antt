use Rattle.std.proofs.Common.{◌+ℤ◌, pos, rules, arith, SFits, w32}
use Rattle.std.proofs.lemmas.Int.{ints, to_z-of_z}
use Rattle.list_view.proofs.ViewLemmas.{horizontal_bar_is}
use Rattle.list_view.proofs.view.ListView.horizontal_bar.Goals as goal

pub returns : goal.returns
returns c =
    let left : SFits w32 c.across-across.result.start = search rules in
    let top : SFits w32 c.end-top.result = search rules in
    let right : SFits w32 c.end.result = search rules in
    let bottom : SFits w32 (c.end-top.result +ℤ pos 16) = search (arith, ints) in
    simp to_z-of_z (horizontal_bar_is c.args.self c.across-across.result c.down.result c.end-top.result c.end.result c.across-across.ensures.value c.down.ensures.value c.end-top.ensures c.end.ensures)
