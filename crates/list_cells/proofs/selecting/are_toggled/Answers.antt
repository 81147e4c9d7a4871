use Rattle.std.proofs.Common.{arith}
use Rattle.list_cells.proofs.SelectionLemmas.{none_more}
use Rattle.list_cells.proofs.selecting.are_toggled.Goals as goal

pub loop-place-init : goal.loop-place-init
loop-place-init c k low = absurd (omega (arith, low))

pub loop-place-preserved : goal.loop-place-preserved
loop-place-preserved c =
    none_more c.args.columns c.args.selecting c.args.contents.now c.loop-place.place c.index-contents-place.result c.is_selected-was.result c.selects.result
    c.loop-place-test.true c.index-contents-place.is c.is_selected-was.ensures c.selects.ensures c.if-selects-was.false c.loop-place.invariant

pub returns : goal.returns
returns c place low = c.loop-place.invariant place (omega (arith, low, c.loop-place-test.false))
