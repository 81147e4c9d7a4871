use Rattle.std.proofs.Common.{sym, ◌∙◌, arith}
use Rattle.list_cells.proofs.BlockLemmas.{smallest_takes, smallest_passes}
use Rattle.list_cells.proofs.block.smallest_block.Goals as goal
use Rattle.list_cells.proofs.block.smallest_block.Goals.{then-is_selected, else-is_selected}

pub loop-other-preserved : goal.loop-other-preserved
loop-other-preserved c =
    elim c.if-is_selected.branch [
      | then-is_selected w ↦ smallest_takes c.args.columns c.args.contents.now c.args.place c.loop-other.other c.index-contents-other.result c.loop-other.block c.if-is_selected.block
          (omega arith) c.index-contents-other.is (sym c.is_selected.ensures ∙ w.if-is_selected.true) c.loop-other.invariant (w.block-is ∙ w.with_place-block.ensures)
      | else-is_selected w ↦ w.block-is ∙ smallest_passes c.args.columns c.args.contents.now c.args.place c.loop-other.other c.index-contents-other.result c.loop-other.block
          (omega arith) c.index-contents-other.is (sym c.is_selected.ensures ∙ w.if-is_selected.false) c.loop-other.invariant
    ]
