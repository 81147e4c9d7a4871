use Rattle.std.proofs.Common.{rules, ◌≡◌, sym, arith}
use Rattle.scratch_paint.proofs.DifferenceLemmas.{rows_start, counted_row, rows_whole}
use Rattle.scratch_paint.proofs.difference.differences_from.Goals as goal

pub loop-row-init : goal.loop-row-init
loop-row-init g c = record { counted = sym (rows_start _ _ c.args.painted.now.width); few = omega arith }

pub loop-row-preserved : goal.loop-row-preserved
loop-row-preserved g c = record {
  counted = counted_row _ _ c.args.painted.now.width c.loop-row.row c.loop-row.count c.differences_in_row-count.result
      c.loop-row.invariant.counted c.differences_in_row-count.ensures.count;
  few = omega (arith, c.loop-row.invariant.few, c.differences_in_row-count.ensures.few);
}

pub returns : goal.returns
returns g c =
    let all : c.loop-row.row ≡ c.args.painted.now.height = search rules in
    rows_whole _ _ c.args.painted.now.width c.loop-row.row c.args.painted.now.height c.loop-row.count all c.loop-row.invariant.counted
