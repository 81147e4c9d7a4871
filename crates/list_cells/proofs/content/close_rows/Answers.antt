use Rattle.std.proofs.Common.{arith}
use Rattle.std.proofs.Math.Nat.{suc-mul, zero-mul}
use Rattle.list_cells.specs.Contents.{closed}
use Rattle.list_cells.proofs.RowLemmas.{passes_on, passes_none}
use Rattle.list_cells.proofs.content.close_rows.Goals as goal

pub loop-init : goal.loop-init
loop-init c = record {
  items = passes_none c.args.width (closed c.args.at c.args.count) c.args.contents.now.items;
  len = omega (arith, zero-mul c.args.count);
}

pub loop-preserved : goal.loop-preserved
loop-preserved c = record {
  items = passes_on c.args.width (closed c.args.at c.args.count) c.loop.counter c.args.rows c.args.contents.now.items c.loop.contents.items c.pass_closed.new.contents.items
      c.loop-test.true c.requires.shape c.loop.invariant.items c.pass_closed.ensures.items;
  len = grind (arith, suc-mul);
}
