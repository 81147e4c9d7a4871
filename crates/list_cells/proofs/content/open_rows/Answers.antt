use Rattle.std.proofs.Common.{arith}
use Rattle.std.proofs.Math.Nat.{suc-mul, zero-mul}
use Rattle.list_cells.specs.Contents.{opened}
use Rattle.list_cells.proofs.RowLemmas.{passes_on, passes_none}
use Rattle.list_cells.proofs.content.open_rows.Goals as goal

pub loop-init : goal.loop-init
loop-init c = record {
  items = passes_none c.args.width (opened c.args.at c.args.count) c.args.contents.now.items;
  len = omega (arith, zero-mul c.args.count);
  capacity = omega arith;
}

pub loop-preserved : goal.loop-preserved
loop-preserved c = record {
  items = passes_on c.args.width (opened c.args.at c.args.count) c.loop.counter c.args.rows c.args.contents.now.items c.loop.contents.items c.pass_opened.new.contents.items
      c.loop-test.true c.requires.shape c.loop.invariant.items c.pass_opened.ensures.items;
  len = grind (arith, suc-mul);
  capacity = omega arith;
}
