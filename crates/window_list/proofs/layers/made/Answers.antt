use Rattle.std.proofs.Common.{rules}
use Rattle.window_list.proofs.Owned.{owned_more, covered_more}
use Rattle.window_list.proofs.layers.made.Goals as goal

pub loop-at-preserved : goal.loop-at-preserved
loop-at-preserved c = record {
  owned = owned_more c.args.place c.args.layers.items c.loop-at.owned.items _ c.loop-at.at c.index.result.now c.loop-at.covered c.in_ok-own.own (search rules) c.index.ensures (search rules) c.loop-at.invariant.owned c.loop-at.invariant.covered c.in_ok-own.ensures;
  covered = covered_more c.args.place c.args.layers.items c.loop-at.at c.index.result.now c.loop-at.covered c.in_ok-covered.covered c.in_ok-own.own c.index.ensures (search rules) c.loop-at.invariant.covered c.in_ok-own.ensures c.in_ok-covered.ensures;
  many = search rules;
  room = search rules;
}
