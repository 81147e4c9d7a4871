use Rattle.std.proofs.Common.{rules}
use Rattle.menu_mgr.proofs.Ending.{begins, ended_all, goes_on, last_is_left, last_is_live, popped}
use Rattle.menu_mgr.proofs.making.put_all_away.Goals as goal

pub loop-listed-init : goal.loop-listed-init
loop-listed-init g c = begins _ _ c.requires.live c.requires.stocked

pub put_away-requires-clause-live : goal.put_away-requires-clause-live
put_away-requires-clause-live g c = last_is_live _ _ _ _ _ (popped _ _ _ _ _ _ _ c.loop-listed.invariant c.in-Some.ensures.items)

pub put_away-requires-clause-left : goal.put_away-requires-clause-left
put_away-requires-clause-left g c = last_is_left _ _ _ _ _ (popped _ _ _ _ _ _ _ c.loop-listed.invariant c.in-Some.ensures.items)

pub loop-listed-preserved : goal.loop-listed-preserved
loop-listed-preserved g c = goes_on _ _ _ _ _ (popped _ _ _ _ _ _ _ c.loop-listed.invariant c.in-Some.ensures.items) _ c.put_away.ensures

pub returns : goal.returns
returns g c = ended_all _ _ _ _ _ (search rules) c.loop-listed.invariant
