use Rattle.window_mgr.proofs.ClosingLemmas as closing
use Rattle.window_mgr.proofs.close.put_all_away.Goals as goal

pub loop-taken-init : goal.loop-taken-init
loop-taken-init g c = closing.begins _ _ c.requires.settled c.requires.stocked

pub put_away-requires-clause-live : goal.put_away-requires-clause-live
put_away-requires-clause-live g c = closing.last_is_live _ _ _ _ _ c.in-Some.ensures.taken _ _ c.loop-taken.invariant

pub put_away-requires-clause-left : goal.put_away-requires-clause-left
put_away-requires-clause-left g c = closing.last_is_left _ _ _ _ _ c.in-Some.ensures.taken _ _ c.loop-taken.invariant

pub loop-taken-preserved : goal.loop-taken-preserved
loop-taken-preserved g c = closing.goes_on _ _ _ _ _ c.in-Some.ensures.taken _ _ c.loop-taken.invariant _ c.put_away.ensures

pub returns : goal.returns
returns g c = closing.ends _ _ _ c.in_default.ensures.none _ _ c.loop-taken.invariant
