use Rattle.std.proofs.Common.{rules}
use Rattle.def_iface.specs.contracts.taken_list.TakenListDefined.TheImpl as list
use Rattle.control_mgr.proofs.Ended.{all_ended, end_begins, end_goes_on, last_is_left, last_is_live, popped}
use Rattle.list_mgr.specs.Seen.{kept_seen}
use Rattle.list_mgr.proofs.ending.Lists+TakenList.close.Goals as goal

pub loop-list-init : goal.loop-list-init
loop-list-init g c = end_begins _ _ _ _ _ c.requires.live c.requires.stocked

pub put_away-requires-clause-live : goal.put_away-requires-clause-live
put_away-requires-clause-live g c = last_is_live _ _ _ _ _ _ _ _ (popped _ _ _ (kept_seen (list.loan-value g.dyn-1).it) _ _ _ _ _ _ c.loop-list.invariant c.in-Some.ensures.items)

pub put_away-requires-clause-left : goal.put_away-requires-clause-left
put_away-requires-clause-left g c = last_is_left _ _ _ _ _ _ _ _ (popped _ _ _ (kept_seen (list.loan-value g.dyn-1).it) _ _ _ _ _ _ c.loop-list.invariant c.in-Some.ensures.items)

pub loop-list-preserved : goal.loop-list-preserved
loop-list-preserved g c = end_goes_on _ _ _ _ _ _ _ _ (popped _ _ _ (kept_seen (list.loan-value g.dyn-1).it) _ _ _ _ _ _ c.loop-list.invariant c.in-Some.ensures.items) _ c.put_away.ensures

pub returns : goal.returns
returns g c = all_ended _ _ _ (kept_seen (list.loan-value g.dyn-1).it) _ _ _ _ (search rules) c.loop-list.invariant
