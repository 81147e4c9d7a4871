use Rattle.std.proofs.Common.{rules}
use Rattle.def_iface.specs.contracts.taken_control.TakenControlDefined.TheImpl as control
use Rattle.control_mgr.proofs.Ended.{all_ended, end_begins, end_goes_on, last_is_left, last_is_live, popped}
use Rattle.control_mgr.specs.Seen.{kept_seen}
use Rattle.control_mgr.proofs.closing.Controls+TakenControl.close.Goals as goal

pub loop-control-init : goal.loop-control-init
loop-control-init g c = end_begins _ _ _ _ _ c.requires.live c.requires.stocked

pub put_away-requires-clause-live : goal.put_away-requires-clause-live
put_away-requires-clause-live g c = last_is_live _ _ _ _ _ _ _ _ (popped _ _ _ (kept_seen (control.loan-value g.dyn-1).it) _ _ _ _ _ _ c.loop-control.invariant c.in-Some.ensures.items)

pub put_away-requires-clause-left : goal.put_away-requires-clause-left
put_away-requires-clause-left g c = last_is_left _ _ _ _ _ _ _ _ (popped _ _ _ (kept_seen (control.loan-value g.dyn-1).it) _ _ _ _ _ _ c.loop-control.invariant c.in-Some.ensures.items)

pub loop-control-preserved : goal.loop-control-preserved
loop-control-preserved g c = end_goes_on _ _ _ _ _ _ _ _ (popped _ _ _ (kept_seen (control.loan-value g.dyn-1).it) _ _ _ _ _ _ c.loop-control.invariant c.in-Some.ensures.items) _ c.put_away.ensures

pub returns : goal.returns
returns g c = all_ended _ _ _ (kept_seen (control.loan-value g.dyn-1).it) _ _ _ _ (search rules) c.loop-control.invariant
