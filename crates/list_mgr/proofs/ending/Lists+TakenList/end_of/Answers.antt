use Rattle.std.proofs.Common.{refl}
use Rattle.def_iface.specs.contracts.taken_list.TakenListDefined.TheImpl as list
use Rattle.window_items.proofs.YoungestLemmas.{fewer, none_seen, rest_seen, youngest_seen}
use Rattle.control_mgr.proofs.Ended.{all_left, leaving_begins, leaving_goes_on, youngest_is_left, youngest_is_live}
use Rattle.list_mgr.specs.Seen.{kept_seen}
use Rattle.list_mgr.proofs.ending.Lists+TakenList.end_of.Goals as goal

pub loop-list-init : goal.loop-list-init
loop-list-init g c = leaving_begins _ _ _ c.args.window _ c.requires.live c.requires.stocked

pub put_away-requires-clause-live : goal.put_away-requires-clause-live
put_away-requires-clause-live g c = youngest_is_live _ _ _ c.args.window _ _ _ c.loop-list.invariant (youngest_seen (kept_seen (list.loan-value g.dyn-1).it) c.args.window c.loop-list.self.list.items.items c.in-Some.list c.in-Some.ensures.value)

pub put_away-requires-clause-left : goal.put_away-requires-clause-left
put_away-requires-clause-left g c = youngest_is_left _ _ _ c.args.window _ _ _ c.loop-list.invariant (youngest_seen (kept_seen (list.loan-value g.dyn-1).it) c.args.window c.loop-list.self.list.items.items c.in-Some.list c.in-Some.ensures.value)

pub loop-list-smaller : goal.loop-list-smaller
loop-list-smaller g c = fewer c.args.window c.loop-list.self.list.items.items c.in-Some.list c.take_of.new.self.items.items c.in-Some.ensures.value c.in-Some.ensures.items

pub loop-list-preserved : goal.loop-list-preserved
loop-list-preserved g c =
    leaving_goes_on _ _ _ c.args.window _ _ _ c.loop-list.invariant (youngest_seen (kept_seen (list.loan-value g.dyn-1).it) c.args.window c.loop-list.self.list.items.items c.in-Some.list c.in-Some.ensures.value)
    _ (rest_seen (kept_seen (list.loan-value g.dyn-1).it) c.args.window c.loop-list.self.list.items.items c.take_of.new.self.items.items c.in-Some.ensures.items) c.in-Some.ensures.next c.put_away.ensures

pub returns : goal.returns
returns g c =
    let meaning = kept_seen (list.loan-value g.dyn-1).it in
    let items = c.loop-list.self.list.items.items in
    all_left _ _ _ c.args.window _ _ _ c.loop-list.invariant (none_seen meaning c.args.window items c.in_default.ensures.value)
    (rest_seen meaning c.args.window items c.take_of.new.self.items.items c.in_default.ensures.items) c.in_default.ensures.next refl
