use Rattle.std.proofs.Common.{◌<◌, sym, subst}
use Rattle.window_items.proofs.SeenLemmas.{length-seen}
use Rattle.def_iface.specs.contracts.taken_control.TakenControlDefined.TheImpl as definition
use Rattle.control_mgr.proofs.Lays.{lie_changed, lie_set, lie_tellable}
use Rattle.control_mgr.proofs.laying.Controls+TakenControl.put_lie.Goals as goal
use Rattle.control_mgr.specs.Seen.{kept_seen}

pub tell-requires-clause-tellable : goal.tell-requires-clause-tellable
tell-requires-clause-tellable g c =
    lie_tellable (definition.loan-value g.dyn-1).it c.args.lie c.args.at _ _ (subst (λ k. c.args.at < k) (sym (length-seen (kept_seen (definition.loan-value g.dyn-1).it) c.args.self.now.list.items.items)) c.requires.at) c.requires.tellable
    (lie_set _ c.args.lie c.args.at c.args.self.now.list _ c.at_mut-control.ensures.value)

pub returns-clause-changed : goal.returns-clause-changed
returns-clause-changed g c =
    lie_changed _ c.args.lie c.args.at c.args.self.now c.tell.new.self _ c.requires.at
    (lie_set _ c.args.lie c.args.at c.args.self.now.list _ c.at_mut-control.ensures.value)
    c.tell.ensures.told
