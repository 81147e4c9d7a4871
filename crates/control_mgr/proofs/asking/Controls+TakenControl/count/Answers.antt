use Rattle.std.proofs.Common.{sym, ◌∙◌}
use Rattle.window_items.proofs.SeenLemmas.{count_of-seen}
use Rattle.def_iface.specs.contracts.taken_control.TakenControlDefined.TheImpl as control
use Rattle.control_mgr.proofs.asking.Controls+TakenControl.count.Goals as goal
use Rattle.control_mgr.specs.Seen.{kept_seen}

pub returns : goal.returns
returns g c = c.count.ensures ∙ sym (count_of-seen (kept_seen (control.loan-value g.dyn-1).it) c.args.window c.args.self.now.list.items.items)
