use Rattle.std.proofs.Common.{sym, ap, ◌∙◌}
use Rattle.std.specs.Prelude.{is_some}
use Rattle.window_items.proofs.SeenLemmas.{item_index-seen}
use Rattle.def_iface.specs.contracts.taken_control.TakenControlDefined.TheImpl as control
use Rattle.control_mgr.proofs.asking.Controls+TakenControl.has.Goals as goal
use Rattle.control_mgr.specs.Seen.{kept_seen}

pub returns : goal.returns
returns g c =
    c.is_some.ensures
    ∙ ap is_some (c.find.ensures.first ∙ sym (item_index-seen (kept_seen (control.loan-value g.dyn-1).it) c.args.control.window c.args.control.control c.args.self.now.list.items.items))
