use Rattle.std.proofs.Common.{Option, ℕ, [], ◌∷◌, sym, ap, ◌∙◌}
use Rattle.std.specs.Prelude.{is_none}
use Rattle.tb_geom.specs.declared.refusal.Refusal.TheVariants.{NoSuchControl, NoSuchWindow}
use Rattle.tb_geom.specs.Refusals.{first_refusal}
use Rattle.window_items.proofs.SeenLemmas.{item_index-seen}
use Rattle.def_iface.specs.contracts.taken_window.TakenWindowDefined.TheImpl as window
use Rattle.def_iface.specs.contracts.taken_control.TakenControlDefined.TheImpl as control
use Rattle.window_mgr.specs.Records.{desk_of}
use Rattle.window_mgr.specs.Refused.{is_missing}
use Rattle.control_mgr.specs.Seen.{kept_seen}
use Rattle.control_mgr.proofs.spots.Controls+TakenControl.spot.Goals as goal

pub returns-in-Ok : goal.returns-in-Ok
returns-in-Ok g c =
    let its = c.in-Ok.ensures in
    record {
      window = its.window;
      there = its.there;
      control = item_index-seen (kept_seen (control.loan-value g.dyn-1).it) c.args.control.window c.args.control.control c.args.self.now.list.items.items ∙ its.item;
      low = its.low;
    }

pub returns-in-Err : goal.returns-in-Err
returns-in-Err g c =
    ap (λ (o : Option ℕ). first_refusal ((is_missing c.args.control.window (desk_of (window.loan-value g.dyn-2).it c.args.windows.now []).windows, NoSuchWindow) ∷ (is_none o, NoSuchControl) ∷ []))
    (item_index-seen (kept_seen (control.loan-value g.dyn-1).it) c.args.control.window c.args.control.control c.args.self.now.list.items.items)
    ∙ c.in-Err.ensures
