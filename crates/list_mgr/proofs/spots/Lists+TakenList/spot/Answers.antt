use Rattle.std.proofs.Common.{Option, ℕ, [], ◌∷◌, sym, ap, ◌∙◌}
use Rattle.std.specs.Prelude.{is_none}
use Rattle.tb_geom.specs.declared.refusal.Refusal.TheVariants.{NoSuchList, NoSuchWindow}
use Rattle.tb_geom.specs.Refusals.{first_refusal}
use Rattle.window_items.proofs.SeenLemmas.{item_index-seen}
use Rattle.def_iface.specs.contracts.taken_window.TakenWindowDefined.TheImpl as window
use Rattle.def_iface.specs.contracts.taken_list.TakenListDefined.TheImpl as list
use Rattle.window_mgr.specs.Records.{desk_of}
use Rattle.window_mgr.specs.Refused.{is_missing}
use Rattle.list_mgr.specs.Seen.{kept_seen}
use Rattle.list_mgr.proofs.spots.Lists+TakenList.spot.Goals as goal

pub returns-in-Ok : goal.returns-in-Ok
returns-in-Ok g c =
    let its = c.in-Ok.ensures in
    record {
      window = its.window;
      there = its.there;
      list = item_index-seen (kept_seen (list.loan-value g.dyn-1).it) c.args.list.window c.args.list.list c.args.self.now.list.items.items ∙ its.item;
      low = its.low;
    }

pub returns-in-Err : goal.returns-in-Err
returns-in-Err g c =
    ap (λ (o : Option ℕ). first_refusal ((is_missing c.args.list.window (desk_of (window.loan-value g.dyn-2).it c.args.windows.now []).windows, NoSuchWindow) ∷ (is_none o, NoSuchList) ∷ []))
    (item_index-seen (kept_seen (list.loan-value g.dyn-1).it) c.args.list.window c.args.list.list c.args.self.now.list.items.items)
    ∙ c.in-Err.ensures
