use Rattle.std.proofs.Common.{◌≡◌, ℕ, zero, suc, ◌<◌, ◌==◌, Bool, true, false, if◌then◌else◌, List, [], ◌∷◌, Option, Some, None, refl, sym, ap, ◌∙◌, arith, map}
use Rattle.std.specs.Prelude.{is_none}
use Rattle.std.proofs.lemmas.Bool.{eq-eqb}
use Rattle.tb_geom.specs.declared.refusal.Refusal.{Refusal}
use Rattle.tb_geom.specs.declared.refusal.Refusal.TheVariants.{NoSuchWindow}
use Rattle.tb_geom.specs.Refusals.{first_refusal}
use Rattle.window_items.specs.declared.item.Item.{Item}
use Rattle.window_items.specs.Items.{item_index}
use Rattle.def_iface.specs.Slots.{TakenBox}
use Rattle.def_iface.specs.WindowMeaning.{WindowLoan}
use Rattle.def_iface.specs.contracts.taken_window.TakenWindowDefined.TheImpl as window
use Rattle.vis_update.specs.Records.{record_of}
use Rattle.window_list.specs.declared.window.Window.{Window}
use Rattle.window_mgr.specs.declared.manager.WindowManager.{WindowManager}
use Rattle.window_mgr.specs.Edits.{StandsAt}
use Rattle.window_mgr.specs.Finding.{record_with}
use Rattle.window_mgr.specs.Records.{desk_of}
use Rattle.window_mgr.specs.Refused.{is_missing}
use Rattle.control_mgr.specs.ItemSpots.{item_refusals}
use Rattle.control_mgr.proofs.spots.spot_of.Goals as goal

module _ {V : Type 0} {H : V → Type 0} (loan : TakenBox V H → WindowLoan) where
  -- a window that stands somewhere is not missing
  stands_there : (ws : List (Window V H)) (s i : ℕ) → StandsAt ws s i → is_missing s (map (record_of loan) ws) ≡ false
  stands_there [] s i at = let low = at.0 in absurd (omega arith)
  stands_there (w ∷ ws) s zero at = ap (λ b. is_none (if b then Some (record_of loan w) else record_with s (map (record_of loan) ws))) (eq-eqb w.serial s (at.1 w refl))
  stands_there (w ∷ ws) s (suc i) at = by_test (w.serial == s) (stands_there ws s i (let low = at.0 in omega arith, λ v e. at.1 v e))
    where
      by_test : (b : Bool) → is_missing s (map (record_of loan) ws) ≡ false → is_none (if b then Some (record_of loan w) else record_with s (map (record_of loan) ws)) ≡ false
      by_test true rest = refl
      by_test false rest = rest

  -- the window has no such item
  no_item : {T : Type 0} (window serial i : ℕ) (missing : Refusal) (t : WindowManager V H) (items : List (Item T)) → StandsAt t.windows.records.items window i → None ≡ item_index window serial items
      → first_refusal (item_refusals window serial missing (desk_of loan t []) items) ≡ Some missing
  no_item window serial i missing t items at found =
      (λ j. if stands_there t.windows.records.items window i at j then Some NoSuchWindow else first_refusal ((is_none (item_index window serial items), missing) ∷ []))
      ∙ ap (λ (o : Option ℕ). first_refusal ((is_none o, missing) ∷ [])) (sym found)

pub returns-in-Some-find : goal.returns-in-Some-find
returns-in-Some-find g c = record {
  window = c.in-Some.ensures;
  there = stands_there (window.loan-value g.dyn-1).it c.args.windows.now.windows.records.items c.args.window _ c.in-Some.ensures;
  item = sym c.in-Some-find.ensures.first;
  low = c.in-Some-find.ensures.within;
}

pub returns-in-None : goal.returns-in-None
returns-in-None g c =
    no_item (window.loan-value g.dyn-1).it c.args.window c.args.serial c.in-Some.at c.args.missing c.args.windows.now c.args.items.now.items.items
    c.in-Some.ensures c.in-None.ensures.first
