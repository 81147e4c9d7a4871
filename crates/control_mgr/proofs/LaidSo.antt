-- A window that has planned layers: as it is, and once other layers were put.
use Rattle.std.proofs.Common.{◌≡◌, ℕ, ◌<◌, length, get_or, set, sym, ap, ◌∙◌, subst}
use Rattle.std.proofs.lemmas.List.{get_or-set_same, length-set}
use Rattle.tb_geom.specs.Pixels.{Pixels, holds}
use Rattle.def_iface.specs.Slots.{TakenBox}
use Rattle.def_iface.specs.WindowMeaning.{WindowLoan}
use Rattle.window_list.specs.Holders.{PlacedLayers}
use Rattle.vis_update.specs.declared.area.Area.{Area}
use Rattle.window_list.specs.declared.window.Window.{Window}
use Rattle.window_list.specs.Lists.{with_layers}
use Rattle.window_list.proofs.ListLemmas.{set_is_edit}
use Rattle.window_mgr.specs.declared.manager.WindowManager.{WindowManager}
use Rattle.window_mgr.specs.Edits.{IsWindowAt, StandsAt}
use Rattle.window_mgr.specs.Kept.{IsKept}
use Rattle.window_mgr.specs.Relayered.{AreLayersPut, HasUpdate}
use Rattle.window_mgr.proofs.Remarked as remarked
use Rattle.control_mgr.specs.Planned.{IsLaidSo}
use Rattle.control_mgr.proofs.LayerIn.{one_read}
use Rattle.control_mgr.proofs.Places.{read_is, there_is}

-- ---- the window as it is

module _ {V : Type 0} {H : V → Type 0} (loan : TakenBox V H → WindowLoan) (t : WindowManager V H) (kept : IsKept loan t) (at : ℕ) (low : at < length t.windows.records.items) (a : Area) (read : a ≡ get_or t.areas.items at a) where
  -- of the window as it is this is to be redrawn
  pub has_now : HasUpdate loan at a.update t t
  has_now =
      let area_low = remarked.area_there loan t kept at low in
      record {
        kept = kept;
        low = low;
        shown = λ x y x_is y_is p. ap (λ (z : Area). holds z.visible p) (one_read t.areas.items at x y area_low x_is y_is);
        stale = λ x x_is p. ap (λ (z : Area). holds z.update p) (one_read t.areas.items at a x area_low read x_is);
      }

  pub laid_now : (w : Window V H) → IsWindowAt t.windows.records.items at w → IsLaidSo loan at w.layers a.update t t
  laid_now w lies = record { has = has_now; layers = λ v v_is. ap (λ (x : Window V H). x.layers) (one_read t.windows.records.items at v w low v_is lies) }

-- ---- once layers were put

module _ {V : Type 0} {H : V → Type 0} (at : ℕ) (layers : PlacedLayers) (update : Pixels) (u v : WindowManager V H) (put : AreLayersPut at layers update u v) (low : at < length u.windows.records.items) where
  edited : (w : Window V H) → IsWindowAt u.windows.records.items at w → v.windows.records.items ≡ set u.windows.records.items at (with_layers layers w)
  edited w lies =
      ap (λ (x : WindowManager V H). x.windows.records.items) put.state
      ∙ sym (set_is_edit (with_layers layers) u.windows.records.items at w lies)

  -- the window stands where it stood, with these layers
  pub window_put : (w x : Window V H) → IsWindowAt u.windows.records.items at w → IsWindowAt v.windows.records.items at x → x ≡ with_layers layers w
  window_put w x lies is =
      is ∙ ap (λ ws. get_or ws at x) (edited w lies) ∙ get_or-set_same u.windows.records.items at (with_layers layers w) x low

  pub low_put : at < length v.windows.records.items
  low_put =
      let w = there_is u.windows.records.items at low in
      subst (λ n. at < n) (sym (ap length (edited w.item (read_is u.windows.records.items at w.item w.there)) ∙ length-set u.windows.records.items at (with_layers layers w.item))) low

  pub stands_put : (s : ℕ) → StandsAt u.windows.records.items s at → StandsAt v.windows.records.items s at
  stands_put s stands = (
    low_put,
    λ x is.
        let w = there_is u.windows.records.items at low in
        let lies = read_is u.windows.records.items at w.item w.there in
        ap (λ (y : Window V H). y.serial) (window_put w.item x lies is) ∙ stands.1 w.item lies,
  )

  -- and lies where it lay
  pub place_put : (w x : Window V H) → IsWindowAt u.windows.records.items at w → IsWindowAt v.windows.records.items at x → x.place ≡ w.place
  place_put w x lies is = ap (λ (y : Window V H). y.place) (window_put w x lies is)

  pub layers_put : (x : Window V H) → IsWindowAt v.windows.records.items at x → x.layers ≡ layers
  layers_put x is =
      let w = there_is u.windows.records.items at low in
      ap (λ (y : Window V H). y.layers) (window_put w.item x (read_is u.windows.records.items at w.item w.there) is)

-- a window that had planned layers has those that were put
pub laid_put : {V : Type 0} {H : V → Type 0} (loan : TakenBox V H → WindowLoan) (at : ℕ) (was layers : PlacedLayers) (before update : Pixels) (t u v : WindowManager V H)
    → IsLaidSo loan at was before t u → AreLayersPut at layers update u v → IsKept loan v → IsLaidSo loan at layers update t v
laid_put {V} {H} loan at was layers before update t u v laid put kept = record {
  has = record {
    kept = kept;
    low = low_put at layers update u v put low;
    shown = λ a b a_is b_is p. laid.has.shown a put.area a_is put.there p ∙ ap (λ (x : Area). holds x.visible p) (sym (area_is b b_is));
    stale = λ b b_is p. ap (λ (x : Area). holds x.update p) (sym (area_is b b_is));
  };
  layers = layers_put at layers update u v put low;
}
  where
    low : at < length u.windows.records.items
    low = laid.has.low

    -- its area, but for what is to be redrawn, is the one that it had
    area_is : (b : Area) → b ≡ get_or v.areas.items at b → b ≡ record put.area { update = update }
    area_is b is =
        is
        ∙ ap (λ (x : WindowManager V H). get_or x.areas.items at b) put.state
        ∙ get_or-set_same u.areas.items at (record put.area { update = update }) b (remarked.area_there loan u laid.has.kept at low)
