-- Windows keep their layers where a call puts one of them anew, takes one out, or puts a new one among them.
use Rattle.std.proofs.Common.{◌≡◌, ℕ, ◌<◌, ◌==◌, Bool, true, false, if◌then◌else◌, List, ◌⊎◌, inl, inr, [], length, map, Option, None, Some, refl, sym, ap, ◌∙◌, subst}
use Rattle.std.specs.Prelude.{Contains}
use Rattle.std.specs.List.{remove}
use Rattle.std.proofs.lemmas.Bool.{eqb-true}
use Rattle.tb_geom.specs.declared.point.Point.{Point}
use Rattle.def_iface.specs.Slots.{TakenBox}
use Rattle.def_iface.specs.WindowMeaning.{WindowDefinition, WindowLoan}
use Rattle.desk_layers.specs.Desk as layers
use Rattle.desk_layers.proofs.Owning.{same_number}
use Rattle.desk_call.specs.declared.window.NewWindow.{NewWindow}
use Rattle.window_list.specs.declared.window.Window.{Window}
use Rattle.vis_update.specs.declared.plan.Touch.{Touch}
use Rattle.vis_update.specs.Records.{WindowRecord, record_of}
use Rattle.vis_update.specs.Seats.{Stand, stand_of}
use Rattle.vis_update.specs.Touches.{KeepsLayers}
use Rattle.vis_update.proofs.KeptLayers.{IsKept, keeps_layers, kept_in_place, kept_on_its_way}
use Rattle.window_mgr.specs.declared.arrange.Edit.{Edit}
use Rattle.window_mgr.specs.declared.manager.WindowManager.{WindowManager}
use Rattle.window_mgr.specs.Edits.{put_record, IsWindowAt, IsOnItsWay, IsDeskOfEdit}
use Rattle.window_mgr.specs.Effects.{begins_active, new_record, desk_with_new}
use Rattle.window_mgr.specs.FullDesk.{FullDesk, layered_desk, look_of}
use Rattle.window_mgr.specs.Records.{desk_of, look_on}
use Rattle.window_mgr.specs.Without.{records_without, IsDeskWithout}
use Rattle.window_mgr.proofs.ClassPlaces.{new_windows, place_on}
use Rattle.window_mgr.proofs.DimLemmas.{windows_behind}
use Rattle.window_mgr.proofs.KeptWindows.{Was, all_were, kept_as_it_was, kept_anew, among_all, none_free, none_moves, one_or_rest, same_behind}
use Rattle.window_mgr.proofs.PutIn.{put_in, put_is_insert, taken_out, map-put, IsFree}

module _ {V : Type 0} {H : V → Type 0} (loan : TakenBox V H → WindowLoan) (t : WindowManager V H) (distinct : layers.IsDesk (layered_desk (desk_of loan t []))) where
  abbrev before : FullDesk
  before = desk_of loan t []

  module _ (at : ℕ) (w : Window V H) (w_is : IsWindowAt t.windows.records.items at w) (low : at < length t.windows.records.items) where
    windows_were : before.windows ≡ put_in at (record_of loan w) (records_without loan at t)
    windows_were = ap (map (record_of loan)) (taken_out t.windows.records.items at w low w_is) ∙ map-put (record_of loan) at w (remove t.windows.records.items at)

    -- a call that takes this window out, and moves none
    pub rest_keeps : (touch : Touch) → touch.by ≡ None → (after : FullDesk) → IsDeskWithout loan at t after → KeepsLayers touch (layered_desk before) (layered_desk after)
    rest_keeps touch still after D = keeps_layers touch (look_on t) (look_of after) before.windows after.windows (layered_desk before) (layered_desk after) refl refl
        (λ u v there now.
        let was = all_were after.windows (records_without loan at t) D.stands D.layers v now in
        kept_as_it_was (look_on t) touch before.windows distinct u v there
        (record {
          window = was.window;
          among = among_all (look_on t) touch before.windows (records_without loan at t) at at (record_of loan w) (record_of loan w) windows_were distinct was.window was.among;
          stands = was.stands;
          layers = was.layers;
        })
        (none_moves touch still v.serial))

  module _ (e : Edit) (w : Window V H) (w_is : IsWindowAt t.windows.records.items e.at w) (low : e.at < length t.windows.records.items) where
    -- a window on its way keeps its layers
    on_its_way : (by : Option Point) (whole : Bool) → IsOnItsWay e.at e.place by t.windows.records.items → IsKept (record { window = w.serial; by = by; whole = whole }) (record_of loan w) (put_record e (record_of loan w))
    on_its_way None whole way =
        kept_in_place (record { window = w.serial; by = None; whole = whole }) (record_of loan w) (put_record e (record_of loan w)) refl (way w w_is)
        (none_moves (record { window = w.serial; by = None; whole = whole }) refl w.serial)
    on_its_way (Some by) whole way =
        kept_on_its_way (record { window = w.serial; by = Some by; whole = whole }) (record_of loan w) (put_record e (record_of loan w)) refl
        (ap (λ b. if b then Some by else None) (same_number w.serial) ∙ ap Some (way w w_is))

    -- a call that puts this window anew
    pub edit_keeps : (n : ℕ) → n ≡ w.serial → (by : Option Point) (whole : Bool) → IsOnItsWay e.at e.place by t.windows.records.items → (after : FullDesk) → IsDeskOfEdit loan e t w after
        → KeepsLayers (record { window = n; by = by; whole = whole }) (layered_desk before) (layered_desk after)
    edit_keeps n about by whole way after D =
        let touch : Touch = record { window = w.serial; by = by; whole = whole } in
        let anew = put_record e (record_of loan w) in
        let rest = records_without loan e.at t in
        subst (λ s. KeepsLayers (record { window = s; by = by; whole = whole }) (layered_desk before) (layered_desk after)) (sym about)
        (keeps_layers touch (look_on t) (look_of after) before.windows after.windows (layered_desk before) (layered_desk after) refl refl
        (λ u v there now.
        kept_anew (look_on t) touch before.windows rest e.at e.to (record_of loan w) anew (windows_were e.at w w_is low) distinct refl refl (on_its_way by whole way) u v there
        (all_were after.windows (put_in e.to anew rest) (D.stands ∙ ap (map stand_of) (sym (put_is_insert e.to anew rest))) (D.layers ∙ ap (map (λ (x : WindowRecord). x.layers)) (sym (put_is_insert e.to anew rest))) v now)))

  -- a call that puts a new window among the others, whose serial owned nothing
  pub new_keeps : (floating : Bool) (w : NewWindow) (n slot : ℕ) (begun : WindowDefinition) (touch : Touch) → touch.window ≡ n → IsFree (look_on t) n before.windows
      → KeepsLayers touch (layered_desk before) (layered_desk (desk_with_new floating w n slot begun before))
  new_keeps floating w n slot begun touch about free = keeps_layers touch (look_on t) (look_on t) before.windows after.windows (layered_desk before) (layered_desk after) refl refl
      (λ u v there now. elim (one_or_others v now) [
        | inl this ↦ λ same. absurd (none u there (same ∙ ap (λ (x : WindowRecord). x.serial) (sym this)))
        | inr other ↦
            let was = all_were others before.windows (same_behind stand_of (λ x. refl) before.active (begins_active floating w) before.windows) (same_behind (λ x. x.layers) (λ x. refl) before.active (begins_active floating w) before.windows) v other in
            kept_as_it_was (look_on t) touch before.windows distinct u v there was (stays v was (v.serial == touch.window) refl)
      ])
    where
      after : FullDesk
      after = desk_with_new floating w n slot begun before

      others : List WindowRecord
      others = windows_behind before.active (begins_active floating w) before.windows

      one_or_others : (v : WindowRecord) → Contains after.windows v → (new_record floating w n slot begun ≡ v) ⊎ Contains others v
      one_or_others v now = one_or_rest (place_on floating before) (new_record floating w n slot begun) others v (subst (λ ws. Contains ws v) (new_windows floating w n slot begun before) now)

      none : (u : WindowRecord) → Contains before.windows u → u.serial ≡ n → ⊥
      none u there same = none_free (look_on t) n before.windows distinct free u there same

      stays : (v : WindowRecord) → Was before.windows v → (b : Bool) → (v.serial == touch.window) ≡ b → (if b then touch.by else None) ≡ None
      stays v was true same = absurd (none was.window was.among (ap (λ (s : Stand). s.serial) (sym was.stands) ∙ eqb-true v.serial touch.window same ∙ about))
      stays v was false away = refl
