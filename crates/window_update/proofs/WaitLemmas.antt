-- Which windows are to be updated.
use Rattle.std.proofs.Common.{◌≡◌, inl, inr, ℕ, ◌+◌, ◌<◌, ◌≤◌, Bool, true, false, not, if◌then◌else◌, List, ◌∷◌, length, map, drop, Option, None, Some, refl, sym, ap, ◌∙◌, subst}
use Rattle.std.proofs.lemmas.List.{drop_more, drop_all}
use Rattle.std.specs.Prelude.{slice_index_or, ◌↔◌}
use Rattle.std.specs.Bool.{IsTrue}
use Rattle.tb_geom.specs.declared.point.Point.{Point}
use Rattle.tb_geom.specs.Points.{plus, minus}
use Rattle.tb_geom.specs.Pixels.{holds}
use Rattle.def_iface.specs.Slots.{TakenBox}
use Rattle.def_iface.specs.WindowMeaning.{WindowLoan}
use Rattle.def_iface.specs.WindowSlots.{WindowSlot}
use Rattle.window_list.specs.declared.window.Window.{Window}
use Rattle.vis_update.specs.declared.area.Area.{Area}
use Rattle.vis_update.specs.Records.{record_of}
use Rattle.window_mgr.specs.declared.manager.WindowManager.{WindowManager}
use Rattle.window_mgr.specs.Edits.{IsWindowAt}
use Rattle.window_mgr.specs.Kept.{IsKept}
use Rattle.window_mgr.specs.Records.{state_of}
use Rattle.window_mgr.specs.Telling.{update_of}
use Rattle.window_mgr.proofs.TellLemmas as telling
use Rattle.window_mgr.specs.DeskStates.{Opened, desk_state, is_updating}
use Rattle.window_update.specs.Waiting.{IsEmpty, IsWaiting, IsFirstWaiting, update_told}

module _ {V : Type 0} {H : V → Type 0} (loan : TakenBox V H → WindowLoan) (t : WindowManager V H) (u : Opened) where
  -- a window whose update is open is not to be updated
  pub open_waits_not : (s : ℕ) (slots : List WindowSlot) → is_updating s (u.activity) ≡ true → IsWaiting s (desk_state loan t u slots) false
  open_waits_not s slots opened p = ap (λ b. if b then false else update_of s (state_of loan t slots) p) opened

  -- any other one is where the update region that is kept for it has a pixel
  module _ (kept : IsKept loan t) (at : ℕ) (low : at < length t.windows.records.items) (w : Window V H) (w_is : IsWindowAt t.windows.records.items at w)
      (a : Area) (a_is : a ≡ slice_index_or t.areas.items at a) (slots : List WindowSlot) (closed : is_updating w.serial (u.activity) ≡ false) where
    kept_told : (p : Point) → update_told w.serial (desk_state loan t u slots) p ≡ holds a.update (plus p w.place)
    kept_told p = ap (λ b. if b then false else update_of w.serial (state_of loan t slots) p) closed ∙ sym (telling.update_seen loan t kept w.serial at w low w_is refl a a_is p)

    empty_waits_not : ((p : Point) → holds a.update p ≡ false) → IsWaiting w.serial (desk_state loan t u slots) false
    empty_waits_not none p = kept_told p ∙ none (plus p w.place)

    empty_is_kept : IsEmpty (update_told w.serial (desk_state loan t u slots)) → (p : Point) → holds a.update p ≡ false
    empty_is_kept none p = ap (holds a.update) (sym (telling.again_there p w.place)) ∙ sym (kept_told (minus p w.place)) ∙ none (minus p w.place)

    -- so asking that region answers it
    pub told_waiting : (none : Bool) → (IsTrue none ↔ ((p : Point) → holds a.update p ≡ false)) → IsWaiting w.serial (desk_state loan t u slots) (not none)
    told_waiting true is = empty_waits_not (is.0 refl)
    told_waiting false is = λ none. let wrong : false ≡ true = is.1 (empty_is_kept none) in cc

  -- the first to be updated of the windows from a place on
  module _ (slots : List WindowSlot) where
    abbrev from : ℕ → Option ℕ → Type 0
    from at first = IsFirstWaiting (desk_state loan t u slots) (map (record_of loan) (drop at t.windows.records.items)) first

    -- is it of those from the next on, where the one there is not
    pub goes_on : (at : ℕ) (w : Window V H) → at < length t.windows.records.items → IsWindowAt t.windows.records.items at w → IsWaiting w.serial (desk_state loan t u slots) false
        → (first : Option ℕ) → from (at + 1) first → from at first
    goes_on at w low w_is waits_not first rest =
        subst (λ ws. IsFirstWaiting (desk_state loan t u slots) (map (record_of loan) ws) first) (sym (drop_more t.windows.records.items at w low ∙ ap (λ x. x ∷ drop (at + 1) t.windows.records.items) (sym w_is))) (inr (waits_not, rest))

    pub is_here : (at : ℕ) (w : Window V H) → at < length t.windows.records.items → IsWindowAt t.windows.records.items at w → IsWaiting w.serial (desk_state loan t u slots) true → from at (Some w.serial)
    is_here at w low w_is waits =
        subst (λ ws. IsFirstWaiting (desk_state loan t u slots) (map (record_of loan) ws) (Some w.serial)) (sym (drop_more t.windows.records.items at w low ∙ ap (λ x. x ∷ drop (at + 1) t.windows.records.items) (sym w_is))) (inl (waits, refl))

    pub there_is_none : (at : ℕ) → length t.windows.records.items ≤ at → from at None
    there_is_none at past = subst (λ ws. IsFirstWaiting (desk_state loan t u slots) (map (record_of loan) ws) None) (sym (drop_all at t.windows.records.items past)) refl
