-- A control that is hidden owns no pixel, so that hiding it draws none.
use Rattle.std.proofs.Common.{◌≡◌, ℕ, zero, suc, Bool, true, false, not, ◌==◌, ◌&&◌, if◌then◌else◌, List, [], ◌∷◌, Some, refl, sym, ap, ◌∙◌, subst}
use Rattle.std.specs.Prelude.{All, slice_get}
use Rattle.std.specs.List.{list_any}
use Rattle.std.proofs.lemmas.Bool.{false≢true}
use Rattle.std.proofs.lemmas.List.Elements.{All-cons, All-head, All-nil, All-tail, All-weaker}
use Rattle.tb_geom.specs.declared.point.Point.{Point}
use Rattle.tb_geom.specs.Points.{minus}
use Rattle.desk_layers.specs.declared.part.Part.{Part}
use Rattle.desk_layers.specs.declared.part.Part.TheVariants as part
use Rattle.desk_layers.specs.Desk.{on_screen, same_part}
use Rattle.desk_layers.specs.Owner.{Owner, is_content, owner}
use Rattle.desk_layers.specs.Scratch.{scratch}
use Rattle.desk_layers.specs.Change.{IsChanged, State, had, no_change}
use Rattle.window_items.specs.Items.{AreApart, edit_at, has_serial, is_in, items_of}
use Rattle.window_items.proofs.SerialLemmas.{or_parts}
use Rattle.desk_call.specs.declared.control.ControlOf.{ControlOf}
use Rattle.window_list.specs.Holders.{part_at}
use Rattle.vis_update.specs.Records.{WindowRecord}
use Rattle.window_mgr.specs.FullDesk.{layered_desk, layered_state}
use Rattle.control_mgr.specs.ControlDesks.{ControlRecord, ControlsState}
use Rattle.control_mgr.specs.ControlSteps.{AreLayersOf, IsControlLaid, behind_controls}
use Rattle.control_mgr.specs.Fields.{with_shown}
use Rattle.control_mgr.proofs.Places.{found_names}
use Rattle.list_mgr.specs.ListDesks.{ListDesk, with_controls}
use Rattle.list_mgr.proofs.ListsKept.{IsRightLists}
use Rattle.desk_laws.proofs.GoneParts.{another}
use Rattle.desk_laws.proofs.JoinedChanges.{drawing}
use Rattle.desk_laws.proofs.PartsThere.{HasSuch, control_has, first_control, is_part, no_control_behind, no_part, of_controls, owners_are, plain_part}

-- where owners are drawn afresh that own no pixel, nothing is drawn
pub drawing_none : (these : Owner → Bool) (before after : State) → ((p : Point) → on_screen after.desk p ≡ true → these (owner after.desk p) ≡ false) → IsChanged (drawing these) before after → IsChanged no_change before after
drawing_none these before after none changed = record {
  stale = λ p on.
      let o = owner after.desk p in
      changed.stale p on ∙ (λ i. if not (is_content o) then false else (if none p on i then false else (if had no_change before.desk o p then before.stale p else true)));
  image = λ p on.
      let o = owner after.desk p in
      changed.image p on ∙ (λ i. if not (is_content o) then scratch after.desk p else (if none p on i then scratch after.desk p else (if not (had no_change before.desk o p) then false else before.image p)));
}

-- the control is hidden, if it has this serial
abbrev IsHidden : ℕ → ControlRecord → Type 0
IsHidden n c = has_serial n c ≡ true → c.kept.shown ≡ false

-- where no control has the serial
none_hidden : (n : ℕ) (cs : List ControlRecord) → list_any (has_serial n) cs ≡ false → All (IsHidden n) cs
none_hidden n [] none = All-nil (IsHidden n)
none_hidden n (c ∷ cs) none =
    let parts = or_parts (has_serial n c) (list_any (has_serial n) cs) none in
    All-cons (IsHidden n) c cs (λ e. absurd (false≢true (sym parts.0 ∙ e))) (none_hidden n cs parts.1)

-- the one that is hidden is the only one of its serial
edited_hidden : (n : ℕ) (g : ControlRecord → ControlRecord) → ((c : ControlRecord) → (g c).kept.shown ≡ false) → (at : ℕ) (cs : List ControlRecord) (x : ControlRecord) → AreApart cs → slice_get cs at ≡ Some x → x.serial ≡ n → All (IsHidden n) (edit_at g at cs)
edited_hidden n g hides at [] x apart there its = absurd (cc)
edited_hidden n g hides zero (c ∷ cs) x apart there its =
    let same : c ≡ x = cc in
    All-cons (IsHidden n) (g c) cs (λ e. hides c) (none_hidden n cs (ap (λ k. list_any (has_serial k) cs) (sym its ∙ ap (λ (y : ControlRecord). y.serial) (sym same)) ∙ apart.0))
edited_hidden n g hides (suc i) (c ∷ cs) x apart there its =
    All-cons (IsHidden n) c (edit_at g i cs)
    (λ e. absurd (false≢true (sym (ap (λ k. c.serial == k) (sym its) ∙ another c.serial i cs x apart.0 there) ∙ e)))
    (edited_hidden n g hides i cs x apart.1 there its)

-- no point has a control that is hidden
hidden_has_none : (n s : ℕ) (q : Point) (behind : Part) (cs : List ControlRecord) → All (IsHidden n) cs → same_part behind (part.Control n) ≡ false → same_part (first_control (items_of s cs) q behind) (part.Control n) ≡ false
hidden_has_none n s q behind [] hidden other = other
hidden_has_none n s q behind (c ∷ cs) hidden other =
    by_window (is_in s c) (hidden_has_none n s q behind cs (All-tail (IsHidden n) c cs hidden) other)
  where
    by_serial : (b h : Bool) → has_serial n c ≡ b → control_has c q ≡ h → same_part (first_control (items_of s cs) q behind) (part.Control n) ≡ false
        → same_part (if h then part.Control c.serial else first_control (items_of s cs) q behind) (part.Control n) ≡ false
    by_serial b false is has rest = rest
    by_serial false true is has rest = is
    by_serial true true is has rest =
        absurd (false≢true (sym (ap (λ t. t && c.kept.definition.definition.region c.kept.size (minus q c.kept.place)) (All-head (IsHidden n) c cs hidden is)) ∙ has))

    by_window : (b : Bool) → same_part (first_control (items_of s cs) q behind) (part.Control n) ≡ false → same_part (first_control (if b then c ∷ items_of s cs else items_of s cs) q behind) (part.Control n) ≡ false
    by_window true rest = by_serial (has_serial n c) (control_has c q) refl refl rest
    by_window false rest = rest

pub hidden_changes : (c : ControlOf) (before after : ListDesk) → IsRightLists before → IsRightLists after → IsControlLaid c (with_shown false) (with_controls before) (with_controls after)
    → IsChanged no_change (layered_state before.desk.windows) (layered_state after.desk.windows)
hidden_changes c before after was are done =
    drawing_none (is_part c.window (part.Control c.control)) (layered_state before.desk.windows) (layered_state after.desk.windows) none done.laid.set.pixels
  where
    x : ControlRecord
    x = done.changed.changed.control

    hidden : All (IsHidden c.control) after.controls.controls
    hidden = subst (All (IsHidden c.control)) (sym (ap (λ (s : ControlsState). s.controls) done.changed.state ∙ done.changed.changed.controls))
        (edited_hidden c.control _ (λ y. refl) done.changed.at before.controls.controls x was.desk.whole.apart done.changed.changed.there (found_names c.window c.control done.changed.at before.controls.controls x done.changed.found done.changed.changed.there).1)

    none : (p : Point) → on_screen (layered_desk after.desk.windows.desk) p ≡ true → is_part c.window (part.Control c.control) (owner (layered_desk after.desk.windows.desk) p) ≡ false
    none p on = owners_are (λ o. is_part c.window (part.Control c.control) o ≡ false) (plain_part c.window (part.Control c.control)) after.desk.windows.desk
        (All-weaker (λ (w : WindowRecord). AreLayersOf (items_of w.serial after.controls.controls) w.layers) (HasSuch (λ o. is_part c.window (part.Control c.control) o ≡ false))
        (λ w its q. no_part c.window w.serial (part.Control c.control) (part_at w.layers q)
        (λ e. ap (λ p. same_part p (part.Control c.control)) (of_controls (items_of w.serial after.controls.controls) w.layers its q)
        ∙ hidden_has_none c.control w.serial q (part_at (behind_controls w.layers) q) after.controls.controls hidden (no_control_behind c.control q w.layers)))
        after.desk.windows.desk.windows are.desk.whole.joined) p
