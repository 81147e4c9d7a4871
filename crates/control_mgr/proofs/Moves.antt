-- Calls that show, hide, move or size a control.
use Rattle.std.proofs.Common.{◌≡◌, inr, ℕ, zero, suc, Bool, true, false, ◌&&◌, List, [], ◌∷◌, Some, None, Result, Ok, Err, refl, sym, ap, ◌∙◌, subst}
use Rattle.std.specs.Prelude.{IfSome, slice_get}
use Rattle.std.specs.List.{list_all}
use Rattle.std.proofs.lemmas.Bool.{and_parts}
use Rattle.tb_geom.specs.declared.point.Point.{Point}
use Rattle.tb_geom.specs.declared.refusal.Refusal.{Refusal}
use Rattle.tb_geom.specs.Points.{PixelSet}
use Rattle.tb_geom.specs.Rects.{is_in_range, moved_rect}
use Rattle.tb_geom.specs.Refusals.{first_refusal}
use Rattle.control_mgr.specs.Fields.{with_place, with_shown, with_size}
use Rattle.desk_layers.specs.declared.part.Part.{Part}
use Rattle.def_iface.specs.declared.size.Size.{Size}
use Rattle.def_iface.specs.Slots.{TakenBox}
use Rattle.def_iface.specs.ControlMeaning.{ControlLoan, is_control_size}
use Rattle.def_iface.specs.WindowMeaning.{WindowLoan}
use Rattle.def_iface.specs.WindowSlots.{WindowSlot}
use Rattle.window_list.specs.declared.layer.Layer.{Layer}
use Rattle.window_list.specs.Holders.{fits_at}
use Rattle.desk_call.specs.declared.control.ControlCall.{ControlCall}
use Rattle.desk_call.specs.declared.control.ControlCall.TheVariants.{Show, Hide}
use Rattle.desk_call.specs.declared.control.ControlOf.{ControlOf}
use Rattle.desk_call.specs.declared.control.ControlReply.{ControlReply}
use Rattle.desk_call.specs.declared.control.ControlReply.TheVariants.{Done}
use Rattle.vis_update.specs.Records.{record_of}
use Rattle.window_list.specs.declared.window.Window.{Window}
use Rattle.window_mgr.specs.declared.manager.WindowManager.{WindowManager}
use Rattle.window_mgr.specs.DeskStates.{Opened}
use Rattle.window_mgr.specs.Edits.{IsWindowAt}
use Rattle.window_mgr.specs.Finding.{record_with}
use Rattle.window_mgr.specs.Kept.{IsKept}
use Rattle.window_mgr.specs.Records.{desk_of}
use Rattle.window_mgr.specs.Whole.{IsSettled}
use Rattle.window_mgr.proofs.Steps.{found}
use Rattle.control_mgr.specs.declared.controls.Controls.{Controls}
use Rattle.control_mgr.specs.declared.laying.Lie.{Lie}
use Rattle.control_mgr.specs.declared.spots.ControlAt.{ControlAt}
use Rattle.control_mgr.specs.ControlDesks.{ControlDesk, ControlRecord, ControlSlot, control_of, index_of}
use Rattle.control_mgr.specs.ControlRefusals.{control_refusals, may_control_grow}
use Rattle.control_mgr.specs.ControlSteps.{IsControlEffect, IsControlLaid, IsControlStep}
use Rattle.control_mgr.specs.Judged.{may_be_placed, may_get_size, may_go_to}
use Rattle.control_mgr.specs.Laying.{IsLaidOrShort, MayLie, shown_call}
use Rattle.control_mgr.specs.Settled.{IsSettledControl}
use Rattle.control_mgr.specs.Spots.{IsSpotOf, with_lie}
use Rattle.control_mgr.specs.WholeControls.{AreBeside, LeavesControls, control_desk, controls_state, records_of}
use Rattle.control_mgr.proofs.Places.{at_window, layer_there, record_there}
use Rattle.control_mgr.proofs.Sets.{named_here}
use Rattle.control_mgr.proofs.Settled.{changed_alike}
use Rattle.control_mgr.proofs.Steps.{desk_seen, nothing_missing}
use Rattle.window_items.proofs.EditLemmas.{All-there}

-- how a control lies
abbrev pub lie_of : ControlRecord → Lie
lie_of c = record { place = c.kept.place; size = c.kept.size; shown = c.kept.shown }

-- what is asked of each layer holds of the one at a place
all_at : (f : Layer → Bool) (ls : List Layer) (i : ℕ) (l : Layer) → slice_get ls i ≡ Some l → list_all f ls ≡ true → f l ≡ true
all_at f [] i l e h = absurd (cc)
all_at f (k ∷ ks) zero l e h = let same : k ≡ l = cc in ap f (sym same) ∙ (and_parts (f k) (list_all f ks) h).0
all_at f (k ∷ ks) (suc i) l e h = all_at f ks i l e (and_parts (f k) (list_all f ks) h).1

module _ {V : Type 0} {H : V → Type 0} (loan : TakenBox V H → WindowLoan) {W : Type 0} {K : W → Type 0} (control_loan : TakenBox W K → ControlLoan) where
  module _ (c : ControlOf) (t : WindowManager V H) (m : Controls (TakenBox W K)) (s : ControlAt) (is : IsSpotOf loan control_loan c t m s) where
    abbrev item : ControlRecord
    item = (record_there loan control_loan c t m s is).item

    there : slice_get (records_of control_loan m) s.control ≡ Some item
    there = (record_there loan control_loan c t m s is).there

    -- how it lies, as it was read
    pub lie_read : (k : Lie) → IfSome (slice_get (records_of control_loan m) s.control) (λ x. k ≡ lie_of x) → (x : ControlRecord) → slice_get (records_of control_loan m) s.control ≡ Some x → k ≡ lie_of x
    lie_read k read x e = subst (λ o. IfSome o (λ y. k ≡ lie_of y)) e read

    -- where it is put elsewhere, sized, or shown, it lies otherwise in just that
    pub place_agrees : (k : Lie) (place : Point) → IfSome (slice_get (records_of control_loan m) s.control) (λ x. k ≡ lie_of x) → (x : ControlRecord) → slice_get (records_of control_loan m) s.control ≡ Some x → with_lie (record k { place = place }) x ≡ with_place place x
    place_agrees k place read x e = ap (λ (l : Lie). with_lie (record l { place = place }) x) (lie_read k read x e)

    pub size_agrees : (k : Lie) (size : Size) → IfSome (slice_get (records_of control_loan m) s.control) (λ x. k ≡ lie_of x) → (x : ControlRecord) → slice_get (records_of control_loan m) s.control ≡ Some x → with_lie (record k { size = size }) x ≡ with_size size x
    size_agrees k size read x e = ap (λ (l : Lie). with_lie (record l { size = size }) x) (lie_read k read x e)

    pub shown_agrees : (k : Lie) (shown : Bool) → IfSome (slice_get (records_of control_loan m) s.control) (λ x. k ≡ lie_of x) → (x : ControlRecord) → slice_get (records_of control_loan m) s.control ≡ Some x → with_lie (record k { shown = shown }) x ≡ with_shown shown x
    shown_agrees k shown read x e = ap (λ (l : Lie). with_lie (record l { shown = shown }) x) (lie_read k read x e)

    module _ (kept : IsKept loan t) where
      -- its window is the one that is named
      pub window_named : (w : Window V H) → IsWindowAt t.windows.records.items s.window w → record_with c.window (desk_of loan t []).windows ≡ Some (record_of loan w)
      window_named w lies = found loan t t kept.slots kept.whole s.window c.window w is.window.0 lies (is.window.1 w lies)

      -- whether it may go there is judged by its window
      pub go_judged : (place : Point) (b : Bool) (k : Lie) → IfSome (slice_get (records_of control_loan m) s.control) (λ x. k ≡ lie_of x)
          → IfSome (slice_get (records_of control_loan m) s.control) (λ x. (w : Window V H) → IsWindowAt t.windows.records.items s.window w → b ≡ may_be_placed (Some x.kept.definition.definition) place k.size w.place)
          → (w : Window V H) → IsWindowAt t.windows.records.items s.window w
          → may_go_to place (control_of c (records_of control_loan m)) (record_with c.window (desk_of loan t []).windows) ≡ b
      go_judged place b k read judged w lies =
          (λ i. may_go_to place (named_here loan control_loan c t m s is i) (window_named w lies i))
          ∙ sym (ap (λ (l : Lie). may_be_placed (Some item.kept.definition.definition) place l.size w.place) (lie_read k read item there))
          ∙ sym (subst (λ o. IfSome o (λ x. (w : Window V H) → IsWindowAt t.windows.records.items s.window w → b ≡ may_be_placed (Some x.kept.definition.definition) place k.size w.place)) there judged w lies)

      pub size_judged : (size : Size) (b : Bool) (k : Lie) → IfSome (slice_get (records_of control_loan m) s.control) (λ x. k ≡ lie_of x)
          → IfSome (slice_get (records_of control_loan m) s.control) (λ x. (w : Window V H) → IsWindowAt t.windows.records.items s.window w → b ≡ may_be_placed (Some x.kept.definition.definition) k.place size w.place)
          → (w : Window V H) → IsWindowAt t.windows.records.items s.window w
          → may_get_size size (control_of c (records_of control_loan m)) (record_with c.window (desk_of loan t []).windows) ≡ b
      size_judged size b k read judged w lies =
          (λ i. may_get_size size (named_here loan control_loan c t m s is i) (window_named w lies i))
          ∙ sym (ap (λ (l : Lie). may_be_placed (Some item.kept.definition.definition) l.place size w.place) (lie_read k read item there))
          ∙ sym (subst (λ o. IfSome o (λ x. (w : Window V H) → IsWindowAt t.windows.records.items s.window w → b ≡ may_be_placed (Some x.kept.definition.definition) k.place size w.place)) there judged w lies)

      -- it may stay where it lies
      pub may_stay : AreBeside control_loan loan t m → (k : Lie) → IfSome (slice_get (records_of control_loan m) s.control) (λ x. k ≡ lie_of x) → (shown : Bool) → MayLie control_loan t m s (record k { shown = shown })
      may_stay beside k read shown x w e lies =
          let settled : IsSettledControl x = All-there IsSettledControl s.control (records_of control_loan m) x e beside.whole.settled in
          let fits = and_parts (is_control_size x.kept.size) (is_in_range (x.kept.definition.definition.bounds x.kept.size)) settled.fits in
          let its = layer_there loan control_loan c t m s is w lies beside.whole.joined in
          let screen : is_in_range (moved_rect its.layer.bounds w.place.h w.place.v) ≡ true = all_at (fits_at w.place) w.layers.layers _ its.layer its.there (at_window loan IsSettled t.windows.records.items s.window w is.window.0 lies kept.whole.sound.settled).layers in
          ap (λ (l : Lie). may_be_placed (Some x.kept.definition.definition) l.place l.size w.place) (lie_read k read x e)
          ∙ (λ i. settled.placed i && (fits.0 i && (fits.1 i && (settled.inside i && (ap (λ b. is_in_range (moved_rect b w.place.h w.place.v)) (sym (its.is_layer.bounds ∙ ap (λ (y : ControlRecord). moved_rect (y.kept.definition.definition.bounds y.kept.size) y.kept.place.h y.kept.place.v) (one item x there e))) ∙ screen) i))))
        where
          one : (y z : ControlRecord) → slice_get (records_of control_loan m) s.control ≡ Some y → slice_get (records_of control_loan m) s.control ≡ Some z → y ≡ z
          one y z e f = cc

    -- what a change that another agrees with leaves
    laid_alike : (f g : ControlRecord → ControlRecord) (before after : ControlDesk) → before.controls.controls ≡ records_of control_loan m → ((x : ControlRecord) → slice_get (records_of control_loan m) s.control ≡ Some x → f x ≡ g x) → IsControlLaid c f before after → IsControlLaid c g before after
    laid_alike f g before after same agrees laid = record {
      changed = record {
        at = laid.changed.at;
        found = laid.changed.found;
        controls = laid.changed.controls;
        changed = changed_alike f g laid.changed.at before.controls.controls laid.changed.controls
            (λ x e. agrees x (subst (λ i. slice_get (records_of control_loan m) i ≡ Some x) (one_place laid.changed.at s.control (sym laid.changed.found ∙ ap (index_of c) same ∙ is.control)) (sym (ap (λ cs. slice_get cs laid.changed.at) same) ∙ e))) laid.changed.changed;
        state = laid.changed.state;
      };
      laid = laid.laid;
      activity = laid.activity;
    }
      where
        one_place : (i j : ℕ) → Some i ≡ Some j → i ≡ j
        one_place i j e = cc

    -- a call that lays a control so, where nothing but memory refuses it
    pub laid_step : (call : ControlCall) (f g : ControlRecord → ControlRecord) (result : Result ControlReply Refusal) (u : WindowManager V H) (n : Controls (TakenBox W K)) (o : Opened) → may_control_grow call ≡ true
        → ((others : List ℕ → Part → PixelSet) (slots : List WindowSlot) (kept : List ControlSlot) → first_refusal (control_refusals call (desk_seen loan control_loan others t slots m) (controls_state control_loan m kept)) ≡ None)
        → ((x : ControlRecord) → slice_get (records_of control_loan m) s.control ≡ Some x → f x ≡ g x)
        → ((answer : ControlReply) (before after : ControlDesk) → answer ≡ Done → IsControlLaid c g before after → IsControlEffect call answer before after)
        → LeavesControls control_loan loan (IsLaidOrShort c f result) t o m u o n → LeavesControls control_loan loan (IsControlStep call result) t o m u o n
    laid_step call f g (Ok answer) u n o grows none agrees effect leaves kept others slots whole controls =
        let l = leaves kept others slots whole controls in
        let before : ControlDesk = control_desk control_loan loan others t o slots m kept in
        let after : ControlDesk = control_desk control_loan loan others u o slots n kept in
        (l.0, l.1, (none others slots kept, effect answer before after l.2.0 (laid_alike f g before after refl agrees l.2.1)))
    laid_step call f g (Err e) u n o grows none agrees effect leaves kept others slots whole controls =
        let l = leaves kept others slots whole controls in
        (l.0, l.1, (inr (none others slots kept, (grows, l.2.0)), l.2.1))

    -- one that shows it or hides it
    pub show_step : (shown : Bool) (f : ControlRecord → ControlRecord) (result : Result ControlReply Refusal) (u : WindowManager V H) (n : Controls (TakenBox W K)) (o : Opened)
        → ((x : ControlRecord) → slice_get (records_of control_loan m) s.control ≡ Some x → f x ≡ with_shown shown x)
        → LeavesControls control_loan loan (IsLaidOrShort c f result) t o m u o n → LeavesControls control_loan loan (IsControlStep (shown_call shown c) result) t o m u o n
    show_step true f result u n o agrees leaves = laid_step (Show c) f (with_shown true) result u n o refl (λ others slots kept. nothing_missing loan control_loan c t m s is) agrees (λ answer before after e h. (e, h)) leaves
    show_step false f result u n o agrees leaves = laid_step (Hide c) f (with_shown false) result u n o refl (λ others slots kept. nothing_missing loan control_loan c t m s is) agrees (λ answer before after e h. (e, h)) leaves
