-- Steps of the tracking of a control: the mouse button pressed, the mouse moved, and the button released.
use Rattle.std.proofs.Common.{◌≡◌, ℕ, Bool, true, false, not, [], Option, Some, None, Ok, refl, sym, ap, ◌∙◌, subst}
use Rattle.std.specs.Prelude.{IfSome, is_none, slice_get}
use Rattle.std.specs.Option.{option_and_then, option_map_or}
use Rattle.std.proofs.lemmas.Bool.{false≢true}
use Rattle.tb_geom.specs.declared.point.Point.{Point}
use Rattle.tb_geom.specs.declared.refusal.Refusal.{Refusal}
use Rattle.tb_geom.specs.declared.refusal.Refusal.TheVariants.{OutOfRange}
use Rattle.tb_geom.specs.Points.{PixelSet}
use Rattle.tb_geom.specs.Rects.{in_plane}
use Rattle.tb_geom.specs.Refusals.{first_refusal}
use Rattle.control_values.specs.declared.part.ControlPart.{ControlPart}
use Rattle.control_values.specs.Parts.{number_of}
use Rattle.window_items.specs.Items.{is_item, with_kept}
use Rattle.control_mgr.specs.Fields.{with_highlight}
use Rattle.window_items.proofs.WindowLemmas.{item_index-edit_at, position_there}
use Rattle.def_iface.specs.Slots.{TakenBox}
use Rattle.def_iface.specs.ControlMeaning.{ControlLoan}
use Rattle.def_iface.specs.WindowMeaning.{WindowLoan}
use Rattle.desk_call.specs.declared.activity.Activity.{Activity}
use Rattle.desk_call.specs.declared.activity.Activity.TheVariants.{Idle, TrackingControl}
use Rattle.desk_call.specs.declared.activity.TrackedControl.{TrackedControl}
use Rattle.desk_call.specs.declared.control.ControlCall.TheVariants.{Track, Step, End}
use Rattle.desk_call.specs.declared.control.ControlOf.{ControlOf}
use Rattle.desk_call.specs.declared.control.ControlReply.TheVariants.{Part}
use Rattle.desk_call.specs.declared.control.PointAtControl.{PointAtControl}
use Rattle.window_paint.specs.White.{all_white}
use Rattle.window_mgr.specs.declared.manager.WindowManager.{WindowManager}
use Rattle.window_mgr.specs.DeskStates.{Opened}
use Rattle.window_mgr.specs.Kept.{IsKept}
use Rattle.window_mgr.specs.Records.{desk_of}
use Rattle.window_mgr.specs.Refused.{is_missing}
use Rattle.control_mgr.specs.declared.controls.Controls.{Controls}
use Rattle.control_mgr.specs.declared.setting.State.{State}
use Rattle.control_mgr.specs.declared.spots.ControlAt.{ControlAt}
use Rattle.control_mgr.specs.ControlDesks.{ControlDesk, ControlRecord, control_of, index_of}
use Rattle.control_mgr.specs.ControlRefusals.{missing_refusals, point_refusals}
use Rattle.control_mgr.specs.ControlSteps.{IsControlStep, IsHighlighted, IsTracked, highlight_after, highlight_of, is_thumb, released, released_setting, tested, tracked_part}
use Rattle.control_mgr.specs.Damages.{IsPut, IsWhereRight}
use Rattle.control_mgr.specs.Judged.{part_tested}
use Rattle.control_mgr.specs.Spots.{IsSpotOf, opened, with_state}
use Rattle.control_mgr.specs.WholeControls.{AreBeside, IsTrackable, LeavesControls, control_desk, records_of}
use Rattle.control_mgr.proofs.Places.{found_names}
use Rattle.control_mgr.proofs.Sets.{highlight_agrees, state_of_control, state_read}
use Rattle.control_mgr.proofs.Settled.{retold}
use Rattle.control_mgr.proofs.Steps.{none_missing, one_fails, other_reasons, put_alike, unchanged}
use Rattle.window_items.proofs.EditLemmas.{All-there}

-- nothing is open
abbrev pub idle_now : Opened
idle_now = opened Idle (λ p. false)

-- a point of the plane refuses nothing
near : (p : Point) → in_plane p ≡ true → first_refusal (point_refusals p) ≡ None
near p e = one_fails (not (in_plane p)) OutOfRange (ap not e)

-- the state of a control that was let go
pub released_agrees : (k : TrackedControl) (p : Point) (part : Option ControlPart) (was is : State) (x : ControlRecord) → was ≡ state_of_control x → is.values ≡ released_setting k p part x → is.highlight ≡ highlight_after k.part was.highlight → is.title ≡ was.title → with_state is x ≡ released k p part x
released_agrees tracked p part was is x e v h t = λ i. with_kept (λ k. record k { values = v i; highlight = (h ∙ ap (λ (y : State). highlight_after tracked.part y.highlight) e) i; title = (t ∙ ap (λ (y : State). y.title) e) i }) x

module _ {V : Type 0} {H : V → Type 0} (loan : TakenBox V H → WindowLoan) {W : Type 0} {K : W → Type 0} (control_loan : TakenBox W K → ControlLoan) where
  -- ---- controls shown anew

  module _ (c : ControlOf) (t : WindowManager V H) (m : Controls (TakenBox W K)) (s : ControlAt) (is : IsSpotOf loan control_loan c t m s) where
    -- by another change that agrees where it is made
    pub leaves_alike : (f g : ControlRecord → ControlRecord) (u : WindowManager V H) (n : Controls (TakenBox W K)) (o r : Opened)
        → ((x : ControlRecord) → slice_get (records_of control_loan m) s.control ≡ Some x → f x ≡ g x)
        → LeavesControls control_loan loan (IsPut c f) t o m u r n → LeavesControls control_loan loan (IsPut c g) t o m u r n
    leaves_alike f g u n o r agrees leaves kept others slots whole controls =
        let l = leaves kept others slots whole controls in
        (l.0, l.1, put_alike c f g (control_desk control_loan loan others t o slots m kept) (control_desk control_loan loan others u r slots n kept) s.control is.control agrees l.2)

    -- the state with another highlighting
    pub highlighted : (h : ℕ) (was now : State) (u : WindowManager V H) (n : Controls (TakenBox W K)) (o r : Opened) → IfSome (slice_get (records_of control_loan m) s.control) (λ x. was ≡ state_of_control x)
        → now ≡ record was { highlight = h } → LeavesControls control_loan loan (IsPut c (with_state now)) t o m u r n → LeavesControls control_loan loan (IsPut c (with_highlight h)) t o m u r n
    highlighted h was now u n o r read is_now leaves =
        leaves_alike (with_state now) (with_highlight h) u n o r
        (λ x e. highlight_agrees h was now x (state_read loan control_loan c t m s is was read x e) (ap (λ (y : State). y.values) is_now) (ap (λ (y : State). y.highlight) is_now) (ap (λ (y : State). y.title) is_now)) leaves

    -- the part that a test answers
    pub tested_here : (x : ControlRecord) (p : Point) (part : Option ControlPart) → slice_get (records_of control_loan m) s.control ≡ Some x → part ≡ part_tested x p → tested c (records_of control_loan m) p ≡ part
    tested_here x p part there e = ap (λ o. option_and_then (λ d. part_tested d p) o) (ap (λ o. option_and_then (slice_get (records_of control_loan m)) o) is.control ∙ there) ∙ sym e

    -- and one that is tracked
    pub tracked_here : (k : TrackedControl) (p : Point) → k.control ≡ c → tracked_part k (slice_get (records_of control_loan m) s.control) p ≡ tracked_part k (control_of k.control (records_of control_loan m)) p
    tracked_here k p e = ap (λ o. tracked_part k o p) (sym (ap (λ d. control_of d (records_of control_loan m)) e ∙ ap (λ o. option_and_then (slice_get (records_of control_loan m)) o) is.control))

  -- the place of each control is what it was
  pub index_kept : (c k : ControlOf) (f : ControlRecord → ControlRecord) → ((x : ControlRecord) → (f x).window ≡ x.window) → ((x : ControlRecord) → (f x).serial ≡ x.serial) → (before after : ControlDesk) → IsPut c f before after
      → index_of k after.controls.controls ≡ index_of k before.controls.controls
  index_kept c k f windows serials before after put =
      ap (λ (st : _). index_of k st.controls) put.changed.state
      ∙ ap (index_of k) put.changed.changed.controls
      ∙ item_index-edit_at (retold f put.changed.changed.definition) windows serials k.window k.control put.changed.at before.controls.controls

  -- so over a step of windows and controls that are whole
  pub index_left : (c k : ControlOf) (h : ℕ) (t u : WindowManager V H) (m n : Controls (TakenBox W K)) (o r : Opened) → IsKept loan t → AreBeside control_loan loan t m
      → LeavesControls control_loan loan (IsPut c (with_highlight h)) t o m u r n → index_of k (records_of control_loan n) ≡ index_of k (records_of control_loan m)
  index_left c k h t u m n o r kept beside leaves =
      index_kept c k (with_highlight h) (λ x. refl) (λ x. refl) (control_desk control_loan loan (λ font. all_white) t o kept.slots m beside.slots) (control_desk control_loan loan (λ font. all_white) u r kept.slots n beside.slots)
      (leaves beside.slots (λ font. all_white) kept.slots kept.whole beside.whole).2

  -- a control of which a thumb is tracked is left alone, and another is highlighted
  pub left_alone : (c : ControlOf) (h : ℕ) (t : WindowManager V H) (m : Controls (TakenBox W K)) (o r : Opened) (b : Bool) → b ≡ true → (thumb : Bool) → thumb ≡ b → LeavesControls control_loan loan (IsWhereRight (IsHighlighted thumb c h)) t o m t r m
  left_alone c h t m o r b is thumb e = subst (λ x. LeavesControls control_loan loan (IsWhereRight (IsHighlighted x c h)) t o m t r m) (sym (e ∙ is)) (λ kept others slots whole controls. (whole, controls, λ right. record { windows = refl; controls = refl; others = refl }))

  pub shown_so : (c : ControlOf) (h : ℕ) (t u : WindowManager V H) (m n : Controls (TakenBox W K)) (o r : Opened) (b : Bool) → b ≡ false → (thumb : Bool) → thumb ≡ b → LeavesControls control_loan loan (IsPut c (with_highlight h)) t o m u r n
      → LeavesControls control_loan loan (IsWhereRight (IsHighlighted thumb c h)) t o m u r n
  shown_so c h t u m n o r b is thumb e leaves = subst (λ x. LeavesControls control_loan loan (IsWhereRight (IsHighlighted x c h)) t o m u r n) (sym (e ∙ is))
      (λ kept others slots whole controls. let l = leaves kept others slots whole controls in (l.0, l.1, l.2.shown))

  -- ---- the button is pressed

  pub tracked_step : (p : PointAtControl) (part : Option ControlPart) (t u : WindowManager V H) (m n : Controls (TakenBox W K)) (s : ControlAt) (o r : Opened) → IsSpotOf loan control_loan p.control t m s → in_plane p.point ≡ true
      → tested p.control (records_of control_loan m) p.point ≡ part → LeavesControls control_loan loan (IsWhereRight (IsTracked p part)) t o m u r n → LeavesControls control_loan loan (IsWhereRight (IsControlStep (Track p) (Ok (Part part)))) t o m u r n
  tracked_step p part t u m n s o r is on is_part leaves kept others slots whole controls =
      let l = leaves kept others slots whole controls in (
        l.0,
        l.1,
        λ right. (
          other_reasons loan control_loan p.control t m s is (point_refusals p.point) ∙ near p.point on,
          (ap (λ q. Part q) (sym is_part), subst (λ q. IsTracked p q (control_desk control_loan loan others t o slots m kept) (control_desk control_loan loan others u r slots n kept)) (sym is_part) (l.2 right)),
        ),
      )

  -- on no part
  pub pressed_on_none : (p : PointAtControl) (t : WindowManager V H) (m : Controls (TakenBox W K)) (o : Opened) → LeavesControls control_loan loan (IsWhereRight (IsTracked p None)) t o m t o m
  pressed_on_none p t m o kept others slots whole controls = (whole, controls, λ right. unchanged loan control_loan others t o slots m kept)

  -- on a part, which is tracked then
  pub pressed_on : (p : PointAtControl) (part : ControlPart) (t u : WindowManager V H) (m n : Controls (TakenBox W K)) (was : Activity) (begun : PixelSet) (h : ℕ) → h ≡ number_of part
      → ((o r : Opened) → LeavesControls control_loan loan (IsWhereRight (IsHighlighted (is_thumb part) p.control h)) t o m u r n)
      → LeavesControls control_loan loan (IsWhereRight (IsTracked p (Some part))) t (opened was begun) m u (opened (TrackingControl (record { control = p.control; part = part; from = p.point })) begun) n
  pressed_on p part t u m n was begun h is leaves kept others slots whole controls =
      let before : Opened = opened was begun in
      let after : Opened = opened (TrackingControl (record { control = p.control; part = part; from = p.point })) begun in
      let l = leaves before after kept others slots whole controls in (
        l.0,
        l.1,
        λ right. (
          record { activity = refl; begun = refl },
          subst (λ k. IsHighlighted (is_thumb part) p.control k (control_desk control_loan loan others t before slots m kept) (control_desk control_loan loan others u after slots n kept)) is (l.2 right),
        ),
      )

  -- ---- a control that is there, as one that is tracked

  -- its window is there
  pub window_there : (c : ControlOf) (t : WindowManager V H) (m : Controls (TakenBox W K)) (o : Option ℕ) → index_of c (records_of control_loan m) ≡ o → is_none o ≡ false → AreBeside control_loan loan t m → is_missing c.window (desk_of loan t []).windows ≡ false
  window_there c t m None e there beside = absurd (false≢true (sym there))
  window_there c t m (Some at) e there beside = by_item (slice_get (records_of control_loan m) at) refl
    where
      by_item : (o : Option ControlRecord) → slice_get (records_of control_loan m) at ≡ o → is_missing c.window (desk_of loan t []).windows ≡ false
      by_item (Some x) read =
          ap (λ w. is_missing w (desk_of loan t []).windows) (sym (found_names c.window c.control at (records_of control_loan m) x e read).0)
          ∙ All-there (λ (y : ControlRecord). is_missing y.window (desk_of loan t []).windows ≡ false) at (records_of control_loan m) x read beside.whole.somewhere
      by_item None read = absurd (none_there (position_there (is_item c.window c.control) (records_of control_loan m)) read)
        where
          none_there : IfSome (index_of c (records_of control_loan m)) (λ i. option_map_or (is_item c.window c.control) (slice_get (records_of control_loan m) i) false ≡ true) → slice_get (records_of control_loan m) at ≡ None → ⊥
          none_there h r = false≢true (sym (ap (λ q. option_map_or (is_item c.window c.control) q false) r) ∙ subst (λ q. IfSome q (λ i. option_map_or (is_item c.window c.control) (slice_get (records_of control_loan m) i) false ≡ true)) e h)

  -- so one that is tracked is not missing
  pub not_missing : (k : TrackedControl) (t : WindowManager V H) (m : Controls (TakenBox W K)) (e : Refusal) → IsTrackable (TrackingControl k) (records_of control_loan m) → AreBeside control_loan loan t m
      → first_refusal (missing_refusals k.control (desk_of loan t []) (records_of control_loan m)) ≡ Some e → ⊥
  not_missing k t m e trackable beside why =
      no (sym (none_missing k.control (desk_of loan t []) (records_of control_loan m) (is_missing k.control.window (desk_of loan t []).windows) (is_none (index_of k.control (records_of control_loan m)))
      (window_there k.control t m (index_of k.control (records_of control_loan m)) refl trackable.1 beside) trackable.1) ∙ why)
    where
      no : None ≡ Some e → ⊥
      no h = absurd (cc)

  -- ---- the mouse moves, and the button is released

  pub stepped : (k : TrackedControl) (p : Point) (part : Option ControlPart) (t u : WindowManager V H) (m n : Controls (TakenBox W K)) (begun : PixelSet) (h : ℕ) → in_plane p ≡ true
      → part ≡ tracked_part k (control_of k.control (records_of control_loan m)) p → h ≡ highlight_of part
      → ((o r : Opened) → LeavesControls control_loan loan (IsWhereRight (IsHighlighted (is_thumb k.part) k.control h)) t o m u r n)
      → LeavesControls control_loan loan (IsWhereRight (IsControlStep (Step p) (Ok (Part part)))) t (opened (TrackingControl k) begun) m u (opened (TrackingControl k) begun) n
  stepped k p part t u m n begun h on is lit leaves kept others slots whole controls =
      let same : Opened = opened (TrackingControl k) begun in
      let l = leaves same same kept others slots whole controls in (
        l.0,
        l.1,
        λ right. (
          near p on,
          (
            part,
            refl,
            (
              is,
              record { activity = refl; begun = refl },
              subst (λ g. IsHighlighted (is_thumb k.part) k.control g (control_desk control_loan loan others t same slots m kept) (control_desk control_loan loan others u same slots n kept)) lit (l.2 right),
            ),
          ),
        ),
      )

  let_go : (k : TrackedControl) (p : Point) (part : Option ControlPart) (t u : WindowManager V H) (m n : Controls (TakenBox W K)) (begun : PixelSet) → in_plane p ≡ true
      → part ≡ tracked_part k (control_of k.control (records_of control_loan m)) p
      → LeavesControls control_loan loan (IsPut k.control (released k p part)) t (opened (TrackingControl k) begun) m u (opened Idle begun) n
      → LeavesControls control_loan loan (IsWhereRight (IsControlStep (End p) (Ok (Part part)))) t (opened (TrackingControl k) begun) m u (opened Idle begun) n
  let_go k p part t u m n begun on is leaves kept others slots whole controls =
      let l = leaves kept others slots whole controls in
      (l.0, l.1, λ right. (near p on, (part, refl, (is, record { activity = refl; begun = refl }, l.2.shown right))))

  pub let_go_of : (k : TrackedControl) (p : Point) (part : Option ControlPart) (t u : WindowManager V H) (m n : Controls (TakenBox W K)) (begun : PixelSet) (was : Activity) → was ≡ TrackingControl k → in_plane p ≡ true
      → part ≡ tracked_part k (control_of k.control (records_of control_loan m)) p
      → ((o r : Opened) → LeavesControls control_loan loan (IsPut k.control (released k p part)) t o m u r n)
      → LeavesControls control_loan loan (IsWhereRight (IsControlStep (End p) (Ok (Part part)))) t (opened was begun) m u (opened Idle begun) n
  let_go_of k p part t u m n begun was tracking on is leaves =
      subst (λ a. LeavesControls control_loan loan (IsWhereRight (IsControlStep (End p) (Ok (Part part)))) t (opened a begun) m u (opened Idle begun) n) (sym tracking)
      (let_go k p part t u m n begun on is (leaves (opened (TrackingControl k) begun) (opened Idle begun)))
