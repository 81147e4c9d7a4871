-- Steps of calls about frames, as the code makes them.
use Rattle.std.proofs.Common.{◌≡◌, inl, inr, ℕ, ◌<◌, Bool, true, false, not, if◌then◌else◌, List, [], ◌∷◌, length, map, None, Some, Result, Ok, Err, refl, sym, ap, ◌∙◌, subst}
use Rattle.std.specs.Prelude.{is_none, nat_abs, nat_lt}
use Rattle.tb_geom.specs.declared.point.Point.{Point}
use Rattle.tb_geom.specs.declared.refusal.Refusal.{Refusal}
use Rattle.tb_geom.specs.declared.refusal.Refusal.TheVariants.{NoSuchWindow, OutOfRange, TooLong}
use Rattle.tb_geom.specs.Rects.{in_plane}
use Rattle.def_iface.specs.Slots.{TakenBox}
use Rattle.def_iface.specs.WindowNews.{WindowNews, told_title, told_highlighted, told_tracked}
use Rattle.def_iface.specs.WindowMeaning.{WindowLoan}
use Rattle.def_iface.specs.WindowSlots.{WindowSlot}
use Rattle.desk_call.specs.declared.frame.FrameCall.{FrameCall}
use Rattle.desk_call.specs.declared.activity.Activity.TheVariants.{Idle, Tracking}
use Rattle.desk_call.specs.declared.frame.FrameCall.TheVariants as asks
use Rattle.desk_call.specs.declared.frame.FrameReply.{FrameReply}
use Rattle.desk_call.specs.declared.frame.FrameReply.TheVariants.{Done, Tracked}
use Rattle.desk_call.specs.declared.frame.GoAwayPoint.{GoAwayPoint}
use Rattle.desk_call.specs.declared.frame.HiliteWindow.{HiliteWindow}
use Rattle.desk_call.specs.declared.frame.NewTitle.{NewTitle}
use Rattle.vis_update.specs.Records.{WindowRecord, record_of}
use Rattle.window_list.specs.declared.window.Window.{Window}
use Rattle.window_mgr.specs.declared.manager.WindowManager.{WindowManager}
use Rattle.window_mgr.specs.Edits.{IsWindowAt, StandsAt}
use Rattle.window_mgr.specs.Finding.{record_with}
use Rattle.window_mgr.specs.FrameNotices.{IsFrameNotified}
use Rattle.window_mgr.specs.FullDesk.{FullState}
use Rattle.window_mgr.specs.Kept.{IsKept}
use Rattle.window_mgr.specs.Records.{desk_of, state_of}
use Rattle.tb_geom.specs.Refusals.{first_refusal}
use Rattle.window_mgr.specs.Refused.{is_missing, longest_text}
use Rattle.window_mgr.specs.Updating.{LeavesState}
use Rattle.window_mgr.specs.Whole.{IsWholeManager}
use Rattle.window_mgr.proofs.EditSeats.{same_at, there_is}
use Rattle.window_mgr.proofs.FrameRight.{told_alike, told_likewise}
use Rattle.window_mgr.proofs.TellLemmas as telling
use Rattle.window_mgr.specs.DeskStates.{Opened, IsDeskUnchanged, desk_state, LeavesDesk}
use Rattle.window_mgr.proofs.ScreenSides.{SameSides}
use Rattle.window_frame.specs.Followers.{Flag, Knows, IsInformed, told_flag, with_heard}
use Rattle.window_frame.specs.FrameRefusals.{frame_refusals, tracking_refusals}
use Rattle.window_frame.specs.FrameSteps.{IsTrackedAt, IsTrackingNotified, in_go_away, with_flag, with_title, with_tracked, IsFrameStep}
use Rattle.window_frame.proofs.FrameKeeps.{frame_told_keeps, tracking_keeps}

-- a window manager that was whole over some slots, and is so over the same
pub still_kept : {V : Type 0} {H : V → Type 0} (loan : TakenBox V H → WindowLoan) (t new : WindowManager V H) (after : FullState → FullState → Type 0) → IsKept loan t → LeavesState loan after t new → IsKept loan new
still_kept loan t new after kept leaves = record { slots = kept.slots; whole = (leaves kept.slots kept.whole).0 }

-- ---- one window

module _ {V : Type 0} {H : V → Type 0} (loan : TakenBox V H → WindowLoan) (t : WindowManager V H) where
  -- ---- nothing changes

  pub unchanged : (u : Opened) (slots : List WindowSlot) → IsDeskUnchanged (desk_state loan t u slots) (desk_state loan t u slots)
  unchanged u slots = record { windows = record { desk = refl; stale = λ p on. refl; image = λ p on. refl }; activity = refl; begun = refl }

  pub refused : (u : Opened) (call : FrameCall) (e : Refusal) → ((slots : List WindowSlot) → first_refusal (frame_refusals call (desk_of loan t slots)) ≡ Some e)
      → LeavesDesk loan (IsFrameStep call (Err e)) t u t u
  refused u call e why slots whole = (whole, (inl (why slots), unchanged u slots))

  -- a window that is not there is missing
  pub missing : (s : ℕ) (slots : List WindowSlot) → record_with s (map (record_of loan) t.windows.records.items) ≡ None → is_missing s (desk_of loan t slots).windows ≡ true
  missing s slots none = ap is_none none

  -- ---- a window that is there

  module _ (kept : IsKept loan t) (s at : ℕ) (stands : StandsAt t.windows.records.items s at) where
    here : (x : Window V H) × (IsWindowAt t.windows.records.items at x)
    here = there_is t.windows.records.items at stands.0

    found : record_with s (desk_of loan t []).windows ≡ Some (record_of loan here.0)
    found = telling.found loan t kept s at here.0 stands.0 here.1 (stands.1 here.0 here.1)

    pub is_there : (slots : List WindowSlot) → is_missing s (desk_of loan t slots).windows ≡ false
    is_there slots = ap is_none found

    -- what is said of the window at its place is said of that of its number
    pub by_number : (new : WindowManager V H) (news : WindowRecord → WindowNews → WindowNews) (f : WindowRecord → WindowRecord) → ((w : Window V H) → IsWindowAt t.windows.records.items at w → LeavesState loan (IsFrameNotified w.serial news f) t new)
        → LeavesState loan (IsFrameNotified s news f) t new
    by_number new news f leaves = subst (λ n. LeavesState loan (IsFrameNotified n news f) t new) (stands.1 here.0 here.1) (leaves here.0 here.1)

    -- so its definition was told whether its go-away box is tracked
    pub told_apart : (new : WindowManager V H) (inside : Bool) → ((w : Window V H) → IsWindowAt t.windows.records.items at w → LeavesState loan (IsFrameNotified w.serial (λ _. told_tracked inside) (with_tracked inside)) t new)
        → LeavesState loan (IsTrackingNotified inside s) t new
    told_apart new inside leaves slots whole = let left = by_number new (λ _. told_tracked inside) (with_tracked inside) leaves slots whole in (left.0, inr left.1)

  -- ---- how a window stands

  module _ (kept : IsKept loan t) (at : ℕ) (low : at < length t.windows.records.items) (x : Window V H) (x_is : IsWindowAt t.windows.records.items at x) where
    stands_there : (w : Window V H) → IsWindowAt t.windows.records.items at w → StandsAt t.windows.records.items w.serial at
    stands_there w w_is = (low, λ y y_is. ap (λ (z : Window V H). z.serial) (same_at t.windows.records.items at y w low y_is w_is))

    found_here : (w : Window V H) → IsWindowAt t.windows.records.items at w → record_with w.serial (desk_of loan t []).windows ≡ Some (record_of loan x)
    found_here w w_is =
        found kept w.serial at (stands_there w w_is)
        ∙ ap (λ (z : Window V H). Some (record_of loan z)) (same_at t.windows.records.items at (here kept w.serial at (stands_there w w_is)).0 x low (here kept w.serial at (stands_there w w_is)).1 x_is)

    -- its definition knows
    pub knew : (flag : Flag) → Knows flag (record_of loan x) → (w : Window V H) → IsWindowAt t.windows.records.items at w → LeavesState loan (IsInformed flag w.serial) t t
    knew flag knows w w_is slots whole = (whole, inl ((λ r r_is. let same : record_of loan x ≡ r = sure (sym (found_here w w_is) ∙ r_is) in subst (Knows flag) same knows), refl))
      where
        sure : {r v : WindowRecord} → Some r ≡ Some v → r ≡ v
        sure e = cc

    -- or it heard otherwise, and was told
    pub informed_so : (flag : Flag) (news : WindowNews → WindowNews) (kept_so : WindowRecord → WindowRecord) (new : WindowManager V H) → (Knows flag (record_of loan x) → ⊥)
        → news ≡ told_flag flag (record_of loan x) → kept_so (record_of loan x) ≡ with_heard flag (record_of loan x)
        → ((w : Window V H) → IsWindowAt t.windows.records.items at w → LeavesState loan (IsFrameNotified w.serial (λ _. news) kept_so) t new)
        → (w : Window V H) → IsWindowAt t.windows.records.items at w → LeavesState loan (IsInformed flag w.serial) t new
    informed_so flag news kept_so new otherwise same_news same_record leaves w w_is slots whole =
        let left = leaves w w_is slots whole in
        let its = found_here w w_is in
        let alike = told_alike w.serial kept_so (with_heard flag) (record_of loan x) (state_of loan t slots) (state_of loan new slots) its same_record left.1 in
        let told = told_likewise w.serial news (told_flag flag) (with_heard flag) (record_of loan x) (state_of loan t slots) (state_of loan new slots) its same_news alike in
        (left.0, inr (record { told = told; otherwise = λ knows. otherwise (subst (Knows flag) (sym (sure (sym its ∙ told.found))) knows) }))
      where
        sure : {r v : WindowRecord} → Some r ≡ Some v → r ≡ v
        sure e = cc

  -- ---- titles and highlighting

  module _ (kept : IsKept loan t) (n : NewTitle) (at : ℕ) (stands : StandsAt t.windows.records.items n.window at) (title : List ℕ) (same : title ≡ n.title) where
    is_long : (b : Bool) → nat_lt longest_text (length title) ≡ b → nat_lt longest_text (length n.title) ≡ b
    is_long b e = subst (λ (l : List ℕ). nat_lt longest_text (length l) ≡ b) same e

    pub too_long : (u : Opened) → nat_lt longest_text (length title) ≡ true → LeavesDesk loan (IsFrameStep (asks.SetTitle n) (Err TooLong)) t u t u
    too_long u e = refused u (asks.SetTitle n) TooLong
        (λ slots. λ i. first_refusal ((is_there kept n.window at stands slots i, NoSuchWindow) ∷ (is_long true e i, TooLong) ∷ []))

    pub titled : (u : Opened) (new : WindowManager V H) → nat_lt longest_text (length title) ≡ false
        → ((w : Window V H) → IsWindowAt t.windows.records.items at w → LeavesState loan (IsFrameNotified w.serial (λ _. told_title title) (with_title title)) t new)
        → LeavesDesk loan (IsFrameStep (asks.SetTitle n) (Ok Done)) t u new u
    titled u new e leaves slots whole =
        let left = by_number kept n.window at stands new (λ _. told_title title) (with_title title) leaves slots whole in (
          left.0,
          (
            λ i. first_refusal ((is_there kept n.window at stands slots i, NoSuchWindow) ∷ (is_long false e i, TooLong) ∷ []),
            (
              record { activity = refl; begun = refl },
              subst (λ (l : List ℕ). IsFrameNotified n.window (λ _. told_title l) (with_title l) (state_of loan t slots) (state_of loan new slots)) same left.1,
            ),
          ),
        )

  pub highlighted : (kept : IsKept loan t) (h : HiliteWindow) (at : ℕ) → StandsAt t.windows.records.items h.window at → (u : Opened) (new : WindowManager V H)
      → ((w : Window V H) → IsWindowAt t.windows.records.items at w → LeavesState loan (IsFrameNotified w.serial (λ _. told_highlighted h.highlighted) (with_flag h.highlighted)) t new)
      → LeavesDesk loan (IsFrameStep (asks.Hilite h) (Ok Done)) t u new u
  highlighted kept h at stands u new leaves slots whole =
      let left = by_number kept h.window at stands new (λ _. told_highlighted h.highlighted) (with_flag h.highlighted) leaves slots whole in
      (left.0, (λ i. first_refusal ((is_there kept h.window at stands slots i, NoSuchWindow) ∷ []), (record { activity = refl; begun = refl }, left.1)))

  -- ---- the tracking of a go-away box

  module _ (kept : IsKept loan t) (g : GoAwayPoint) (at : ℕ) (stands : StandsAt t.windows.records.items g.window at) where
    refused_or_not : (slots : List WindowSlot) (b : Bool) → in_plane g.point ≡ b → first_refusal (frame_refusals (asks.TrackGoAway g) (desk_of loan t slots)) ≡ (if b then None else Some OutOfRange)
    refused_or_not slots true e = λ i. first_refusal ((is_there kept g.window at stands slots i, NoSuchWindow) ∷ (not (e i), OutOfRange) ∷ [])
    refused_or_not slots false e = λ i. first_refusal ((is_there kept g.window at stands slots i, NoSuchWindow) ∷ (not (e i), OutOfRange) ∷ [])

    pub no_point : (u : Opened) (e : Refusal) → in_plane g.point ≡ false → e ≡ OutOfRange → LeavesDesk loan (IsFrameStep (asks.TrackGoAway g) (Err e)) t u t u
    no_point u e outside is = subst (λ f. LeavesDesk loan (IsFrameStep (asks.TrackGoAway g) (Err f)) t u t u) (sym is) (refused u (asks.TrackGoAway g) OutOfRange (λ slots. refused_or_not slots false outside))

    pub begun : (u after : Opened) (new : WindowManager V H) → in_plane g.point ≡ true → true ≡ in_go_away g.window (desk_of loan t []) g.point → after.activity ≡ Tracking g.window
        → LeavesState loan (IsTrackingNotified true g.window) t new → LeavesDesk loan (IsFrameStep (asks.TrackGoAway g) (Ok (Tracked true))) t u new after
    begun u after new inside is opened leaves slots whole =
        let left = leaves slots whole in (left.0, (refused_or_not slots true inside, (is, (opened, left.1))))

    pub not_begun : (u : Opened) → in_plane g.point ≡ true → false ≡ in_go_away g.window (desk_of loan t []) g.point → LeavesDesk loan (IsFrameStep (asks.TrackGoAway g) (Ok (Tracked false))) t u t u
    not_begun u inside is slots whole = (whole, (refused_or_not slots true inside, (is, unchanged u slots)))

  module _ (u : Opened) (w : ℕ) (p : Point) (inside shows : Bool) (new : WindowManager V H) (open_is : Tracking w ≡ u.activity) (planar : in_plane p ≡ true) (is : inside ≡ in_go_away w (desk_of loan t []) p) (leaves : LeavesState loan (IsTrackingNotified shows w) t new) where
    free : first_refusal (tracking_refusals p) ≡ None
    free i = first_refusal ((not (planar i), OutOfRange) ∷ [])

    tracked_at : (after : Opened) (slots : List WindowSlot) (whole : IsWholeManager loan t slots) → IsTrackedAt p inside shows (desk_state loan t u slots) (desk_state loan new after slots)
    tracked_at after slots whole = record { window = w; tracked = sym open_is; answer = is; told = (leaves slots whole).1 }

  pub stepped : (u : Opened) (w : ℕ) (p : Point) (inside : Bool) (new : WindowManager V H) → Tracking w ≡ u.activity → in_plane p ≡ true → inside ≡ in_go_away w (desk_of loan t []) p
      → LeavesState loan (IsTrackingNotified inside w) t new → LeavesDesk loan (IsFrameStep (asks.StepGoAway p) (Ok (Tracked inside))) t u new u
  stepped u w p inside new open_is planar is leaves slots whole =
      ((leaves slots whole).0, (free u w p inside inside new open_is planar is leaves, (record { activity = refl; begun = refl }, tracked_at u w p inside inside new open_is planar is leaves u slots whole)))

  pub ended : (u : Opened) (w : ℕ) (p : Point) (inside : Bool) (new : WindowManager V H) → Tracking w ≡ u.activity → in_plane p ≡ true → inside ≡ in_go_away w (desk_of loan t []) p
      → LeavesState loan (IsTrackingNotified false w) t new → (after : Opened) → after.activity ≡ Idle → LeavesDesk loan (IsFrameStep (asks.EndGoAway p) (Ok (Tracked inside))) t u new after
  ended u w p inside new open_is planar is leaves after idle slots whole =
      ((leaves slots whole).0, (free u w p inside false new open_is planar is leaves, (idle, tracked_at u w p inside false new open_is planar is leaves after slots whole)))

  -- ---- the screen keeps its sides

  pub record SameScreen (new : WindowManager V H) : Type 0 where
    pub width : new.screen.width ≡ t.screen.width
    pub height : new.screen.height ≡ t.screen.height

  sides_stay : (kept : IsKept loan t) (new : WindowManager V H) (done : FullState → FullState → Type 0) → ((before after : FullState) → done before after → SameSides before.desk after.desk)
      → LeavesState loan done t new → SameScreen new
  sides_stay kept new done keeps leaves =
      let same = keeps _ _ (leaves kept.slots kept.whole).1 in
      record { width = ap nat_abs same.width; height = ap nat_abs same.height }

  pub told_stays_sized : (kept : IsKept loan t) (inside : Bool) (s : ℕ) (new : WindowManager V H) → LeavesState loan (IsTrackingNotified inside s) t new → SameScreen new
  told_stays_sized kept inside s new leaves =
      sides_stay kept new (IsTrackingNotified inside s) (λ before later told. record { width = tracking_keeps (λ d. d.width) (λ d ws. refl) inside s before later told; height = tracking_keeps (λ d. d.height) (λ d ws. refl) inside s before later told }) leaves

  pub frame_stays_sized : (kept : IsKept loan t) (s at : ℕ) → StandsAt t.windows.records.items s at → (news : WindowRecord → WindowNews → WindowNews) (f : WindowRecord → WindowRecord) (new : WindowManager V H)
      → ((w : Window V H) → IsWindowAt t.windows.records.items at w → LeavesState loan (IsFrameNotified w.serial news f) t new) → SameScreen new
  frame_stays_sized kept s at stands news f new leaves =
      sides_stay kept new (IsFrameNotified s news f) (λ before later told. record { width = frame_told_keeps (λ d. d.width) (λ d ws. refl) s news f before later told; height = frame_told_keeps (λ d. d.height) (λ d ws. refl) s news f before later told })
      (by_number kept s at stands new news f leaves)

-- the step of a call is that of the call that it is
pub of_call : {V : Type 0} {H : V → Type 0} (loan : TakenBox V H → WindowLoan) (t new : WindowManager V H) (u after : Opened) (call other : FrameCall) (result : Result FrameReply Refusal) → call ≡ other
    → LeavesDesk loan (IsFrameStep other result) t u new after → LeavesDesk loan (IsFrameStep call result) t u new after
of_call loan t new u after call other result is step = subst (λ k. LeavesDesk loan (IsFrameStep k result) t u new after) (sym is) step
