-- A list that was changed where it stands, shown or marked, and its scroll bars set after it: what that leaves.
use Rattle.std.proofs.Common.{◌≡◌, ℕ, ◌<◌, Bool, true, false, List, [], length, Option, Some, None, refl, sym, ap, ◌∙◌, subst}
use Rattle.std.specs.Prelude.{map, slice_get}
use Rattle.std.specs.Option.{option_and_then, option_map}
use Rattle.std.proofs.lemmas.Option.{slice_get-map}
use Rattle.std.proofs.lemmas.List.{length-map}
use Rattle.tb_geom.specs.declared.rect.Rect.{Rect}
use Rattle.tb_geom.specs.Pixels.{Pixels}
use Rattle.def_iface.specs.Slots.{TakenBox}
use Rattle.def_iface.specs.ControlMeaning.{ControlLoan}
use Rattle.def_iface.specs.ListMeaning.{ListLoan}
use Rattle.def_iface.specs.WindowMeaning.{WindowLoan}
use Rattle.def_iface.specs.WindowSlots.{WindowSlot}
use Rattle.window_items.specs.Items.{edit_at}
use Rattle.desk_call.specs.declared.list.ListOf.{ListOf}
use Rattle.vis_update.specs.Records.{WindowRecord, record_of}
use Rattle.window_list.specs.declared.window.Window.{Window}
use Rattle.window_mgr.specs.declared.manager.WindowManager.{WindowManager}
use Rattle.window_mgr.specs.DeskStates.{Opened}
use Rattle.window_mgr.specs.Edits.{StandsAt}
use Rattle.window_mgr.specs.FullDesk.{FullDesk}
use Rattle.window_mgr.specs.Kept.{IsKept}
use Rattle.window_mgr.specs.Records.{desk_of}
use Rattle.window_mgr.specs.Refused.{is_missing}
use Rattle.window_mgr.specs.Whole.{IsWholeManager}
use Rattle.control_mgr.specs.declared.controls.Controls.{Controls}
use Rattle.control_mgr.specs.ControlDesks.{ControlSlot}
use Rattle.control_mgr.specs.WholeControls.{AreBeside as AreControlsBeside, AreWholeControls, controls_state}
use Rattle.control_mgr.proofs.Places.{get_is, read_is, there_is}
use Rattle.list_mgr.specs.declared.lists.Lists.{Lists}
use Rattle.list_mgr.specs.declared.spots.ListAt.{ListAt}
use Rattle.list_mgr.specs.Changing.{IsMark, IsSameOrNot, IsShownOrMarked}
use Rattle.list_mgr.specs.Lines.{IsShownWithBars}
use Rattle.list_mgr.specs.ListDesks.{KeptList, ListDesk, ListSlot, lists_show}
use Rattle.list_mgr.specs.ListSteps.{AreBarsSet, IsListChanged, IsRelined}
use Rattle.list_mgr.specs.Spots.{IsSpot, IsSpotOf}
use Rattle.list_mgr.specs.WholeLists.{AreBeside, AreWholeLists, IsChangedOver, IsSettledList, LeavesLists, list_desk, lists_state, records_of}
use Rattle.list_mgr.specs.Within.{IsSameOutside, IsWhereRight}
use Rattle.list_mgr.proofs.Changed.{beside_after, changed_over, mark_after, spot_after, spot_of_after}
use Rattle.list_mgr.proofs.Edited.{Keeps}
use Rattle.list_mgr.proofs.ListsKept.{IsRightLists, changed_keeps}
use Rattle.list_mgr.proofs.Steps.{list_there}
use Rattle.tb_geom.specs.Points.{PixelSet}
use Rattle.desk_layers.specs.declared.part.Part.{Part}

-- ---- windows whose records are the same

-- a window stands where it stood
stands_alike : {V : Type 0} {H : V → Type 0} (loan : TakenBox V H → WindowLoan) (ws vs : List (Window V H)) → map (record_of loan) vs ≡ map (record_of loan) ws → (s i : ℕ) → StandsAt ws s i → StandsAt vs s i
stands_alike loan ws vs same s i stands =
    let low : i < length vs = subst (λ n. i < n) (sym (length-map ws (record_of loan)) ∙ ap length (sym same) ∙ length-map vs (record_of loan)) stands.0 in
    let w = there_is ws i stands.0 in (
      low,
      λ v v_is.
          let both : Some (record_of loan v) ≡ Some (record_of loan w.item) =
          sym (slice_get-map (record_of loan) vs i ∙ ap (option_map (record_of loan)) (get_is vs i v low v_is))
          ∙ ap (λ rs. slice_get rs i) same ∙ slice_get-map (record_of loan) ws i ∙ ap (option_map (record_of loan)) w.there in
          let one : record_of loan v ≡ record_of loan w.item = cc in
          ap (λ (r : WindowRecord). r.serial) one ∙ stands.1 w.item (read_is ws i w.item w.there),
    )

module _ {V : Type 0} {H : V → Type 0} (loan : TakenBox V H → WindowLoan) {X : Type 0} {L : X → Type 0} (list_loan : TakenBox X L → ListLoan) where
  -- what shows a list or marks it keeps the windows' records
  shown_windows : (within : Rect) (mark : Option Pixels) (changes : Bool) (s : ListAt) (m : Lists (TakenBox X L)) (t u : WindowManager V H) → IsShownOrMarked list_loan loan within mark changes s m t u
      → (x : KeptList) → slice_get (records_of list_loan m) s.list ≡ Some x → (slots : List WindowSlot) → IsWholeManager loan t slots
      → IsWholeManager loan u slots × ((desk_of loan u []).windows ≡ (desk_of loan t []).windows)
  shown_windows within None changes s m t u shown x there slots whole =
      let shows = lists_show (λ font q p. false) (records_of list_loan m) in
      let left = shown x there shows shows (λ p. refl) slots whole in
      (left.0, ap (λ (d : FullDesk). d.windows) left.1.desk)
  shown_windows within (Some update) true s m t u marked x there slots whole =
      let shows = lists_show (λ font q p. false) (records_of list_loan m) in
      let left = marked x there shows shows slots whole in
      (left.0, ap (λ (d : FullDesk). d.windows) left.1.desk)
  shown_windows within (Some update) false s m t u same x there slots whole =
      subst (λ v. IsWholeManager loan v slots × ((desk_of loan v []).windows ≡ (desk_of loan t []).windows)) (sym same) (whole, refl)

  module _ (t u : WindowManager V H) (same : (desk_of loan u []).windows ≡ (desk_of loan t []).windows) (m : Lists (TakenBox X L)) where
    -- a list and its window stand where they stood
    pub spot_alike : (l : ListOf) (s : ListAt) → IsSpotOf loan list_loan l t m s → IsSpotOf loan list_loan l u m s
    spot_alike l s is = record {
      window = stands_alike loan t.windows.records.items u.windows.records.items same l.window s.window is.window;
      there = ap (is_missing l.window) same ∙ is.there;
      list = is.list;
      low = is.low;
    }

    lists_alike : AreBeside list_loan loan t m → AreBeside list_loan loan u m
    lists_alike beside = record { slots = beside.slots; whole = subst (λ ws. AreWholeLists ws (lists_state list_loan m beside.slots)) (sym same) beside.whole }

  -- ---- once a list was shown or marked

  module _ (t u : WindowManager V H) (m : Lists (TakenBox X L)) (s : ListAt) (spot : IsSpot loan list_loan t m s) (kept : IsKept loan t)
      (within : Rect) (mark : Option Pixels) (changes : Bool) (shown : IsShownOrMarked list_loan loan within mark changes s m t u) where
    left : IsWholeManager loan u kept.slots × ((desk_of loan u []).windows ≡ (desk_of loan t []).windows)
    left = let its = list_there loan list_loan spot.of t m s spot.is in shown_windows within mark changes s m t u shown its.item its.there kept.slots kept.whole

    pub kept_shown : IsKept loan u
    kept_shown = record { slots = kept.slots; whole = left.0 }

    pub lists_shown : AreBeside list_loan loan t m → AreBeside list_loan loan u m
    lists_shown = lists_alike t u left.1 m

    pub spot_of_shown : (l : ListOf) → IsSpotOf loan list_loan l t m s → IsSpotOf loan list_loan l u m s
    spot_of_shown l is = spot_alike t u left.1 m l s is

    pub spot_shown : IsSpot loan list_loan u m s
    spot_shown = record { of = spot.of; is = spot_of_shown spot.of spot.is }

    pub controls_shown : {W : Type 0} {K : W → Type 0} (control_loan : TakenBox W K → ControlLoan) (c : Controls (TakenBox W K)) → AreControlsBeside control_loan loan t c → AreControlsBeside control_loan loan u c
    controls_shown control_loan c beside = record { slots = beside.slots; whole = subst (λ ws. AreWholeControls ws (controls_state control_loan c beside.slots)) (sym left.1) beside.whole }

  -- ---- a list that was changed

  -- the list that stands here was changed so, which keeps its place, its drawing, and that it is settled
  pub record IsChange (l : ListOf) (t : WindowManager V H) (m n : Lists (TakenBox X L)) (s : ListAt) (f : KeptList → KeptList) : Type 0 where
    pub is : IsSpotOf loan list_loan l t m s
    pub keeps : Keeps f
    pub draws : (x : KeptList) → (f x).kept.drawing ≡ x.kept.drawing
    pub edited : records_of list_loan n ≡ edit_at f s.list (records_of list_loan m)
    pub next : n.list.next ≡ m.list.next
    pub stays : (x : KeptList) → slice_get (records_of list_loan m) s.list ≡ Some x → IsSettledList x → IsSettledList (f x)

  module _ (l : ListOf) (t : WindowManager V H) (m n : Lists (TakenBox X L)) (s : ListAt) (f : KeptList → KeptList) (change : IsChange l t m n s f) where
    pub beside_changed : AreBeside list_loan loan t m → AreBeside list_loan loan t n
    beside_changed = beside_after loan list_loan l t m n s change.is f change.keeps change.edited change.next change.stays

    pub spot_changed : IsSpot loan list_loan t n s
    spot_changed = spot_after loan list_loan l t m n s change.is f change.keeps change.edited change.next change.stays

    pub mark_changed : (mark : Option Pixels) → IsMark list_loan loan t m s mark → IsMark list_loan loan t n s mark
    mark_changed = mark_after loan list_loan l t m n s change.is f change.keeps change.edited change.next change.stays change.draws

    -- the change shown or marked, and the bars set after it
    pub relined_over : {W : Type 0} {K : W → Type 0} (control_loan : TakenBox W K → ControlLoan) (within : Rect) → ((x : KeptList) → slice_get (records_of list_loan m) s.list ≡ Some x → IsSettledList x → IsSameOutside within x (f x))
        → (mark : Option Pixels) (changes : Bool) → IsMark list_loan loan t m s mark → ((x : KeptList) → slice_get (records_of list_loan m) s.list ≡ Some x → IsSameOrNot changes (f x) x)
        → (u : WindowManager V H) (c d : Controls (TakenBox W K)) → IsShownWithBars control_loan loan list_loan within mark changes s n t c u d
        → LeavesLists list_loan loan control_loan (IsWhereRight (IsRelined l f)) t c m u d n
    relined_over control_loan within outside mark changes marked agree u c d shown held kept others o slots whole controls lists =
        by_shown (shown l (spot_of_after loan list_loan l t m n s change.is f change.keeps change.edited change.next change.stays))
      where
        by_changed : (mid : WindowManager V H) → LeavesLists list_loan loan control_loan (IsWhereRight (AreBarsSet l)) mid c n u d n
            → IsWholeManager loan mid slots × ((desk_of loan mid []).windows ≡ (desk_of loan t []).windows) × AreWholeLists (desk_of loan mid []).windows (lists_state list_loan n kept)
            × IsWhereRight (IsListChanged l f) (list_desk list_loan loan t others o slots (controls_state control_loan c held) m kept) (list_desk list_loan loan mid others o slots (controls_state control_loan c held) n kept)
            → IsWholeManager loan u slots × AreWholeControls (desk_of loan u []).windows (controls_state control_loan d held) × AreWholeLists (desk_of loan u []).windows (lists_state list_loan n kept)
            × IsWhereRight (IsRelined l f) (list_desk list_loan loan t others o slots (controls_state control_loan c held) m kept) (list_desk list_loan loan u others o slots (controls_state control_loan d held) n kept)
        by_changed mid bars (whole_mid, windows, lists_mid, changed) =
            let set = bars held kept others o slots whole_mid (subst (λ ws. AreWholeControls ws (controls_state control_loan c held)) (sym windows) controls) lists_mid in
            let before = list_desk list_loan loan t others o slots (controls_state control_loan c held) m kept in
            let between = list_desk list_loan loan mid others o slots (controls_state control_loan c held) n kept in (
              set.0,
              set.1,
              set.2,
              λ right.
                  let then : IsRightLists between = changed_keeps before between (record { desk = record { right = right; shows = refl; whole = controls }; lists = lists })
                  l f change.keeps (λ x named. change.stays x (ap (λ o. option_and_then (slice_get (records_of list_loan m)) o) (sym change.is.list) ∙ named)) (changed right) in
                  (between, changed right, set.3 then.desk.right),
            )

        by_shown : (mid : WindowManager V H) × IsShownOrMarked list_loan loan within mark changes s n t mid × LeavesLists list_loan loan control_loan (IsWhereRight (AreBarsSet l)) mid c n u d n
            → IsWholeManager loan u slots × AreWholeControls (desk_of loan u []).windows (controls_state control_loan d held) × AreWholeLists (desk_of loan u []).windows (lists_state list_loan n kept)
            × IsWhereRight (IsRelined l f) (list_desk list_loan loan t others o slots (controls_state control_loan c held) m kept) (list_desk list_loan loan u others o slots (controls_state control_loan d held) n kept)
        by_shown (mid, is_shown, bars) =
            by_changed mid bars
            (changed_over loan list_loan l t m n s change.is f change.keeps change.edited change.next change.stays within outside mark changes marked agree mid is_shown others o slots (controls_state control_loan c held) kept whole lists)

-- ---- steps that leave controls

module _ {V : Type 0} {H : V → Type 0} (loan : TakenBox V H → WindowLoan) {X : Type 0} {L : X → Type 0} (list_loan : TakenBox X L → ListLoan) {W : Type 0} {K : W → Type 0} (control_loan : TakenBox W K → ControlLoan) where
  pub leaves_controls : (step : ListDesk → ListDesk → Type 0) (t u : WindowManager V H) (m n : Lists (TakenBox X L)) (c : Controls (TakenBox W K))
      → IsChangedOver list_loan loan step t m u n → LeavesLists list_loan loan control_loan step t c m u c n
  leaves_controls step t u m n c over held kept others o slots whole controls lists = again (over others o slots (controls_state control_loan c held) kept whole lists)
    where
      again : IsWholeManager loan u slots × ((desk_of loan u []).windows ≡ (desk_of loan t []).windows) × AreWholeLists (desk_of loan u []).windows (lists_state list_loan n kept)
          × step (list_desk list_loan loan t others o slots (controls_state control_loan c held) m kept) (list_desk list_loan loan u others o slots (controls_state control_loan c held) n kept)
          → IsWholeManager loan u slots × AreWholeControls (desk_of loan u []).windows (controls_state control_loan c held) × AreWholeLists (desk_of loan u []).windows (lists_state list_loan n kept)
          × step (list_desk list_loan loan t others o slots (controls_state control_loan c held) m kept) (list_desk list_loan loan u others o slots (controls_state control_loan c held) n kept)
      again (a, windows, b, done) = (a, subst (λ ws. AreWholeControls ws (controls_state control_loan c held)) (sym windows) controls, b, done)

  -- what a call leaves is a step of another kind as well
  pub leaves_as : (P Q : ListDesk → ListDesk → Type 0) (t u : WindowManager V H) (m n : Lists (TakenBox X L)) (c d : Controls (TakenBox W K))
      → ((others : List ℕ → Part → PixelSet) (o : Opened) (slots : List WindowSlot) (held : List ControlSlot) (kept : List ListSlot)
      → P (list_desk list_loan loan t others o slots (controls_state control_loan c held) m kept) (list_desk list_loan loan u others o slots (controls_state control_loan d held) n kept)
      → Q (list_desk list_loan loan t others o slots (controls_state control_loan c held) m kept) (list_desk list_loan loan u others o slots (controls_state control_loan d held) n kept))
      → LeavesLists list_loan loan control_loan P t c m u d n → LeavesLists list_loan loan control_loan Q t c m u d n
  leaves_as P Q t u m n c d same over held kept others o slots whole controls lists = again (over held kept others o slots whole controls lists)
    where
      again : IsWholeManager loan u slots × AreWholeControls (desk_of loan u []).windows (controls_state control_loan d held) × AreWholeLists (desk_of loan u []).windows (lists_state list_loan n kept)
          × P (list_desk list_loan loan t others o slots (controls_state control_loan c held) m kept) (list_desk list_loan loan u others o slots (controls_state control_loan d held) n kept)
          → IsWholeManager loan u slots × AreWholeControls (desk_of loan u []).windows (controls_state control_loan d held) × AreWholeLists (desk_of loan u []).windows (lists_state list_loan n kept)
          × Q (list_desk list_loan loan t others o slots (controls_state control_loan c held) m kept) (list_desk list_loan loan u others o slots (controls_state control_loan d held) n kept)
      again (a, b, e, p) = (a, b, e, same others o slots held kept p)
