-- Where the view of a new list and its scroll bars may lie, and why a new list is refused, as the code judges it.
use Rattle.std.proofs.Common.{◌≡◌, ℕ, ◌<◌, ◌≤◌, ℤ, pos, negsuc, Bool, true, false, not, ◌&&◌, ◌||◌, List, [], ◌∷◌, ◌++◌, Option, Some, None, Result, Err, MatchResult, SFits, w32, refl, sym, ap, ◌∙◌, subst, arith}
use Rattle.std.specs.Prelude.{int_le, is_none, nat_le}
use Rattle.std.proofs.lemmas.Bool.{and_left, and_parts, and_right}
use Rattle.std.proofs.lemmas.Bool.Decides.{nat_tests}
use Rattle.std.proofs.lemmas.Int.{ints}
use Rattle.tb_geom.specs.declared.point.Point.{Point}
use Rattle.tb_geom.specs.declared.refusal.Refusal.{Refusal}
use Rattle.tb_geom.specs.declared.refusal.Refusal.TheVariants.{NoSuchWindow, OutOfRange, TooMany}
use Rattle.tb_geom.specs.Rects.{is_in_range, moved_rect}
use Rattle.tb_geom.specs.Refusals.{first_refusal}
use Rattle.def_iface.specs.declared.size.Size.{Size}
use Rattle.def_iface.specs.Slots.{TakenBox}
use Rattle.def_iface.specs.ControlMeaning.{ControlDefinition, ControlLoan, is_control_extent, is_control_size}
use Rattle.def_iface.specs.ListMeaning.{ListLoan}
use Rattle.def_iface.specs.WindowMeaning.{WindowLoan}
use Rattle.window_items.specs.Items as controls
use Rattle.window_items.specs.Items.{count_of}
use Rattle.window_items.proofs.SeenLemmas.{count_of-seen}
use Rattle.list_view.specs.Axes.{is_axis}
use Rattle.list_view.specs.Bars.{horizontal_bar, vertical_bar}
use Rattle.list_view.specs.Views.{IsView, View, view_rect}
use Rattle.desk_call.specs.declared.list.NewList.{NewList}
use Rattle.vis_update.specs.Records.{WindowRecord, record_of}
use Rattle.window_list.specs.declared.window.Window.{Window}
use Rattle.window_mgr.specs.declared.manager.WindowManager.{WindowManager}
use Rattle.window_mgr.specs.Edits.{IsWindowAt, StandsAt}
use Rattle.window_mgr.specs.Finding.{record_with}
use Rattle.window_mgr.specs.Kept.{IsKept}
use Rattle.window_mgr.specs.Records.{desk_of}
use Rattle.control_mgr.specs.declared.controls.Controls.{Controls}
use Rattle.control_mgr.specs.WholeControls as control_records
use Rattle.control_mgr.proofs.Judging.{window_is}
use Rattle.control_mgr.proofs.Steps.{first_behind, first_of}
use Rattle.list_mgr.specs.declared.judging.ListTicket.{ListTicket}
use Rattle.list_mgr.specs.declared.lists.Lists.{Lists}
use Rattle.list_mgr.specs.ListRefusals.{across_of, bars_wanted, down_of, have_room, may_bar_be_in, may_view_be_in, size_of, view_of}
use Rattle.list_mgr.specs.ListSteps.{vertical_bar_of}
use Rattle.list_mgr.specs.Making.{IsListTicket, judged_by, lie_refusals, number_refusals, room_refusals}
use Rattle.list_mgr.specs.WholeLists.{records_of}
use Rattle.list_mgr.proofs.Drawn.{extent_of}
use Rattle.list_mgr.specs.Seen.{kept_seen}

-- ---- sizes

extent_fits : (z : ℤ) → is_control_extent z ≡ true → SFits w32 z
extent_fits (pos n) h = by_tests (int_le (pos 1) (pos n)) (int_le (pos n) (pos 1024)) refl refl h
  where
    short : (n : ℕ) → n < 1025 → SFits w32 (pos n)
    short n below = search (arith, ints)

    by_tests : (a b : Bool) → int_le (pos 1) (pos n) ≡ a → int_le (pos n) (pos 1024) ≡ b → (a && b) ≡ true → SFits w32 (pos n)
    by_tests true true e f both = let below : n < 1025 = grind (arith, ints, f) in short n below
    by_tests true false e f both = absurd (cc)
    by_tests false b e f both = absurd (cc)
extent_fits (negsuc n) h = absurd (grind (arith, ints, h))

-- the width and the height of a control are numbers of 32 bits
pub size_fits : (s : Size) → is_control_size s ≡ true → SFits w32 s.width × SFits w32 s.height
size_fits s e = let both = and_parts (is_control_extent s.width) (is_control_extent s.height) e in (extent_fits s.width both.0, extent_fits s.height both.1)

-- the scroll bars of a view have a size that controls may have
pub vertical_fits : (v : View) → IsView v → is_control_size (size_of (vertical_bar v)) ≡ true
vertical_fits v is =
    let least = is.down.some in
    let most = is.down.short in
    ap (λ b. b && is_control_extent (size_of (vertical_bar v)).height) (extent_of (size_of (vertical_bar v)).width (omega (arith, ints)) (omega (arith, ints)))
    ∙ extent_of (size_of (vertical_bar v)).height (omega (arith, ints)) (omega (arith, ints))

pub horizontal_fits : (v : View) → IsView v → is_control_size (size_of (horizontal_bar v)) ≡ true
horizontal_fits v is =
    let least = is.across.some in
    let most = is.across.short in
    ap (λ b. b && is_control_extent (size_of (horizontal_bar v)).height) (extent_of (size_of (horizontal_bar v)).width (omega (arith, ints)) (omega (arith, ints)))
    ∙ extent_of (size_of (horizontal_bar v)).height (omega (arith, ints)) (omega (arith, ints))

-- ---- the view and its bars

-- a view or a cell of no such size
pub no_view : (n : NewList) (w : WindowRecord) → false ≡ (is_axis (across_of n) && is_axis (down_of n)) → false ≡ may_view_be_in n (Some w)
no_view n w e = ap (λ b. b && is_in_range (moved_rect (view_rect (view_of n)) w.place.h w.place.v)) e

-- one whose sizes may be so lies in the range of coordinates or not
pub view_lies : (n : NewList) (w : WindowRecord) (place : Point) (b : Bool) → w.place ≡ place → true ≡ (is_axis (across_of n) && is_axis (down_of n))
    → b ≡ is_in_range (moved_rect (view_rect (view_of n)) place.h place.v) → b ≡ may_view_be_in n (Some w)
view_lies n w place b there axes e =
    e ∙ ap (λ (q : Point). is_in_range (moved_rect (view_rect (view_of n)) q.h q.v)) (sym there)
    ∙ ap (λ a. a && is_in_range (moved_rect (view_rect (view_of n)) w.place.h w.place.v)) axes

three_hold : (a b c : Bool) → a ≡ true → b ≡ true → c ≡ true → first_refusal ((not a, OutOfRange) ∷ (not b, OutOfRange) ∷ (not c, OutOfRange) ∷ []) ≡ None
three_hold a b c e f g = λ i. first_refusal ((not (e i), OutOfRange) ∷ (not (f i), OutOfRange) ∷ (not (g i), OutOfRange) ∷ [])

one_of_three : (a b c : Bool) → (a && (b && c)) ≡ false → first_refusal ((not a, OutOfRange) ∷ (not b, OutOfRange) ∷ (not c, OutOfRange) ∷ []) ≡ Some OutOfRange
one_of_three true true true e = absurd (cc)
one_of_three true true false e = refl
one_of_three true false c e = refl
one_of_three false b c e = refl

module _ (n : NewList) (vertical horizontal : Option ControlDefinition) (w : WindowRecord) where
  abbrev view : Bool
  view = may_view_be_in n (Some w)

  abbrev down : Bool
  down = may_bar_be_in n.vertical_bar vertical (vertical_bar (view_of n)) (Some w)

  abbrev across : Bool
  across = may_bar_be_in n.horizontal_bar horizontal (horizontal_bar (view_of n)) (Some w)

  -- all may lie so in the window
  pub they_lie : view ≡ true → down ≡ true → across ≡ true → first_refusal (lie_refusals n vertical horizontal (Some w)) ≡ None
  they_lie e f g = three_hold view down across e f g

  -- one of them may not
  pub view_does_not : view ≡ false → first_refusal (lie_refusals n vertical horizontal (Some w)) ≡ Some OutOfRange
  view_does_not e = one_of_three view down across (and_left view (down && across) e)

  pub vertical_does_not : down ≡ false → first_refusal (lie_refusals n vertical horizontal (Some w)) ≡ Some OutOfRange
  vertical_does_not e = one_of_three view down across (and_right view (down && across) (and_left down across e))

  pub horizontal_does_not : across ≡ false → first_refusal (lie_refusals n vertical horizontal (Some w)) ≡ Some OutOfRange
  horizontal_does_not e = one_of_three view down across (and_right view (down && across) (and_right down across e))

-- ---- room

module _ {X : Type 0} {L : X → Type 0} (list_loan : TakenBox X L → ListLoan) (n : NewList) (m : Lists (TakenBox X L)) (count : ℕ) (bar : Option ℕ) where
  abbrev why : Bool → Bool → Option Refusal
  why full room = first_refusal ((full || is_none m.list.next, TooMany) ∷ (not room, TooMany) ∷ [])

  abbrev room : Bool
  room = have_room (bars_wanted n) count bar

  counted : first_refusal (room_refusals n count bar (records_of list_loan m) m.list.next) ≡ why (nat_le 8 (count_of n.window m.list.items.items)) room
  counted = ap (λ k. why (nat_le 8 k) room) (count_of-seen (kept_seen list_loan) n.window m.list.items.items)

  -- the window has as many lists as it may
  pub many_lists : 8 ≤ count_of n.window m.list.items.items → first_refusal (room_refusals n count bar (records_of list_loan m) m.list.next) ≡ Some TooMany
  many_lists e = counted ∙ (λ i. why (are_many (count_of n.window m.list.items.items) e i) room)
    where
      are_many : (k : ℕ) → 8 ≤ k → nat_le 8 k ≡ true
      are_many k e = grind (arith, nat_tests)

  -- its controls leave no room for the bars
  pub no_room : room ≡ false → first_refusal (room_refusals n count bar (records_of list_loan m) m.list.next) ≡ Some TooMany
  no_room e = counted ∙ ap (why (nat_le 8 (count_of n.window m.list.items.items))) e ∙ by_test (nat_le 8 (count_of n.window m.list.items.items) || is_none m.list.next)
    where
      by_test : (b : Bool) → first_refusal ((b, TooMany) ∷ (true, TooMany) ∷ []) ≡ Some TooMany
      by_test true = refl
      by_test false = refl

  -- no serial is left
  pub no_serial : m.list.next ≡ None → first_refusal (room_refusals n count bar (records_of list_loan m) m.list.next) ≡ Some TooMany
  no_serial e = counted ∙ ap (λ o. first_refusal ((nat_le 8 (count_of n.window m.list.items.items) || is_none o, TooMany) ∷ (not room, TooMany) ∷ [])) e
      ∙ by_test (nat_le 8 (count_of n.window m.list.items.items))
    where
      by_test : (b : Bool) → first_refusal ((b || true, TooMany) ∷ (not room, TooMany) ∷ []) ≡ Some TooMany
      by_test true = refl
      by_test false = refl

  pub is_room : (serial : ℕ) → m.list.next ≡ Some serial → count_of n.window m.list.items.items < 8 → room ≡ true
      → first_refusal (room_refusals n count bar (records_of list_loan m) m.list.next) ≡ None
  is_room serial e few there =
      counted ∙ (λ i. first_refusal ((are_few (count_of n.window m.list.items.items) few i || is_none (e i), TooMany) ∷ (not (there i), TooMany) ∷ []))
    where
      are_few : (k : ℕ) → k < 8 → nat_le 8 k ≡ false
      are_few k e = grind (arith, nat_tests)

-- ---- a new list

module _ {V : Type 0} {H : V → Type 0} (loan : TakenBox V H → WindowLoan) {W : Type 0} {K : W → Type 0} (control_loan : TakenBox W K → ControlLoan) {X : Type 0} {L : X → Type 0} (list_loan : TakenBox X L → ListLoan)
    (n : NewList) (vertical horizontal : Option ControlDefinition) (t : WindowManager V H) (c : Controls (TakenBox W K)) (m : Lists (TakenBox X L)) where
  abbrev rooms : List (Bool × Refusal)
  rooms = room_refusals n (controls.count_of n.window (control_records.records_of control_loan c)) c.list.next (records_of list_loan m) m.list.next

  abbrev reasons : Option WindowRecord → List (Bool × Refusal)
  reasons o = (is_none o, NoSuchWindow) ∷ (lie_refusals n vertical horizontal o ++ (number_refusals n ++ rooms))

  -- the window is missing
  pub no_window : record_with n.window (desk_of loan t []).windows ≡ None → judged_by loan control_loan list_loan n vertical horizontal t c m ≡ Some NoSuchWindow
  no_window e = ap (λ o. first_refusal (reasons o)) e

  -- an answer that is a refusal
  pub refused_so : (r : Result ListTicket Refusal) (e : Refusal) → r ≡ Err e → judged_by loan control_loan list_loan n vertical horizontal t c m ≡ Some e
      → MatchResult r (IsListTicket loan control_loan list_loan n vertical horizontal t c m) (λ why. judged_by loan control_loan list_loan n vertical horizontal t c m ≡ Some why)
  refused_so r e is why = subst (λ r. MatchResult r (IsListTicket loan control_loan list_loan n vertical horizontal t c m) (λ x. judged_by loan control_loan list_loan n vertical horizontal t c m ≡ Some x)) (sym is) why

  module _ (kept : IsKept loan t) (at : ℕ) (stands : StandsAt t.windows.records.items n.window at) (w : Window V H) (lies : IsWindowAt t.windows.records.items at w) where
    there : judged_by loan control_loan list_loan n vertical horizontal t c m ≡ first_refusal (lie_refusals n vertical horizontal (Some (record_of loan w)) ++ (number_refusals n ++ rooms))
    there = ap (λ o. first_refusal (reasons o)) (window_is loan control_loan (vertical_bar_of n) None t c kept at stands w lies)

    -- it may not lie so in its window
    pub lies_ill : (e : Refusal) → first_refusal (lie_refusals n vertical horizontal (Some (record_of loan w))) ≡ Some e → judged_by loan control_loan list_loan n vertical horizontal t c m ≡ Some e
    lies_ill e why = there ∙ first_of (lie_refusals n vertical horizontal (Some (record_of loan w))) (number_refusals n ++ rooms) e why

    module _ (well : first_refusal (lie_refusals n vertical horizontal (Some (record_of loan w))) ≡ None) where
      lain : judged_by loan control_loan list_loan n vertical horizontal t c m ≡ first_refusal (number_refusals n ++ rooms)
      lain = there ∙ first_behind (lie_refusals n vertical horizontal (Some (record_of loan w))) (number_refusals n ++ rooms) well

      -- its numbers may not be so
      pub counts_ill : (e : Refusal) → first_refusal (number_refusals n) ≡ Some e → judged_by loan control_loan list_loan n vertical horizontal t c m ≡ Some e
      counts_ill e why = lain ∙ first_of (number_refusals n) rooms e why

      module _ (good : first_refusal (number_refusals n) ≡ None) (count : ℕ) (bar : Option ℕ) (counted : count ≡ controls.count_of n.window (control_records.records_of control_loan c)) (next : bar ≡ c.list.next) where
        by_room : judged_by loan control_loan list_loan n vertical horizontal t c m ≡ first_refusal (room_refusals n count bar (records_of list_loan m) m.list.next)
        by_room = lain ∙ first_behind (number_refusals n) rooms good ∙ (λ i. first_refusal (room_refusals n (sym counted i) (sym next i) (records_of list_loan m) m.list.next))

        -- its window may not have it
        pub judged_ill : (e : Refusal) → first_refusal (room_refusals n count bar (records_of list_loan m) m.list.next) ≡ Some e → judged_by loan control_loan list_loan n vertical horizontal t c m ≡ Some e
        judged_ill e why = by_room ∙ why

        -- nothing is against it
        pub judged_well : first_refusal (room_refusals n count bar (records_of list_loan m) m.list.next) ≡ None → judged_by loan control_loan list_loan n vertical horizontal t c m ≡ None
        judged_well none = by_room ∙ none
