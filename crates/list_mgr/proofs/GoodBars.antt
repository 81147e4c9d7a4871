-- The scroll bars of a new list that may be: they have sizes and settings that controls may have, and what they are given.
use Rattle.std.proofs.Common.{◌≡◌, ℕ, suc, ◌+◌, ◌<◌, ◌≤◌, ℤ, pos, Bool, true, not, ◌&&◌, ◌||◌, [], nat_abs, Option, Some, None, refl, sym, ◌∙◌, subst, arith}
use Rattle.std.specs.Prelude.{int_le, nat_lt, ◌≤ℤ◌}
use Rattle.std.proofs.lemmas.Bool.{and_parts, false≢true, ltb-true}
use Rattle.std.proofs.lemmas.Int.{clamps, ints}
use Rattle.tb_geom.specs.declared.rect.Rect.{Rect}
use Rattle.window_items.specs.Items.{serial_after}
use Rattle.window_items.proofs.SeenLemmas.{count_of-seen}
use Rattle.control_values.specs.Settings.{is_in_range, nearest, settled}
use Rattle.def_iface.specs.Slots.{TakenBox}
use Rattle.def_iface.specs.ControlMeaning.{ControlDefinition, ControlLoan}
use Rattle.def_iface.specs.ListMeaning.{ListLoan}
use Rattle.def_iface.specs.WindowMeaning.{WindowLoan}
use Rattle.window_items.proofs.SeenLemmas as lists_seen
use Rattle.list_view.specs.declared.axis.Axis.{Axis}
use Rattle.list_view.specs.Axes.{bound}
use Rattle.desk_call.specs.declared.list.NewList.{NewList}
use Rattle.vis_update.specs.Records.{record_of}
use Rattle.window_list.specs.declared.window.Window.{Window}
use Rattle.window_mgr.specs.declared.manager.WindowManager.{WindowManager}
use Rattle.window_mgr.specs.Edits.{IsWindowAt}
use Rattle.window_mgr.specs.Finding.{record_with}
use Rattle.window_mgr.specs.Kept.{IsKept}
use Rattle.window_mgr.specs.Records.{desk_of}
use Rattle.window_mgr.proofs.Steps.{found}
use Rattle.control_mgr.specs.declared.controls.Controls.{Controls}
use Rattle.control_mgr.specs.declared.making.Ticket.{Ticket}
use Rattle.control_mgr.specs.ControlRefusals.{is_setting, most_controls}
use Rattle.control_mgr.specs.Judged.{may_be_in, may_be_placed}
use Rattle.control_mgr.specs.Making.{IsTicket}
use Rattle.control_mgr.specs.Making as control_making
use Rattle.control_mgr.specs.WholeControls as control_records
use Rattle.control_mgr.proofs.Judging.{is_given}
use Rattle.control_mgr.proofs.Places.{read_is, there_is}
use Rattle.list_mgr.specs.declared.judging.ListTicket.{ListTicket}
use Rattle.list_mgr.specs.declared.lists.Lists.{Lists}
use Rattle.list_mgr.specs.declared.new_bars.Bar.{Bar}
use Rattle.list_mgr.specs.ListRefusals.{corner_of, have_room, may_bar_be_in, may_view_be_in, most_lists, size_of, view_of}
use Rattle.list_mgr.specs.Making.{IsListTicket}
use Rattle.list_mgr.specs.NewBars.{IsGoodBar, bar_control, bar_ticket, horizontal_of, vertical_of}
use Rattle.list_mgr.specs.Putting.{IsGoodList, IsPlace}
use Rattle.list_mgr.proofs.Judged.{horizontal_fits, vertical_fits}
use Rattle.list_mgr.proofs.NewLists.{good_of, room_here, view_fits, view_may}
use Rattle.list_mgr.specs.Seen.{kept_seen}
use Rattle.control_mgr.specs.Seen.{kept_seen as control_kept_seen}

-- ---- settings

in_range : (z : ℤ) → pos 0 ≤ℤ z → z ≤ℤ pos 4096 → is_in_range z ≡ true
unfolding is_in_range
in_range z least most = grind (arith, ints)

int_le_so : (a b : ℤ) → a ≤ℤ b → int_le a b ≡ true
int_le_so a b le = grind (arith, ints)

module _ (a : Axis) (count : ℕ) (few : count ≤ 4096) where
  bound_least : pos 0 ≤ℤ bound a count
  bound_least = omega (arith, ints, clamps)

  bound_most : bound a count ≤ℤ pos 4096
  bound_most = omega (arith, ints, clamps, few)

  scrolled_setting : (first : ℤ) → is_setting (pos 0) (bound a count) (nearest (pos 0) (bound a count) first) ≡ true
  scrolled_setting first =
      let low = bound_least in
      let high = bound_most in
      let value = nearest (pos 0) (bound a count) first in
      (λ i. in_range (pos 0) (omega (arith, ints)) (omega (arith, ints)) i
      && (in_range (bound a count) low high i && (in_range value (omega (arith, ints, clamps)) (omega (arith, ints, clamps, low, high)) i && int_le_so (pos 0) (bound a count) low i)))

  scrolled_kept : (first : ℤ) → settled (pos 0) (bound a count) first ≡ settled (pos 0) (bound a count) (nearest (pos 0) (bound a count) first)
  scrolled_kept first = let low = bound_least in λ i. record { minimum = pos 0; maximum = bound a count; value = nearest_twice (bound a count) first low i }
    where
      nearest_twice : (high z : ℤ) → pos 0 ≤ℤ high → nearest (pos 0) high z ≡ nearest (pos 0) high (nearest (pos 0) high z)
      nearest_twice high z some = omega (arith, ints, clamps, some)

-- the bars of a list whose view and cells are such
pub good_vertical : (n : NewList) → IsGoodList n → IsGoodBar (vertical_of n)
good_vertical n good = record {
  sized = vertical_fits (view_of n) good.view;
  setting = scrolled_setting (view_of n).down (nat_abs n.rows) good.grid.rows_within (pos 0);
  kept = scrolled_kept (view_of n).down (nat_abs n.rows) good.grid.rows_within (pos 0);
}

pub good_horizontal : (n : NewList) → IsGoodList n → IsGoodBar (horizontal_of n)
good_horizontal n good = record {
  sized = horizontal_fits (view_of n) good.view;
  setting = scrolled_setting (view_of n).across (nat_abs n.columns) good.grid.columns_within (pos 0);
  kept = scrolled_kept (view_of n).across (nat_abs n.columns) good.grid.columns_within (pos 0);
}

-- ---- room

-- there is room for one control more
pub record IsRoomFor (count : ℕ) (next : Option ℕ) : Type 0 where
  pub serial : ℕ
  pub given : next ≡ Some serial
  pub few : count < 64

pub room_of : (more count : ℕ) (next : Option ℕ) → have_room (suc more) count next ≡ true → (r : IsRoomFor count next) × (have_room more (count + 1) (serial_after r.serial) ≡ true)
room_of more count None e = absurd (false≢true e)
room_of more count (Some s) e =
    let both = and_parts (nat_lt count 64) (have_room more (count + 1) (serial_after s)) e in
    (record { serial = s; given = refl; few = ltb-true count 64 both.0 }, both.1)

-- ---- tickets

module _ {V : Type 0} {H : V → Type 0} (loan : TakenBox V H → WindowLoan) {W : Type 0} {K : W → Type 0} (control_loan : TakenBox W K → ControlLoan) where
  -- nothing but its kind and memory refuses a bar that has its ticket, where its window has fewer controls than it may have
  pub bar_judged : (window : ℕ) (b : Bar) (d : ControlDefinition) (t : WindowManager V H) (c : Controls (TakenBox W K)) (k : Ticket) → IsKept loan t → IsGoodBar b
      → IsTicket control_loan (bar_control window b) (Some d) t c k → k.layer < 64 → control_making.judged_by loan control_loan (bar_control window b) (Some d) t c ≡ None
  bar_judged window b d t c k kept good ticket few =
      let there = there_is t.windows.records.items k.window ticket.window.0 in
      let w : Window V H = there.item in
      let lies : IsWindowAt t.windows.records.items k.window w = read_is t.windows.records.items k.window w there.there in
      is_given loan control_loan (bar_control window b) (Some d) t c kept k.window ticket.window w lies (ticket.placed w lies) good.setting (omega arith) k.serial ticket.serial
      (let count = ticket.layer ∙ count_of-seen (control_kept_seen control_loan) window c.list.items.items in omega (arith, count, few))

  module _ {X : Type 0} {L : X → Type 0} (list_loan : TakenBox X L → ListLoan) (n : NewList) (vertical horizontal : Option ControlDefinition) (t : WindowManager V H) (c : Controls (TakenBox W K)) (m : Lists (TakenBox X L)) (k : ListTicket)
      (kept : IsKept loan t) (ticket : IsListTicket loan control_loan list_loan n vertical horizontal t c m k) where
    window_is : (w : Window V H) → IsWindowAt t.windows.records.items k.window w → record_with n.window (desk_of loan t []).windows ≡ Some (record_of loan w)
    window_is w lies = found loan t t kept.slots kept.whole k.window n.window w ticket.window.0 lies (ticket.window.1 w lies)

    -- where the list is put
    pub place_of : IsPlace n t m k
    place_of = record {
      window = ticket.window;
      serial = ticket.serial;
      flags = ticket.flags;
      view = ticket.view;
      good = good_of n vertical horizontal (desk_of loan t []) (control_records.records_of control_loan c) c.list.next _ m.list.next ticket.judged;
      fits = λ w lies. view_fits n (record_of loan w) (subst (λ o. may_view_be_in n o ≡ true) (window_is w lies)
          (view_may n vertical horizontal (desk_of loan t []) (control_records.records_of control_loan c) c.list.next _ m.list.next ticket.judged));
      few = subst (λ k. k < most_lists) (lists_seen.count_of-seen (kept_seen list_loan) n.window m.list.items.items)
          (room_here n vertical horizontal (desk_of loan t []) (control_records.records_of control_loan c) c.list.next _ m.list.next ticket.judged);
    }

    -- a bar that is wanted may lie in its window
    pub bar_placed : (wanted : Bool) (o : Option ControlDefinition) (rect : Rect) (d : ControlDefinition) → wanted ≡ true → o ≡ Some d
        → may_bar_be_in wanted o rect (record_with n.window (desk_of loan t []).windows) ≡ true
        → (w : Window V H) → IsWindowAt t.windows.records.items k.window w → may_be_placed (Some d) (corner_of rect) (size_of rect) w.place ≡ true
    bar_placed wanted o rect d true_is is may w lies =
        sym (λ i. not (true_is i) || may_be_in (is i) (corner_of rect) (size_of rect) (window_is w lies i)) ∙ may

    -- what the first bar is given
    pub first_ticket : (b : Bar) (d : ControlDefinition) (serial : ℕ) → IsGoodBar b → c.list.next ≡ Some serial → k.controls < most_controls
        → ((w : Window V H) → IsWindowAt t.windows.records.items k.window w → may_be_placed (Some d) (corner_of b.rect) (size_of b.rect) w.place ≡ true)
        → IsTicket control_loan (bar_control n.window b) (Some d) t c (bar_ticket k.window serial k.controls b)
    first_ticket b d serial good next few placed = record {
      window = ticket.window;
      placed = placed;
      serial = next;
      values = good.kept;
      title = refl;
      layer = ticket.controls;
      few = few;
    }
