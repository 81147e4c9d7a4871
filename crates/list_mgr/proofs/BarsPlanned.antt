-- A list that may be put with both scroll bars: these planned one after the other, and the list behind them.
use Rattle.std.proofs.Common.{◌≡◌, ℕ, ◌+◌, ◌^◌, ◌<◌, ◌≤◌, Bool, true, false, if◌then◌else◌, [], length, get_or, nat_abs, Some, refl, sym, ap, ◌∙◌, subst, arith}
use Rattle.std.specs.Prelude.{nat_lt, vec_capacity}
use Rattle.std.proofs.lemmas.Bool.{ltb-true}
use Rattle.std.proofs.lemmas.Option.{cond_some, same_Some}
use Rattle.window_items.specs.Items.{count_of, serial_after}
use Rattle.def_iface.specs.Slots.{TakenBox}
use Rattle.def_iface.specs.ControlMeaning.{ControlLoan}
use Rattle.def_iface.specs.ListMeaning.{ListLoan}
use Rattle.def_iface.specs.WindowMeaning.{WindowLoan}
use Rattle.list_cells.specs.Grids.{Grid, empty_grid}
use Rattle.list_view.specs.Views.{View}
use Rattle.list_view.specs.Bars.{horizontal_bar, vertical_bar}
use Rattle.desk_call.specs.declared.control.NewControl.{NewControl}
use Rattle.desk_call.specs.declared.list.NewList.{NewList}
use Rattle.vis_update.specs.declared.area.Area.{Area}
use Rattle.window_list.specs.declared.window.Window.{Window}
use Rattle.window_mgr.specs.declared.manager.WindowManager.{WindowManager}
use Rattle.window_mgr.specs.Edits.{IsWindowAt}
use Rattle.window_mgr.specs.Kept.{IsKept}
use Rattle.window_mgr.specs.Records.{desk_of}
use Rattle.window_mgr.proofs.Contents as contents
use Rattle.window_mgr.proofs.Remarked.{area_there}
use Rattle.control_mgr.specs.declared.controls.Controls.{Controls}
use Rattle.control_mgr.specs.declared.making.Addition.{Addition}
use Rattle.control_mgr.specs.declared.making.Ticket.{Ticket}
use Rattle.control_mgr.specs.Judged.{may_be_placed}
use Rattle.control_mgr.specs.Making.{IsAddition, IsGrown, IsReadyToAdd, IsRoomier, IsTicket, IsTicketAfter, MayGrow}
use Rattle.control_mgr.specs.Planned.{IsLaidSo}
use Rattle.control_mgr.specs.WholeControls as control_records
use Rattle.control_mgr.proofs.Added.{may_grow}
use Rattle.control_mgr.proofs.Lays.{one_item}
use Rattle.control_mgr.proofs.PlannedNext.{may_grow_after, next_is}
use Rattle.list_mgr.specs.declared.judging.ListTicket.{ListTicket}
use Rattle.list_mgr.specs.declared.lists.Lists.{Lists}
use Rattle.list_mgr.specs.declared.new_bars.Bar.{Bar}
use Rattle.list_mgr.specs.declared.planning.Planned.{Planned}
use Rattle.list_mgr.specs.ListRefusals.{corner_of, have_room, size_of, view_of}
use Rattle.list_mgr.specs.NewBars.{IsGoodBar, bar_control, bar_ticket, horizontal_in, horizontal_of, vertical_in, vertical_of}
use Rattle.list_mgr.specs.Putting.{AreBarsTaken, IsPlace, IsPlannedWithBars, IsPlanOfList, IsTwoBarTicket, MayLay}
use Rattle.list_mgr.specs.WholeLists.{AreBeside, records_of}
use Rattle.list_mgr.proofs.BarAdded.{bar_planned, may_lay_after}
use Rattle.list_mgr.proofs.GoodBars.{IsRoomFor, bar_placed, first_ticket, good_horizontal, good_vertical, place_of, room_of}
use Rattle.list_mgr.proofs.ListLayers.{may_lay}
use Rattle.list_mgr.proofs.NewLists.{horizontal_may, room_for, vertical_may}

module _ {V : Type 0} {H : V → Type 0} (loan : TakenBox V H → WindowLoan) {W : Type 0} {K : W → Type 0} (control_loan : TakenBox W K → ControlLoan) {X : Type 0} {L : X → Type 0} (list_loan : TakenBox X L → ListLoan)
    (n : NewList) (k : ListTicket) (d e : ControlLoan) (t : WindowManager V H) (c : Controls (TakenBox W K)) (m : Lists (TakenBox X L)) (kept : IsKept loan t) (took : AreBarsTaken loan control_loan d e t c)
    (lists : AreBeside list_loan loan t m) (may : IsTwoBarTicket loan control_loan list_loan n d.definition e.definition t c m k) where
  pub place : IsPlace n t m k
  place = place_of loan control_loan list_loan n (Some d.definition) (Some e.definition) t c m k kept may.ticket

  pub first_good : IsGoodBar (vertical_of n)
  first_good = good_vertical n place.good

  pub second_good : IsGoodBar (horizontal_of n)
  second_good = good_horizontal n place.good

  abbrev count : ℕ
  count = count_of n.window (control_records.records_of control_loan c)

  pub room : (r : IsRoomFor count c.list.next) × (have_room 1 (count + 1) (serial_after r.serial) ≡ true)
  room = room_of 1 count c.list.next
      (subst (λ (x : Bool × Bool). have_room ((if x.0 then 1 else 0) + (if x.1 then 1 else 0)) count c.list.next ≡ true) (λ i. (may.vertical_wanted i, may.horizontal_wanted i))
      (room_for n (Some d.definition) (Some e.definition) (desk_of loan t []) (control_records.records_of control_loan c) c.list.next (records_of list_loan m) m.list.next may.ticket.judged))

  second_room : IsRoomFor (count + 1) (serial_after room.0.serial)
  second_room = (room_of 0 (count + 1) (serial_after room.0.serial) room.1).0

  -- serials are left for both, and the window may have both
  pub given : k.bar ≡ Some room.0.serial
  given = may.ticket.bar ∙ room.0.given

  pub next_given : (s : ℕ) → k.bar ≡ Some s → serial_after s ≡ Some (s + 1)
  next_given s e =
      let same : s ≡ room.0.serial = same_Some s room.0.serial (sym e ∙ given) in
      let after : serial_after s ≡ Some second_room.serial = ap serial_after same ∙ second_room.given in
      after ∙ ap Some (next_is s second_room.serial after)

  pub next_low : (s : ℕ) → k.bar ≡ Some s → s + 1 < 2 ^ 64
  next_low s e = ltb-true (s + 1) (2 ^ 64) (cond_some (nat_lt (s + 1) (2 ^ 64)) (s + 1) (s + 1) (next_given s e)).0

  pub few : k.controls + 1 < 64
  few = let is = may.ticket.controls in let less = second_room.few in omega (arith, is, less)

  pub first_few : k.controls < 64
  first_few = let less = few in omega (arith, less)

  its_ticket : IsTicket control_loan (bar_control n.window (vertical_of n)) (Some d.definition) t c (bar_ticket k.window room.0.serial k.controls (vertical_of n))
  its_ticket =
      first_ticket loan control_loan list_loan n (Some d.definition) (Some e.definition) t c m k kept may.ticket (vertical_of n) d.definition room.0.serial first_good room.0.given first_few
      (bar_placed loan control_loan list_loan n (Some d.definition) (Some e.definition) t c m k kept may.ticket n.vertical_bar (Some d.definition) (vertical_bar (view_of n)) d.definition may.vertical_wanted refl
      (vertical_may n (Some d.definition) (Some e.definition) (desk_of loan t []) (control_records.records_of control_loan c) c.list.next (records_of list_loan m) m.list.next may.ticket.judged))

  -- the second bar may lie in the same window
  second_placed : (w : Window V H) → IsWindowAt t.windows.records.items k.window w → may_be_placed (Some e.definition) (corner_of (horizontal_of n).rect) (size_of (horizontal_of n).rect) w.place ≡ true
  second_placed = bar_placed loan control_loan list_loan n (Some d.definition) (Some e.definition) t c m k kept may.ticket n.horizontal_bar (Some e.definition) (horizontal_bar (view_of n)) e.definition may.horizontal_wanted refl
      (horizontal_may n (Some d.definition) (Some e.definition) (desk_of loan t []) (control_records.records_of control_loan c) c.list.next (records_of list_loan m) m.list.next may.ticket.judged)

  module _ (w : Window V H) (lies : IsWindowAt t.windows.records.items k.window w) where
    there : w.layers.place ≡ w.place
    there = contents.layers_there loan t kept.slots kept.whole k.window may.ticket.window.0 w lies (λ font q p. false)

    -- what it is given once the first one was added
    pub next_ticket : (s : ℕ) → k.bar ≡ Some s
        → IsTicketAfter (bar_ticket k.window s k.controls (vertical_of n)) w.layers.place (bar_control n.window (horizontal_of n)) (Some e.definition) (bar_ticket k.window (s + 1) (k.controls + 1) (horizontal_of n))
    next_ticket s is = record {
      window = refl;
      placed = ap (may_be_placed (Some e.definition) (corner_of (horizontal_of n).rect) (size_of (horizontal_of n).rect)) there ∙ second_placed w lies;
      serial = next_given s is;
      values = second_good.kept;
      title = refl;
      layer = refl;
      few = few;
    }

    pub ticket_so : (s : ℕ) → k.bar ≡ Some s → IsTicket control_loan (bar_control n.window (vertical_of n)) (Some d.definition) t c (bar_ticket k.window s k.controls (vertical_of n))
    ticket_so s is = subst (λ x. IsTicket control_loan (bar_control n.window (vertical_of n)) (Some d.definition) t c (bar_ticket k.window x k.controls (vertical_of n))) (same_Some room.0.serial s (sym given ∙ is)) its_ticket

    -- both may be planned, and the list behind them
    pub first_may : (s : ℕ) → k.bar ≡ Some s → MayGrow (bar_control n.window (vertical_of n)) d.definition (bar_ticket k.window s k.controls (vertical_of n)) w.layers
    first_may s is = may_grow loan control_loan (bar_control n.window (vertical_of n)) d.definition t c (bar_ticket k.window s k.controls (vertical_of n)) kept (record { slots = took.before; whole = took.whole }) (ticket_so s is) w lies

    pub second_may : (s : ℕ) → k.bar ≡ Some s → (one : Addition) → IsGrown (bar_control n.window (vertical_of n)) d.definition (bar_ticket k.window s k.controls (vertical_of n)) w.layers one
        → MayGrow (bar_control n.window (horizontal_of n)) e.definition (bar_ticket k.window (s + 1) (k.controls + 1) (horizontal_of n)) one.layers
    second_may s is one grown =
        may_grow_after loan control_loan (bar_control n.window (vertical_of n)) d.definition t c (bar_ticket k.window s k.controls (vertical_of n)) kept (record { slots = took.before; whole = took.whole }) (ticket_so s is) w lies one grown
        (bar_control n.window (horizontal_of n)) e.definition (bar_ticket k.window (s + 1) (k.controls + 1) (horizontal_of n)) (next_ticket s is)

    pub list_may : (i j : NewControl) (r s : Ticket) (one two : Addition) → IsGrown i d.definition r w.layers one → IsGrown j e.definition s one.layers two → MayLay k two.layers
    list_may i j r s one two grown next_grown = may_lay_after k j e.definition s one.layers two next_grown (may_lay_after k i d.definition r w.layers one grown (may_lay loan list_loan n t m k kept lists place w lies))

  -- ---- as the code plans them

  pub first_is : (b : Bar) (v : View) (g : Grid) → v ≡ view_of n → g ≡ empty_grid (nat_abs n.columns) (nat_abs n.rows) → b ≡ vertical_in v g → b ≡ vertical_of n
  first_is b v g v_is g_is is = is ∙ (λ i. vertical_in (v_is i) (g_is i))

  pub second_is : (b : Bar) (v : View) (g : Grid) → v ≡ view_of n → g ≡ empty_grid (nat_abs n.columns) (nat_abs n.rows) → b ≡ horizontal_in v g → b ≡ horizontal_of n
  second_is b v g v_is g_is is = is ∙ (λ i. horizontal_in (v_is i) (g_is i))

  pub so_first_good : (b : Bar) → b ≡ vertical_of n → IsGoodBar b
  so_first_good b is = subst IsGoodBar (sym is) first_good

  pub so_second_good : (b : Bar) → b ≡ horizontal_of n → IsGoodBar b
  so_second_good b is = subst IsGoodBar (sym is) second_good

  module _ (s : ℕ) (s_is : k.bar ≡ Some s) (b : Bar) (b_is : b ≡ vertical_of n) (j : Ticket) (j_is : j ≡ bar_ticket k.window s k.controls b) (new : NewControl) (new_is : new ≡ bar_control n.window b)
      (w : Window V H) (lies : IsWindowAt t.windows.records.items k.window w) where
    pub so_first : MayGrow new d.definition j w.layers
    so_first =
        subst (λ (x : NewControl × Ticket). MayGrow x.0 d.definition x.1 w.layers)
        (λ i. (sym (new_is ∙ ap (bar_control n.window) b_is) i, sym (j_is ∙ ap (bar_ticket k.window s k.controls) b_is) i)) (first_may w lies s s_is)

    module _ (one : Addition) (grown : IsGrown new d.definition j w.layers one) (e_bar : Bar) (e_is : e_bar ≡ horizontal_of n) (l : Ticket) (l_is : l ≡ bar_ticket k.window (s + 1) (k.controls + 1) e_bar)
        (next : NewControl) (next_is : next ≡ bar_control n.window e_bar) where
      pub so_second : MayGrow next e.definition l one.layers
      so_second =
          subst (λ (x : NewControl × Ticket). MayGrow x.0 e.definition x.1 one.layers)
          (λ i. (sym (next_is ∙ ap (bar_control n.window) e_is) i, sym (l_is ∙ ap (bar_ticket k.window (s + 1) (k.controls + 1)) e_is) i))
          (second_may w lies s s_is one
          (subst (λ (x : NewControl × Ticket). IsGrown x.0 d.definition x.1 w.layers one) (λ i. ((new_is ∙ ap (bar_control n.window) b_is) i, (j_is ∙ ap (bar_ticket k.window s k.controls) b_is) i)) grown))

      pub so_planned : (c1 : Controls (TakenBox W K)) (m1 : Lists (TakenBox X L)) → IsRoomier c c1 → length c1.list.items.items + 2 ≤ vec_capacity c1.list.items → length m1.list.items.items < vec_capacity m1.list.items
          → (a : Area) → a ≡ get_or t.areas.items k.window a
          → ((u : WindowManager V H) (r : Controls (TakenBox W K)) → IsReadyToAdd loan control_loan new d.definition j w.layers a.update t u r → IsAddition loan control_loan new d.definition u r one)
          → (two : Addition) → IsGrown next e.definition l one.layers two
          → ((u : WindowManager V H) (r : Controls (TakenBox W K)) → IsReadyToAdd loan control_loan next e.definition l one.layers one.relaying.update t u r → IsAddition loan control_loan next e.definition u r two)
          → (p : Planned) → p.cells ≡ empty_grid (nat_abs n.columns) (nat_abs n.rows) → ((u : WindowManager V H) → IsLaidSo loan k.window two.layers two.relaying.update t u → IsPlanOfList loan k two.layers u p.laid)
          → IsPlannedWithBars loan control_loan n k d.definition e.definition t c1 m1 (record { first = b; vertical = one; second = e_bar; horizontal = two; list = p })
      so_planned c1 m1 same space list_space a read planned two next_grown next_planned p cells laid = record {
        serial = s;
        next = same.next ∙ sym may.ticket.bar ∙ s_is;
        first = b_is;
        second = e_is;
        vertical = λ x y x_is y_is.
            bar_planned loan control_loan n.window b d.definition (bar_ticket k.window s k.controls b) j new x.layers w.layers y.update a.update t one new_is j_is
            (ap (λ (z : Window V H). z.layers) (one_item t.windows.records.items k.window w x place.window.0 lies x_is))
            (ap (λ (z : Area). z.update) (one_item t.areas.items k.window a y (area_there loan t kept k.window place.window.0) read y_is)) grown planned;
        horizontal = bar_planned loan control_loan n.window e_bar e.definition (bar_ticket k.window (s + 1) (k.controls + 1) e_bar) l next one.layers one.layers one.relaying.update one.relaying.update t two next_is l_is refl refl next_grown next_planned;
        room = space;
        cells = cells;
        laid = laid;
        list_room = list_space;
      }
