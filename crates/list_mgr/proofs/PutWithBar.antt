-- A list that is put with the one scroll bar that is wanted.
use Rattle.std.proofs.Common.{◌≡◌, ℕ, ◌+◌, ◌<◌, ◌≤◌, Bool, true, false, not, cond, if◌then◌else◌, List, [], length, get_or, nat_abs, Option, Some, None, refl, sym, ap, ◌∙◌, subst, arith}
use Rattle.std.specs.Prelude.{vec_capacity}
use Rattle.std.proofs.lemmas.Option.{same_Some}
use Rattle.window_items.specs.Items.{count_of}
use Rattle.def_iface.specs.ControlMeaning.{ControlDefinition, ControlLoan}
use Rattle.def_iface.specs.ListMeaning.{ListLoan}
use Rattle.def_iface.specs.WindowMeaning.{WindowLoan}
use Rattle.def_iface.specs.Slots.{IsTaken, TakenBox}
use Rattle.list_cells.specs.Grids.{Grid, empty_grid}
use Rattle.list_view.specs.Views.{View}
use Rattle.list_view.specs.Bars.{horizontal_bar, vertical_bar}
use Rattle.desk_call.specs.declared.control.NewControl.{NewControl}
use Rattle.desk_call.specs.declared.list.NewList.{NewList}
use Rattle.vis_update.specs.declared.area.Area.{Area}
use Rattle.window_list.specs.declared.window.Window.{Window}
use Rattle.window_mgr.specs.declared.manager.WindowManager.{WindowManager}
use Rattle.window_mgr.specs.DeskStates.{Opened}
use Rattle.window_mgr.specs.Edits.{IsWindowAt}
use Rattle.window_mgr.specs.Kept.{IsKept}
use Rattle.window_mgr.specs.Records.{desk_of}
use Rattle.window_mgr.specs.Relayered.{AreLayersPut}
use Rattle.window_mgr.proofs.Remarked.{area_there}
use Rattle.control_mgr.specs.declared.controls.Controls.{Controls}
use Rattle.control_mgr.specs.declared.making.Addition.{Addition}
use Rattle.control_mgr.specs.declared.making.Ticket.{Ticket}
use Rattle.control_mgr.specs.ControlDesks.{ControlSlot}
use Rattle.control_mgr.specs.ControlSteps.{IsControlMade}
use Rattle.control_mgr.specs.Making.{IsAddition, IsGrown, IsReadyToAdd, IsRoomier, IsTicket, MayGrow}
use Rattle.control_mgr.specs.Planned.{IsLaidSo}
use Rattle.control_mgr.specs.WholeControls as control_records
use Rattle.control_mgr.proofs.Added.{may_grow}
use Rattle.control_mgr.proofs.Lays.{one_item}
use Rattle.control_mgr.proofs.NewSteps.{state_same}
use Rattle.control_mgr.proofs.Places.{IsThere, read_is, there_is}
use Rattle.control_mgr.proofs.Planned.{ready_now}
use Rattle.list_mgr.specs.declared.judging.ListTicket.{ListTicket}
use Rattle.list_mgr.specs.declared.lists.Lists.{Lists}
use Rattle.list_mgr.specs.declared.new_bars.Bar.{Bar}
use Rattle.list_mgr.specs.declared.planning.Planned.{Planned}
use Rattle.list_mgr.specs.declared.planning.PlannedWithBar.{PlannedWithBar}
use Rattle.list_mgr.specs.ListDesks.{ListSlot}
use Rattle.list_mgr.specs.ListRefusals.{have_room, scroll_kind, view_of}
use Rattle.list_mgr.specs.ListSteps.{IsListMade, IsListPut}
use Rattle.list_mgr.specs.NewBars.{IsGoodBar, bar_control, bar_ticket, horizontal_in, horizontal_of, vertical_in, vertical_of}
use Rattle.list_mgr.specs.Putting.{AreRoomier, IsBarPlanned, IsBarTaken, IsOneBarTicket, IsPlace, IsPlannedWithBar, IsPlanOfList, IsReadyToPut, LeavesBeside, MayLay}
use Rattle.list_mgr.specs.WholeLists.{AreBeside, LeavesOver, records_of}
use Rattle.list_mgr.proofs.BarAdded.{bar_planned, bar_step, kept_with_bar, laid_with_bar, lists_with_bar, may_lay_after, place_with_bar}
use Rattle.list_mgr.proofs.GoodBars.{IsRoomFor, bar_placed, first_ticket, good_horizontal, good_vertical, place_of, room_of}
use Rattle.list_mgr.proofs.ListLayers.{may_lay}
use Rattle.list_mgr.proofs.NewLists.{horizontal_may, room_for, vertical_may}
use Rattle.list_mgr.proofs.PutSteps.{beside_roomier, made_with_bar, place_roomier, put_roomier}

-- where one bar is wanted there is room for it
one_wanted : (v h : Bool) (count : ℕ) (next : Option ℕ) → h ≡ not v → have_room ((if v then 1 else 0) + (if h then 1 else 0)) count next ≡ true → have_room 1 count next ≡ true
one_wanted true h count next one room = subst (λ x. have_room (1 + (if x then 1 else 0)) count next ≡ true) one room
one_wanted false h count next one room = subst (λ x. have_room (0 + (if x then 1 else 0)) count next ≡ true) one room

module _ {V : Type 0} {H : V → Type 0} (loan : TakenBox V H → WindowLoan) {W : Type 0} {K : W → Type 0} (control_loan : TakenBox W K → ControlLoan) {X : Type 0} {L : X → Type 0} (list_loan : TakenBox X L → ListLoan)
    (n : NewList) (k : ListTicket) (d : ControlLoan) (t : WindowManager V H) (c : Controls (TakenBox W K)) (m : Lists (TakenBox X L)) (kept : IsKept loan t) (took : IsBarTaken loan control_loan d t c)
    (lists : AreBeside list_loan loan t m) (may : IsOneBarTicket loan control_loan list_loan n d.definition t c m k) where
  abbrev vertical : Option ControlDefinition
  vertical = if n.vertical_bar then Some d.definition else None

  abbrev horizontal : Option ControlDefinition
  horizontal = if n.vertical_bar then None else Some d.definition

  pub place : IsPlace n t m k
  place = place_of loan control_loan list_loan n vertical horizontal t c m k kept may.ticket

  -- the bar that is wanted
  abbrev pub bar : Bar
  bar = if n.vertical_bar then vertical_of n else horizontal_of n

  pub bar_is : (b : Bar) (v : View) (g : Grid) → v ≡ view_of n → g ≡ empty_grid (nat_abs n.columns) (nat_abs n.rows) → b ≡ (if n.vertical_bar then vertical_in v g else horizontal_in v g) → b ≡ bar
  bar_is b v g v_is g_is is = is ∙ (λ i. if n.vertical_bar then vertical_in (v_is i) (g_is i) else horizontal_in (v_is i) (g_is i))

  bar_good : IsGoodBar bar
  bar_good = by_test n.vertical_bar
    where
      by_test : (b : Bool) → IsGoodBar (if b then vertical_of n else horizontal_of n)
      by_test true = good_vertical n place.good
      by_test false = good_horizontal n place.good

  pub room : IsRoomFor (count_of n.window (control_records.records_of control_loan c)) c.list.next
  room = (room_of 0 _ c.list.next (one_wanted n.vertical_bar n.horizontal_bar _ c.list.next may.one
      (room_for n vertical horizontal (desk_of loan t []) (control_records.records_of control_loan c) c.list.next (records_of list_loan m) m.list.next may.ticket.judged))).0

  pub few : k.controls < 64
  few = let count = may.ticket.controls in let less = room.few in omega (arith, count, less)

  -- a serial is left for it
  pub given : k.bar ≡ Some room.serial
  given = may.ticket.bar ∙ room.given

  its_ticket : IsTicket control_loan (bar_control n.window bar) (Some d.definition) t c (bar_ticket k.window room.serial k.controls bar)
  its_ticket = by_test n.vertical_bar refl
    where
      by_test : (b : Bool) → n.vertical_bar ≡ b
          → IsTicket control_loan (bar_control n.window (if b then vertical_of n else horizontal_of n)) (Some d.definition) t c (bar_ticket k.window room.serial k.controls (if b then vertical_of n else horizontal_of n))
      by_test true is =
          first_ticket loan control_loan list_loan n vertical horizontal t c m k kept may.ticket (vertical_of n) d.definition room.serial (good_vertical n place.good) room.given few
          (bar_placed loan control_loan list_loan n vertical horizontal t c m k kept may.ticket n.vertical_bar vertical (vertical_bar (view_of n)) d.definition is (ap (λ x. if x then Some d.definition else None) is)
          (vertical_may n vertical horizontal (desk_of loan t []) (control_records.records_of control_loan c) c.list.next (records_of list_loan m) m.list.next may.ticket.judged))
      by_test false is =
          first_ticket loan control_loan list_loan n vertical horizontal t c m k kept may.ticket (horizontal_of n) d.definition room.serial (good_horizontal n place.good) room.given few
          (bar_placed loan control_loan list_loan n vertical horizontal t c m k kept may.ticket n.horizontal_bar horizontal (horizontal_bar (view_of n)) d.definition (may.one ∙ ap not is) (ap (λ x. if x then None else Some d.definition) is)
          (horizontal_may n vertical horizontal (desk_of loan t []) (control_records.records_of control_loan c) c.list.next (records_of list_loan m) m.list.next may.ticket.judged))

  -- it may be planned
  its_may : (w : Window V H) → IsWindowAt t.windows.records.items k.window w → MayGrow (bar_control n.window bar) d.definition (bar_ticket k.window room.serial k.controls bar) w.layers
  its_may w lies = may_grow loan control_loan (bar_control n.window bar) d.definition t c (bar_ticket k.window room.serial k.controls bar) kept (record { slots = took.before; whole = took.whole }) its_ticket w lies

  -- and the list behind it
  pub list_may : (w : Window V H) → IsWindowAt t.windows.records.items k.window w → (j : NewControl) (s : Ticket) (a : Addition) → IsGrown j d.definition s w.layers a → MayLay k a.layers
  list_may w lies j s a grown = may_lay_after k j d.definition s w.layers a grown (may_lay loan list_loan n t m k kept lists place w lies)

  -- ---- as the code plans it

  module _ (b : Bar) (b_is : b ≡ bar) where
    pub so_good : IsGoodBar b
    so_good = subst IsGoodBar (sym b_is) bar_good

    module _ (s : ℕ) (s_is : k.bar ≡ Some s) (j : Ticket) (j_is : j ≡ bar_ticket k.window s k.controls b) (control : NewControl) (control_is : control ≡ bar_control n.window b) where
      serial_is : s ≡ room.serial
      serial_is = same_Some s room.serial (sym s_is ∙ given)

      pub so_may : (w : Window V H) → IsWindowAt t.windows.records.items k.window w → MayGrow control d.definition j w.layers
      so_may w lies =
          subst (λ (x : NewControl × Ticket). MayGrow x.0 d.definition x.1 w.layers)
          (λ i. (sym (control_is ∙ ap (bar_control n.window) b_is) i, sym (j_is ∙ (λ q. bar_ticket k.window (serial_is q) k.controls (b_is q))) i)) (its_may w lies)

      pub so_planned : (c1 : Controls (TakenBox W K)) (m1 : Lists (TakenBox X L)) → IsRoomier c c1 → length c1.list.items.items + 1 ≤ vec_capacity c1.list.items → length m1.list.items.items < vec_capacity m1.list.items
          → (w : Window V H) → IsWindowAt t.windows.records.items k.window w → (a : Area) → a ≡ get_or t.areas.items k.window a → (one : Addition) → IsGrown control d.definition j w.layers one
          → ((u : WindowManager V H) (e : Controls (TakenBox W K)) → IsReadyToAdd loan control_loan control d.definition j w.layers a.update t u e → IsAddition loan control_loan control d.definition u e one)
          → (p : Planned) → p.cells ≡ empty_grid (nat_abs n.columns) (nat_abs n.rows) → ((u : WindowManager V H) → IsLaidSo loan k.window one.layers one.relaying.update t u → IsPlanOfList loan k one.layers u p.laid)
          → IsPlannedWithBar loan control_loan n k d.definition t c1 m1 (record { bar = b; addition = one; list = p })
      so_planned c1 m1 same space list_space w lies a read one grown planned p cells laid = record {
        serial = s;
        next = same.next ∙ sym may.ticket.bar ∙ s_is;
        bar = b_is;
        added = λ x e x_is e_is.
            bar_planned loan control_loan n.window b d.definition (bar_ticket k.window s k.controls b) j control x.layers w.layers e.update a.update t one control_is j_is
            (ap (λ (y : Window V H). y.layers) (one_item t.windows.records.items k.window w x place.window.0 lies x_is))
            (ap (λ (y : Area). y.update) (one_item t.areas.items k.window a e (area_there loan t kept k.window place.window.0) read e_is)) grown planned;
        room = space;
        cells = cells;
        laid = laid;
        list_room = list_space;
      }

  -- ---- the bar added, and the list put

  -- its window, and what that owns
  abbrev window_there : IsThere t.windows.records.items k.window
  window_there = there_is t.windows.records.items k.window place.window.0

  abbrev w : Window V H
  w = window_there.item

  lies : IsWindowAt t.windows.records.items k.window w
  lies = read_is t.windows.records.items k.window w window_there.there

  abbrev area_is : IsThere t.areas.items k.window
  area_is = there_is t.areas.items k.window (area_there loan t kept k.window place.window.0)

  abbrev a : Area
  a = area_is.item

  module _ (c1 : Controls (TakenBox W K)) (m1 : Lists (TakenBox X L)) (same : IsRoomier c c1) (same_lists : AreRoomier m m1) (p : PlannedWithBar) (planned : IsPlannedWithBar loan control_loan n k d.definition t c1 m1 p) where
    abbrev j : Ticket
    j = bar_ticket k.window planned.serial k.controls p.bar

    abbrev added : IsBarPlanned loan control_loan n.window p.bar d.definition j w.layers a.update t p.addition
    added = planned.added w a lies (read_is t.areas.items k.window a area_is.there)

    pub good : IsGoodBar p.bar
    good = subst IsGoodBar (sym planned.bar) bar_good

    ticket_is : IsTicket control_loan (bar_control n.window p.bar) (Some d.definition) t c j
    ticket_is =
        subst (λ (x : Bar × ℕ). IsTicket control_loan (bar_control n.window x.0) (Some d.definition) t c (bar_ticket k.window x.1 k.controls x.0))
        (λ i. (sym planned.bar i, same_Some room.serial planned.serial (sym room.given ∙ sym same.next ∙ planned.next) i)) its_ticket

    ready : IsReadyToAdd loan control_loan (bar_control n.window p.bar) d.definition j w.layers a.update t t c1
    ready = ready_now loan control_loan (bar_control n.window p.bar) d.definition t c c1 j kept (record { slots = took.before; whole = took.whole }) same ticket_is w lies a (read_is t.areas.items k.window a area_is.there) planned.room

    pub addition : (control : NewControl) → control ≡ bar_control n.window p.bar → IsAddition loan control_loan control d.definition t c1 p.addition
    addition control control_is = subst (λ x. IsAddition loan control_loan x d.definition t c1 p.addition) (sym control_is) (added.planned t c1 ready)

    whole_now : (stock : List ControlSlot) → control_records.AreWholeControls (desk_of loan t []).windows (control_records.controls_state control_loan c stock)
        → control_records.AreWholeControls (desk_of loan t []).windows (control_records.controls_state control_loan c1 stock)
    whole_now stock whole = subst (control_records.AreWholeControls (desk_of loan t []).windows) (sym (state_same loan control_loan c c1 same stock stock refl)) whole

    pub bar_beside : control_records.AreBeside control_loan loan t c1
    bar_beside = record { slots = took.before; whole = whole_now took.before took.whole }

    -- what adding a control of this bar leaves
    abbrev Leaves : NewControl → WindowManager V H → Controls (TakenBox W K) → Type 0
    Leaves control u c2 = (before left : List ControlSlot) → IsTaken (λ (x : ControlDefinition). x.stage) control.kind d before left → (o : Opened)
        → control_records.LeavesOver control_loan loan before left (IsControlMade control p.addition.ticket.serial) t o c1 u o c2

    module _ (u : WindowManager V H) (c2 : Controls (TakenBox W K)) (control : NewControl) (control_is : control ≡ bar_control n.window p.bar) (leaves : Leaves control u c2)
        (put : AreLayersPut p.addition.ticket.window p.addition.layers p.addition.relaying.update t u) where
      done : Leaves (bar_control n.window p.bar) u c2
      done = subst (λ x. Leaves x u c2) control_is leaves

      pub kept_then : IsKept loan u
      kept_then = kept_with_bar loan control_loan n.window p.bar good d j few w.layers a.update t t c c1 same ready p.addition added.grown u c2 done took.before took.left took.taken (whole_now took.before took.whole)

      pub lists_then : AreBeside list_loan loan u m1
      lists_then = lists_with_bar loan control_loan n.window p.bar good d j few w.layers a.update t t c c1 same ready p.addition added.grown u c2 done took.before took.left took.taken (whole_now took.before took.whole) list_loan n m1
          (beside_roomier loan list_loan m m1 same_lists t lists)

      pub ready_then : IsReadyToPut loan n k u m1 p.list
      ready_then =
          let laid = laid_with_bar loan control_loan n.window p.bar good d j few w.layers a.update t t c c1 same ready p.addition added.grown u c2 done took.before took.left took.taken (whole_now took.before took.whole) put in
          record {
            place = place_with_bar loan control_loan n.window p.bar good d j few w.layers a.update t t c c1 same ready p.addition added.grown u c2 done took.before took.left took.taken (whole_now took.before took.whole) put n k m1 refl
                (place_roomier n k t m m1 same_lists place);
            cells = planned.cells;
            layers = p.addition.layers;
            lies = laid.layers;
            planned = planned.laid u laid;
            room = planned.list_room;
          }

      pub made : (v : WindowManager V H) (m2 : Lists (TakenBox X L)) (bars_vertical bars_horizontal : Option ℕ) → bars_vertical ≡ (if n.vertical_bar then Some p.addition.ticket.serial else None) → bars_horizontal ≡ (if n.vertical_bar then None else Some p.addition.ticket.serial)
          → (held rest : List ControlSlot) (before left : List ListSlot) → IsTaken (λ (x : ControlDefinition). x.stage) scroll_kind d held rest
          → LeavesBeside list_loan loan before left (IsListPut n k.serial bars_vertical bars_horizontal) u m1 v m2
          → LeavesOver list_loan loan control_loan held rest before left (IsListMade n k.serial) t c m v c2 m2
      made v m2 bars_vertical bars_horizontal first second held rest before left taken placed =
          made_with_bar loan list_loan control_loan n k.serial t u v c c2 held rest (bar_control n.window p.bar) p.addition.ticket.serial
          (bar_step loan control_loan n.window p.bar good d j few w.layers a.update t t c c1 same ready p.addition added.grown u c2 done held rest taken) m m2 before left
          n.vertical_bar refl may.one (ap (bar_control n.window) planned.bar ∙ which n.vertical_bar)
          (put_roomier loan list_loan m m1 same_lists before left (IsListPut n k.serial (if n.vertical_bar then Some p.addition.ticket.serial else None) (if n.vertical_bar then None else Some p.addition.ticket.serial)) u v m2
          (subst (λ (x : Option ℕ × Option ℕ). LeavesBeside list_loan loan before left (IsListPut n k.serial x.0 x.1) u m1 v m2) (λ i. (first i, second i)) placed))
        where
          which : (b : Bool) → bar_control n.window (if b then vertical_of n else horizontal_of n) ≡ cond b (bar_control n.window (vertical_of n)) (bar_control n.window (horizontal_of n))
          which true = refl
          which false = refl
