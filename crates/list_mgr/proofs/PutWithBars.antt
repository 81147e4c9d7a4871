-- A list that is put with both scroll bars.
use Rattle.std.proofs.Common.{◌≡◌, ℕ, ◌+◌, ◌<◌, ◌≤◌, List, [], get_or, Some, refl, sym, ap, ◌∙◌, subst, arith}
use Rattle.std.specs.Prelude.{vec_capacity}
use Rattle.def_iface.specs.ControlMeaning.{ControlDefinition, ControlLoan}
use Rattle.def_iface.specs.ListMeaning.{ListLoan}
use Rattle.def_iface.specs.WindowMeaning.{WindowLoan}
use Rattle.def_iface.specs.Slots.{IsTaken, TakenBox}
use Rattle.desk_call.specs.declared.control.NewControl.{NewControl}
use Rattle.desk_call.specs.declared.list.NewList.{NewList}
use Rattle.vis_update.specs.declared.area.Area.{Area}
use Rattle.window_list.specs.declared.window.Window.{Window}
use Rattle.window_mgr.specs.declared.manager.WindowManager.{WindowManager}
use Rattle.window_mgr.specs.DeskStates.{Opened}
use Rattle.window_mgr.specs.Edits.{IsWindowAt}
use Rattle.window_mgr.specs.Kept.{IsKept}
use Rattle.window_mgr.specs.Records.{desk_of}
use Rattle.window_mgr.specs.Relayered.{AreLayersPut}
use Rattle.window_mgr.proofs.Remarked.{area_there}
use Rattle.control_mgr.specs.declared.controls.Controls.{Controls}
use Rattle.control_mgr.specs.declared.making.Ticket.{Ticket}
use Rattle.control_mgr.specs.ControlDesks.{ControlSlot}
use Rattle.control_mgr.specs.ControlSteps.{IsControlMade}
use Rattle.control_mgr.specs.Making.{IsAddition, IsReadyToAdd, IsRoomier}
use Rattle.control_mgr.specs.WholeControls as control_records
use Rattle.control_mgr.proofs.NewSteps.{state_same}
use Rattle.control_mgr.proofs.Places.{IsThere, read_is, there_is}
use Rattle.control_mgr.proofs.Planned.{ready_now}
use Rattle.control_mgr.proofs.PlannedNext.{many_after, ready_after}
use Rattle.control_mgr.proofs.Presses.{idle_now}
use Rattle.list_mgr.specs.declared.judging.ListTicket.{ListTicket}
use Rattle.list_mgr.specs.declared.lists.Lists.{Lists}
use Rattle.list_mgr.specs.declared.planning.PlannedWithBars.{PlannedWithBars}
use Rattle.list_mgr.specs.ListDesks.{ListSlot}
use Rattle.list_mgr.specs.ListRefusals.{scroll_kind}
use Rattle.list_mgr.specs.ListSteps.{IsListMade, IsListPut}
use Rattle.list_mgr.specs.NewBars.{IsGoodBar, bar_control, bar_ticket, horizontal_of, vertical_of}
use Rattle.list_mgr.specs.Putting.{AreBarsTaken, AreRoomier, IsBarPlanned, IsPlace, IsPlannedWithBars, IsReadyToPut, IsTwoBarTicket, LeavesBeside}
use Rattle.list_mgr.specs.WholeLists.{AreBeside, LeavesOver}
use Rattle.list_mgr.proofs.BarAdded.{bar_step, controls_with_bar, kept_with_bar, laid_with_bar, lists_with_bar, place_with_bar}
use Rattle.list_mgr.proofs.BarsPlanned as bars
use Rattle.list_mgr.proofs.PutSteps.{beside_roomier, made_with_bars, place_roomier, put_roomier}

module _ {V : Type 0} {H : V → Type 0} (loan : TakenBox V H → WindowLoan) {W : Type 0} {K : W → Type 0} (control_loan : TakenBox W K → ControlLoan) {X : Type 0} {L : X → Type 0} (list_loan : TakenBox X L → ListLoan)
    (n : NewList) (k : ListTicket) (d e : ControlLoan) (t : WindowManager V H) (c : Controls (TakenBox W K)) (m : Lists (TakenBox X L)) (kept : IsKept loan t) (took : AreBarsTaken loan control_loan d e t c)
    (lists : AreBeside list_loan loan t m) (may : IsTwoBarTicket loan control_loan list_loan n d.definition e.definition t c m k) where
  abbrev place : IsPlace n t m k
  place = bars.place loan control_loan list_loan n k d e t c m kept took lists may

  abbrev first_good : IsGoodBar (vertical_of n)
  first_good = bars.first_good loan control_loan list_loan n k d e t c m kept took lists may

  abbrev second_good : IsGoodBar (horizontal_of n)
  second_good = bars.second_good loan control_loan list_loan n k d e t c m kept took lists may

  abbrev few : k.controls + 1 < 64
  few = bars.few loan control_loan list_loan n k d e t c m kept took lists may

  abbrev first_few : k.controls < 64
  first_few = bars.first_few loan control_loan list_loan n k d e t c m kept took lists may

  -- ---- the bars added, and the list put

  -- its window, and what that owns
  abbrev window_there : IsThere t.windows.records.items k.window
  window_there = there_is t.windows.records.items k.window place.window.0

  abbrev w : Window V H
  w = window_there.item

  lies : IsWindowAt t.windows.records.items k.window w
  lies = read_is t.windows.records.items k.window w window_there.there

  abbrev area_is : IsThere t.areas.items k.window
  area_is = there_is t.areas.items k.window (area_there loan t kept k.window place.window.0)

  abbrev a : Area
  a = area_is.item

  read : a ≡ get_or t.areas.items k.window a
  read = read_is t.areas.items k.window a area_is.there

  module _ (c1 : Controls (TakenBox W K)) (m1 : Lists (TakenBox X L)) (same : IsRoomier c c1) (same_lists : AreRoomier m m1) (p : PlannedWithBars) (planned : IsPlannedWithBars loan control_loan n k d.definition e.definition t c1 m1 p) where
    pub good_first : IsGoodBar p.first
    good_first = subst IsGoodBar (sym planned.first) first_good

    pub good_second : IsGoodBar p.second
    good_second = subst IsGoodBar (sym planned.second) second_good

    abbrev new : NewControl
    new = bar_control n.window (vertical_of n)

    abbrev next : NewControl
    next = bar_control n.window (horizontal_of n)

    abbrev j : Ticket
    j = bar_ticket k.window planned.serial k.controls (vertical_of n)

    abbrev l : Ticket
    l = bar_ticket k.window (planned.serial + 1) (k.controls + 1) (horizontal_of n)

    bar_is : k.bar ≡ Some planned.serial
    bar_is = may.ticket.bar ∙ sym same.next ∙ planned.next

    one : IsBarPlanned loan control_loan n.window (vertical_of n) d.definition j w.layers a.update t p.vertical
    one = subst (λ b. IsBarPlanned loan control_loan n.window b d.definition (bar_ticket k.window planned.serial k.controls b) w.layers a.update t p.vertical) planned.first (planned.vertical w a lies read)

    two : IsBarPlanned loan control_loan n.window (horizontal_of n) e.definition l p.vertical.layers p.vertical.relaying.update t p.horizontal
    two = subst (λ b. IsBarPlanned loan control_loan n.window b e.definition (bar_ticket k.window (planned.serial + 1) (k.controls + 1) b) p.vertical.layers p.vertical.relaying.update t p.horizontal) planned.second planned.horizontal

    ready : IsReadyToAdd loan control_loan new d.definition j w.layers a.update t t c1
    ready = let space = planned.room in ready_now loan control_loan new d.definition t c c1 j kept (record { slots = took.before; whole = took.whole }) same (bars.ticket_so loan control_loan list_loan n k d e t c m kept took lists may w lies planned.serial bar_is) w lies a read (omega (arith, space))

    pub addition : (control : NewControl) → control ≡ bar_control n.window p.first → IsAddition loan control_loan control d.definition t c1 p.vertical
    addition control is = subst (λ x. IsAddition loan control_loan x d.definition t c1 p.vertical) (sym (is ∙ ap (bar_control n.window) planned.first)) (one.planned t c1 ready)

    whole_now : control_records.AreWholeControls (desk_of loan t []).windows (control_records.controls_state control_loan c1 took.before)
    whole_now = subst (control_records.AreWholeControls (desk_of loan t []).windows) (sym (state_same loan control_loan c c1 same took.before took.before refl)) took.whole

    pub bar_beside : control_records.AreBeside control_loan loan t c1
    bar_beside = record { slots = took.before; whole = whole_now }

    -- what adding a control with this definition leaves
    abbrev Leaves : ControlLoan → ℕ → WindowManager V H → Controls (TakenBox W K) → NewControl → WindowManager V H → Controls (TakenBox W K) → Type 0
    Leaves x serial t c1 control u c2 = (before left : List ControlSlot) → IsTaken (λ (y : ControlDefinition). y.stage) control.kind x before left → (o : Opened)
        → control_records.LeavesOver control_loan loan before left (IsControlMade control serial) t o c1 u o c2

    module _ (u : WindowManager V H) (c2 : Controls (TakenBox W K)) (control : NewControl) (control_is : control ≡ bar_control n.window p.first) (leaves : Leaves d p.vertical.ticket.serial t c1 control u c2)
        (put : AreLayersPut p.vertical.ticket.window p.vertical.layers p.vertical.relaying.update t u) (more : vec_capacity c1.list.items ≤ vec_capacity c2.list.items) where
      done : Leaves d p.vertical.ticket.serial t c1 new u c2
      done = subst (λ x. Leaves d p.vertical.ticket.serial t c1 x u c2) (control_is ∙ ap (bar_control n.window) planned.first) leaves

      pub kept_then : IsKept loan u
      kept_then = kept_with_bar loan control_loan n.window (vertical_of n) first_good d j first_few w.layers a.update t t c c1 same ready p.vertical one.grown u c2 done took.before took.mid took.vertical whole_now

      whole_then : control_records.AreWholeControls (desk_of loan u []).windows (control_records.controls_state control_loan c2 took.mid)
      whole_then = controls_with_bar loan control_loan n.window (vertical_of n) first_good d j first_few w.layers a.update t t c c1 same ready p.vertical one.grown u c2 done took.before took.mid took.vertical whole_now

      pub beside_then : control_records.AreBeside control_loan loan u c2
      beside_then = record { slots = took.mid; whole = whole_then }

      lists_then : AreBeside list_loan loan u m1
      lists_then = lists_with_bar loan control_loan n.window (vertical_of n) first_good d j first_few w.layers a.update t t c c1 same ready p.vertical one.grown u c2 done took.before took.mid took.vertical whole_now list_loan n m1
          (beside_roomier loan list_loan m m1 same_lists t lists)

      next_ready : IsReadyToAdd loan control_loan next e.definition l p.vertical.layers p.vertical.relaying.update t u c2
      next_ready =
          let space = planned.room in
          let many = many_after loan control_loan new d.definition j w.layers a.update t t c1 ready p.vertical one.grown took.before took.mid idle_now idle_now u c2 (done took.before took.mid took.vertical idle_now) whole_now put in
          ready_after loan control_loan new d.definition j w.layers a.update t t c1 ready p.vertical one.grown took.before took.mid idle_now idle_now u c2 (done took.before took.mid took.vertical idle_now) whole_now put
          next e.definition l refl (bars.next_ticket loan control_loan list_loan n k d e t c m kept took lists may w lies planned.serial bar_is) (omega (arith, many, space, more))

      pub next_addition : (x : NewControl) → x ≡ bar_control n.window p.second → IsAddition loan control_loan x e.definition u c2 p.horizontal
      next_addition x is = subst (λ y. IsAddition loan control_loan y e.definition u c2 p.horizontal) (sym (is ∙ ap (bar_control n.window) planned.second)) (two.planned u c2 next_ready)

      same_self : IsRoomier c2 c2
      same_self = record { controls = refl; next = refl; alloc = refl; room = omega arith }

      module _ (v : WindowManager V H) (c3 : Controls (TakenBox W K)) (other : NewControl) (other_is : other ≡ bar_control n.window p.second) (next_leaves : Leaves e p.horizontal.ticket.serial u c2 other v c3)
          (next_put : AreLayersPut p.horizontal.ticket.window p.horizontal.layers p.horizontal.relaying.update u v) where
        next_done : Leaves e p.horizontal.ticket.serial u c2 next v c3
        next_done = subst (λ x. Leaves e p.horizontal.ticket.serial u c2 x v c3) (other_is ∙ ap (bar_control n.window) planned.second) next_leaves

        pub kept_last : IsKept loan v
        kept_last = kept_with_bar loan control_loan n.window (horizontal_of n) second_good e l few p.vertical.layers p.vertical.relaying.update t u c2 c2 same_self next_ready p.horizontal two.grown v c3 next_done took.mid took.left took.horizontal whole_then

        pub lists_last : AreBeside list_loan loan v m1
        lists_last = lists_with_bar loan control_loan n.window (horizontal_of n) second_good e l few p.vertical.layers p.vertical.relaying.update t u c2 c2 same_self next_ready p.horizontal two.grown v c3 next_done took.mid took.left took.horizontal whole_then list_loan n m1 lists_then

        pub ready_last : IsReadyToPut loan n k v m1 p.list
        ready_last =
            let laid = laid_with_bar loan control_loan n.window (horizontal_of n) second_good e l few p.vertical.layers p.vertical.relaying.update t u c2 c2 same_self next_ready p.horizontal two.grown v c3 next_done took.mid took.left took.horizontal whole_then next_put in
            record {
              place = place_with_bar loan control_loan n.window (horizontal_of n) second_good e l few p.vertical.layers p.vertical.relaying.update t u c2 c2 same_self next_ready p.horizontal two.grown v c3 next_done took.mid took.left took.horizontal whole_then next_put n k m1 refl
                  (place_with_bar loan control_loan n.window (vertical_of n) first_good d j first_few w.layers a.update t t c c1 same ready p.vertical one.grown u c2 done took.before took.mid took.vertical whole_now put n k m1 refl
                  (place_roomier n k t m m1 same_lists place));
              cells = planned.cells;
              layers = p.horizontal.layers;
              lies = laid.layers;
              planned = planned.laid v laid;
              room = planned.list_room;
            }

        pub made : (x : WindowManager V H) (m2 : Lists (TakenBox X L)) (held mid rest : List ControlSlot) (before left : List ListSlot)
            → IsTaken (λ (x : ControlDefinition). x.stage) scroll_kind d held mid → IsTaken (λ (x : ControlDefinition). x.stage) scroll_kind e mid rest
            → LeavesBeside list_loan loan before left (IsListPut n k.serial (Some p.vertical.ticket.serial) (Some p.horizontal.ticket.serial)) v m1 x m2
            → LeavesOver list_loan loan control_loan held rest before left (IsListMade n k.serial) t c m x c3 m2
        made x m2 held mid rest before left taken next_taken placed =
            made_with_bars loan list_loan control_loan n k.serial t u v x c c2 c3 held mid rest p.vertical.ticket.serial p.horizontal.ticket.serial
            (bar_step loan control_loan n.window (vertical_of n) first_good d j first_few w.layers a.update t t c c1 same ready p.vertical one.grown u c2 done held mid taken)
            (bar_step loan control_loan n.window (horizontal_of n) second_good e l few p.vertical.layers p.vertical.relaying.update t u c2 c2 same_self next_ready p.horizontal two.grown v c3 next_done mid rest next_taken) m m2 before left
            (may.vertical_wanted, may.horizontal_wanted)
            (put_roomier loan list_loan m m1 same_lists before left (IsListPut n k.serial (Some p.vertical.ticket.serial) (Some p.horizontal.ticket.serial)) v x m2 placed)
