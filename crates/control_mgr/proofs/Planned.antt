-- Controls that are planned: for the windows and controls as they are, and for those that earlier changes leave.
use Rattle.std.proofs.Common.{◌≡◌, ◌+◌, ◌≤◌, List, [], length, get_or, Option, Some, sym, ap, ◌∙◌, arith}
use Rattle.std.specs.Prelude.{vec_capacity}
use Rattle.control_mgr.specs.Seen.{all_seen}
use Rattle.window_items.specs.Items.{count_of}
use Rattle.def_iface.specs.Slots.{TakenBox}
use Rattle.def_iface.specs.ControlMeaning.{ControlDefinition, ControlLoan}
use Rattle.def_iface.specs.WindowMeaning.{WindowLoan}
use Rattle.desk_call.specs.declared.control.ControlOf.{ControlOf}
use Rattle.desk_call.specs.declared.control.NewControl.{NewControl}
use Rattle.vis_update.specs.declared.area.Area.{Area}
use Rattle.window_list.specs.declared.window.Window.{Window}
use Rattle.window_mgr.specs.declared.manager.WindowManager.{WindowManager}
use Rattle.window_mgr.specs.Edits.{IsWindowAt}
use Rattle.window_mgr.specs.Kept.{IsKept}
use Rattle.window_mgr.specs.Records.{desk_of}
use Rattle.control_mgr.specs.declared.controls.Controls.{Controls}
use Rattle.control_mgr.specs.declared.making.Ticket.{Ticket}
use Rattle.control_mgr.specs.declared.spots.ControlAt.{ControlAt}
use Rattle.control_mgr.specs.ControlDesks.{ControlSlot}
use Rattle.control_mgr.specs.Ending.{IsReadyToEnd}
use Rattle.control_mgr.specs.Making.{IsReadyToAdd, IsRoomier, IsTicket}
use Rattle.control_mgr.specs.Spots.{IsSpotOf}
use Rattle.control_mgr.specs.WholeControls.{AreBeside, AreWholeControls, controls_state}
use Rattle.control_mgr.proofs.LaidSo.{laid_now}
use Rattle.control_mgr.proofs.NewSteps.{beside_planned}

module _ {V : Type 0} {H : V → Type 0} (loan : TakenBox V H → WindowLoan) {W : Type 0} {K : W → Type 0} (control_loan : TakenBox W K → ControlLoan) where
  -- a ticket is as good where nothing but the room for controls is another
  ticket_kept : (n : NewControl) (d : Option ControlDefinition) (t : WindowManager V H) (m m' : Controls (TakenBox W K)) (k : Ticket) → IsRoomier m m' → IsTicket control_loan n d t m k → IsTicket control_loan n d t m' k
  ticket_kept n d t m m' k same ticket = record {
    window = ticket.window;
    placed = ticket.placed;
    serial = same.next ∙ ticket.serial;
    values = ticket.values;
    title = ticket.title;
    layer = ticket.layer ∙ ap (λ cs. count_of n.window (all_seen control_loan cs)) (sym same.controls);
    few = ticket.few;
  }

  -- a control can be added to windows and controls as they are
  pub ready_now : (n : NewControl) (d : ControlDefinition) (t : WindowManager V H) (m m' : Controls (TakenBox W K)) (k : Ticket) → IsKept loan t → AreBeside control_loan loan t m → IsRoomier m m'
      → IsTicket control_loan n (Some d) t m k → (w : Window V H) → IsWindowAt t.windows.records.items k.window w → (a : Area) → a ≡ get_or t.areas.items k.window a
      → length m'.list.items.items + 1 ≤ vec_capacity m'.list.items → IsReadyToAdd loan control_loan n d k w.layers a.update t t m'
  ready_now n d t m m' k kept beside same ticket w lies a read room = record {
    laid = laid_now loan t kept k.window ticket.window.0 a read w lies;
    beside = beside_planned loan control_loan t m m' beside.slots same beside.whole;
    ticket = ticket_kept n (Some d) t m m' k same ticket;
    room = omega (arith, room);
  }

  -- a control that is there can be ended of windows and controls as they are
  pub ending_now : (c : ControlOf) (t : WindowManager V H) (m : Controls (TakenBox W K)) (s : ControlAt) → IsKept loan t → (slots : List ControlSlot) → AreWholeControls (desk_of loan t []).windows (controls_state control_loan m slots)
      → IsSpotOf loan control_loan c t m s → (w : Window V H) → IsWindowAt t.windows.records.items s.window w → (a : Area) → a ≡ get_or t.areas.items s.window a
      → IsReadyToEnd loan control_loan c s.window w.layers a.update t t m
  ending_now c t m s kept slots whole is w lies a read = record {
    laid = laid_now loan t kept s.window is.window.0 a read w lies;
    beside = record { slots = slots; whole = whole };
    stands = is.window;
  }
