-- The step of a new list: its scroll bars made, and the list put behind the others.
use Rattle.std.proofs.Common.{◌≡◌, ℕ, ◌<◌, Bool, true, false, not, cond, List, [], length, get_or, nat_abs, Option, None, Some, Ok, refl, sym, ◌∙◌, subst}
use Rattle.std.specs.Prelude.{vec_capacity}
use Rattle.def_iface.specs.Slots.{TakenBox}
use Rattle.def_iface.specs.ControlMeaning.{ControlLoan}
use Rattle.def_iface.specs.ListMeaning.{ListLoan}
use Rattle.def_iface.specs.WindowMeaning.{WindowLoan}
use Rattle.def_iface.specs.WindowSlots.{WindowSlot}
use Rattle.list_cells.specs.Grids.{empty_grid}
use Rattle.window_items.specs.Items.{count_of}
use Rattle.list_mgr.specs.Seen.{all_seen}
use Rattle.desk_call.specs.declared.control.ControlCall.TheVariants as control_calls
use Rattle.desk_call.specs.declared.control.ControlReply.TheVariants as control_reply
use Rattle.desk_call.specs.declared.control.NewControl.{NewControl}
use Rattle.desk_call.specs.declared.list.NewList.{NewList}
use Rattle.vis_update.specs.declared.area.Area.{Area}
use Rattle.window_list.specs.declared.window.Window.{Window}
use Rattle.window_mgr.specs.declared.manager.WindowManager.{WindowManager}
use Rattle.window_mgr.specs.DeskStates.{Opened, desk_with}
use Rattle.window_mgr.specs.Edits.{IsWindowAt}
use Rattle.window_mgr.specs.Kept.{IsKept}
use Rattle.window_mgr.specs.Records.{desk_of, state_of, state_showing}
use Rattle.window_mgr.specs.Whole.{IsWholeManager}
use Rattle.window_mgr.proofs.Showing.{distinct_showing}
use Rattle.control_mgr.specs.declared.controls.Controls.{Controls}
use Rattle.control_mgr.specs.ControlDesks.{ControlSlot, ControlsState, controls_show}
use Rattle.control_mgr.specs.ControlSteps.{IsControlStep}
use Rattle.control_mgr.specs.Planned.{IsLaidSo}
use Rattle.control_mgr.specs.WholeControls.{AreWholeControls, controls_state}
use Rattle.control_mgr.specs.WholeControls as control_records
use Rattle.control_mgr.proofs.ControlFacts.{control_facts}
use Rattle.control_mgr.proofs.ControlsKept.{control_behind}
use Rattle.control_mgr.proofs.LaidSo.{laid_now}
use Rattle.list_mgr.specs.declared.judging.ListTicket.{ListTicket}
use Rattle.list_mgr.specs.declared.lists.Lists.{Lists}
use Rattle.list_mgr.specs.declared.planning.Planned.{Planned}
use Rattle.list_mgr.specs.ListDesks.{ListDesk, ListSlot, lists_show, with_controls}
use Rattle.list_mgr.specs.ListRefusals.{most_lists}
use Rattle.list_mgr.specs.ListSteps.{IsBarMade, IsListMade, IsListPut, horizontal_bar_of, vertical_bar_of}
use Rattle.list_mgr.specs.Putting.{AreRoomier, IsPlace, IsPlanOfList, IsReadyToPut, LeavesBeside}
use Rattle.list_mgr.specs.WholeLists.{AreBeside, AreWholeLists, LeavesOver, list_desk, lists_state, records_of}
use Rattle.list_mgr.proofs.ListsWhole.{whole_behind}
use Rattle.list_mgr.proofs.Steps.{unchanged}
use Rattle.tb_geom.specs.Points.{PixelSet}
use Rattle.desk_layers.specs.declared.part.Part.{Part}

-- where a list is put is as good where nothing but the room for lists changed
pub place_roomier : {V : Type 0} {H : V → Type 0} {D : Type 0} (n : NewList) (k : ListTicket) (t : WindowManager V H) (m m' : Lists D) → AreRoomier m m' → IsPlace n t m k → IsPlace n t m' k
place_roomier n k t m m' same place = record {
  window = place.window;
  serial = same.next ∙ place.serial;
  flags = place.flags;
  view = place.view;
  good = place.good;
  fits = place.fits;
  few = subst (λ ls. count_of n.window ls < most_lists) (sym same.lists) place.few;
}

-- a list that was planned over the layers that its window has can be put
pub ready_now : {V : Type 0} {H : V → Type 0} {D : Type 0} (loan : TakenBox V H → WindowLoan) (n : NewList) (k : ListTicket) (t : WindowManager V H) (m m' : Lists D) → IsKept loan t → AreRoomier m m' → IsPlace n t m k
    → (w : Window V H) → IsWindowAt t.windows.records.items k.window w → (a : Area) → a ≡ get_or t.areas.items k.window a → (p : Planned) → p.cells ≡ empty_grid (nat_abs n.columns) (nat_abs n.rows)
    → ((u : WindowManager V H) → IsLaidSo loan k.window w.layers a.update t u → IsPlanOfList loan k w.layers u p.laid) → length m'.list.items.items < vec_capacity m'.list.items → IsReadyToPut loan n k t m' p
ready_now loan n k t m m' kept same place w lies a read p cells planned room =
    let laid = laid_now loan t kept k.window place.window.0 a read w lies in
    record { place = place_roomier n k t m m' same place; cells = cells; layers = w.layers; lies = laid.layers; planned = planned t laid; room = room }

module _ {V : Type 0} {H : V → Type 0} (loan : TakenBox V H → WindowLoan) {X : Type 0} {L : X → Type 0} (list_loan : TakenBox X L → ListLoan) where
  -- ---- where nothing but the room for lists changed

  module _ (m m' : Lists (TakenBox X L)) (same : AreRoomier m m') where
    lists_same : (kept : List ListSlot) → lists_state list_loan m' kept ≡ lists_state list_loan m kept
    lists_same kept = λ i. record { lists = all_seen list_loan (same.lists i); next = same.next i; stock = kept }

    desk_same : (t : WindowManager V H) (others : List ℕ → Part → PixelSet) (o : Opened) (slots : List WindowSlot) (cs : ControlsState) (kept : List ListSlot) → list_desk list_loan loan t others o slots cs m' kept ≡ list_desk list_loan loan t others o slots cs m kept
    desk_same t others o slots cs kept = λ i. record {
      desk = desk_with o (state_showing (controls_show (lists_show others (lists_same kept i).lists) cs.controls) (state_of loan t slots));
      controls = cs;
      lists = lists_same kept i;
      others = others;
    }

    pub beside_roomier : (t : WindowManager V H) → AreBeside list_loan loan t m → AreBeside list_loan loan t m'
    beside_roomier t beside = record { slots = beside.slots; whole = subst (AreWholeLists (desk_of loan t []).windows) (sym (lists_same beside.slots)) beside.whole }

    pub put_roomier : (kept rest : List ListSlot) (step : ListDesk → ListDesk → Type 0) (t u : WindowManager V H) (n : Lists (TakenBox X L)) → LeavesBeside list_loan loan kept rest step t m' u n
        → LeavesBeside list_loan loan kept rest step t m u n
    put_roomier kept rest step t u n leaves others o slots cs whole controls lists =
        let left = leaves others o slots cs whole controls (subst (AreWholeLists (desk_of loan t []).windows) (sym (lists_same kept)) lists) in
        (left.0, left.1, left.2, subst (λ d. step d (list_desk list_loan loan u others o slots cs n rest)) (desk_same t others o slots cs kept) left.3)

  module _ {W : Type 0} {K : W → Type 0} (control_loan : TakenBox W K → ControlLoan) (n : NewList) (serial : ℕ) where
    -- ---- no bar

    made_plain : (t u : WindowManager V H) (c : Controls (TakenBox W K)) (m m' : Lists (TakenBox X L)) (kept rest : List ListSlot) → (n.vertical_bar ≡ false) × (n.horizontal_bar ≡ false)
        → LeavesBeside list_loan loan kept rest (IsListPut n serial None None) t m u m'
        → (held : List ControlSlot) → LeavesOver list_loan loan control_loan held held kept rest (IsListMade n serial) t c m u c m'
    made_plain t u c m m' kept rest none put held others o slots whole controls lists =
        let left = put others o slots (controls_state control_loan c held) whole controls lists in
        let before : ListDesk = list_desk list_loan loan t others o slots (controls_state control_loan c held) m kept in
        let stays = unchanged loan list_loan t others o slots (controls_state control_loan c held) m kept in (
          left.0,
          left.1,
          left.2,
          (
            before,
            before,
            None,
            None,
            subst (λ b. IsBarMade b (vertical_bar_of n) None before before) (sym none.0) (refl, stays),
            subst (λ b. IsBarMade b (horizontal_bar_of n) None before before) (sym none.1) (refl, stays),
            left.3,
          ),
        )

    -- where it was planned first
    pub put_plain : (t u : WindowManager V H) (c : Controls (TakenBox W K)) (m m' r : Lists (TakenBox X L)) (kept rest : List ListSlot) → (n.vertical_bar ≡ false) × (n.horizontal_bar ≡ false) → AreRoomier m m'
        → (vertical horizontal : Option ℕ) → vertical ≡ None → horizontal ≡ None → LeavesBeside list_loan loan kept rest (IsListPut n serial vertical horizontal) t m' u r
        → (held : List ControlSlot) → LeavesOver list_loan loan control_loan held held kept rest (IsListMade n serial) t c m u c r
    put_plain t u c m m' r kept rest none same vertical horizontal first second put =
        made_plain t u c m r kept rest none
        (put_roomier m m' same kept rest (IsListPut n serial None None) t u r
        (subst (λ (x : Option ℕ × Option ℕ). LeavesBeside list_loan loan kept rest (IsListPut n serial x.0 x.1) t m' u r) (λ i. (first i, second i)) put))

    -- ---- one bar

    -- what a bar that is made leaves of the lists, and that it was made
    pub record IsBarDone (new : NewControl) (bar : ℕ) (t u : WindowManager V H) (others : List ℕ → Part → PixelSet) (o : Opened) (slots : List WindowSlot) (c d : Controls (TakenBox W K)) (held left : List ControlSlot) (m : Lists (TakenBox X L)) (kept : List ListSlot) : Type 0 where
      pub windows : IsWholeManager loan u slots
      pub controls : AreWholeControls (desk_of loan u []).windows (controls_state control_loan d left)
      pub lists : AreWholeLists (desk_of loan u []).windows (lists_state list_loan m kept)
      pub made : IsBarMade true new (Some bar) (list_desk list_loan loan t others o slots (controls_state control_loan c held) m kept) (list_desk list_loan loan u others o slots (controls_state control_loan d left) m kept)

    pub bar_done : (new : NewControl) (bar : ℕ) (t u : WindowManager V H) (others : List ℕ → Part → PixelSet) (o : Opened) (slots : List WindowSlot) (c d : Controls (TakenBox W K)) (held left : List ControlSlot) (m : Lists (TakenBox X L)) (kept : List ListSlot)
        → control_records.LeavesOver control_loan loan held left (IsControlStep (control_calls.New new) (Ok (control_reply.Made bar))) t o c u o d
        → IsWholeManager loan t slots → AreWholeControls (desk_of loan t []).windows (controls_state control_loan c held) → AreWholeLists (desk_of loan t []).windows (lists_state list_loan m kept)
        → IsBarDone new bar t u others o slots c d held left m kept
    bar_done new bar t u others o slots c d held left m kept leaves whole controls lists =
        let before : ListDesk = list_desk list_loan loan t others o slots (controls_state control_loan c held) m kept in
        let after : ListDesk = list_desk list_loan loan u others o slots (controls_state control_loan d left) m kept in
        let done = leaves (lists_show others (records_of list_loan m)) slots whole controls in
        record {
          windows = done.0;
          controls = done.1;
          lists = whole_behind (desk_of loan t []).windows (desk_of loan u []).windows (lists_state list_loan m kept)
              (control_facts (control_calls.New new) (Ok (control_reply.Made bar)) (with_controls before) (with_controls after) done.2).0.windows
              (control_behind (control_calls.New new) (Ok (control_reply.Made bar)) (with_controls before) (with_controls after)
              (distinct_showing (controls_show (lists_show others (records_of list_loan m)) (control_records.records_of control_loan c)) (desk_of loan t slots) whole.sound.distinct) controls.apart done.2) lists;
          made = ((bar, refl, done.2), record { lists = refl; others = refl });
        }

    module _ (t u v : WindowManager V H) (c d : Controls (TakenBox W K)) (held left : List ControlSlot) (new : NewControl) (bar : ℕ)
        (first : (o : Opened) → control_records.LeavesOver control_loan loan held left (IsControlStep (control_calls.New new) (Ok (control_reply.Made bar))) t o c u o d)
        (m m' : Lists (TakenBox X L)) (kept rest : List ListSlot) where
      made_with_vertical : n.vertical_bar ≡ true → n.horizontal_bar ≡ false → new ≡ vertical_bar_of n → LeavesBeside list_loan loan kept rest (IsListPut n serial (Some bar) None) u m v m'
          → LeavesOver list_loan loan control_loan held left kept rest (IsListMade n serial) t c m v d m'
      made_with_vertical wanted other new_is put others o slots whole controls lists =
          let once = bar_done new bar t u others o slots c d held left m kept (first o) whole controls lists in
          let done = put others o slots (controls_state control_loan d left) once.windows once.controls once.lists in
          let before : ListDesk = list_desk list_loan loan t others o slots (controls_state control_loan c held) m kept in
          let mid : ListDesk = list_desk list_loan loan u others o slots (controls_state control_loan d left) m kept in (
            done.0,
            done.1,
            done.2,
            (
              mid,
              mid,
              Some bar,
              None,
              subst (λ (x : Bool × NewControl). IsBarMade x.0 x.1 (Some bar) before mid) (λ i. (sym wanted i, new_is i)) once.made,
              subst (λ b. IsBarMade b (horizontal_bar_of n) None mid mid) (sym other) (refl, unchanged loan list_loan u others o slots (controls_state control_loan d left) m kept),
              done.3,
            ),
          )

      made_with_horizontal : n.vertical_bar ≡ false → n.horizontal_bar ≡ true → new ≡ horizontal_bar_of n → LeavesBeside list_loan loan kept rest (IsListPut n serial None (Some bar)) u m v m'
          → LeavesOver list_loan loan control_loan held left kept rest (IsListMade n serial) t c m v d m'
      made_with_horizontal other wanted new_is put others o slots whole controls lists =
          let once = bar_done new bar t u others o slots c d held left m kept (first o) whole controls lists in
          let done = put others o slots (controls_state control_loan d left) once.windows once.controls once.lists in
          let before : ListDesk = list_desk list_loan loan t others o slots (controls_state control_loan c held) m kept in
          let mid : ListDesk = list_desk list_loan loan u others o slots (controls_state control_loan d left) m kept in (
            done.0,
            done.1,
            done.2,
            (
              before,
              mid,
              None,
              Some bar,
              subst (λ b. IsBarMade b (vertical_bar_of n) None before before) (sym other) (refl, unchanged loan list_loan t others o slots (controls_state control_loan c held) m kept),
              subst (λ (x : Bool × NewControl). IsBarMade x.0 x.1 (Some bar) before mid) (λ i. (sym wanted i, new_is i)) once.made,
              done.3,
            ),
          )

      -- the one bar that is wanted, whichever it is
      pub made_with_bar : (b : Bool) → n.vertical_bar ≡ b → n.horizontal_bar ≡ not b → new ≡ cond b (vertical_bar_of n) (horizontal_bar_of n)
          → LeavesBeside list_loan loan kept rest (IsListPut n serial (cond b (Some bar) None) (cond b None (Some bar))) u m v m'
          → LeavesOver list_loan loan control_loan held left kept rest (IsListMade n serial) t c m v d m'
      made_with_bar true wanted other new_is put = made_with_vertical wanted other new_is put
      made_with_bar false other wanted new_is put = made_with_horizontal other wanted new_is put

    -- ---- both bars

    pub made_with_bars : (t u v w : WindowManager V H) (c d e : Controls (TakenBox W K)) (held mid left : List ControlSlot) (vertical horizontal : ℕ)
        → ((o : Opened) → control_records.LeavesOver control_loan loan held mid (IsControlStep (control_calls.New (vertical_bar_of n)) (Ok (control_reply.Made vertical))) t o c u o d)
        → ((o : Opened) → control_records.LeavesOver control_loan loan mid left (IsControlStep (control_calls.New (horizontal_bar_of n)) (Ok (control_reply.Made horizontal))) u o d v o e)
        → (m m' : Lists (TakenBox X L)) (kept rest : List ListSlot) → (n.vertical_bar ≡ true) × (n.horizontal_bar ≡ true)
        → LeavesBeside list_loan loan kept rest (IsListPut n serial (Some vertical) (Some horizontal)) v m w m'
        → LeavesOver list_loan loan control_loan held left kept rest (IsListMade n serial) t c m w e m'
    made_with_bars t u v w c d e held mid left vertical horizontal first second m m' kept rest wanted put others o slots whole controls lists =
        let once = bar_done (vertical_bar_of n) vertical t u others o slots c d held mid m kept (first o) whole controls lists in
        let twice = bar_done (horizontal_bar_of n) horizontal u v others o slots d e mid left m kept (second o) once.windows once.controls once.lists in
        let done = put others o slots (controls_state control_loan e left) twice.windows twice.controls twice.lists in
        let before : ListDesk = list_desk list_loan loan t others o slots (controls_state control_loan c held) m kept in
        let with_one : ListDesk = list_desk list_loan loan u others o slots (controls_state control_loan d mid) m kept in
        let with_both : ListDesk = list_desk list_loan loan v others o slots (controls_state control_loan e left) m kept in (
          done.0,
          done.1,
          done.2,
          (
            with_one,
            with_both,
            Some vertical,
            Some horizontal,
            subst (λ b. IsBarMade b (vertical_bar_of n) (Some vertical) before with_one) (sym wanted.0) once.made,
            subst (λ b. IsBarMade b (horizontal_bar_of n) (Some horizontal) with_one with_both) (sym wanted.1) twice.made,
            done.3,
          ),
        )
