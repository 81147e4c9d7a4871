-- A scroll bar of a new list that is planned, and then added: what that leaves for the list, and for the bar behind it.
use Rattle.std.proofs.Common.{◌≡◌, ℕ, ◌<◌, false, List, [], None, Some, Ok, sym, ap, ◌∙◌, subst}
use Rattle.std.specs.Prelude.{All}
use Rattle.tb_geom.specs.Pixels.{Pixels}
use Rattle.tb_geom.specs.Rects.{is_in_range, moved_rect}
use Rattle.tb_geom.specs.Refusals.{first_refusal}
use Rattle.control_mgr.specs.Seen.{all_seen}
use Rattle.desk_layers.specs.declared.part.Part.TheVariants as part
use Rattle.def_iface.specs.ControlMeaning.{ControlDefinition, ControlLoan}
use Rattle.desk_layers.specs.Desk.{same_part}
use Rattle.def_iface.specs.ListMeaning.{ListLoan}
use Rattle.def_iface.specs.WindowMeaning.{WindowLoan}
use Rattle.def_iface.specs.Slots.{IsTaken, TakenBox}
use Rattle.window_list.specs.declared.layer.Layer.{Layer}
use Rattle.window_list.specs.Holders.{PlacedLayers}
use Rattle.list_view.specs.Views.{view_rect}
use Rattle.desk_call.specs.declared.control.ControlCall.TheVariants.{New}
use Rattle.desk_call.specs.declared.control.ControlReply.TheVariants as reply
use Rattle.desk_call.specs.declared.control.NewControl.{NewControl}
use Rattle.desk_call.specs.declared.list.NewList.{NewList}
use Rattle.window_list.specs.declared.window.Window.{Window}
use Rattle.window_mgr.specs.declared.manager.WindowManager.{WindowManager}
use Rattle.window_mgr.specs.DeskStates.{Opened}
use Rattle.window_mgr.specs.Edits.{IsWindowAt}
use Rattle.window_mgr.specs.Kept.{IsKept}
use Rattle.window_mgr.specs.Records.{desk_of}
use Rattle.window_mgr.specs.Relayered.{AreLayersPut}
use Rattle.control_mgr.specs.declared.controls.Controls.{Controls}
use Rattle.control_mgr.specs.declared.making.Addition.{Addition}
use Rattle.control_mgr.specs.declared.making.Ticket.{Ticket}
use Rattle.control_mgr.specs.ControlDesks.{ControlSlot}
use Rattle.control_mgr.specs.ControlRefusals.{judged_refusals}
use Rattle.control_mgr.specs.ControlSteps.{IsControlMade, IsControlStep}
use Rattle.control_mgr.specs.Making.{IsAddition, IsGrown, IsReadyToAdd, IsRoomier, judged_by}
use Rattle.control_mgr.specs.Planned.{IsLaidSo}
use Rattle.control_mgr.specs.WholeControls.{AreWholeControls, LeavesOver, controls_state}
use Rattle.control_mgr.proofs.LaidSo.{place_put, stands_put}
use Rattle.control_mgr.proofs.LayerIn.{all_with}
use Rattle.control_mgr.proofs.NewSteps.{made_step}
use Rattle.control_mgr.proofs.Places.{read_is, there_is}
use Rattle.control_mgr.proofs.PlannedNext.{laid_after, left_kept, left_whole}
use Rattle.control_mgr.proofs.Presses.{idle_now}
use Rattle.list_mgr.specs.declared.judging.ListTicket.{ListTicket}
use Rattle.list_mgr.specs.declared.lists.Lists.{Lists}
use Rattle.list_mgr.specs.declared.new_bars.Bar.{Bar}
use Rattle.list_mgr.specs.ListRefusals.{scroll_kind, view_of}
use Rattle.list_mgr.specs.NewBars.{IsGoodBar, bar_control}
use Rattle.list_mgr.specs.Putting.{IsBarPlanned, IsPlace, MayLay}
use Rattle.list_mgr.specs.WholeLists.{AreBeside}
use Rattle.list_mgr.proofs.GoodBars.{bar_judged}
use Rattle.list_mgr.proofs.PutSteps.{bar_done}

-- ---- a bar that is planned

-- a list may lie behind it where it may lie behind the layers in front
pub may_lay_after : (k : ListTicket) (n : NewControl) (d : ControlDefinition) (j : Ticket) (ls : PlacedLayers) (a : Addition) → IsGrown n d j ls a → MayLay k ls → MayLay k a.layers
may_lay_after k n d j ls a grown may = record {
  apart = grown.apart;
  unused = subst (λ (x : PlacedLayers). All (λ (y : Layer). same_part y.part (part.List k.serial) ≡ false) x.layers) (sym grown.layers)
      (all_with (λ (y : Layer). same_part y.part (part.List k.serial) ≡ false) j.layer ls.layers grown.layer may.unused (ap (λ q. same_part q (part.List k.serial)) (grown.is 0).part));
  fits = ap (λ (x : PlacedLayers). is_in_range (moved_rect (view_rect k.view) x.place.h x.place.v)) grown.layers ∙ may.fits;
}

-- a bar is planned, whatever the code calls it and what it is given
pub bar_planned : {V : Type 0} {H : V → Type 0} (loan : TakenBox V H → WindowLoan) {W : Type 0} {K : W → Type 0} (control_loan : TakenBox W K → ControlLoan)
    (window : ℕ) (b : Bar) (d : ControlDefinition) (k given : Ticket) (control : NewControl) (ls was : PlacedLayers) (update stale : Pixels) (t : WindowManager V H) (a : Addition)
    → control ≡ bar_control window b → given ≡ k → was ≡ ls → stale ≡ update → IsGrown control d given was a
    → ((u : WindowManager V H) (c : Controls (TakenBox W K)) → IsReadyToAdd loan control_loan control d given was stale t u c → IsAddition loan control_loan control d u c a)
    → IsBarPlanned loan control_loan window b d k ls update t a
bar_planned {V} {H} loan {W} {K} control_loan window b d k given control ls was update stale t a control_is given_is ls_is update_is grown planned =
    let both = subst (λ (x : NewControl × Ticket × PlacedLayers × Pixels). IsGrown x.0 d x.1 x.2 a × ((u : WindowManager V H) (c : Controls (TakenBox W K)) → IsReadyToAdd loan control_loan x.0 d x.1 x.2 x.3 t u c → IsAddition loan control_loan x.0 d u c a))
    (λ i. (control_is i, given_is i, ls_is i, update_is i)) (grown, planned) in
    record { grown = both.0; planned = both.1 }

-- where layers were put, a list that is judged may still be put
pub place_after : {V : Type 0} {H : V → Type 0} {D : Type 0} (n : NewList) (k : ListTicket) (u v : WindowManager V H) (m : Lists D) (layers : PlacedLayers) (update : Pixels) → AreLayersPut k.window layers update u v
    → IsPlace n u m k → IsPlace n v m k
place_after {V} {H} n k u v m layers update put place = record {
  window = stands_put k.window layers update u v put place.window.0 n.window place.window;
  serial = place.serial;
  flags = place.flags;
  view = place.view;
  good = place.good;
  fits = λ x is.
      let there = there_is u.windows.records.items k.window place.window.0 in
      let w : Window V H = there.item in
      let lies : IsWindowAt u.windows.records.items k.window w = read_is u.windows.records.items k.window w there.there in
      (λ i. is_in_range (moved_rect (view_rect (view_of n)) (place_put k.window layers update u v put place.window.0 w x lies is i).h (place_put k.window layers update u v put place.window.0 w x lies is i).v))
      ∙ place.fits w lies;
  few = place.few;
}

-- ---- a bar that was added

module _ {V : Type 0} {H : V → Type 0} (loan : TakenBox V H → WindowLoan) {W : Type 0} {K : W → Type 0} (control_loan : TakenBox W K → ControlLoan)
    (window : ℕ) (b : Bar) (good : IsGoodBar b) (d : ControlLoan) (k : Ticket) (few : k.layer < 64) (ls : PlacedLayers) (update : Pixels) (t u : WindowManager V H) (c c' : Controls (TakenBox W K)) (same : IsRoomier c c')
    (ready : IsReadyToAdd loan control_loan (bar_control window b) d.definition k ls update t u c') (a : Addition) (grown : IsGrown (bar_control window b) d.definition k ls a)
    (v : WindowManager V H) (e : Controls (TakenBox W K))
    (added : (before left : List ControlSlot) → IsTaken (λ (x : ControlDefinition). x.stage) scroll_kind d before left → (o : Opened) → LeavesOver control_loan loan before left (IsControlMade (bar_control window b) a.ticket.serial) u o c' v o e) where
  abbrev new : NewControl
  new = bar_control window b

  -- nothing refused it
  unrefused : judged_by loan control_loan new (Some d.definition) u c ≡ None
  unrefused =
      sym (λ i. first_refusal (judged_refusals new (Some d.definition) (desk_of loan u []) (all_seen control_loan (same.controls i)) (same.next i)))
      ∙ bar_judged loan control_loan window b d.definition u c' k ready.laid.has.kept good ready.ticket few

  -- it was made
  pub bar_step : (before left : List ControlSlot) → IsTaken (λ (x : ControlDefinition). x.stage) scroll_kind d before left → (o : Opened) → LeavesOver control_loan loan before left (IsControlStep (New new) (Ok (reply.Made a.ticket.serial))) u o c v o e
  bar_step before left taken = made_step loan control_loan new u c c' same v e d before left a.ticket.serial taken unrefused (added before left taken)

  module _ (before left : List ControlSlot) (taken : IsTaken (λ (x : ControlDefinition). x.stage) scroll_kind d before left) (whole : AreWholeControls (desk_of loan u []).windows (controls_state control_loan c' before)) where
    abbrev made : LeavesOver control_loan loan before left (IsControlMade new a.ticket.serial) u idle_now c' v idle_now e
    made = added before left taken idle_now

    pub kept_with_bar : IsKept loan v
    kept_with_bar = left_kept loan control_loan (IsControlMade new a.ticket.serial) before left u v idle_now idle_now c' e made ready.laid.has.kept whole

    pub controls_with_bar : AreWholeControls (desk_of loan v []).windows (controls_state control_loan e left)
    controls_with_bar = left_whole loan control_loan (IsControlMade new a.ticket.serial) before left u v idle_now idle_now c' e made ready.laid.has.kept whole

    -- the lists beside it are as they were
    pub lists_with_bar : {X : Type 0} {L : X → Type 0} (list_loan : TakenBox X L → ListLoan) (n : NewList) (m : Lists (TakenBox X L)) → AreBeside list_loan loan u m → AreBeside list_loan loan v m
    lists_with_bar list_loan n m beside = record {
      slots = beside.slots;
      whole = (bar_done loan list_loan control_loan n 0 new a.ticket.serial u v (λ font q p. false) idle_now ready.laid.has.kept.slots c e before left m beside.slots (bar_step before left taken idle_now) ready.laid.has.kept.whole
          (subst (AreWholeControls (desk_of loan u []).windows) same_state whole) beside.whole).lists;
    }
      where
        same_state : controls_state control_loan c' before ≡ controls_state control_loan c before
        same_state = λ i. record { controls = all_seen control_loan (same.controls i); next = same.next i; stock = before }

    module _ (put : AreLayersPut a.ticket.window a.layers a.relaying.update u v) where
      -- its window has the layers that were planned
      pub laid_with_bar : IsLaidSo loan k.window a.layers a.relaying.update t v
      laid_with_bar = laid_after loan control_loan new d.definition k ls update t u c' ready a grown before left idle_now idle_now v e made whole put

      pub place_with_bar : {D : Type 0} (n : NewList) (l : ListTicket) (m : Lists D) → l.window ≡ k.window → IsPlace n u m l → IsPlace n v m l
      place_with_bar n l m same place = place_after n l u v m a.layers a.relaying.update (subst (λ x. AreLayersPut x a.layers a.relaying.update u v) (ap (λ (x : Ticket). x.window) grown.ticket ∙ sym same) put) place
