-- The steps of the calls that arrange windows.
use Rattle.std.proofs.Common.{◌≡◌, inr, ℕ, ◌<◌, not, Bool, true, false, if◌then◌else◌, List, [], ◌∷◌, length, map, Option, None, Some, Result, Ok, Err, refl, sym, ap, ◌∙◌, subst}
use Rattle.std.specs.Prelude.{is_none}
use Rattle.std.specs.List.{insert, remove}
use Rattle.std.proofs.lemmas.Bool.{and_parts}
use Rattle.tb_geom.specs.declared.point.Point.{Point}
use Rattle.tb_geom.specs.declared.refusal.Refusal.{Refusal}
use Rattle.tb_geom.specs.declared.refusal.Refusal.TheVariants.{NoSuchWindow, OutOfRange}
use Rattle.tb_geom.specs.Points.{minus}
use Rattle.tb_geom.specs.Rects.{in_plane}
use Rattle.def_iface.specs.Slots.{TakenBox}
use Rattle.def_iface.specs.WindowMeaning.{WindowLoan}
use Rattle.def_iface.specs.WindowSlots.{WindowSlot}
use Rattle.desk_layers.specs.Desk as layers
use Rattle.window_list.specs.Classes.{front_place}
use Rattle.window_list.specs.Lists.{floats, leads}
use Rattle.window_list.specs.declared.window.Window.{Window}
use Rattle.vis_update.specs.Records.{WindowRecord, layered_window, record_of, is_floating}
use Rattle.vis_update.specs.Places.{is_placed}
use Rattle.window_mgr.specs.declared.arrange.Activates.{Activates}
use Rattle.window_mgr.specs.declared.arrange.Activates.TheVariants.{Nothing, Itself, ItselfIfFront, FrontInItsPlace, NextInItsPlace}
use Rattle.window_mgr.specs.declared.arrange.Edit.{Edit}
use Rattle.desk_call.specs.declared.window.MoveWindow.{MoveWindow}
use Rattle.desk_call.specs.declared.window.SendBehind as sending
use Rattle.desk_call.specs.declared.window.WindowCall.{WindowCall}
use Rattle.desk_call.specs.declared.window.WindowCall.TheVariants.{Show, Hide, ShowHide, Select, BringToFront, SendBehind, Move}
use Rattle.desk_call.specs.declared.window.WindowReply.{WindowReply}
use Rattle.window_mgr.specs.declared.manager.WindowManager.{WindowManager}
use Rattle.window_mgr.specs.FullDesk.{FullDesk}
use Rattle.window_mgr.specs.AnySlots.{IsRearrangedOverAnySlots}
use Rattle.window_mgr.specs.Sparing.{Spares}
use Rattle.window_mgr.specs.Arrange.{Arrangement, at_place, with_shown, is_visible, if_visible, if_leading, brought, changed, way_between, way_to, behind_this, without}
use Rattle.window_mgr.specs.Edits.{records_put, stays_put, IsWindowAt, IsPlaceBehind, IsPlaceable}
use Rattle.window_mgr.specs.Effects.{Effect, IsEffect, IsArrangement, effect_of}
use Rattle.window_mgr.specs.Effects.Effect.{Arranges}
use Rattle.window_mgr.specs.Finding.{record_with}
use Rattle.window_mgr.specs.Records.{desk_of, state_of, look_on}
use Rattle.tb_geom.specs.Refusals.{first_refusal}
use Rattle.window_mgr.specs.Refused as refused
use Rattle.window_mgr.specs.Refused.{IsRefusal, may_grow, may_be_at, is_missing, move_refusals}
use Rattle.window_mgr.specs.Step.{IsWindowStep}
use Rattle.window_mgr.specs.Whole.{IsWholeManager}
use Rattle.window_mgr.proofs.PutIn.{put_in, put_is_insert, taken_out, map-put, IsFree, distinct_out}
use Rattle.vis_update.proofs.PlaceLemmas.{placed_parts}
use Rattle.window_mgr.proofs.EditSeats.{same_at}
use Rattle.window_mgr.proofs.ClassPlaces.{place_records}
use Rattle.window_mgr.proofs.Arrangements.{found_is, brought_is, changed_is, behind_is}

module _ {V : Type 0} {H : V → Type 0} (loan : TakenBox V H → WindowLoan) (t new : WindowManager V H) (slots : List WindowSlot) (whole : IsWholeManager loan t slots) (i s : ℕ) (x : Window V H) (low : i < length t.windows.records.items) (x_is : IsWindowAt t.windows.records.items i x) (serial : x.serial ≡ s) where
  abbrev desk : FullDesk
  desk = desk_of loan t slots

  abbrev others : List WindowRecord
  others = map (record_of loan) (remove t.windows.records.items i)

  windows : desk.windows ≡ put_in i (record_of loan x) others
  windows = ap (map (record_of loan)) (taken_out t.windows.records.items i x low x_is) ∙ map-put (record_of loan) i x (remove t.windows.records.items i)

  free : IsFree (look_on t) s others
  free = subst (λ n. IsFree (look_on t) n others) serial (distinct_out (look_on t) i (record_of loan x) others (subst (λ ws. layers.AreWindows (map (layered_window (look_on t)) ws)) windows whole.sound.distinct)).0

  pub found : record_with s desk.windows ≡ Some (record_of loan x)
  found = ap (record_with s) windows ∙ found_is (look_on t) s i (record_of loan x) others serial free

  -- the window is there, so that it refuses nothing
  pub not_missing : first_refusal ((is_missing s desk.windows, NoSuchWindow) ∷ []) ≡ None
  not_missing = ap (λ o. if is_none o then Some NoSuchWindow else None) found

  -- the window manager is whole after the call, which makes its step
  abbrev IsStep : WindowCall → Result WindowReply Refusal → Type 0
  IsStep call result = IsWholeManager loan new slots × IsWindowStep call result (state_of loan t slots) (state_of loan new slots)

  -- a call that arranges the windows as the edit does makes its step
  edit_step : (call : WindowCall) (e : Edit) (activates : Activates) (by : Option Point) (result : Result WindowReply Refusal) (a : Arrangement) → e.at ≡ i → effect_of call desk ≡ Arranges a → may_grow call ≡ true → IsRefusal call (state_of loan t slots) None
      → a ≡ record { window = x.serial; by = by; windows = records_put loan e x t; activates = activates }
      → IsRearrangedOverAnySlots loan e activates by result t new → IsStep call result
  edit_step call e activates by (Ok answer) a at is grows allowed a_is done =
      let left = done slots whole in (
        left.0,
        (
          allowed,
          subst (λ (f : Effect). IsEffect f answer (state_of loan t slots) (state_of loan new slots)) (sym is)
              (left.1.0, subst (λ (y : Arrangement). IsArrangement y (state_of loan t slots) (state_of loan new slots)) (sym a_is) (left.1.1 x (subst (λ k. IsWindowAt t.windows.records.items k x) (sym at) x_is))),
        ),
      )
  edit_step call e activates by (Err refusal) a at is grows allowed a_is done =
      let left = done slots whole in
      (left.0, (inr (allowed, (grows, left.1.0)), left.1.1))

  -- the front of its class among the others
  abbrev pub front : ℕ
  front = front_place floats x.floating (remove t.windows.records.items i)

  front_is : front_place is_floating x.floating others ≡ front
  front_is = place_records x.floating loan (remove t.windows.records.items i)

  -- the windows, this one put elsewhere or changed
  brought_so : brought s desk.windows ≡ insert others front (record_of loan x)
  brought_so = ap (brought s) windows ∙ brought_is (look_on t) s i (record_of loan x) others serial free ∙ put_is_insert (front_place is_floating x.floating others) (record_of loan x) others ∙ ap (λ n. insert others n (record_of loan x)) front_is

  pub changed_so : (f : WindowRecord → WindowRecord) → changed s f desk.windows ≡ insert others i (f (record_of loan x))
  changed_so f = ap (changed s f) windows ∙ changed_is (look_on t) s i (record_of loan x) others serial free f ∙ put_is_insert i (f (record_of loan x)) others

  -- ---- one by one

  -- the window is brought to the front of its class, and selected where that is asked
  pub bring_step : (select : Bool) (e : Edit) (activates : Activates) (result : Result WindowReply Refusal) → e ≡ record (stays_put i x) { to = front } → activates ≡ (if select then (if leads x then Itself else Nothing) else Nothing)
      → IsRearrangedOverAnySlots loan e activates None result t new → IsStep (if select then Select s else BringToFront s) result
  bring_step true e activates result e_is activates_is done =
      edit_step (Select s) (record (stays_put i x) { to = front }) (if leads x then Itself else Nothing) None result _ refl refl refl not_missing
      (λ k. record { window = sym serial k; by = None; windows = brought_so k; activates = if_leading (found k) })
      (subst (λ (y : Edit × Activates). IsRearrangedOverAnySlots loan y.0 y.1 None result t new) (λ k. (e_is k, activates_is k)) done)
  bring_step false e activates result e_is activates_is done =
      edit_step (BringToFront s) (record (stays_put i x) { to = front }) Nothing None result _ refl refl refl not_missing
      (λ k. record { window = sym serial k; by = None; windows = brought_so k; activates = Nothing })
      (subst (λ (y : Edit × Activates). IsRearrangedOverAnySlots loan y.0 y.1 None result t new) (λ k. (e_is k, activates_is k)) done)

  -- the window becomes visible or hidden, and what becomes so by that becomes active where that is asked
  pub show_step : (on shown : Bool) (e : Edit) (activates : Activates) (result : Result WindowReply Refusal) → e ≡ record (stays_put i x) { shown = shown }
      → activates ≡ (if on then (if shown then (if x.shown then Nothing else ItselfIfFront) else (if x.shown then FrontInItsPlace else Nothing)) else Nothing)
      → IsRearrangedOverAnySlots loan e activates None result t new
      → IsStep (if on then (if shown then Show s else Hide s) else ShowHide (record { window = s; shown = shown })) result
  show_step true true e activates result e_is activates_is done =
      edit_step (Show s) (record (stays_put i x) { shown = true }) (if x.shown then Nothing else ItselfIfFront) None result _ refl refl refl not_missing
      (λ k. record { window = sym serial k; by = None; windows = changed_so (with_shown true) k; activates = (ap (λ o. if is_visible o then Nothing else ItselfIfFront) found) k })
      (subst (λ (y : Edit × Activates). IsRearrangedOverAnySlots loan y.0 y.1 None result t new) (λ k. (e_is k, activates_is k)) done)
  show_step true false e activates result e_is activates_is done =
      edit_step (Hide s) (record (stays_put i x) { shown = false }) (if x.shown then FrontInItsPlace else Nothing) None result _ refl refl refl not_missing
      (λ k. record { window = sym serial k; by = None; windows = changed_so (with_shown false) k; activates = if_visible (found k) FrontInItsPlace })
      (subst (λ (y : Edit × Activates). IsRearrangedOverAnySlots loan y.0 y.1 None result t new) (λ k. (e_is k, activates_is k)) done)
  show_step false shown e activates result e_is activates_is done =
      edit_step (ShowHide (record { window = s; shown = shown })) (record (stays_put i x) { shown = shown }) Nothing None result _ refl refl refl not_missing
      (λ k. record { window = sym serial k; by = None; windows = changed_so (with_shown shown) k; activates = Nothing })
      (subst (λ (y : Edit × Activates). IsRearrangedOverAnySlots loan y.0 y.1 None result t new) (λ k. (e_is k, activates_is k)) done)

  pub send_step : (b : sending.SendBehind) (to : ℕ) (e : Edit) (result : Result WindowReply Refusal) → s ≡ b.window → IsPlaceBehind loan b i t to → e ≡ record (stays_put i x) { to = to }
      → IsRearrangedOverAnySlots loan e NextInItsPlace None result t new → IsStep (SendBehind b) result
  send_step b to e result named place e_is done =
      edit_step (SendBehind b) (record (stays_put i x) { to = to }) NextInItsPlace None result _ refl refl refl place.unrefused
      (λ k. record { window = sym (serial ∙ named) k; by = None; windows = sent_so k; activates = NextInItsPlace })
      (subst (λ (y : Edit). IsRearrangedOverAnySlots loan y NextInItsPlace None result t new) e_is done)
    where
      sent_so : behind_this b.behind (record_with b.window desk.windows) (without b.window desk.windows) ≡ insert others to (record_of loan x)
      sent_so =
          ap (λ n. behind_this b.behind (record_with n desk.windows) (without n desk.windows)) (sym named)
          ∙ ap (λ ws. behind_this b.behind (record_with s ws) (without s ws)) windows
          ∙ behind_is (look_on t) s i (record_of loan x) others serial free b.behind
          ∙ place.is x x_is

  -- where nothing but this refuses a call about a window that is there, it says whether the call is refused
  pub may_stand : (may : Option WindowRecord → Bool) (b : Bool) → b ≡ may (Some (record_of loan x))
      → first_refusal ((is_missing s desk.windows, NoSuchWindow) ∷ (not (may (record_with s desk.windows)), OutOfRange) ∷ []) ≡ (if b then None else Some OutOfRange)
  may_stand may b stands =
      (λ k. first_refusal ((is_none (found k), NoSuchWindow) ∷ (not (may (found k)), OutOfRange) ∷ []))
      ∙ ap (λ c. if not c then Some OutOfRange else None) (sym stands) ∙ by_test b
    where
      by_test : (c : Bool) → (if not c then Some OutOfRange else None) ≡ (if c then None else Some OutOfRange)
      by_test true = refl
      by_test false = refl

  -- ---- and a window that moves

  pub may_move : (m : MoveWindow) (b : Bool) → s ≡ m.window → b ≡ refused.may_stand m.place x.size (record_of loan x) → first_refusal (move_refusals m desk) ≡ (if b then None else Some OutOfRange)
  may_move m b named placed =
      ap (λ n. first_refusal (move_refusals (record m { window = n }) desk)) (sym named) ∙ may_stand (may_be_at m.place) b placed

  -- a window that may move
  module _ (m : MoveWindow) (stands : refused.may_stand m.place x.size (record_of loan x) ≡ true) where
    pub arrives : in_plane m.place ≡ true
    arrives = (placed_parts (loan x.taken).definition m.place x.size (and_parts (is_placed (Some (loan x.taken).definition) m.place x.size) _ stands).0).place_in

    pub may_arrive : (e : Edit) → e.at ≡ i → e.place ≡ m.place → e.size ≡ x.size → IsPlaceable loan e t.windows.records.items
    may_arrive e at place size w w_is =
        (λ k. refused.may_stand (place k) (size k) (record_of loan (same_at t.windows.records.items i w x low (subst (λ n. IsWindowAt t.windows.records.items n w) at w_is) x_is k))) ∙ stands

  pub move_spares : (m : MoveWindow) (by : Option Point) → s ≡ m.window → by ≡ way_between x.place m.place → Spares loan x.serial by t new
      → Spares loan m.window (way_to m.place (record_with m.window desk.windows)) t new
  move_spares m by named by_is spares = subst (λ (y : ℕ × Option Point). Spares loan y.0 y.1 t new) (λ k. ((serial ∙ named) k, (by_is ∙ ap (way_to m.place) (sym here)) k)) spares
    where
      here : record_with m.window desk.windows ≡ Some (record_of loan x)
      here = ap (λ n. record_with n desk.windows) (sym named) ∙ found

  pub move_step : (m : MoveWindow) (e : Edit) (activates : Activates) (by : Option Point) (result : Result WindowReply Refusal) → s ≡ m.window → first_refusal (move_refusals m desk) ≡ None
      → e ≡ record { at = i; to = if m.select then front else i; place = m.place; size = x.size; user_state = None; shown = x.shown } → activates ≡ (if m.select then (if leads x then Itself else Nothing) else Nothing) → by ≡ way_between x.place m.place
      → IsRearrangedOverAnySlots loan e activates by result t new → IsStep (Move m) result
  move_step m e activates by result named allowed e_is activates_is by_is done =
      edit_step (Move m) (record { at = i; to = if m.select then front else i; place = m.place; size = x.size; user_state = None; shown = x.shown }) (if m.select then (if leads x then Itself else Nothing) else Nothing) (way_between x.place m.place) result _ refl refl refl allowed
      (λ k. record {
        window = sym (serial ∙ named) k;
        by = (ap (way_to m.place) here) k;
        windows = (by_select m.select) k;
        activates = (ap (λ o. if m.select then if_leading o else Nothing) here) k;
      })
      (subst (λ (y : Edit × Activates × Option Point). IsRearrangedOverAnySlots loan y.0 y.1 y.2 result t new) (λ k. (e_is k, activates_is k, by_is k)) done)
    where
      here : record_with m.window desk.windows ≡ Some (record_of loan x)
      here = ap (λ n. record_with n desk.windows) (sym named) ∙ found

      there : changed m.window (at_place m.place) desk.windows ≡ put_in i (at_place m.place (record_of loan x)) others
      there = ap (λ n. changed n (at_place m.place) desk.windows) (sym named) ∙ ap (changed s (at_place m.place)) windows ∙ changed_is (look_on t) s i (record_of loan x) others serial free (at_place m.place)

      by_select : (b : Bool) → (if b then brought m.window (changed m.window (at_place m.place) desk.windows) else changed m.window (at_place m.place) desk.windows) ≡ insert others (if b then front else i) (at_place m.place (record_of loan x))
      by_select true = (λ k. brought (sym named k) (there k)) ∙ brought_is (look_on t) s i (at_place m.place (record_of loan x)) others serial free ∙ put_is_insert (front_place is_floating x.floating others) (at_place m.place (record_of loan x)) others
          ∙ ap (λ n. insert others n (at_place m.place (record_of loan x))) front_is
      by_select false = there ∙ put_is_insert i (at_place m.place (record_of loan x)) others
