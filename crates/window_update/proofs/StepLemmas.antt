-- The steps of marks, and of an update.
use Rattle.std.proofs.Common.{◌≡◌, inr, ℕ, ◌<◌, Bool, true, false, ◌&&◌, if◌then◌else◌, List, [], length, None, Some, Result, Ok, Err, refl, sym, ap, ◌∙◌, subst}
use Rattle.std.specs.Prelude.{slice_index_or, nat_abs}
use Rattle.std.proofs.lemmas.Bool.{and_parts}
use Rattle.tb_geom.specs.declared.point.Point.{Point}
use Rattle.tb_geom.specs.declared.refusal.Refusal.{Refusal}
use Rattle.tb_geom.specs.declared.refusal.Refusal.TheVariants.{NoMemory, StalePixels}
use Rattle.tb_geom.specs.Points.{PixelSet, minus}
use Rattle.tb_geom.specs.Pixels.{Pixels, holds}
use Rattle.desk_layers.specs.declared.part.Part.{Part}
use Rattle.def_iface.specs.Slots.{TakenBox}
use Rattle.def_iface.specs.WindowMeaning.{WindowLoan}
use Rattle.def_iface.specs.WindowSlots.{WindowSlot}
use Rattle.desk_layers.specs.Desk as layers
use Rattle.desk_layers.specs.Owner.{Owner, owner}
use Rattle.desk_layers.specs.Change.{Change, IsChanged}
use Rattle.desk_call.specs.declared.activity.Activity.{Activity}
use Rattle.desk_call.specs.declared.update.UpdateCall.{UpdateCall}
use Rattle.desk_call.specs.declared.update.UpdateCall.TheVariants as asks
use Rattle.desk_call.specs.declared.update.WindowArea.{WindowArea}
use Rattle.desk_call.specs.declared.window.WindowReply.{WindowReply}
use Rattle.window_list.specs.declared.window.Window.{Window}
use Rattle.vis_update.specs.declared.area.Area.{Area}
use Rattle.vis_update.specs.Areas.{stale_in, is_content_of}
use Rattle.vis_update.specs.Records.{record_of}
use Rattle.window_mgr.specs.declared.manager.WindowManager.{WindowManager}
use Rattle.window_mgr.specs.Edits.{IsWindowAt, StandsAt}
use Rattle.window_mgr.specs.Finding.{record_with}
use Rattle.window_mgr.specs.FullDesk.{FullDesk, FullState, layered_desk, layered_state}
use Rattle.window_mgr.specs.Kept.{IsKept}
use Rattle.window_mgr.specs.Records.{desk_of, state_of, state_showing}
use Rattle.window_mgr.specs.Updating.{IsRemarked}
use Rattle.window_mgr.specs.Whole.{IsWholeManager}
use Rattle.window_mgr.proofs.EditSeats.{there_is}
use Rattle.window_mgr.proofs.TellLemmas as telling
use Rattle.window_mgr.proofs.Showing.{owner_showing}
use Rattle.window_mgr.proofs.UpdateSteps.{added_is_changed, taken_is_changed, remarked_showing}
use Rattle.window_update.specs.declared.marking.Verdict.{Verdict}
use Rattle.window_update.specs.declared.marking.Verdict.TheVariants.{Stale, Right}
use Rattle.window_update.specs.declared.updates.Updates.{Updates}
use Rattle.window_mgr.specs.DeskStates.{Opened, DeskState, LeavesDesk, desk_with, LeavesDeskShowing}
use Rattle.window_paint.specs.White.{all_white}
use Rattle.window_update.specs.Marks.{marked_by, IsMarkedBy}
use Rattle.window_update.specs.Rightness.{IsJudgement}
use Rattle.window_update.specs.Sets.{IsAreaOf, marked_in, on_place}
use Rattle.window_update.specs.WholeUpdates.{opened}
use Rattle.window_update.specs.UpdateRefusals.{IsAreaRefusal, IsUpdateRefusal, may_update_grow}
use Rattle.window_update.specs.UpdateSteps.{adding, taking, IsAreaMarked, IsUpdateEffect, IsUpdateRefused, IsUpdateStep}
use Rattle.window_update.proofs.MarkLemmas.{its_area}

-- a call that is refused and leaves all as it was
pub is_refused : {V : Type 0} {H : V → Type 0} (loan : TakenBox V H → WindowLoan) (shows : List ℕ → Part → PixelSet) (t : WindowManager V H) (u : Opened) (call : UpdateCall) (e : Refusal)
    → ((slots : List WindowSlot) → IsUpdateRefused call e (state_showing shows (state_of loan t slots))) → LeavesDeskShowing loan shows (IsUpdateStep call (Err e)) t u t u
is_refused loan shows t u call e refused slots whole =
    (whole, (refused slots, record { windows = record { desk = refl; stale = λ p on. refl; image = λ p on. refl }; activity = refl; begun = refl }))

-- so does one for which there is no memory
pub short_of_memory : {V : Type 0} {H : V → Type 0} (loan : TakenBox V H → WindowLoan) (shows : List ℕ → Part → PixelSet) (t new : WindowManager V H) (u : Opened) (call : UpdateCall) (e : Refusal) → new ≡ t
    → ((slots : List WindowSlot) → IsUpdateRefusal call (state_showing shows (state_of loan t slots)) None × ((may_update_grow call ≡ true) × (e ≡ NoMemory))) → LeavesDeskShowing loan shows (IsUpdateStep call (Err e)) t u new u
short_of_memory loan shows t new u call e same free =
    subst (λ n. LeavesDeskShowing loan shows (IsUpdateStep call (Err e)) t u n u) (sym same) (is_refused loan shows t u call e (λ slots. inr (free slots)))

-- ---- marks

-- the call that makes a mark, and the change that it makes
abbrev pub marking : Verdict → WindowArea → UpdateCall
marking Stale m = asks.Invalidate m
marking Right m = asks.Validate m

abbrev marking_change : Verdict → ℕ → PixelSet → FullState → Change
marking_change Stale = adding
marking_change Right = taking

marking_grows : (verdict : Verdict) (m : WindowArea) → may_update_grow (marking verdict m) ≡ true
marking_grows Stale m = refl
marking_grows Right m = refl

-- what was judged of the window at a place, by its number
pub judged_there : {V : Type 0} {H : V → Type 0} (loan : TakenBox V H → WindowLoan) (shows : List ℕ → Part → PixelSet) (t : WindowManager V H) (at s : ℕ) → StandsAt t.windows.records.items s at → (set : PixelSet) (right : Bool)
    → ((w : Window V H) → IsWindowAt t.windows.records.items at w → IsJudgement w.serial set (state_showing shows (state_of loan t [])) right) → IsJudgement s set (state_showing shows (state_of loan t [])) right
judged_there loan shows t at s stands set right judged =
    let x = there_is t.windows.records.items at stands.0 in
    subst (λ n. IsJudgement n set (state_showing shows (state_of loan t [])) right) (stands.1 x.0 x.1) (judged x.0 x.1)

module _ {V : Type 0} {H : V → Type 0} (loan : TakenBox V H → WindowLoan) (shows : List ℕ → Part → PixelSet) (t : WindowManager V H) (kept : IsKept loan t) (m : WindowArea) (at : ℕ) (stands : StandsAt t.windows.records.items m.window at) where
  here : (x : Window V H) × (IsWindowAt t.windows.records.items at x)
  here = there_is t.windows.records.items at stands.0

  abbrev x : Window V H
  x = here.0

  abbrev was : List WindowSlot → FullState
  was slots = state_showing shows (state_of loan t slots)

  owner_is : (slots : List WindowSlot) (p : Point) → owner (layered_desk (was slots).desk) p ≡ owner (layered_desk (desk_of loan t [])) p
  owner_is slots = owner_showing shows (desk_of loan t slots)

  number : x.serial ≡ m.window
  number = stands.1 x here.1

  found : record_with m.window (desk_of loan t []).windows ≡ Some (record_of loan x)
  found = telling.found loan t kept m.window at x stands.0 here.1 number

  -- which pixels are marked
  marked_is : (set : PixelSet) (o : Owner) (p : Point) → is_content_of m.window o ≡ true → marked_in m.window set (desk_of loan t []) o p ≡ set (minus p x.place)
  marked_is set o p its = (λ i. its i && on_place (found i) set p)

  only_its : (set : PixelSet) (o : Owner) (p : Point) → marked_in m.window set (desk_of loan t []) o p ≡ true → is_content_of m.window o ≡ true
  only_its set o p e = (and_parts (is_content_of m.window o) _ e).0

  module _ (new : WindowManager V H) (update : Pixels) (set : PixelSet) (verdict : Verdict)
      (after : (w : Window V H) (a : Area) → IsWindowAt t.windows.records.items at w → a ≡ slice_index_or t.areas.items at a → (p : Point) → holds update p ≡ marked_by verdict (holds a.update p) (holds a.visible p && set (minus p w.place)))
      (low : at < length t.areas.items) (slots : List WindowSlot) (whole : IsWholeManager loan t slots)
      (remarked : IsRemarked x.serial update (state_of loan t slots) (state_of loan new slots)) where
    its_mark : IsRemarked m.window update (was slots) (state_showing shows (state_of loan new slots))
    its_mark = remarked_showing shows m.window update (state_of loan t slots) (state_of loan new slots) (subst (λ n. IsRemarked n update (state_of loan t slots) (state_of loan new slots)) number remarked)

    -- what is in the update region then, of the window's content
    by_mark : (p : Point) → layers.on_screen (layered_desk (was slots).desk) p ≡ true → is_content_of m.window (owner (layered_desk (was slots).desk) p) ≡ true
        → holds update p ≡ marked_by verdict (stale_in t.areas.items p) (marked_in m.window set (was slots).desk (owner (layered_desk (was slots).desk) p) p)
    by_mark p on own_so =
        let own : is_content_of m.window (owner (layered_desk (desk_of loan t [])) p) ≡ true = ap (is_content_of m.window) (sym (owner_is slots p)) ∙ own_so in
        let a = there_is t.areas.items at low in
        let its = its_area loan t kept at stands.0 x a.0 here.1 a.1 in
        let own_x : is_content_of x.serial (owner (layered_desk (desk_of loan t [])) p) ≡ true = ap (λ n. is_content_of n (owner (layered_desk (desk_of loan t [])) p)) number ∙ own in
        let shown : holds a.0.visible p ≡ true = its.visible p ∙ (λ i. on i && own_x i) in
        let stale : holds a.0.update p ≡ stale_in t.areas.items p = its.update p ∙ ap (λ b. b && stale_in t.areas.items p) shown in
        after x a.0 here.1 a.1 p
        ∙ (λ i. marked_by verdict (stale i) (shown i && set (minus p x.place)))
        ∙ ap (marked_by verdict (stale_in t.areas.items p)) (sym (marked_is set (owner (layered_desk (was slots).desk) p) p own_so))

  -- whether what shows of the area is right, as it was judged
  module _ (set : PixelSet) (is_set : IsAreaOf m.area set) (slots : List WindowSlot) (free : IsAreaRefusal m (was slots) None) (right : Bool)
      (judged : (w : Window V H) → IsWindowAt t.windows.records.items at w → IsJudgement w.serial set (was []) right) where
    judgement : IsJudgement m.window set (was slots) right
    judgement = judged_there loan shows t at m.window stands set right judged

    pub wrong_pixels : right ≡ false → IsUpdateRefusal (asks.Validate m) (was slots) (Some StalePixels)
    wrong_pixels wrong = (None, free, (set, is_set, (right, judgement, ap (λ b. if b then None else Some StalePixels) wrong)))

    pub right_pixels : right ≡ true → IsUpdateRefusal (asks.Validate m) (was slots) None
    right_pixels all = (None, free, (set, is_set, (right, judgement, ap (λ b. if b then None else Some StalePixels) all)))

  -- the change of the pixels of such a mark
  marked_pixels : (verdict : Verdict) (set : PixelSet) (update : Pixels) (slots : List WindowSlot) → IsWholeManager loan t slots → (after : FullState) → IsRemarked m.window update (was slots) after
      → ((p : Point) → layers.on_screen (layered_desk (was slots).desk) p ≡ true → is_content_of m.window (owner (layered_desk (was slots).desk) p) ≡ true
      → holds update p ≡ marked_by verdict (stale_in t.areas.items p) (marked_in m.window set (was slots).desk (owner (layered_desk (was slots).desk) p) p))
      → IsChanged (marking_change verdict m.window set (was slots)) (layered_state (was slots)) (layered_state after)
  marked_pixels Stale set update slots whole after mark by_mark = added_is_changed loan t slots whole shows m.window update after mark (marked_in m.window set (was slots).desk) (only_its set) by_mark
  marked_pixels Right set update slots whole after mark by_mark = taken_is_changed loan t slots whole shows m.window update after mark (marked_in m.window set (was slots).desk) (only_its set) by_mark

  of_area : (verdict : Verdict) (before after : DeskState) → IsAreaMarked (marking_change verdict) m before after → IsUpdateEffect (marking verdict m) before after
  of_area Stale before after marked = marked
  of_area Right before after marked = marked

  module _ (new : WindowManager V H) (u : Opened) where
    -- the area was marked, or there was no memory for it
    pub is_marked : (verdict : Verdict) → ((slots : List WindowSlot) → IsUpdateRefusal (marking verdict m) (was slots) None) → at < length t.areas.items → (result : Result WindowReply Refusal) → IsMarkedBy loan verdict at m.area result t new
        → LeavesDeskShowing loan shows (IsUpdateStep (marking verdict m) result) t u new u
    is_marked verdict free low (Ok answer) (done, (update, (set, is_set, after), leaves)) slots whole =
        let left = leaves x here.1 slots whole in
        let mark = its_mark new update set verdict after low slots whole left.1 in
        let pixels = marked_pixels verdict set update slots whole (state_showing shows (state_of loan new slots)) mark (by_mark new update set verdict after low slots whole left.1) in
        (left.0, (free slots, (done, of_area verdict (desk_with u (was slots)) (desk_with u (state_showing shows (state_of loan new slots))) (record { activity = refl; begun = refl }, (set, is_set, record { desk = mark.desk; pixels = pixels })))))
    is_marked verdict free low (Err e) (memory, same) slots whole = short_of_memory loan shows t new u (marking verdict m) e same (λ k. (free k, (marking_grows verdict m, memory))) slots whole

    -- the screen has the same sides
    pub sides_stay : (verdict : Verdict) (result : Result WindowReply Refusal) → IsMarkedBy loan verdict at m.area result t new → (new.screen.width ≡ t.screen.width) × (new.screen.height ≡ t.screen.height)
    sides_stay verdict (Ok answer) (done, (update, after, leaves)) =
        let left = leaves x here.1 kept.slots kept.whole in
        (ap (λ (d : FullDesk). nat_abs d.width) left.1.desk, ap (λ (d : FullDesk). nat_abs d.height) left.1.desk)
    sides_stay verdict (Err e) (memory, same) = (ap (λ (n : WindowManager V H). n.screen.width) same, ap (λ (n : WindowManager V H). n.screen.height) same)

-- another map for comparing changes no state
pub other_map : {V : Type 0} {H : V → Type 0} (loan : TakenBox V H → WindowLoan) (shows : List ℕ → Part → PixelSet) (t new : WindowManager V H) (activity : Activity) (u other : Updates) (call : UpdateCall) (result : Result WindowReply Refusal) → other.begun ≡ u.begun
    → LeavesDeskShowing loan shows (IsUpdateStep call result) t (opened activity u) new (opened activity u) → LeavesDeskShowing loan shows (IsUpdateStep call result) t (opened activity u) new (opened activity other)
other_map loan shows t new activity u other call result same step =
    subst (λ (b : Pixels). LeavesDeskShowing loan shows (IsUpdateStep call result) t (opened activity u) new (record { activity = activity; begun = λ p. holds b p })) (sym same) step

-- where controls and lists show white, as a window manager by itself says, a step is one of its own state
pub shows_white : {V : Type 0} {H : V → Type 0} (loan : TakenBox V H → WindowLoan) (t new : WindowManager V H) (u after : Opened) (call : UpdateCall) (result : Result WindowReply Refusal)
    → LeavesDeskShowing loan (λ font. all_white) (IsUpdateStep call result) t u new after → LeavesDesk loan (IsUpdateStep call result) t u new after
shows_white loan t new u after call result step = step
