-- The menus of a desk stay whole, and the map in front right, beside the calls of the other managers: while a menu is pulled
-- down, or an outline is shown, only calls may come that ask.
use Rattle.std.proofs.Common.{◌≡◌, ◌⊎◌, ⊎_elim, inl, inr, ℕ, ℤ, pos, ◌≤◌, Bool, true, false, ◌&&◌, if◌then◌else◌, nat_abs, List, [], length, Option, None, Some, Result, Ok, Err, refl, sym, ap, ◌∙◌, subst, arith}
use Rattle.tb_geom.specs.declared.point.Point.{Point}
use Rattle.tb_geom.specs.declared.rect.Rect.{Rect}
use Rattle.tb_geom.specs.declared.refusal.Refusal.{Refusal}
use Rattle.tb_geom.specs.declared.refusal.Refusal.TheVariants.{Busy}
use Rattle.tb_geom.specs.Points.{PixelSet}
use Rattle.tb_geom.specs.Rects.{rect_holds}
use Rattle.bit_map.specs.Bits.{bit, is_below, on_map}
use Rattle.desk_layers.specs.declared.part.Part.{Part}
use Rattle.def_iface.specs.Slots.{TakenBox}
use Rattle.desk_layers.specs.Desk.{on_screen}
use Rattle.def_iface.specs.WindowMeaning.{WindowLoan}
use Rattle.def_iface.specs.MenuMeaning.{MenuLoan}
use Rattle.def_iface.specs.WindowSlots.{WindowSlot}
use Rattle.overlay.specs.declared.overlay.Overlay.{Overlay}
use Rattle.overlay.specs.Overlays.{Pulled, pulled_bit, pulled_rect, shown_bit}
use Rattle.overlay.specs.Outlines.{IsOutlined, outline_holds, outlined}
use Rattle.bit_map.specs.Modes.{xor_bit}
use Rattle.bit_map.specs.Patterns.{pattern_bit, gray}
use Rattle.desk_call.specs.declared.activity.Activity.{Activity}
use Rattle.desk_call.specs.declared.activity.Activity.TheVariants.{Idle, Updating, Tracking, Pulling, TrackingControl, Dragging, Growing, Selecting}
use Rattle.desk_call.specs.declared.activity.Standing.TheVariants.{Changes}
use Rattle.desk_call.specs.declared.frame.FrameCall.{FrameCall}
use Rattle.desk_call.specs.declared.frame.FrameCall.TheVariants.{SetTitle, Hilite, TrackGoAway, StepGoAway, EndGoAway}
use Rattle.desk_call.specs.declared.frame.FrameReply.{FrameReply}
use Rattle.desk_call.specs.declared.frame.FrameReply.TheVariants.{Done, Tracked}
use Rattle.desk_call.specs.declared.update.UpdateCall.{UpdateCall}
use Rattle.desk_call.specs.declared.update.UpdateCall.TheVariants as update
use Rattle.desk_call.specs.declared.window.WindowCall.{WindowCall}
use Rattle.desk_call.specs.declared.window.WindowReply.{WindowReply}
use Rattle.desk_call.specs.Gates.{gate, frame_standing, update_standing, window_standing}
use Rattle.desk_call.specs.Outlines.{IsOutlineKept}
use Rattle.window_mgr.specs.declared.manager.WindowManager.{WindowManager}
use Rattle.window_mgr.specs.Begin.{IsEmptyDesk}
use Rattle.window_mgr.specs.DeskStates.{DeskState, Opened, desk_with}
use Rattle.window_mgr.specs.Effects.{IsUnchanged}
use Rattle.window_mgr.specs.FullDesk.{FullDesk, FullState, layered_desk}
use Rattle.window_mgr.specs.Records.{state_of, state_showing}
use Rattle.window_mgr.specs.Step.{IsWindowStep}
use Rattle.window_mgr.proofs.Arranged.{between-is_below}
use Rattle.window_mgr.proofs.ScreenSides.{SameSides}
use Rattle.window_update.specs.UpdateSteps.{IsUpdateEffect, IsUpdateStep}
use Rattle.window_frame.specs.Followers.{IsCaughtUpBy}
use Rattle.window_frame.specs.FrameSteps.{IsBegunAt, IsFrameEffect, IsFrameStep}
use Rattle.window_frame.proofs.FrameKeeps.{caught_up_keeps, frame_keeps}
use Rattle.window_outline.specs.ShownOutlines.{IsOutlineShown}
use Rattle.menu_mgr.specs.declared.menus.Menus.{Menus}
use Rattle.menu_mgr.specs.MenuDesks.{MenuSlot}
use Rattle.menu_mgr.specs.Pulling.{pulled_of}
use Rattle.menu_mgr.specs.WholeMenus.{AreLive, AreMenusStocked, AreNoMenus, IsPlaced, IsPulledShown, IsWholeMenus, menus_of}
use Rattle.desk_toolbox.specs.FrontMaps.{IsFrontRight}
use Rattle.desk_toolbox.proofs.AskingCalls.{asked_changes_nothing, window_asks}
use Rattle.desk_toolbox.proofs.Sides.{step_keeps_sides}
use Rattle.desk_toolbox.proofs.UpdatedDesks.{update_keeps_desk}

-- ---- what is open

-- nothing lies in front of the base image: no menu is pulled down, and no outline is shown
abbrev pub CoversNone : Activity → Type 0
CoversNone (Pulling m) = ⊥
CoversNone (Dragging d) = ⊥
CoversNone (Growing g) = ⊥
CoversNone _ = Unit {0}

-- or else no call may come that changes anything
covers_or_not : (a : Activity) → CoversNone a ⊎ (gate a Changes ≡ Some Busy)
covers_or_not Idle = inl tt
covers_or_not (Updating s) = inl tt
covers_or_not (Tracking s) = inl tt
covers_or_not (TrackingControl c) = inl tt
covers_or_not (Selecting k) = inl tt
covers_or_not (Dragging d) = inr refl
covers_or_not (Growing g) = inr refl
covers_or_not (Pulling m) = inr refl

-- a call about updates or frames never comes then
pub update_comes_then : (call : UpdateCall) (a : Activity) → gate a (update_standing call) ≡ None → CoversNone a
update_comes_then call Idle may = tt
update_comes_then call (Updating s) may = tt
update_comes_then call (Tracking s) may = tt
update_comes_then call (TrackingControl c) may = tt
update_comes_then call (Selecting k) may = tt
update_comes_then (update.Invalidate m) (Pulling p) may = absurd (cc)
update_comes_then (update.Validate m) (Pulling p) may = absurd (cc)
update_comes_then (update.Begin s) (Pulling p) may = absurd (cc)
update_comes_then (update.Draw d) (Pulling p) may = absurd (cc)
update_comes_then (update.End s) (Pulling p) may = absurd (cc)
update_comes_then (update.Serve s) (Pulling p) may = absurd (cc)
update_comes_then (update.Invalidate m) (Dragging w) may = absurd (cc)
update_comes_then (update.Validate m) (Dragging w) may = absurd (cc)
update_comes_then (update.Begin s) (Dragging w) may = absurd (cc)
update_comes_then (update.Draw d) (Dragging w) may = absurd (cc)
update_comes_then (update.End s) (Dragging w) may = absurd (cc)
update_comes_then (update.Serve s) (Dragging w) may = absurd (cc)
update_comes_then (update.Invalidate m) (Growing w) may = absurd (cc)
update_comes_then (update.Validate m) (Growing w) may = absurd (cc)
update_comes_then (update.Begin s) (Growing w) may = absurd (cc)
update_comes_then (update.Draw d) (Growing w) may = absurd (cc)
update_comes_then (update.End s) (Growing w) may = absurd (cc)
update_comes_then (update.Serve s) (Growing w) may = absurd (cc)

pub frame_comes_then : (call : FrameCall) (a : Activity) → gate a (frame_standing call) ≡ None → CoversNone a
frame_comes_then call Idle may = tt
frame_comes_then call (Updating s) may = tt
frame_comes_then call (Tracking s) may = tt
frame_comes_then call (TrackingControl c) may = tt
frame_comes_then call (Selecting k) may = tt
frame_comes_then (SetTitle n) (Pulling p) may = absurd (cc)
frame_comes_then (Hilite h) (Pulling p) may = absurd (cc)
frame_comes_then (TrackGoAway g) (Pulling p) may = absurd (cc)
frame_comes_then (StepGoAway q) (Pulling p) may = absurd (cc)
frame_comes_then (EndGoAway q) (Pulling p) may = absurd (cc)
frame_comes_then (SetTitle n) (Dragging w) may = absurd (cc)
frame_comes_then (Hilite h) (Dragging w) may = absurd (cc)
frame_comes_then (TrackGoAway g) (Dragging w) may = absurd (cc)
frame_comes_then (StepGoAway q) (Dragging w) may = absurd (cc)
frame_comes_then (EndGoAway q) (Dragging w) may = absurd (cc)
frame_comes_then (SetTitle n) (Growing w) may = absurd (cc)
frame_comes_then (Hilite h) (Growing w) may = absurd (cc)
frame_comes_then (TrackGoAway g) (Growing w) may = absurd (cc)
frame_comes_then (StepGoAway q) (Growing w) may = absurd (cc)
frame_comes_then (EndGoAway q) (Growing w) may = absurd (cc)

update_effect_pulls_none : (call : UpdateCall) (before after : DeskState) → IsUpdateEffect call before after → CoversNone before.activity → CoversNone after.activity
update_effect_pulls_none (update.Invalidate m) before after (same, marked) was = subst CoversNone (sym same.activity) was
update_effect_pulls_none (update.Validate m) before after (same, marked) was = subst CoversNone (sym same.activity) was
update_effect_pulls_none (update.Begin s) before after begun was = subst CoversNone (sym begun.opened) tt
update_effect_pulls_none (update.Draw d) before after (same, drawn) was = subst CoversNone (sym same.activity) was
update_effect_pulls_none (update.End s) before after (idle, same) was = subst CoversNone (sym idle) tt
update_effect_pulls_none (update.Serve s) before after (idle, drawn) was = subst CoversNone (sym idle) tt

pub update_pulls_none : (call : UpdateCall) (answer : Result WindowReply Refusal) (before after : DeskState) → gate before.activity (update_standing call) ≡ None → IsUpdateStep call answer before after → CoversNone after.activity
update_pulls_none call (Ok answer) before after may step = update_effect_pulls_none call before after step.1.1 (update_comes_then call before.activity may)
update_pulls_none call (Err e) before after may step = subst CoversNone (sym step.1.activity) (update_comes_then call before.activity may)

begun_pulls_none : (s : ℕ) (inside : Bool) (before after : DeskState) → IsBegunAt s inside before after → CoversNone before.activity → CoversNone after.activity
begun_pulls_none s true before after (tracked, told) was = subst CoversNone (sym tracked) tt
begun_pulls_none s false before after same was = subst CoversNone (sym same.activity) was

frame_effect_pulls_none : (call : FrameCall) (answer : FrameReply) (before after : DeskState) → IsFrameEffect call answer before after → CoversNone before.activity → CoversNone after.activity
frame_effect_pulls_none (SetTitle n) Done before after (same, told) was = subst CoversNone (sym same.activity) was
frame_effect_pulls_none (Hilite h) Done before after (same, told) was = subst CoversNone (sym same.activity) was
frame_effect_pulls_none (TrackGoAway g) (Tracked inside) before after (is, begun) was = begun_pulls_none g.window inside before after begun was
frame_effect_pulls_none (StepGoAway p) (Tracked inside) before after (same, tracked) was = subst CoversNone (sym same.activity) was
frame_effect_pulls_none (EndGoAway p) (Tracked inside) before after (idle, tracked) was = subst CoversNone (sym idle) tt
frame_effect_pulls_none (SetTitle n) (Tracked inside) before after wrong was = absurd wrong
frame_effect_pulls_none (Hilite h) (Tracked inside) before after wrong was = absurd wrong
frame_effect_pulls_none (TrackGoAway g) Done before after wrong was = absurd wrong
frame_effect_pulls_none (StepGoAway p) Done before after wrong was = absurd wrong
frame_effect_pulls_none (EndGoAway p) Done before after wrong was = absurd wrong

pub frame_pulls_none : (call : FrameCall) (answer : Result FrameReply Refusal) (before after : DeskState) → gate before.activity (frame_standing call) ≡ None → IsFrameStep call answer before after → CoversNone after.activity
frame_pulls_none call (Ok answer) before after may step = frame_effect_pulls_none call answer before after step.1 (frame_comes_then call before.activity may)
frame_pulls_none call (Err e) before after may step = subst CoversNone (sym step.1.activity) (frame_comes_then call before.activity may)

pub same_state : (before after : FullState) → after ≡ before → IsUnchanged before after
same_state before after same = record {
  desk = ap (λ (s : FullState). s.desk) same;
  stale = λ p on. ap (λ (s : FullState). s.stale p) same;
  image = λ p on. ap (λ (s : FullState). s.image p) same;
}

-- ---- the map in front

shown_on : (font other : List ℕ) (m : Option Pulled) (a b : PixelSet) (p : Point) → other ≡ font → b p ≡ a p → shown_bit font m a p ≡ shown_bit other m b p
shown_on font other None a b p same e = sym e
shown_on font other (Some m) a b p same e = λ i. if rect_holds (pulled_rect m.place m.size) p then pulled_bit (sym same i) m p else sym e i

outlined_on : (bar other : ℤ) (lines : List Rect) (a b : PixelSet) (p : Point) → other ≡ bar → b p ≡ a p → outlined bar lines a p ≡ outlined other lines b p
outlined_on bar other lines a b p same e = λ i. if outline_holds (sym same i) lines p then xor_bit (pattern_bit gray p) (sym e i) else sym e i

-- the menus are whole, and the map in front is right
pub record AreMenusInFront {V : Type 0} {H : V → Type 0} {W : Type 0} {K : W → Type 0} (menu_loan : TakenBox W K → MenuLoan) (activity : Activity) (t : WindowManager V H) (m : Menus W K) (map : Overlay) (kept : List MenuSlot) : Type 0 where
  pub menus : IsWholeMenus menu_loan activity m kept
  pub front : IsFrontRight menu_loan activity t m map

-- `loan` says what a window's definition that was taken means, and `menu_loan` what a menu's
module _ {V : Type 0} {H : V → Type 0} (loan : TakenBox V H → WindowLoan) {W : Type 0} {K : W → Type 0} (menu_loan : TakenBox W K → MenuLoan) where
  -- the menus that a desk begins with, and the map in front
  pub menus_begin : (width height bar : ℤ) (font : List ℕ) (t : WindowManager V H) (m : Menus W K) (front : Overlay) (slots : List WindowSlot) (kept : List MenuSlot) → AreNoMenus m → (pos front.front.width ≡ width) × (pos front.front.height ≡ height) → IsEmptyDesk loan width height bar font t slots → AreMenusStocked [] kept → AreMenusInFront menu_loan Idle t m front kept
  menus_begin width height bar font t m front slots kept none sides empty stocked = record {
    menus = record {
      few = subst (λ items. length items ≤ 16) (sym none.none) (omega arith);
      room = none.room;
      live = subst (λ items. AreLive (menus_of menu_loan items)) (sym none.none) tt;
      stocked = subst (λ items. AreMenusStocked (menus_of menu_loan items) kept) (sym none.none) stocked;
      placed = tt;
    };
    front = record {
      menu = record {
        width = ap nat_abs (sides.0 ∙ sym (ap (λ (d : FullDesk). d.width) empty.desk));
        height = ap nat_abs (sides.1 ∙ sym (ap (λ (d : FullDesk). d.height) empty.desk));
        shown = tt;
      };
      kept = tt;
      outline = tt;
    };
  }

  module _ (t new : WindowManager V H) (m : Menus W K) (front : Overlay) (kept : List MenuSlot) (before after : List WindowSlot) where
    abbrev was : FullState
    was = state_of loan t before

    abbrev now : FullState
    now = state_of loan new after

    -- ---- nothing lies in front, and the screen has the same sides

    placed_none : (a : Activity) → CoversNone a → IsPlaced a
    placed_none (Pulling p) none = absurd none
    placed_none Idle none = tt
    placed_none (Updating s) none = tt
    placed_none (Tracking s) none = tt
    placed_none (TrackingControl c) none = tt
    placed_none (Selecting k) none = tt
    placed_none (Dragging d) none = absurd none
    placed_none (Growing g) none = absurd none

    front_none : (a : Activity) → CoversNone a → IsPulledShown menu_loan a new m front × IsOutlineKept a × IsOutlineShown a new front
    front_none (Pulling p) none = absurd none
    front_none Idle none = (tt, tt, tt)
    front_none (Updating s) none = (tt, tt, tt)
    front_none (Tracking s) none = (tt, tt, tt)
    front_none (TrackingControl c) none = (tt, tt, tt)
    front_none (Selecting k) none = (tt, tt, tt)
    front_none (Dragging d) none = absurd none
    front_none (Growing g) none = absurd none

    pub whole_unpulled : (a b : Activity) → SameSides was.desk now.desk → CoversNone b → AreMenusInFront menu_loan a t m front kept → AreMenusInFront menu_loan b new m front kept
    whole_unpulled a b sides none whole =
        let nothing = front_none b none in
        record {
          menus = record {
            few = whole.menus.few;
            room = whole.menus.room;
            live = whole.menus.live;
            stocked = whole.menus.stocked;
            placed = placed_none b none;
          };
          front = record {
            menu = record {
              width = whole.front.menu.width ∙ sym (ap nat_abs sides.width);
              height = whole.front.menu.height ∙ sym (ap nat_abs sides.height);
              shown = nothing.0;
            };
            kept = nothing.1;
            outline = nothing.2;
          };
        }

    -- ---- the windows did not change, and the same is open

    on_map_is : (p : Point) → on_screen (layered_desk was.desk) p ≡ on_map t.screen p
    unfolding on_map
    on_map_is p = λ i. between-is_below t.screen.width p.h i && between-is_below t.screen.height p.v i

    on_front : (p : Point) → front.front.width ≡ t.screen.width → front.front.height ≡ t.screen.height → on_map front.front p ≡ on_map t.screen p
    unfolding on_map
    on_front p width height = λ i. is_below (width i) p.h && is_below (height i) p.v

    module _ (same : IsUnchanged was now) where
      wide : new.screen.width ≡ t.screen.width
      wide = ap nat_abs (ap (λ (d : FullDesk). d.width) same.desk)

      high : new.screen.height ≡ t.screen.height
      high = ap nat_abs (ap (λ (d : FullDesk). d.height) same.desk)

      lines_stay : (lines : List Rect) → IsOutlined t.bar.rows lines t.screen front.front → IsOutlined new.bar.rows lines new.screen front.front
      lines_stay lines shown = record {
        width = shown.width ∙ sym wide;
        height = shown.height ∙ sym high;
        pixels = λ q on.
            shown.pixels q on
            ∙ outlined_on t.bar.rows new.bar.rows lines (bit t.screen) (bit new.screen) q (ap (λ (d : FullDesk). d.bar.rows) same.desk)
            (same.image q (on_map_is q ∙ sym (on_front q shown.width shown.height) ∙ on));
      }

      outline_stays : (a : Activity) → IsOutlineShown a t front → IsOutlineShown a new front
      outline_stays (Pulling p) shown = tt
      outline_stays Idle shown = tt
      outline_stays (Updating s) shown = tt
      outline_stays (Tracking s) shown = tt
      outline_stays (TrackingControl c) shown = tt
      outline_stays (Selecting k) shown = tt
      outline_stays (Dragging d) shown = lines_stay d.outline shown
      outline_stays (Growing g) shown = lines_stay g.outline shown

      menu_stays : (a : Activity) → IsPulledShown menu_loan a t m front → IsPulledShown menu_loan a new m front
      menu_stays (Pulling p) shown = record {
        width = shown.width ∙ sym wide;
        height = shown.height ∙ sym high;
        pixels = λ q on.
            shown.pixels q on
            ∙ shown_on t.font new.font (pulled_of (Pulling p) (menus_of menu_loan m.list.menus.items)) (bit t.screen) (bit new.screen) q (ap (λ (d : FullDesk). d.font) same.desk)
            (same.image q (on_map_is q ∙ sym (on_front q shown.width shown.height) ∙ on));
      }
      menu_stays Idle shown = tt
      menu_stays (Updating s) shown = tt
      menu_stays (Tracking s) shown = tt
      menu_stays (TrackingControl c) shown = tt
      menu_stays (Selecting k) shown = tt
      menu_stays (Dragging d) shown = tt
      menu_stays (Growing g) shown = tt

      pub whole_unchanged : (a : Activity) → AreMenusInFront menu_loan a t m front kept → AreMenusInFront menu_loan a new m front kept
      whole_unchanged a whole = record {
        menus = whole.menus;
        front = record {
          menu = record {
            width = whole.front.menu.width ∙ sym wide;
            height = whole.front.menu.height ∙ sym high;
            shown = menu_stays a whole.front.menu.shown;
          };
          kept = whole.front.kept;
          outline = outline_stays a whole.front.outline;
        };
      }

    -- ---- beside the calls of each manager

    pub window_whole : (a : Activity) (call : WindowCall) (answer : Result WindowReply Refusal) → gate a (window_standing call) ≡ None → IsWindowStep call answer was now → AreMenusInFront menu_loan a t m front kept → AreMenusInFront menu_loan a new m front kept
    window_whole a call answer may step whole = ⊎_elim
        (λ none. whole_unpulled a a (step_keeps_sides call answer was now step) none whole)
        (λ busy. whole_unchanged (asked_changes_nothing call answer was now step (window_asks call a busy may)) a whole)
        (covers_or_not a)

    -- definitions are told how their windows stand
    pub followed_whole : (a : Activity) (call : WindowCall) → gate a (window_standing call) ≡ None → IsCaughtUpBy (window_standing call) was now → AreMenusInFront menu_loan a t m front kept → AreMenusInFront menu_loan a new m front kept
    followed_whole a call may told whole = ⊎_elim
        (λ none. whole_unpulled a a (record {
          width = caught_up_keeps (λ d. d.width) (λ d ws. refl) (window_standing call) was now told;
          height = caught_up_keeps (λ d. d.height) (λ d ws. refl) (window_standing call) was now told;
        }) none whole)
        (λ busy. whole_unchanged (same_state was now (subst (λ s. IsCaughtUpBy s was now) (window_asks call a busy may) told)) a whole)
        (covers_or_not a)

    pub update_whole : (shows : List ℕ → Part → PixelSet) (o n : Opened) (call : UpdateCall) (answer : Result WindowReply Refusal) → gate o.activity (update_standing call) ≡ None → IsUpdateStep call answer (desk_with o (state_showing shows was)) (desk_with n (state_showing shows now)) → AreMenusInFront menu_loan o.activity t m front kept → AreMenusInFront menu_loan n.activity new m front kept
    update_whole shows o n call answer may step whole =
        let first = desk_with o (state_showing shows was) in
        let last = desk_with n (state_showing shows now) in
        let desk = update_keeps_desk call answer first last step in
        whole_unpulled o.activity n.activity (record { width = ap (λ (d : FullDesk). d.width) desk; height = ap (λ (d : FullDesk). d.height) desk })
        (update_pulls_none call answer first last may step) whole

    pub frame_whole : (o n : Opened) (call : FrameCall) (answer : Result FrameReply Refusal) → gate o.activity (frame_standing call) ≡ None → IsFrameStep call answer (desk_with o was) (desk_with n now) → AreMenusInFront menu_loan o.activity t m front kept → AreMenusInFront menu_loan n.activity new m front kept
    frame_whole o n call answer may step whole =
        whole_unpulled o.activity n.activity (record {
          width = frame_keeps (λ d. d.width) (λ d ws. refl) call answer (desk_with o was) (desk_with n now) step;
          height = frame_keeps (λ d. d.height) (λ d ws. refl) call answer (desk_with o was) (desk_with n now) step;
        })
        (frame_pulls_none call answer (desk_with o was) (desk_with n now) may step) whole
