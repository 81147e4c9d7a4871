-- What is kept for updates stays right beside the calls of the other managers: while an update is open only calls may come that
-- ask.
use Rattle.std.proofs.Common.{◌≡◌, ◌⊎◌, ⊎_elim, inl, inr, ℕ, ℤ, pos, Bool, true, false, not, ◌&&◌, nat_abs, List, Option, None, Some, Result, Ok, Err, refl, sym, ap, ◌∙◌, subst}
use Rattle.tb_geom.specs.declared.point.Point.{Point}
use Rattle.tb_geom.specs.declared.refusal.Refusal.{Refusal}
use Rattle.tb_geom.specs.Points.{PixelSet}
use Rattle.def_iface.specs.Slots.{TakenBox}
use Rattle.desk_layers.specs.Desk.{LayeredDesk, on_screen}
use Rattle.def_iface.specs.WindowMeaning.{WindowLoan}
use Rattle.desk_layers.specs.Owner.{owner}
use Rattle.def_iface.specs.WindowSlots.{WindowSlot}
use Rattle.desk_call.specs.declared.activity.Activity.{Activity}
use Rattle.desk_call.specs.declared.activity.Activity.TheVariants.{Idle, Updating, Tracking, Pulling, TrackingControl, Dragging, Growing, Selecting}
use Rattle.desk_call.specs.declared.activity.PulledMenu.{PulledMenu}
use Rattle.desk_call.specs.declared.frame.FrameCall.{FrameCall}
use Rattle.desk_call.specs.declared.frame.FrameCall.TheVariants.{SetTitle, Hilite, TrackGoAway, StepGoAway, EndGoAway}
use Rattle.desk_call.specs.declared.frame.FrameReply.{FrameReply}
use Rattle.desk_call.specs.declared.frame.FrameReply.TheVariants.{Done, Tracked}
use Rattle.desk_call.specs.declared.menu.Choice.{Choice}
use Rattle.desk_call.specs.declared.menu.MenuCall.{MenuCall}
use Rattle.desk_call.specs.declared.menu.MenuCall.TheVariants as menus
use Rattle.desk_call.specs.declared.menu.MenuReply.{MenuReply}
use Rattle.desk_call.specs.declared.window.WindowCall.{WindowCall}
use Rattle.desk_call.specs.declared.window.WindowReply.{WindowReply}
use Rattle.desk_call.specs.Gates.{gate, frame_standing, menu_standing, window_standing}
use Rattle.menu_list.specs.Lists.{menu_index}
use Rattle.vis_update.specs.Areas.{is_content_of}
use Rattle.window_mgr.specs.declared.manager.WindowManager.{WindowManager}
use Rattle.window_mgr.specs.Begin.{IsEmptyDesk}
use Rattle.window_mgr.specs.DeskStates.{DeskState, Opened, desk_state, desk_with}
use Rattle.window_mgr.specs.Effects.{IsUnchanged}
use Rattle.window_mgr.specs.FullDesk.{FullDesk, FullState, layered_desk}
use Rattle.window_mgr.specs.Records.{state_of}
use Rattle.window_mgr.specs.Step.{IsWindowStep}
use Rattle.window_mgr.proofs.ScreenSides.{SameSides}
use Rattle.window_update.specs.declared.choices.Choices.{Choices}
use Rattle.window_update.specs.declared.updates.Updates.{Updates}
use Rattle.window_update.specs.Choosing.{AreChoices, is_chosen_of}
use Rattle.window_update.specs.WholeUpdates.{IsWholeUpdates}
use Rattle.window_frame.specs.Followers.{IsCaughtUpBy}
use Rattle.window_frame.specs.FrameSteps.{IsBegunAt, IsFrameEffect, IsFrameStep}
use Rattle.window_frame.proofs.FrameKeeps.{caught_up_keeps, frame_keeps}
use Rattle.menu_mgr.specs.MenuDesks.{MenuDesk, MenusState}
use Rattle.menu_mgr.specs.MenuSteps.{IsDisposedAt, IsMenuEffect, IsMenuStep, IsMoved, IsMovedOn, IsPressedOn, IsMenuReleased, other_title}
use Rattle.menu_mgr.specs.Pulling.{TitleOf, title_of_point}
use Rattle.menu_mgr.proofs.MenuKeeps.{menu_keeps}
use Rattle.desk_toolbox.proofs.AskingCalls.{asked_changes_nothing, window_asks}
use Rattle.desk_toolbox.proofs.MenusBeside.{same_state}
use Rattle.desk_toolbox.proofs.Sides.{step_keeps_sides}

-- ---- what is open

-- no update is open
abbrev pub UpdatesNone : Activity → Type 0
UpdatesNone (Updating s) = ⊥
UpdatesNone _ = Unit {0}

updates_or_not : (a : Activity) → UpdatesNone a ⊎ ((s : ℕ) × (a ≡ Updating s))
updates_or_not Idle = inl tt
updates_or_not (Updating s) = inr (s, refl)
updates_or_not (Tracking s) = inl tt
updates_or_not (TrackingControl c) = inl tt
updates_or_not (Dragging d) = inl tt
updates_or_not (Growing g) = inl tt
updates_or_not (Selecting k) = inl tt
updates_or_not (Pulling m) = inl tt

-- a call about frames or menus never comes while an update is open
pub frame_comes_apart : (call : FrameCall) (a : Activity) → gate a (frame_standing call) ≡ None → UpdatesNone a
frame_comes_apart call Idle may = tt
frame_comes_apart call (Tracking s) may = tt
frame_comes_apart call (TrackingControl c) may = tt
frame_comes_apart call (Dragging d) may = tt
frame_comes_apart call (Growing g) may = tt
frame_comes_apart call (Selecting k) may = tt
frame_comes_apart call (Pulling m) may = tt
frame_comes_apart (SetTitle n) (Updating s) may = absurd (cc)
frame_comes_apart (Hilite h) (Updating s) may = absurd (cc)
frame_comes_apart (TrackGoAway g) (Updating s) may = absurd (cc)
frame_comes_apart (StepGoAway p) (Updating s) may = absurd (cc)
frame_comes_apart (EndGoAway p) (Updating s) may = absurd (cc)

pub menu_comes_apart : (call : MenuCall) (a : Activity) → gate a (menu_standing call) ≡ None → UpdatesNone a
menu_comes_apart call Idle may = tt
menu_comes_apart call (Tracking s) may = tt
menu_comes_apart call (TrackingControl c) may = tt
menu_comes_apart call (Dragging d) may = tt
menu_comes_apart call (Growing g) may = tt
menu_comes_apart call (Selecting k) may = tt
menu_comes_apart call (Pulling m) may = tt
menu_comes_apart (menus.Move p) (Updating s) may = absurd (cc)
menu_comes_apart (menus.Up p) (Updating s) may = absurd (cc)
menu_comes_apart _ (Updating s) may = absurd (cc)

-- neither opens an update
begun_updates_none : (s : ℕ) (inside : Bool) (before after : DeskState) → IsBegunAt s inside before after → UpdatesNone before.activity → UpdatesNone after.activity
begun_updates_none s true before after (tracked, told) was = subst UpdatesNone (sym tracked) tt
begun_updates_none s false before after same was = subst UpdatesNone (sym same.activity) was

frame_effect_updates_none : (call : FrameCall) (answer : FrameReply) (before after : DeskState) → IsFrameEffect call answer before after → UpdatesNone before.activity → UpdatesNone after.activity
frame_effect_updates_none (SetTitle n) Done before after (same, told) was = subst UpdatesNone (sym same.activity) was
frame_effect_updates_none (Hilite h) Done before after (same, told) was = subst UpdatesNone (sym same.activity) was
frame_effect_updates_none (TrackGoAway g) (Tracked inside) before after (is, begun) was = begun_updates_none g.window inside before after begun was
frame_effect_updates_none (StepGoAway p) (Tracked inside) before after (same, tracked) was = subst UpdatesNone (sym same.activity) was
frame_effect_updates_none (EndGoAway p) (Tracked inside) before after (idle, tracked) was = subst UpdatesNone (sym idle) tt
frame_effect_updates_none (SetTitle n) (Tracked inside) before after wrong was = absurd wrong
frame_effect_updates_none (Hilite h) (Tracked inside) before after wrong was = absurd wrong
frame_effect_updates_none (TrackGoAway g) Done before after wrong was = absurd wrong
frame_effect_updates_none (StepGoAway p) Done before after wrong was = absurd wrong
frame_effect_updates_none (EndGoAway p) Done before after wrong was = absurd wrong

frame_updates_none : (call : FrameCall) (answer : Result FrameReply Refusal) (before after : DeskState) → gate before.activity (frame_standing call) ≡ None → IsFrameStep call answer before after → UpdatesNone after.activity
frame_updates_none call (Ok answer) before after may step = frame_effect_updates_none call answer before after step.1 (frame_comes_apart call before.activity may)
frame_updates_none call (Err e) before after may step = subst UpdatesNone (sym step.1.activity) (frame_comes_apart call before.activity may)

disposed_updates_none : (at : Option ℕ) (before after : MenuDesk) → IsDisposedAt at before after → UpdatesNone before.desk.activity → UpdatesNone after.desk.activity
disposed_updates_none None before after wrong was = absurd wrong
disposed_updates_none (Some at) before after disposed was = subst UpdatesNone (sym disposed.activity.activity) was

pressed_updates_none : (t : Option TitleOf) (answer : Option ℕ) (before after : MenuDesk) → IsPressedOn t answer before after → UpdatesNone before.desk.activity → UpdatesNone after.desk.activity
pressed_updates_none None answer before after (is, same) was = subst UpdatesNone (sym same.desk.activity) was
pressed_updates_none (Some t) answer before after (is, pulled) was = subst UpdatesNone (sym pulled.activity) tt

moved_on_updates_none : (m : PulledMenu) (t : Option TitleOf) (p : Point) (answer : Option ℕ) (before after : MenuDesk) → IsMovedOn m t p answer before after → UpdatesNone after.desk.activity
moved_on_updates_none m (Some t) p answer before after (is, (menus, told, pulled)) = subst UpdatesNone (sym pulled.activity) tt
moved_on_updates_none m None p answer before after (is, (menus, told, shown)) = subst UpdatesNone (sym shown.activity) tt

moved_updates_none : (a : Activity) (p : Point) (answer : Option ℕ) (before after : MenuDesk) → IsMoved a p answer before after → UpdatesNone after.desk.activity
moved_updates_none (Pulling m) p answer before after moved = moved_on_updates_none m (other_title m (title_of_point before p)) p answer before after moved
moved_updates_none Idle p answer before after wrong = absurd wrong
moved_updates_none (Updating s) p answer before after wrong = absurd wrong
moved_updates_none (Tracking s) p answer before after wrong = absurd wrong
moved_updates_none (TrackingControl c) p answer before after wrong = absurd wrong
moved_updates_none (Dragging d) p answer before after wrong = absurd wrong
moved_updates_none (Growing g) p answer before after wrong = absurd wrong
moved_updates_none (Selecting k) p answer before after wrong = absurd wrong

released_updates_none : (a : Activity) (p : Point) (choice : Option Choice) (before after : MenuDesk) → IsMenuReleased a p choice before after → UpdatesNone after.desk.activity
released_updates_none (Pulling m) p choice before after (is, away) = subst UpdatesNone (sym away.activity) tt
released_updates_none Idle p choice before after wrong = absurd wrong
released_updates_none (Updating s) p choice before after wrong = absurd wrong
released_updates_none (Tracking s) p choice before after wrong = absurd wrong
released_updates_none (TrackingControl c) p choice before after wrong = absurd wrong
released_updates_none (Dragging d) p choice before after wrong = absurd wrong
released_updates_none (Growing g) p choice before after wrong = absurd wrong
released_updates_none (Selecting k) p choice before after wrong = absurd wrong

menu_effect_updates_none : (call : MenuCall) (answer : MenuReply) (before after : MenuDesk) → IsMenuEffect call answer before after → UpdatesNone before.desk.activity → UpdatesNone after.desk.activity
menu_effect_updates_none (menus.New n) answer before after (is, made) was = subst UpdatesNone (sym made.activity.activity) was
menu_effect_updates_none (menus.Dispose id) answer before after (is, disposed) was = disposed_updates_none (menu_index id before.menus.menus) before after disposed was
menu_effect_updates_none (menus.Down p) answer before after (menu, is, pressed) was = pressed_updates_none (title_of_point before p) menu before after pressed was
menu_effect_updates_none (menus.Move p) answer before after (item, is, moved) was = moved_updates_none before.desk.activity p item before after moved
menu_effect_updates_none (menus.Up p) answer before after (choice, is, released) was = released_updates_none before.desk.activity p choice before after released
menu_effect_updates_none _ answer before after edited was = subst UpdatesNone (sym edited.activity.activity) was

menu_updates_none : (call : MenuCall) (answer : Result MenuReply Refusal) (before after : MenuDesk) → gate before.desk.activity (menu_standing call) ≡ None → IsMenuStep call answer before after → UpdatesNone after.desk.activity
menu_updates_none call (Ok answer) before after may step = menu_effect_updates_none call answer before after step.1 (menu_comes_apart call before.desk.activity may)
menu_updates_none call (Err e) before after may step = subst UpdatesNone (sym step.1.desk.activity) (menu_comes_apart call before.desk.activity may)

-- ---- what the draws leave, where no pixel of the screen becomes stale or fresh

module _ (s : ℕ) (desk : LayeredDesk) (old new : PixelSet) (c : Choices) (stale : (p : Point) → on_screen desk p ≡ true → new p ≡ old p) (were : AreChoices s desk old c) where
  stale_alike : (p : Point) (own chosen : Bool) → ((on_screen desk p && own) && (old p && chosen)) ≡ ((on_screen desk p && own) && (new p && chosen))
  stale_alike p own chosen = by_test (on_screen desk p) refl
    where
      by_test : (b : Bool) → on_screen desk p ≡ b → ((on_screen desk p && own) && (old p && chosen)) ≡ ((on_screen desk p && own) && (new p && chosen))
      by_test true on = ap (λ b. (on_screen desk p && own) && (b && chosen)) (sym (stale p on))
      by_test false off = rw off refl

  still_choices : AreChoices s desk new c
  still_choices = record {
    fresh = λ p on mine. stale p on ∙ were.fresh p on mine;
    left = λ k further p. were.left k further p ∙ stale_alike p (is_content_of s (owner desk p)) (not (is_chosen_of k s (owner desk p)));
  }

-- ---- what is kept for updates

-- `loan` says what a window's definition that was taken means
module _ {V : Type 0} {H : V → Type 0} (loan : TakenBox V H → WindowLoan) where
  -- where a desk begins
  pub updates_begin : (width height bar : ℤ) (font : List ℕ) (t : WindowManager V H) (u : Updates) (slots : List WindowSlot) → pos u.buffer.width ≡ width → pos u.buffer.height ≡ height → IsEmptyDesk loan width height bar font t slots → IsWholeUpdates loan Idle t u
  updates_begin width height bar font t u slots wide high empty = record {
    width = ap nat_abs (wide ∙ sym (ap (λ (d : FullDesk). d.width) empty.desk));
    height = ap nat_abs (high ∙ sym (ap (λ (d : FullDesk). d.height) empty.desk));
    choices = λ s e. absurd (subst UpdatesNone e tt);
  }

  module _ (t new : WindowManager V H) (u : Updates) (before after : List WindowSlot) where
    abbrev was : FullState
    was = state_of loan t before

    abbrev now : FullState
    now = state_of loan new after

    -- no update is open, and the screen has the same sides
    pub whole_unopened : (a b : Activity) → SameSides was.desk now.desk → UpdatesNone b → IsWholeUpdates loan a t u → IsWholeUpdates loan b new u
    whole_unopened a b sides none whole = record {
      width = whole.width ∙ sym (ap nat_abs sides.width);
      height = whole.height ∙ sym (ap nat_abs sides.height);
      choices = λ s e. absurd (subst UpdatesNone e none);
    }

    -- the windows did not change
    pub whole_unchanged : (a : Activity) → IsUnchanged was now → IsWholeUpdates loan a t u → IsWholeUpdates loan a new u
    whole_unchanged a unchanged whole = record {
      width = whole.width ∙ sym (ap (λ (d : FullDesk). nat_abs d.width) unchanged.desk);
      height = whole.height ∙ sym (ap (λ (d : FullDesk). nat_abs d.height) unchanged.desk);
      choices = λ s e. subst (λ (d : FullDesk). AreChoices s (layered_desk d) now.stale u.choices) (sym unchanged.desk) (still_choices s (layered_desk was.desk) was.stale now.stale u.choices unchanged.stale (whole.choices s e));
    }

    pub updates_after_window : (a : Activity) (call : WindowCall) (answer : Result WindowReply Refusal) → gate a (window_standing call) ≡ None → IsWindowStep call answer was now → IsWholeUpdates loan a t u → IsWholeUpdates loan a new u
    updates_after_window a call answer may step whole = ⊎_elim
        (λ none. whole_unopened a a (step_keeps_sides call answer was now step) none whole)
        (λ open_one. whole_unchanged a (asked_changes_nothing call answer was now step (window_asks call (Updating open_one.0) refl (subst (λ b. gate b (window_standing call) ≡ None) open_one.1 may))) whole)
        (updates_or_not a)

    -- definitions were told how their windows stand
    pub updates_after_following : (a : Activity) (call : WindowCall) → gate a (window_standing call) ≡ None → IsCaughtUpBy (window_standing call) was now → IsWholeUpdates loan a t u → IsWholeUpdates loan a new u
    updates_after_following a call may told whole = ⊎_elim
        (λ none. whole_unopened a a (record {
          width = caught_up_keeps (λ d. d.width) (λ d ws. refl) (window_standing call) was now told;
          height = caught_up_keeps (λ d. d.height) (λ d ws. refl) (window_standing call) was now told;
        }) none whole)
        (λ open_one. whole_unchanged a (same_state was now (subst (λ s. IsCaughtUpBy s was now) (window_asks call (Updating open_one.0) refl (subst (λ b. gate b (window_standing call) ≡ None) open_one.1 may)) told)) whole)
        (updates_or_not a)

    pub updates_after_frame : (o n : Opened) (call : FrameCall) (answer : Result FrameReply Refusal) → gate o.activity (frame_standing call) ≡ None → IsFrameStep call answer (desk_with o was) (desk_with n now) → IsWholeUpdates loan o.activity t u → IsWholeUpdates loan n.activity new u
    updates_after_frame o n call answer may step whole =
        whole_unopened o.activity n.activity (record {
          width = frame_keeps (λ d. d.width) (λ d ws. refl) call answer (desk_with o was) (desk_with n now) step;
          height = frame_keeps (λ d. d.height) (λ d ws. refl) call answer (desk_with o was) (desk_with n now) step;
        })
        (frame_updates_none call answer (desk_with o was) (desk_with n now) may step) whole

    pub updates_after_menu : (o n : Opened) (old current : MenusState) (call : MenuCall) (answer : Result MenuReply Refusal) → gate o.activity (menu_standing call) ≡ None
        → IsMenuStep call answer (record { desk = desk_state loan t o before; menus = old }) (record { desk = desk_state loan new n after; menus = current }) → IsWholeUpdates loan o.activity t u → IsWholeUpdates loan n.activity new u
    updates_after_menu o n old current call answer may step whole =
        let first : MenuDesk = record { desk = desk_state loan t o before; menus = old } in
        let last : MenuDesk = record { desk = desk_state loan new n after; menus = current } in
        whole_unopened o.activity n.activity (record {
          width = menu_keeps (λ d. d.width) (λ d titles. refl) call answer first last step;
          height = menu_keeps (λ d. d.height) (λ d titles. refl) call answer first last step;
        })
        (menu_updates_none call answer first last may step) whole
