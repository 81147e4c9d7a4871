-- What holds of a reached state, with windows counted, after calls about menus.
use Rattle.std.proofs.Common.{◌≡◌, ◌⊎◌, ⊎_elim, inl, inr, ℕ, List, Option, None, Some, Result, Ok, Err, refl, sym, ap, ◌∙◌, subst}
use Rattle.tb_geom.specs.declared.point.Point.{Point}
use Rattle.tb_geom.specs.declared.refusal.Refusal.{Refusal}
use Rattle.desk_call.specs.declared.activity.Activity.{Activity}
use Rattle.desk_call.specs.declared.activity.Activity.TheVariants.{Idle, Updating, Tracking, Pulling, TrackingControl, Dragging, Growing, Selecting}
use Rattle.desk_call.specs.declared.activity.PulledMenu.{PulledMenu}
use Rattle.desk_call.specs.declared.activity.Standing.TheVariants.{Pulls}
use Rattle.desk_call.specs.declared.menu.Choice.{Choice}
use Rattle.desk_call.specs.declared.menu.MenuCall.{MenuCall}
use Rattle.desk_call.specs.declared.menu.MenuCall.TheVariants.{New, Dispose, Down, Move, Up}
use Rattle.desk_call.specs.declared.menu.MenuReply.{MenuReply}
use Rattle.desk_call.specs.Gates.{gate, menu_standing}
use Rattle.desk_call.specs.Outlines.{IsOutlineKept}
use Rattle.overlay.specs.declared.overlay.Overlay.{Overlay}
use Rattle.vis_update.specs.Records.{WindowRecord}
use Rattle.window_mgr.specs.declared.manager.WindowManager.{WindowManager}
use Rattle.window_frame.specs.Followers.{AreInformed}
use Rattle.window_outline.specs.ShownOutlines.{IsOutlineShown}
use Rattle.menu_list.specs.Lists.{menu_index}
use Rattle.menu_mgr.specs.MenuDesks.{MenuDesk}
use Rattle.text_mgr.specs.TextDesks.{KeptText}
use Rattle.text_mgr.specs.WholeTexts.{IsSelectable}
use Rattle.menu_mgr.specs.MenuSteps.{IsDisposedAt, IsMenuEffect, IsMenuStep, IsMoved, IsMovedOn, IsPressedOn, IsMenuReleased, other_title}
use Rattle.menu_mgr.specs.Pulling.{TitleOf, title_of_point}
use Rattle.menu_mgr.proofs.MenuKeeps.{menu_keeps, menu_keeps_bar}
use Rattle.desk_toolbox.specs.declared.events.Events.{Events}
use Rattle.desk_toolbox.specs.Reached.{open_window}
use Rattle.control_mgr.specs.ControlDesks.{ControlRecord}
use Rattle.control_mgr.specs.WholeControls.{IsTrackable}
use Rattle.desk_toolbox.proofs.ContentsBeside.{IsRightToolbox}
use Rattle.desk_toolbox.specs.ToolboxStates.{ToolboxState, with_menus}
use Rattle.desk_toolbox.proofs.MenuNumbers.{menu_keeps_apart}
use Rattle.desk_toolbox.proofs.PulledSteps.{menu_keeps_pull}
use Rattle.desk_toolbox.proofs.Totals.{Ordinary, Present, total}
use Rattle.desk_toolbox.proofs.Told.{ArePosted}
use Rattle.desk_toolbox.proofs.Tracked.{misled}
use Rattle.desk_toolbox.proofs.Stands.{Stands, idle_now}

-- nothing is open, or a menu is pulled down: nothing of a window is
abbrev OpensNoWindow : Activity → Type 0
OpensNoWindow a = (a ≡ Idle) ⊎ ((m : PulledMenu) × (a ≡ Pulling m))

pulling_now : (a : Activity) → gate a Pulls ≡ None → OpensNoWindow a
pulling_now Idle e = absurd (cc)
pulling_now (Updating s) e = absurd (cc)
pulling_now (Tracking s) e = absurd (cc)
pulling_now (TrackingControl c) e = absurd (cc)
pulling_now (Dragging d) e = absurd (cc)
pulling_now (Growing g) e = absurd (cc)
pulling_now (Selecting k) e = absurd (cc)
pulling_now (Pulling m) e = inr (m, refl)

-- a call about menus comes only then
comes_then : (call : MenuCall) (a : Activity) → gate a (menu_standing call) ≡ None → OpensNoWindow a
comes_then (Move p) a may = pulling_now a may
comes_then (Up p) a may = pulling_now a may
comes_then _ a may = inl (idle_now a may)

-- and so it is after it
pressed_opens : (t : Option TitleOf) (answer : Option ℕ) (before after : MenuDesk) → IsPressedOn t answer before after → OpensNoWindow before.desk.activity → OpensNoWindow after.desk.activity
pressed_opens None answer before after (is, same) was = subst OpensNoWindow (sym same.desk.activity) was
pressed_opens (Some t) answer before after (is, pulled) was = inr (_, pulled.activity)

moved_on_opens : (m : PulledMenu) (t : Option TitleOf) (p : Point) (answer : Option ℕ) (before after : MenuDesk) → IsMovedOn m t p answer before after → OpensNoWindow after.desk.activity
moved_on_opens m (Some t) p answer before after (is, (menus, told, pulled)) = inr (_, pulled.activity)
moved_on_opens m None p answer before after (is, (menus, told, shown)) = inr (_, shown.activity)

moved_opens : (a : Activity) (p : Point) (answer : Option ℕ) (before after : MenuDesk) → IsMoved a p answer before after → OpensNoWindow after.desk.activity
moved_opens (Pulling m) p answer before after moved = moved_on_opens m (other_title m (title_of_point before p)) p answer before after moved
moved_opens Idle p answer before after wrong = absurd wrong
moved_opens (Updating s) p answer before after wrong = absurd wrong
moved_opens (Tracking s) p answer before after wrong = absurd wrong
moved_opens (TrackingControl c) p answer before after wrong = absurd wrong
moved_opens (Dragging d) p answer before after wrong = absurd wrong
moved_opens (Growing g) p answer before after wrong = absurd wrong
moved_opens (Selecting k) p answer before after wrong = absurd wrong

released_opens : (a : Activity) (p : Point) (choice : Option Choice) (before after : MenuDesk) → IsMenuReleased a p choice before after → OpensNoWindow after.desk.activity
released_opens (Pulling m) p choice before after (is, away) = inl away.activity
released_opens Idle p choice before after wrong = absurd wrong
released_opens (Updating s) p choice before after wrong = absurd wrong
released_opens (Tracking s) p choice before after wrong = absurd wrong
released_opens (TrackingControl c) p choice before after wrong = absurd wrong
released_opens (Dragging d) p choice before after wrong = absurd wrong
released_opens (Growing g) p choice before after wrong = absurd wrong
released_opens (Selecting k) p choice before after wrong = absurd wrong

disposed_opens : (at : Option ℕ) (before after : MenuDesk) → IsDisposedAt at before after → OpensNoWindow before.desk.activity → OpensNoWindow after.desk.activity
disposed_opens None before after wrong was = absurd wrong
disposed_opens (Some at) before after disposed was = subst OpensNoWindow (sym disposed.activity.activity) was

effect_opens : (call : MenuCall) (answer : MenuReply) (before after : MenuDesk) → IsMenuEffect call answer before after → OpensNoWindow before.desk.activity → OpensNoWindow after.desk.activity
effect_opens (New n) answer before after (is, made) was = subst OpensNoWindow (sym made.activity.activity) was
effect_opens (Dispose id) answer before after (is, disposed) was = disposed_opens (menu_index id before.menus.menus) before after disposed was
effect_opens (Down p) answer before after (menu, is, pressed) was = pressed_opens (title_of_point before p) menu before after pressed was
effect_opens (Move p) answer before after (item, is, moved) was = moved_opens before.desk.activity p item before after moved
effect_opens (Up p) answer before after (choice, is, released) was = released_opens before.desk.activity p choice before after released
effect_opens _ answer before after edited was = subst OpensNoWindow (sym edited.activity.activity) was

pub step_opens : (call : MenuCall) (answer : Result MenuReply Refusal) (before after : MenuDesk) → gate before.desk.activity (menu_standing call) ≡ None → IsMenuStep call answer before after → OpensNoWindow after.desk.activity
step_opens call (Ok answer) before after may step = effect_opens call answer before after step.1 (comes_then call before.desk.activity may)
step_opens call (Err e) before after may step = subst OpensNoWindow (sym step.1.desk.activity) (comes_then call before.desk.activity may)

none_opened : (a : Activity) (ws : List WindowRecord) → OpensNoWindow a → Present (open_window a) ws
none_opened a ws none = ⊎_elim
    (λ idle. subst (λ b. Present (open_window b) ws) (sym idle) tt)
    (λ pulling. subst (λ b. Present (open_window b) ws) (sym pulling.1) tt)
    none

none_tracked : (a : Activity) (cs : List ControlRecord) → OpensNoWindow a → IsTrackable a cs
none_tracked a cs none = ⊎_elim
    (λ idle. subst (λ b. IsTrackable b cs) (sym idle) tt)
    (λ pulling. subst (λ b. IsTrackable b cs) (sym pulling.1) tt)
    none

-- no control is tracked where a call about menus came
pub menu_trackable : (call : MenuCall) (answer : Result MenuReply Refusal) (before after : MenuDesk) (cs : List ControlRecord) → gate before.desk.activity (menu_standing call) ≡ None → IsMenuStep call answer before after → IsTrackable after.desk.activity cs
menu_trackable call answer before after cs may step = none_tracked after.desk.activity cs (step_opens call answer before after may step)

-- nor does the mouse select
pub menu_selectable : (call : MenuCall) (answer : Result MenuReply Refusal) (before after : MenuDesk) (ts : List KeptText) → gate before.desk.activity (menu_standing call) ≡ None → IsMenuStep call answer before after → IsSelectable after.desk.activity ts
menu_selectable call answer before after ts may step = ⊎_elim
    (λ idle. subst (λ b. IsSelectable b ts) (sym idle) tt)
    (λ pulling. subst (λ b. IsSelectable b ts) (sym pulling.1) tt)
    (step_opens call answer before after may step)

-- nor is a window dragged or grown
pub menu_outlines_none : {V : Type 0} {H : V → Type 0} (call : MenuCall) (answer : Result MenuReply Refusal) (before after : MenuDesk) (t : WindowManager V H) (front : Overlay) → gate before.desk.activity (menu_standing call) ≡ None → IsMenuStep call answer before after
    → IsOutlineKept after.desk.activity × IsOutlineShown after.desk.activity t front
menu_outlines_none call answer before after t front may step = ⊎_elim
    (λ idle. subst (λ a. IsOutlineKept a × IsOutlineShown a t front) (sym idle) (tt, tt))
    (λ pulling. subst (λ a. IsOutlineKept a × IsOutlineShown a t front) (sym pulling.1) (tt, tt))
    (step_opens call answer before after may step)

as_idle : (a : Activity) (ws : List WindowRecord) → OpensNoWindow a → total (misled a) ws ≡ total (misled Idle) ws
as_idle a ws none = ⊎_elim
    (λ idle. ap (λ b. total (misled b) ws) idle)
    (λ pulling. ap (λ b. total (misled b) ws) pulling.1)
    none

pub menu_stands : (call : MenuCall) (answer : Result MenuReply Refusal) (before after : ToolboxState) → gate before.desk.activity (menu_standing call) ≡ None → Stands before → IsRightToolbox after → IsMenuStep call answer (with_menus before) (with_menus after) → after.events ≡ before.events → Stands after
menu_stands call answer before after may was right step events =
    let ws = before.desk.windows.desk.windows in
    let now = after.desk.windows.desk.windows in
    let windows : now ≡ ws = menu_keeps (λ d. d.windows) (λ d titles. refl) call answer (with_menus before) (with_menus after) step in
    let active : after.desk.windows.desk.active ≡ before.desk.windows.desk.active = menu_keeps (λ d. d.active) (λ d titles. refl) call answer (with_menus before) (with_menus after) step in
    let opens = step_opens call answer (with_menus before) (with_menus after) may step in
    record {
      right = right.right;
      contents = right.contents;
      trackable = none_tracked after.desk.activity after.controls.controls opens;
      active = subst (λ vs. Ordinary after.desk.windows.desk.active vs) (sym windows) (subst (λ o. Ordinary o ws) (sym active) was.active);
      told = subst (λ vs. Ordinary after.events.told vs) (sym windows) (subst (λ (e : Events). Ordinary e.told ws) (sym events) was.told);
      opened = none_opened after.desk.activity now opens;
      queued = subst (λ (e : Events). ArePosted e.queue.events) (sym events) was.queued;
      informed = subst AreInformed (sym windows) was.informed;
      tracked =
          as_idle after.desk.activity now opens ∙ ap (total (misled Idle)) windows
          ∙ sym (as_idle before.desk.activity ws (comes_then call before.desk.activity may)) ∙ was.tracked;
      bar = menu_keeps_bar call answer (with_menus before) (with_menus after) step was.bar;
      apart = menu_keeps_apart call answer (with_menus before) (with_menus after) step was.apart;
      pull = menu_keeps_pull call answer (with_menus before) (with_menus after) may was.bar was.apart was.pull step;
    }
