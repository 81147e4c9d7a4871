-- A call about an outline leaves every manager whole, and the map in front right, and the end of a drag begins while nothing is
-- open.
use Rattle.std.proofs.Common.{◌≡◌, None, Some, List, [], Ok, Err, refl, sym, ap, subst}
use Rattle.tb_geom.specs.declared.refusal.Refusal.{Refusal}
use Rattle.tb_geom.specs.Points.{PixelSet}
use Rattle.desk_layers.specs.declared.part.Part.{Part}
use Rattle.def_iface.specs.Slots.{TakenBox}
use Rattle.def_iface.specs.MenuMeaning.{MenuLoan}
use Rattle.def_iface.specs.WindowMeaning.{WindowLoan}
use Rattle.def_iface.specs.WindowSlots.{WindowSlot}
use Rattle.desk_call.specs.declared.activity.Activity.{Activity}
use Rattle.desk_call.specs.declared.activity.Activity.TheVariants.{Idle, Updating, Tracking, Pulling, TrackingControl, Dragging, Growing, Selecting}
use Rattle.desk_call.specs.declared.activity.Standing.TheVariants.{Drags}
use Rattle.desk_call.specs.declared.outline.OutlineCall.{OutlineCall}
use Rattle.desk_call.specs.declared.outline.OutlineCall.TheVariants.{Drag, StepDrag, EndDrag, Grow, StepGrow, EndGrow}
use Rattle.desk_call.specs.declared.window.MoveWindow.{MoveWindow}
use Rattle.desk_call.specs.declared.window.WindowCall.TheVariants.{Move}
use Rattle.desk_call.specs.declared.window.WindowReply.{WindowReply}
use Rattle.desk_call.specs.declared.window.WindowReply.TheVariants.{Done}
use Rattle.desk_call.specs.Gates.{gate, outline_standing}
use Rattle.overlay.specs.declared.overlay.Overlay.{Overlay}
use Rattle.window_mgr.specs.declared.manager.WindowManager.{WindowManager}
use Rattle.window_mgr.specs.Effects.{IsUnchanged}
use Rattle.window_mgr.specs.FullDesk.{FullDesk, FullState}
use Rattle.window_outline.specs.Outlining.{let_go_of}
use Rattle.window_update.specs.declared.updates.Updates.{Updates}
use Rattle.window_update.specs.WholeUpdates.{IsWholeUpdates}
use Rattle.window_mgr.specs.Records.{desk_of, state_of}
use Rattle.window_paint.specs.White.{all_white}
use Rattle.menu_mgr.specs.declared.menus.Menus.{Menus}
use Rattle.menu_mgr.specs.MenuDesks.{MenuSlot}
use Rattle.menu_mgr.specs.WholeMenus.{IsPlaced, IsPulledShown, IsWholeMenus}
use Rattle.desk_toolbox.specs.Run.{IsWindowDone, IsWindowMade, put_down}
use Rattle.desk_toolbox.specs.ToolboxStates.{IsToolboxUnchanged, ToolboxState}
use Rattle.desk_toolbox.proofs.MenusBeside.{AreMenusInFront}
use Rattle.desk_toolbox.proofs.MenusBeside as beside
use Rattle.desk_toolbox.proofs.OutlineStands.{IsOutlining}
use Rattle.desk_toolbox.proofs.UpdatesBeside.{UpdatesNone}
use Rattle.desk_toolbox.proofs.UpdatesBeside as updates

-- only the end of a drag moves a window
pub drops_drag : (call : OutlineCall) (a : Activity) (desk : FullDesk) (drop : MoveWindow) → let_go_of call a desk ≡ Some drop → gate a (outline_standing call) ≡ None → gate a Drags ≡ None
drops_drag (EndDrag p) a desk drop is may = may
drops_drag (Drag d) a desk drop is may = absurd (cc)
drops_drag (StepDrag p) a desk drop is may = absurd (cc)
drops_drag (Grow g) a desk drop is may = absurd (cc)
drops_drag (StepGrow p) a desk drop is may = absurd (cc)
drops_drag (EndGrow p) a desk drop is may = absurd (cc)

-- no update is open
outlining_updates_none : (a : Activity) → IsOutlining a → UpdatesNone a
outlining_updates_none Idle is = tt
outlining_updates_none (Dragging d) is = tt
outlining_updates_none (Growing g) is = tt
outlining_updates_none (Updating s) is = absurd is
outlining_updates_none (Tracking s) is = absurd is
outlining_updates_none (TrackingControl c) is = absurd is
outlining_updates_none (Selecting k) is = absurd is
outlining_updates_none (Pulling m) is = absurd is

pub outlined_updates : {V : Type 0} {H : V → Type 0} (loan : TakenBox V H → WindowLoan) (t : WindowManager V H) (u : Updates) (a b : Activity) → IsOutlining b → IsWholeUpdates loan a t u → IsWholeUpdates loan b t u
outlined_updates loan t u a b is whole = updates.whole_unopened loan t t u [] [] a b (record { width = refl; height = refl }) (outlining_updates_none b is) whole

pub unchanged : (s : FullState) → IsUnchanged s s
unchanged s = record { desk = refl; stale = λ p on. refl; image = λ p on. refl }

-- no menu is pulled down, so none has to lie anywhere
outlining_places_none : (a : Activity) → IsOutlining a → IsPlaced a
outlining_places_none Idle is = tt
outlining_places_none (Dragging d) is = tt
outlining_places_none (Growing g) is = tt
outlining_places_none (Updating s) is = absurd is
outlining_places_none (Tracking s) is = absurd is
outlining_places_none (TrackingControl c) is = absurd is
outlining_places_none (Selecting k) is = absurd is
outlining_places_none (Pulling m) is = absurd is

pub outlined_menus : {W : Type 0} {K : W → Type 0} (menu_loan : TakenBox W K → MenuLoan) (m : Menus W K) (slots : List MenuSlot) (a b : Activity) → IsOutlining b → IsWholeMenus menu_loan a m slots → IsWholeMenus menu_loan b m slots
outlined_menus menu_loan m slots a b is whole = record {
  few = whole.few;
  room = whole.room;
  live = whole.live;
  stocked = whole.stocked;
  placed = outlining_places_none b is;
}

-- nor is one to be shown
pub outlining_shows_none : {V : Type 0} {H : V → Type 0} {W : Type 0} {K : W → Type 0} (menu_loan : TakenBox W K → MenuLoan) (t : WindowManager V H) (m : Menus W K) (front : Overlay) (a : Activity) → IsOutlining a → IsPulledShown menu_loan a t m front
outlining_shows_none menu_loan t m front Idle is = tt
outlining_shows_none menu_loan t m front (Dragging d) is = tt
outlining_shows_none menu_loan t m front (Growing g) is = tt
outlining_shows_none menu_loan t m front (Updating s) is = absurd is
outlining_shows_none menu_loan t m front (Tracking s) is = absurd is
outlining_shows_none menu_loan t m front (TrackingControl c) is = absurd is
outlining_shows_none menu_loan t m front (Selecting k) is = absurd is
outlining_shows_none menu_loan t m front (Pulling p) is = absurd is

-- ---- the window that was dragged is let go

-- a move that is done answers that
pub moved_done : (move : MoveWindow) (answer : WindowReply) (before after : ToolboxState) → IsWindowDone (Move move) answer before after → IsWindowMade (Move move) (Ok Done) before after
moved_done move answer before after done = subst (λ r. IsWindowDone (Move move) r before after) done.answered.1.1.0 done

-- a move that is refused, where what was open is again
pub refused_drop : (move : MoveWindow) (e : Refusal) (before after : ToolboxState) → after.desk.activity ≡ before.desk.activity → IsWindowMade (Move move) (Err e) (put_down before) (put_down after) → IsToolboxUnchanged before after
refused_drop move e before after activity (answered, rest) = record {
  desk = record { windows = answered.1.1; activity = activity; begun = answered.0.begun };
  controls = rest.controls;
  lists = rest.lists;
  texts = rest.texts;
  menus = rest.menus;
  events = rest.events;
}

-- where what the windows show did not change, they did not
pub unshown : {V : Type 0} {H : V → Type 0} (loan : TakenBox V H → WindowLoan) (t new : WindowManager V H) (before after : List WindowSlot) (old_shows shows : Part → PixelSet)
    → IsUnchanged (record (state_of loan t before) { desk = record (desk_of loan t before) { shows = old_shows } }) (record (state_of loan new after) { desk = record (desk_of loan new after) { shows = shows } })
    → IsUnchanged (state_of loan t before) (state_of loan new after)
unshown loan t new before after old_shows shows same = record {
  desk = ap (λ (d : FullDesk). record d { shows = all_white }) same.desk;
  stale = same.stale;
  image = same.image;
}

pub dropped_menus : {V : Type 0} {H : V → Type 0} (loan : TakenBox V H → WindowLoan) {W : Type 0} {K : W → Type 0} (menu_loan : TakenBox W K → MenuLoan) (t new : WindowManager V H) (m other : Menus W K) (front map : Overlay) (kept left : List MenuSlot) (before after : List WindowSlot) (a : Activity)
    → IsUnchanged (state_of loan t before) (state_of loan new after) → other ≡ m → map ≡ front → left ≡ kept → AreMenusInFront menu_loan a t m front kept → AreMenusInFront menu_loan a new other map left
dropped_menus loan menu_loan t new m other front map kept left before after a same menus fronts slots whole =
    subst (λ (x : List MenuSlot). AreMenusInFront menu_loan a new other map x) (sym slots)
    (subst (λ x. AreMenusInFront menu_loan a new other x kept) (sym fronts)
    (subst (λ x. AreMenusInFront menu_loan a new x front kept) (sym menus) (beside.whole_unchanged loan menu_loan t new m front kept before after same a whole)))
