-- Steps of menus, whatever controls and lists show, since none draws one of them.
use Rattle.std.proofs.Common.{ℕ, List, Option, None, Some, Result, Ok, Err, refl, sym, ap, subst}
use Rattle.tb_geom.specs.declared.point.Point.{Point}
use Rattle.tb_geom.specs.declared.refusal.Refusal.{Refusal}
use Rattle.tb_geom.specs.Points.{PixelSet}
use Rattle.desk_ground.specs.declared.titles.BarTitle.{BarTitle}
use Rattle.desk_layers.specs.declared.part.Part.{Part}
use Rattle.desk_layers.specs.Desk.{IsDesk}
use Rattle.desk_layers.specs.Change.{no_change}
use Rattle.desk_call.specs.declared.activity.Activity.{Activity}
use Rattle.desk_call.specs.declared.activity.Activity.TheVariants.{Idle, Updating, Tracking, Pulling, TrackingControl, Dragging, Growing, Selecting}
use Rattle.desk_call.specs.declared.activity.PulledMenu.{PulledMenu}
use Rattle.desk_call.specs.declared.menu.Choice.{Choice}
use Rattle.desk_call.specs.declared.menu.MenuCall.{MenuCall}
use Rattle.desk_call.specs.declared.menu.MenuCall.TheVariants as asks
use Rattle.desk_call.specs.declared.menu.MenuReply.{MenuReply}
use Rattle.window_mgr.specs.BarShown.{IsBarShown}
use Rattle.window_mgr.specs.FullDesk.{FullDesk, FullState, layered_desk}
use Rattle.window_mgr.specs.Records.{desk_showing, state_showing}
use Rattle.window_mgr.proofs.StepsShowing.{changed_showing, shown, unchanged_desk_showing, same_activity_showing}
use Rattle.menu_mgr.specs.MenuDesks.{MenuDesk, MenuRecord, MenuSlot, IsMenuDeskUnchanged}
use Rattle.menu_mgr.specs.MenuSteps.{AreMenusShown, IsDisposedAt, IsPressedOn, IsPulledDown, IsItemShown, IsMovedOn, IsMoved, IsPutAway, IsMenuReleased, AreEdited, IsMenuEffect, IsMenuStep, other_title}
use Rattle.menu_mgr.specs.Pulling.{TitleOf, title_of_point}

module _ (shows : List ℕ → Part → PixelSet) where
  -- the desk and its menus, where its controls and lists show this
  abbrev pub menus_shown : MenuDesk → MenuDesk
  menus_shown d = record d { desk = shown shows d.desk }

  distinct_after : (titles : List BarTitle) (s t : FullState) → IsDesk (layered_desk s.desk) → IsBarShown titles s t → IsDesk (layered_desk t.desk)
  distinct_after titles s t distinct it = subst (λ (d : FullDesk). IsDesk (layered_desk d)) (sym it.desk) distinct

  bar_showing : (titles : List BarTitle) (s t : FullState) → IsDesk (layered_desk s.desk) → IsBarShown titles s t → IsBarShown titles (state_showing shows s) (state_showing shows t)
  bar_showing titles s t distinct it = record {
    desk = ap (desk_showing shows) it.desk;
    pixels = changed_showing shows no_change (λ o p. refl) (λ o. refl) s t (distinct_after titles s t distinct it) it.pixels;
  }

  module _ (before after : MenuDesk) (distinct : IsDesk (layered_desk before.desk.windows.desk)) where
    titles_showing : (ls : List MenuRecord) (highlighted : Option ℕ) (slots : List MenuSlot) → AreMenusShown ls highlighted slots before after
        → AreMenusShown ls highlighted slots (menus_shown before) (menus_shown after)
    titles_showing ls highlighted slots it = record { menus = it.menus; bar = bar_showing _ before.desk.windows after.desk.windows distinct it.bar }

    none_showing : IsMenuDeskUnchanged before after → IsMenuDeskUnchanged (menus_shown before) (menus_shown after)
    none_showing same = record { desk = unchanged_desk_showing shows before.desk after.desk same.desk; menus = same.menus }

    disposed_showing : (at : Option ℕ) → IsDisposedAt at before after → IsDisposedAt at (menus_shown before) (menus_shown after)
    disposed_showing None none = none
    disposed_showing (Some at) it = record {
      listed = it.listed;
      found = it.found;
      shut = it.shut;
      activity = same_activity_showing shows before.desk after.desk it.activity;
      shown = titles_showing _ _ _ it.shown;
    }

    pulled_showing : (t : TitleOf) (menus : List MenuRecord) → IsPulledDown t menus before after → IsPulledDown t menus (menus_shown before) (menus_shown after)
    pulled_showing t menus it = record { activity = it.activity; begun = it.begun; shown = titles_showing _ _ _ it.shown }

    pressed_showing : (t : Option TitleOf) (answer : Option ℕ) → IsPressedOn t answer before after → IsPressedOn t answer (menus_shown before) (menus_shown after)
    pressed_showing None answer (none, same) = (none, none_showing same)
    pressed_showing (Some t) answer (some, it) = (some, pulled_showing t before.menus.menus it)

    item_showing : (m : PulledMenu) (item : Option ℕ) (ls : List MenuRecord) → IsItemShown m item ls before after → IsItemShown m item ls (menus_shown before) (menus_shown after)
    item_showing m item ls it = record { activity = it.activity; windows = ap (state_showing shows) it.windows; begun = it.begun; menus = it.menus }

    moved_on_showing : (m : PulledMenu) (t : Option TitleOf) (p : Point) (answer : Option ℕ) → IsMovedOn m t p answer before after → IsMovedOn m t p answer (menus_shown before) (menus_shown after)
    moved_on_showing m (Some t) p answer (none, (menus, told, it)) = (none, (menus, told, pulled_showing t menus it))
    moved_on_showing m None p answer (is, (menus, told, it)) = (is, (menus, told, item_showing m answer menus it))

    moved_showing : (activity : Activity) (p : Point) (answer : Option ℕ) → IsMoved activity p answer before after → IsMoved activity p answer (menus_shown before) (menus_shown after)
    moved_showing Idle p answer none = none
    moved_showing (Updating n) p answer none = none
    moved_showing (Tracking n) p answer none = none
    moved_showing (TrackingControl c) p answer none = none
    moved_showing (Dragging d) p answer none = none
    moved_showing (Growing g) p answer none = none
    moved_showing (Selecting k) p answer none = none
    moved_showing (Pulling m) p answer it = moved_on_showing m (other_title m (title_of_point before p)) p answer it

    put_away_showing : (m : PulledMenu) (choice : Option Choice) → IsPutAway m choice before after → IsPutAway m choice (menus_shown before) (menus_shown after)
    put_away_showing m choice it = record { told = it.told; definition = it.definition; activity = it.activity; begun = it.begun; shown = titles_showing _ _ _ it.shown }

    released_showing : (activity : Activity) (p : Point) (answer : Option Choice) → IsMenuReleased activity p answer before after → IsMenuReleased activity p answer (menus_shown before) (menus_shown after)
    released_showing Idle p answer none = none
    released_showing (Updating n) p answer none = none
    released_showing (Tracking n) p answer none = none
    released_showing (TrackingControl c) p answer none = none
    released_showing (Dragging d) p answer none = none
    released_showing (Growing g) p answer none = none
    released_showing (Selecting k) p answer none = none
    released_showing (Pulling m) p answer (is, it) = (is, put_away_showing m answer it)

    edited_showing : (call : MenuCall) (answer : MenuReply) → AreEdited call answer before after → AreEdited call answer (menus_shown before) (menus_shown after)
    edited_showing call answer it = record { answered = it.answered; activity = same_activity_showing shows before.desk after.desk it.activity; shown = titles_showing _ _ _ it.shown }

    menu_effect : (call : MenuCall) (answer : MenuReply) → IsMenuEffect call answer before after → IsMenuEffect call answer (menus_shown before) (menus_shown after)
    menu_effect (asks.New n) answer (done, it) = (
      done,
      record {
        loan = it.loan;
        begun = it.begun;
        taken = it.taken;
        live = it.live;
        activity = same_activity_showing shows before.desk after.desk it.activity;
        shown = titles_showing _ _ _ it.shown;
      },
    )
    menu_effect (asks.Dispose id) answer (done, it) = (done, disposed_showing _ it)
    menu_effect (asks.Down p) answer (menu, is, it) = (menu, is, pressed_showing (title_of_point before p) menu it)
    menu_effect (asks.Move p) answer (item, is, it) = (item, is, moved_showing before.desk.activity p item it)
    menu_effect (asks.Up p) answer (choice, is, it) = (choice, is, released_showing before.desk.activity p choice it)
    menu_effect (asks.Append a) answer it = edited_showing (asks.Append a) answer it
    menu_effect (asks.SetItem a) answer it = edited_showing (asks.SetItem a) answer it
    menu_effect (asks.Insert a) answer it = edited_showing (asks.Insert a) answer it
    menu_effect (asks.Delete a) answer it = edited_showing (asks.Delete a) answer it
    menu_effect (asks.Enable a) answer it = edited_showing (asks.Enable a) answer it
    menu_effect (asks.Disable a) answer it = edited_showing (asks.Disable a) answer it
    menu_effect (asks.Check a) answer it = edited_showing (asks.Check a) answer it
    menu_effect (asks.Key a) answer it = edited_showing (asks.Key a) answer it
    menu_effect (asks.Hilite a) answer it = edited_showing (asks.Hilite a) answer it

    pub menu_step_showing : (call : MenuCall) (result : Result MenuReply Refusal) → IsMenuStep call result before after → IsMenuStep call result (menus_shown before) (menus_shown after)
    menu_step_showing call (Ok answer) (none, effect) = (none, menu_effect call answer effect)
    menu_step_showing call (Err e) (refused, same) = (refused, none_showing same)
