-- What any call about menus leaves of the windows.
use Rattle.std.proofs.Common.{◌≡◌, ◌⊎◌, ⊎_elim, inl, inr, ℕ, zero, suc, Bool, true, false, List, [], ◌∷◌, map, Option, None, Some, Result, Ok, Err, cond, refl, sym, ap, ◌∙◌, subst}
use Rattle.std.specs.Prelude.{pos}
use Rattle.tb_geom.specs.declared.point.Point.{Point}
use Rattle.tb_geom.specs.declared.refusal.Refusal.{Refusal}
use Rattle.def_iface.specs.MenuMeaning.{MenuDefinition}
use Rattle.desk_layers.specs.Owner.{Owner, own_bit}
use Rattle.desk_layers.specs.Owner.Owner.{Desktop, Bar, Frame, Content}
use Rattle.desk_layers.specs.Owner.{is_content}
use Rattle.desk_layers.specs.Change as plain
use Rattle.desk_layers.proofs.Changing.{stays_right}
use Rattle.desk_ground.specs.declared.titles.BarTitle.{BarTitle}
use Rattle.menu_list.specs.Lists.{edit_at, in_bar, menu_index, title_of, titles_of}
use Rattle.desk_call.specs.declared.activity.Activity.{Activity}
use Rattle.desk_call.specs.declared.activity.Activity.TheVariants.{Idle, Updating, Tracking, Pulling, TrackingControl, Dragging, Growing, Selecting}
use Rattle.desk_call.specs.declared.activity.PulledMenu.{PulledMenu}
use Rattle.desk_call.specs.declared.menu.Choice.{Choice}
use Rattle.desk_call.specs.declared.menu.MenuCall.{MenuCall}
use Rattle.desk_call.specs.declared.menu.MenuCall.TheVariants.{New, Dispose, Down, Move, Up}
use Rattle.desk_call.specs.declared.menu.MenuReply.{MenuReply}
use Rattle.window_mgr.specs.BarShown.{IsBarShown}
use Rattle.window_mgr.specs.Effects.{IsUnchanged}
use Rattle.window_mgr.specs.FullDesk.{FullDesk, FullState, IsRightState, AreSerials, layered_desk, layered_state}
use Rattle.window_mgr.proofs.Running.{unchanged_stays_right}
use Rattle.menu_mgr.specs.MenuDesks.{MenuDesk, MenuRecord, IsBarOf}
use Rattle.menu_mgr.specs.MenuSteps.{AreMenusShown, IsDisposedAt, IsMenuEffect, IsMenuStep, IsMoved, IsMovedOn, IsPressedOn, IsMenuReleased, IsToldAt, other_title, with_definition}
use Rattle.menu_mgr.specs.Pulling.{TitleOf, title_of_point}

-- nothing of them changed, or the menu bar shows these titles
abbrev LeavesWindows : FullState → FullState → Type 0
LeavesWindows before after = IsUnchanged before after ⊎ ((titles : List BarTitle) × IsBarShown titles before after)

same_state : (before after : FullState) → after ≡ before → IsUnchanged before after
same_state before after same = record {
  desk = ap (λ (s : FullState). s.desk) same;
  stale = λ p on. ap (λ (s : FullState). s.stale p) same;
  image = λ p on. ap (λ (s : FullState). s.image p) same;
}

pressed_leaves : (t : Option TitleOf) (answer : Option ℕ) (before after : MenuDesk) → IsPressedOn t answer before after → LeavesWindows before.desk.windows after.desk.windows
pressed_leaves None answer before after (is, same) = inl same.desk.windows
pressed_leaves (Some t) answer before after (is, pulled) = inr (_, pulled.shown.bar)

moved_on_leaves : (m : PulledMenu) (t : Option TitleOf) (p : Point) (answer : Option ℕ) (before after : MenuDesk) → IsMovedOn m t p answer before after → LeavesWindows before.desk.windows after.desk.windows
moved_on_leaves m (Some t) p answer before after (is, (menus, told, pulled)) = inr (_, pulled.shown.bar)
moved_on_leaves m None p answer before after (is, (menus, told, shown)) = inl (same_state before.desk.windows after.desk.windows shown.windows)

moved_leaves : (a : Activity) (p : Point) (answer : Option ℕ) (before after : MenuDesk) → IsMoved a p answer before after → LeavesWindows before.desk.windows after.desk.windows
moved_leaves (Pulling m) p answer before after moved = moved_on_leaves m (other_title m (title_of_point before p)) p answer before after moved
moved_leaves Idle p answer before after wrong = absurd wrong
moved_leaves (Updating s) p answer before after wrong = absurd wrong
moved_leaves (Tracking s) p answer before after wrong = absurd wrong
moved_leaves (TrackingControl c) p answer before after wrong = absurd wrong
moved_leaves (Dragging d) p answer before after wrong = absurd wrong
moved_leaves (Growing g) p answer before after wrong = absurd wrong
moved_leaves (Selecting k) p answer before after wrong = absurd wrong

released_leaves : (a : Activity) (p : Point) (choice : Option Choice) (before after : MenuDesk) → IsMenuReleased a p choice before after → LeavesWindows before.desk.windows after.desk.windows
released_leaves (Pulling m) p choice before after (is, away) = inr (_, away.shown.bar)
released_leaves Idle p choice before after wrong = absurd wrong
released_leaves (Updating s) p choice before after wrong = absurd wrong
released_leaves (Tracking s) p choice before after wrong = absurd wrong
released_leaves (TrackingControl c) p choice before after wrong = absurd wrong
released_leaves (Dragging d) p choice before after wrong = absurd wrong
released_leaves (Growing g) p choice before after wrong = absurd wrong
released_leaves (Selecting k) p choice before after wrong = absurd wrong

disposed_leaves : (at : Option ℕ) (before after : MenuDesk) → IsDisposedAt at before after → LeavesWindows before.desk.windows after.desk.windows
disposed_leaves None before after wrong = absurd wrong
disposed_leaves (Some at) before after disposed = inr (_, disposed.shown.bar)

effect_leaves : (call : MenuCall) (answer : MenuReply) (before after : MenuDesk) → IsMenuEffect call answer before after → LeavesWindows before.desk.windows after.desk.windows
effect_leaves (New n) answer before after (is, made) = inr (_, made.shown.bar)
effect_leaves (Dispose id) answer before after (is, disposed) = disposed_leaves (menu_index id before.menus.menus) before after disposed
effect_leaves (Down p) answer before after (menu, is, pressed) = pressed_leaves (title_of_point before p) menu before after pressed
effect_leaves (Move p) answer before after (item, is, moved) = moved_leaves before.desk.activity p item before after moved
effect_leaves (Up p) answer before after (choice, is, released) = released_leaves before.desk.activity p choice before after released
effect_leaves _ answer before after edited = inr (_, edited.shown.bar)

pub step_leaves : (call : MenuCall) (answer : Result MenuReply Refusal) (before after : MenuDesk) → IsMenuStep call answer before after → LeavesWindows before.desk.windows after.desk.windows
step_leaves call (Ok answer) before after step = effect_leaves call answer before after step.1
step_leaves call (Err e) before after step = inl step.1.desk.windows

-- ---- what of the desk stays

pub menu_keeps : {X : Type 0} (f : FullDesk → X) → ((d : FullDesk) (titles : List BarTitle) → f (record d { bar = record d.bar { titles = titles } }) ≡ f d)
    → (call : MenuCall) (answer : Result MenuReply Refusal) (before after : MenuDesk) → IsMenuStep call answer before after → f after.desk.windows.desk ≡ f before.desk.windows.desk
menu_keeps f same call answer before after step = ⊎_elim
    (λ still. ap f still.desk)
    (λ shown. ap f shown.1.desk ∙ same before.desk.windows.desk shown.0)
    (step_leaves call answer before after step)

-- ---- what is right stays so

same_content : (desk : FullDesk) (titles : List BarTitle) (p : Point) (o : Owner) → is_content o ≡ true → own_bit (layered_desk desk) o p ≡ own_bit (layered_desk (record desk { bar = record desk.bar { titles = titles } })) o p
same_content desk titles p Desktop e = absurd (cc)
same_content desk titles p Bar e = absurd (cc)
same_content desk titles p (Frame s) e = absurd (cc)
same_content desk titles p (Content s part) e = refl

pub bar_stays_right : (titles : List BarTitle) (before after : FullState) → IsRightState before → IsBarShown titles before after → IsRightState after
bar_stays_right titles before after right shown = record {
  plain = stays_right plain.no_change (layered_state before) (layered_state after) right.plain
      (subst (plain.IsSound plain.no_change (layered_state before)) (sym (ap layered_desk shown.desk)) sound) shown.pixels;
  serials = subst (λ (d : FullDesk). AreSerials d.next d.windows) (sym shown.desk) right.serials;
}
  where
    sound : plain.IsSound plain.no_change (layered_state before) (layered_desk (record before.desk { bar = record before.desk.bar { titles = titles } }))
    sound = record {
      desk = right.plain.desk;
      kept = λ p on content afresh taken put drawn there. same_content before.desk titles p _ content;
      right = λ p on taken. absurd (cc);
    }

pub menu_stays_right : (call : MenuCall) (answer : Result MenuReply Refusal) (before after : MenuDesk) → IsRightState before.desk.windows → IsMenuStep call answer before after → IsRightState after.desk.windows
menu_stays_right call answer before after right step = ⊎_elim
    (λ still. unchanged_stays_right before.desk.windows after.desk.windows right still)
    (λ shown. bar_stays_right shown.0 before.desk.windows after.desk.windows right shown.1)
    (step_leaves call answer before after step)

-- ---- the menu bar has the titles of the menus

shown_is_bar : {menus : List MenuRecord} {highlighted : Option ℕ} {stock : _} (before after : MenuDesk) → AreMenusShown menus highlighted stock before after → IsBarOf after.menus after.desk.windows.desk
shown_is_bar before after shown = ap (λ (d : FullDesk). d.bar.titles) shown.bar.desk ∙ sym (λ i. titles_of (shown.menus i).highlighted (shown.menus i).menus)

same_titles : (highlighted : Option ℕ) (d : MenuDefinition) (at : ℕ) (menus : List MenuRecord) → titles_of highlighted (edit_at (with_definition d) at menus) ≡ titles_of highlighted menus
same_titles highlighted d at [] = refl
same_titles highlighted d zero (l ∷ ls) = by_test l.inserted
  where
    by_test : (b : Bool) → map (title_of highlighted) (cond b (with_definition d l ∷ in_bar ls) (in_bar ls)) ≡ map (title_of highlighted) (cond b (l ∷ in_bar ls) (in_bar ls))
    by_test true = refl
    by_test false = refl
same_titles highlighted d (suc at) (l ∷ ls) = by_test l.inserted (same_titles highlighted d at ls)
  where
    by_test : (b : Bool) → titles_of highlighted (edit_at (with_definition d) at ls) ≡ titles_of highlighted ls → map (title_of highlighted) (cond b (l ∷ in_bar (edit_at (with_definition d) at ls)) (in_bar (edit_at (with_definition d) at ls))) ≡ map (title_of highlighted) (cond b (l ∷ in_bar ls) (in_bar ls))
    by_test true rest = ap (λ ts. title_of highlighted l ∷ ts) rest
    by_test false rest = rest

told_titles : (highlighted : Option ℕ) (at item : Option ℕ) (before after : List MenuRecord) → IsToldAt at item before after → titles_of highlighted after ≡ titles_of highlighted before
told_titles highlighted None item before after same = ap (titles_of highlighted) same
told_titles highlighted (Some at) item before after (l, found, (d, told, is)) = ap (titles_of highlighted) is ∙ same_titles highlighted d at before

unchanged_bar : (before after : MenuDesk) → after.desk.windows.desk ≡ before.desk.windows.desk → after.menus ≡ before.menus → IsBarOf before.menus before.desk.windows.desk → IsBarOf after.menus after.desk.windows.desk
unchanged_bar before after desk menus was = ap (λ (d : FullDesk). d.bar.titles) desk ∙ was ∙ sym (λ i. titles_of (menus i).highlighted (menus i).menus)

pressed_bar : (t : Option TitleOf) (answer : Option ℕ) (before after : MenuDesk) → IsPressedOn t answer before after → IsBarOf before.menus before.desk.windows.desk → IsBarOf after.menus after.desk.windows.desk
pressed_bar None answer before after (is, same) was = unchanged_bar before after same.desk.windows.desk same.menus was
pressed_bar (Some t) answer before after (is, pulled) was = shown_is_bar before after pulled.shown

moved_on_bar : (m : PulledMenu) (t : Option TitleOf) (p : Point) (answer : Option ℕ) (before after : MenuDesk) → IsMovedOn m t p answer before after → IsBarOf before.menus before.desk.windows.desk → IsBarOf after.menus after.desk.windows.desk
moved_on_bar m (Some t) p answer before after (is, (menus, told, pulled)) was = shown_is_bar before after pulled.shown
moved_on_bar m None p answer before after (is, (menus, told, shown)) was =
    ap (λ (s : FullState). s.desk.bar.titles) shown.windows ∙ was
    ∙ sym (told_titles before.menus.highlighted (menu_index (pos m.menu) before.menus.menus) answer before.menus.menus menus told)
    ∙ sym (λ i. titles_of (shown.menus i).highlighted (shown.menus i).menus)

moved_bar : (a : Activity) (p : Point) (answer : Option ℕ) (before after : MenuDesk) → IsMoved a p answer before after → IsBarOf before.menus before.desk.windows.desk → IsBarOf after.menus after.desk.windows.desk
moved_bar (Pulling m) p answer before after moved was = moved_on_bar m (other_title m (title_of_point before p)) p answer before after moved was
moved_bar Idle p answer before after wrong was = absurd wrong
moved_bar (Updating s) p answer before after wrong was = absurd wrong
moved_bar (Tracking s) p answer before after wrong was = absurd wrong
moved_bar (TrackingControl c) p answer before after wrong was = absurd wrong
moved_bar (Dragging d) p answer before after wrong was = absurd wrong
moved_bar (Growing g) p answer before after wrong was = absurd wrong
moved_bar (Selecting k) p answer before after wrong was = absurd wrong

released_bar : (a : Activity) (p : Point) (choice : Option Choice) (before after : MenuDesk) → IsMenuReleased a p choice before after → IsBarOf after.menus after.desk.windows.desk
released_bar (Pulling m) p choice before after (is, away) = shown_is_bar before after away.shown
released_bar Idle p choice before after wrong = absurd wrong
released_bar (Updating s) p choice before after wrong = absurd wrong
released_bar (Tracking s) p choice before after wrong = absurd wrong
released_bar (TrackingControl c) p choice before after wrong = absurd wrong
released_bar (Dragging d) p choice before after wrong = absurd wrong
released_bar (Growing g) p choice before after wrong = absurd wrong
released_bar (Selecting k) p choice before after wrong = absurd wrong

disposed_bar : (at : Option ℕ) (before after : MenuDesk) → IsDisposedAt at before after → IsBarOf after.menus after.desk.windows.desk
disposed_bar None before after wrong = absurd wrong
disposed_bar (Some at) before after disposed = shown_is_bar before after disposed.shown

effect_bar : (call : MenuCall) (answer : MenuReply) (before after : MenuDesk) → IsMenuEffect call answer before after → IsBarOf before.menus before.desk.windows.desk → IsBarOf after.menus after.desk.windows.desk
effect_bar (New n) answer before after (is, made) was = shown_is_bar before after made.shown
effect_bar (Dispose id) answer before after (is, disposed) was = disposed_bar (menu_index id before.menus.menus) before after disposed
effect_bar (Down p) answer before after (menu, is, pressed) was = pressed_bar (title_of_point before p) menu before after pressed was
effect_bar (Move p) answer before after (item, is, moved) was = moved_bar before.desk.activity p item before after moved was
effect_bar (Up p) answer before after (choice, is, released) was = released_bar before.desk.activity p choice before after released
effect_bar _ answer before after edited was = shown_is_bar before after edited.shown

pub menu_keeps_bar : (call : MenuCall) (answer : Result MenuReply Refusal) (before after : MenuDesk) → IsMenuStep call answer before after → IsBarOf before.menus before.desk.windows.desk → IsBarOf after.menus after.desk.windows.desk
menu_keeps_bar call (Ok answer) before after step was = effect_bar call answer before after step.1 was
menu_keeps_bar call (Err e) before after step was = unchanged_bar before after step.1.desk.windows.desk step.1.menus was
