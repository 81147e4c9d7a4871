-- Calls about menus leave the pulled menu there, and definitions that go by which item is highlighted.
use Rattle.std.proofs.Common.{◌≡◌, ℕ, ◌+◌, Bool, true, false, ◌&&◌, ◌||◌, ◌==◌, cond, if◌then◌else◌, List, [], ◌∷◌, map, Option, None, Some, Result, Ok, Err, refl, sym, ap, ◌∙◌, subst}
use Rattle.std.specs.Prelude.{All, pos}
use Rattle.std.specs.Option.{option_and_then, option_map}
use Rattle.std.proofs.lemmas.Bool.Decides.{Decides-int_eq}
use Rattle.std.proofs.lemmas.List.Elements.{All-push}
use Rattle.tb_geom.specs.declared.point.Point.{Point}
use Rattle.tb_geom.specs.declared.refusal.Refusal.{Refusal}
use Rattle.tb_geom.specs.Rects.{rect_holds}
use Rattle.desk_ground.specs.declared.bar.TitleHit.{TitleHit}
use Rattle.desk_ground.specs.Bars.{title_at, title_box, title_width}
use Rattle.menu_list.specs.Lists.{has_number, in_bar, is_in_bar, menu_index, menu_with, title_of, titles_of}
use Rattle.desk_call.specs.declared.activity.Activity.{Activity}
use Rattle.desk_call.specs.declared.activity.Activity.TheVariants.{Idle, Updating, Tracking, Pulling, TrackingControl, Dragging, Growing, Selecting}
use Rattle.desk_call.specs.declared.activity.PulledMenu.{PulledMenu}
use Rattle.desk_call.specs.declared.menu.Choice.{Choice}
use Rattle.desk_call.specs.declared.menu.MenuCall.{MenuCall}
use Rattle.desk_call.specs.declared.menu.MenuCall.TheVariants.{New, Dispose, Down, Move, Up}
use Rattle.desk_call.specs.declared.menu.MenuReply.{MenuReply}
use Rattle.desk_call.specs.declared.menu.NewMenu.{NewMenu}
use Rattle.desk_call.specs.Gates.{gate, menu_standing}
use Rattle.menu_mgr.specs.MenuDesks.{MenuDesk, MenuRecord, MenusState, IsBarOf}
use Rattle.menu_mgr.specs.MenuSteps.{IsDisposedAt, IsMenuEffect, IsMenuMade, IsMenuStep, IsMoved, IsMovedOn, IsPressedOn, IsPulledDown, IsMenuReleased, new_record, other_title}
use Rattle.menu_mgr.specs.Pulling.{TitleOf, may_be_on_title, pulled_below, title_of_point, title_under, titled}
use Rattle.desk_toolbox.specs.Reached.{AreMenusApart, IsLit}
use Rattle.desk_toolbox.proofs.LitMenus.{all_remove, hears_goes, lit_after, lit_by_none, none_lit, told_in_bar, told_lit}
use Rattle.desk_toolbox.proofs.PulledMenus.{IsPullRight, right_when_idle, same_pull}
use Rattle.desk_toolbox.proofs.Stands.{idle_now}

-- ---- the title that a point is on is that of a menu in the menu bar

title_in_bar : (font : List ℕ) (highlighted : Option ℕ) (p : Point) (hit : TitleHit) (ls : List MenuRecord) (left : ℕ) → title_at font left (titles_of highlighted ls) p ≡ Some hit → is_in_bar (pos hit.menu) ls ≡ true
title_in_bar font highlighted p hit [] left e = absurd (cc)
title_in_bar font highlighted p hit (l ∷ ls) left e = by_inserted l.inserted (title_in_bar font highlighted p hit ls) e
  where
    or_right : (a b : Bool) → b ≡ true → (a || b) ≡ true
    or_right true b e = refl
    or_right false b e = e

    by_box : (b : Bool) → is_in_bar (pos hit.menu) ls ≡ true → (((b && has_number (pos hit.menu) l) || is_in_bar (pos hit.menu) ls)) ≡ true
    by_box b e = or_right (b && has_number (pos hit.menu) l) (is_in_bar (pos hit.menu) ls) e

    this_one : l.menu.id ≡ hit.menu → ((true && has_number (pos hit.menu) l) || is_in_bar (pos hit.menu) ls) ≡ true
    this_one same = ap (λ b. (true && b) || is_in_bar (pos hit.menu) ls) ((Decides-int_eq (pos l.menu.id) (pos hit.menu)).1 (ap pos same))

    by_test : (b : Bool) (width : ℕ) → ((at : ℕ) → title_at font at (titles_of highlighted ls) p ≡ Some hit → is_in_bar (pos hit.menu) ls ≡ true)
        → cond b (Some (record { menu = l.menu.id; left = pos left })) (title_at font (left + width) (titles_of highlighted ls) p) ≡ Some hit
        → ((true && has_number (pos hit.menu) l) || is_in_bar (pos hit.menu) ls) ≡ true
    by_test true width rest e = let same : record { menu = l.menu.id; left = pos left } ≡ hit = cc in this_one (ap (λ (h : TitleHit). h.menu) same)
    by_test false width rest e = by_box true (rest (left + width) e)

    by_inserted : (b : Bool) → ((at : ℕ) → title_at font at (titles_of highlighted ls) p ≡ Some hit → is_in_bar (pos hit.menu) ls ≡ true)
        → title_at font left (map (title_of highlighted) (cond b (l ∷ in_bar ls) (in_bar ls))) p ≡ Some hit
        → ((b && has_number (pos hit.menu) l) || is_in_bar (pos hit.menu) ls) ≡ true
    by_inserted true rest e = by_test (rect_holds (title_box left (title_width font (title_of highlighted l))) p) (title_width font (title_of highlighted l)) rest e
    by_inserted false rest e = by_box false (rest left e)

titled_hit : (hit : TitleHit) (t : TitleOf) (o : Option MenuRecord) → option_map (λ l. record { hit = hit; record_of = l }) o ≡ Some t → hit ≡ t.hit
titled_hit hit t None e = absurd (cc)
titled_hit hit t (Some l) e = let same : record { hit = hit; record_of = l } ≡ t = cc in ap (λ (u : TitleOf). u.hit) same

title_is_there : (d : MenuDesk) (p : Point) (t : TitleOf) → IsBarOf d.menus d.desk.windows.desk → title_of_point d p ≡ Some t → is_in_bar (pos t.hit.menu) d.menus.menus ≡ true
title_is_there d p t bar e = by_hit (title_under d.desk.windows.desk p) refl e
  where
    by_test : (b : Bool) (hit : TitleHit) → (if b then title_at d.desk.windows.desk.font 10 d.desk.windows.desk.bar.titles p else None) ≡ Some hit → is_in_bar (pos hit.menu) d.menus.menus ≡ true
    by_test true hit e = title_in_bar d.desk.windows.desk.font d.menus.highlighted p hit d.menus.menus 10 (sym (ap (λ ts. title_at d.desk.windows.desk.font 10 ts p) bar) ∙ e)
    by_test false hit e = absurd (cc)

    by_hit : (o : Option TitleHit) → title_under d.desk.windows.desk p ≡ o → option_and_then (λ hit. titled hit d.menus.menus) o ≡ Some t → is_in_bar (pos t.hit.menu) d.menus.menus ≡ true
    by_hit None is e = absurd (cc)
    by_hit (Some hit) is e =
        let same = titled_hit hit t (menu_with (pos hit.menu) d.menus.menus) e in
        subst (λ (h : TitleHit). is_in_bar (pos h.menu) d.menus.menus ≡ true) same (by_test (may_be_on_title d.desk.windows.desk p) hit is)

other_is_title : (m : PulledMenu) (o : Option TitleOf) (t : TitleOf) → other_title m o ≡ Some t → o ≡ Some t
other_is_title m None t e = absurd (cc)
other_is_title m (Some u) t e = by_test (u.hit.menu == m.menu) e
  where
    by_test : (b : Bool) → (if b then None else Some u) ≡ Some t → Some u ≡ Some t
    by_test true e = absurd (cc)
    by_test false e = e

-- ---- each call

abbrev EndsRight : MenuDesk → Type 0
EndsRight d = IsPullRight d.desk.activity d.menus

pulled_down : (t : TitleOf) (ls : List MenuRecord) (before after : MenuDesk) → is_in_bar (pos t.hit.menu) ls ≡ true → All (IsLit Idle) ls → IsPulledDown t ls before after → EndsRight after
pulled_down t ls before after there lit down =
    same_pull (Pulling (pulled_below before.desk.windows.desk t)) after.desk.activity _ after.menus down.activity down.shown.menus
    (record { pulled = (there, refl); lit = lit_by_none t.hit.menu ls lit })

pressed_right : (o : Option TitleOf) (p : Point) (answer : Option ℕ) (before after : MenuDesk) → title_of_point before p ≡ o → IsBarOf before.menus before.desk.windows.desk → before.desk.activity ≡ Idle → EndsRight before → IsPressedOn o answer before after → EndsRight after
pressed_right None p answer before after on bar idle was (is, same) = same_pull before.desk.activity after.desk.activity before.menus after.menus same.desk.activity same.menus was
pressed_right (Some t) p answer before after on bar idle was (is, down) =
    pulled_down t before.menus.menus before after (title_is_there before p t bar on) (subst (λ a. All (IsLit a) before.menus.menus) idle was.lit) down

moved_on_right : (m : PulledMenu) (o : Option TitleOf) (p : Point) (answer : Option ℕ) (before after : MenuDesk) → other_title m (title_of_point before p) ≡ o → IsBarOf before.menus before.desk.windows.desk → AreMenusApart before.menus.menus → IsPullRight (Pulling m) before.menus → IsMovedOn m o p answer before after → EndsRight after
moved_on_right m (Some t) p answer before after on bar apart was (is, (menus, told, down)) =
    pulled_down t menus before after
    (told_in_bar (pos t.hit.menu) (menu_index (pos m.menu) before.menus.menus) None before.menus.menus menus told
    ∙ title_is_there before p t bar (other_is_title m (title_of_point before p) t on))
    (none_lit m.menu menus (told_lit m None before.menus.menus menus apart was.lit told)) down
moved_on_right m None p answer before after on bar apart was (is, (menus, told, shown)) =
    same_pull (Pulling (record m { item = answer })) after.desk.activity (record before.menus { menus = menus }) after.menus shown.activity shown.menus
    (record {
      pulled = (told_in_bar (pos m.menu) (menu_index (pos m.menu) before.menus.menus) answer before.menus.menus menus told ∙ was.pulled.0, was.pulled.1);
      lit = told_lit m answer before.menus.menus menus apart was.lit told;
    })

moved_right : (a : Activity) (p : Point) (answer : Option ℕ) (before after : MenuDesk) → IsBarOf before.menus before.desk.windows.desk → AreMenusApart before.menus.menus → IsPullRight a before.menus → IsMoved a p answer before after → EndsRight after
moved_right (Pulling m) p answer before after bar apart was moved = moved_on_right m (other_title m (title_of_point before p)) p answer before after refl bar apart was moved
moved_right Idle p answer before after bar apart was wrong = absurd wrong
moved_right (Updating s) p answer before after bar apart was wrong = absurd wrong
moved_right (Tracking s) p answer before after bar apart was wrong = absurd wrong
moved_right (TrackingControl c) p answer before after bar apart was wrong = absurd wrong
moved_right (Dragging d) p answer before after bar apart was wrong = absurd wrong
moved_right (Growing g) p answer before after bar apart was wrong = absurd wrong
moved_right (Selecting k) p answer before after bar apart was wrong = absurd wrong

released_right : (a : Activity) (p : Point) (choice : Option Choice) (before after : MenuDesk) → AreMenusApart before.menus.menus → IsPullRight a before.menus → IsMenuReleased a p choice before after → EndsRight after
released_right (Pulling m) p choice before after apart was (is, away) =
    right_when_idle after.desk.activity after.menus away.activity
    (subst (λ (s : MenusState). All (IsLit Idle) s.menus) (sym away.shown.menus)
    (none_lit m.menu away.told (told_lit m None before.menus.menus away.told apart was.lit away.definition)))
released_right Idle p choice before after apart was wrong = absurd wrong
released_right (Updating s) p choice before after apart was wrong = absurd wrong
released_right (Tracking s) p choice before after apart was wrong = absurd wrong
released_right (TrackingControl c) p choice before after apart was wrong = absurd wrong
released_right (Dragging d) p choice before after apart was wrong = absurd wrong
released_right (Growing g) p choice before after apart was wrong = absurd wrong
released_right (Selecting k) p choice before after apart was wrong = absurd wrong

-- nothing is open, and the definitions of these menus go by that no item is highlighted
idle_right : (before after : MenuDesk) → before.desk.activity ≡ Idle → after.desk.activity ≡ before.desk.activity → All (IsLit Idle) after.menus.menus → EndsRight after
idle_right before after idle same lit = right_when_idle after.desk.activity after.menus (same ∙ idle) lit

made_right : (n : NewMenu) (before after : MenuDesk) → before.desk.activity ≡ Idle → All (IsLit Idle) before.menus.menus → IsMenuMade n before after → EndsRight after
made_right n before after idle lit made =
    idle_right before after idle made.activity.activity
    (subst (λ (s : MenusState). All (IsLit Idle) s.menus) (sym made.shown.menus)
    (All-push (IsLit Idle) before.menus.menus (new_record n made.loan.slot made.begun) lit (hears_goes None made.loan.definition made.begun made.live.heard)))

disposed_right : (at : Option ℕ) (before after : MenuDesk) → before.desk.activity ≡ Idle → All (IsLit Idle) before.menus.menus → IsDisposedAt at before after → EndsRight after
disposed_right None before after idle lit wrong = absurd wrong
disposed_right (Some at) before after idle lit gone =
    idle_right before after idle gone.activity.activity
    (subst (λ (s : MenusState). All (IsLit Idle) s.menus) (sym gone.shown.menus) (all_remove (IsLit Idle) at before.menus.menus lit))

-- where nothing is open
lit_when_idle : (d : MenuDesk) → d.desk.activity ≡ Idle → EndsRight d → All (IsLit Idle) d.menus.menus
lit_when_idle d idle was = subst (λ a. All (IsLit a) d.menus.menus) idle was.lit

effect_right : (call : MenuCall) (answer : MenuReply) (before after : MenuDesk) → gate before.desk.activity (menu_standing call) ≡ None → IsBarOf before.menus before.desk.windows.desk → AreMenusApart before.menus.menus → EndsRight before → IsMenuEffect call answer before after → EndsRight after
effect_right (New n) answer before after may bar apart was (is, made) =
    let idle = idle_now before.desk.activity may in made_right n before after idle (lit_when_idle before idle was) made
effect_right (Dispose id) answer before after may bar apart was (is, gone) =
    let idle = idle_now before.desk.activity may in disposed_right (menu_index id before.menus.menus) before after idle (lit_when_idle before idle was) gone
effect_right (Down p) answer before after may bar apart was (menu, is, pressed) =
    pressed_right (title_of_point before p) p menu before after refl bar (idle_now before.desk.activity may) was pressed
effect_right (Move p) answer before after may bar apart was (item, is, moved) = moved_right before.desk.activity p item before after bar apart was moved
effect_right (Up p) answer before after may bar apart was (choice, is, released) = released_right before.desk.activity p choice before after apart was released
effect_right call answer before after may bar apart was edited =
    let idle = idle_now before.desk.activity may in
    idle_right before after idle edited.activity.activity
    (subst (λ (s : MenusState). All (IsLit Idle) s.menus) (sym edited.shown.menus) (lit_after call before.menus.menus (lit_when_idle before idle was)))

pub menu_keeps_pull : (call : MenuCall) (answer : Result MenuReply Refusal) (before after : MenuDesk) → gate before.desk.activity (menu_standing call) ≡ None → IsBarOf before.menus before.desk.windows.desk → AreMenusApart before.menus.menus → EndsRight before → IsMenuStep call answer before after → EndsRight after
menu_keeps_pull call (Ok answer) before after may bar apart was step = effect_right call answer before after may bar apart was step.1
menu_keeps_pull call (Err e) before after may bar apart was step = same_pull before.desk.activity after.desk.activity before.menus after.menus step.1.desk.activity step.1.menus was
