-- Steps keep the stock of menus, and a highlighted title in the menu bar.
use Rattle.std.proofs.Common.{◌≡◌, ℕ, Bool, true, false, if◌then◌else◌, List, [], ◌∷◌, ◌++◌, ◌==◌, Option, None, Some, Result, Ok, Err, refl, sym, ◌∙◌, subst}
use Rattle.std.specs.Prelude.{IfSome, pos, is_none, slice_get}
use Rattle.std.specs.List.{remove}
use Rattle.tb_geom.specs.declared.point.Point.{Point}
use Rattle.tb_geom.specs.declared.refusal.Refusal.{Refusal}
use Rattle.menu_list.specs.Lists.{is_in_bar, menu_index, without_highlight}
use Rattle.menu_list.specs.MenuEdits.{menus_after}
use Rattle.desk_call.specs.declared.activity.Activity.{Activity}
use Rattle.desk_call.specs.declared.activity.Activity.TheVariants.{Idle, Updating, Tracking, Pulling, TrackingControl, Dragging, Growing, Selecting}
use Rattle.desk_call.specs.declared.activity.PulledMenu.{PulledMenu}
use Rattle.desk_call.specs.declared.call.Call.{Call}
use Rattle.desk_call.specs.declared.call.Reply.{Reply}
use Rattle.desk_call.specs.declared.menu.Choice.{Choice}
use Rattle.desk_call.specs.declared.menu.MenuCall.{MenuCall}
use Rattle.desk_call.specs.declared.menu.MenuCall.TheVariants.{New, Dispose, Down, Move, Up}
use Rattle.desk_call.specs.declared.menu.MenuReply.{MenuReply}
use Rattle.desk_call.specs.declared.window.WindowCall.{WindowCall}
use Rattle.desk_call.specs.declared.window.WindowReply.{WindowReply}
use Rattle.menu_mgr.specs.MenuDesks.{MenuDesk, MenuRecord, MenuSlot, MenusState}
use Rattle.menu_mgr.specs.MenuSteps.{IsDisposedAt, IsMenuEffect, IsMenuStep, IsMoved, IsMovedOn, IsPressedOn, IsMenuReleased, IsToldAt, new_record, other_title, with_definition}
use Rattle.menu_mgr.specs.Pulling.{TitleOf, title_of_point}
use Rattle.menu_mgr.specs.WholeMenus.{AreMenusStocked}
use Rattle.menu_mgr.proofs.Stocks.{stocked_alike, stocked_with, stocked_without, uses-edit, uses-remove}
use Rattle.desk_toolbox.specs.Reached.{IsPulledThere, IsTitleInBar}
use Rattle.desk_toolbox.specs.Run.{IsStep, IsWindowMade}
use Rattle.desk_toolbox.specs.ToolboxStates.{ToolboxState, with_menus}
use Rattle.desk_toolbox.proofs.EachManager.{HoldsOfEach, of_step}
use Rattle.desk_call.specs.declared.window.WindowCall.TheVariants as window_calls
use Rattle.desk_call.specs.declared.window.WindowReply.TheVariants as window_reply
use Rattle.desk_toolbox.specs.Run.{put_down}
use Rattle.desk_toolbox.proofs.HeldMenus.{Shows, edited_title, of_another, shows-append, shows-remove, uses_after, weaker}
use Rattle.desk_toolbox.proofs.LitMenus.{told_in_bar}

-- the stock has the definitions of the menus that are there, and a highlighted title is in the menu bar
pub record AreMenusHeld (s : MenusState) : Type 0 where
  pub stocked : AreMenusStocked s.menus s.stock
  pub title : IsTitleInBar s

same_held : (old new : MenusState) → new ≡ old → AreMenusHeld old → AreMenusHeld new
same_held old new same h = subst AreMenusHeld (sym same) h

-- where a menu is pulled down its title is the highlighted one
pulled_title : (a : Activity) (m : PulledMenu) (menus : MenusState) → a ≡ Pulling m → IsPulledThere a menus → IsTitleInBar menus
pulled_title a m menus pulls there =
    let its : IsPulledThere (Pulling m) menus = subst (λ b. IsPulledThere b menus) pulls there in
    subst (λ o. IfSome o (λ id. is_in_bar (pos id) menus.menus ≡ true)) (sym its.1) its.0

told_stocked : (at item : Option ℕ) (before after : List MenuRecord) (slots : List MenuSlot) → IsToldAt at item before after → AreMenusStocked before slots → AreMenusStocked after slots
told_stocked None item before after slots same h = subst (λ ls. AreMenusStocked ls slots) (sym same) h
told_stocked (Some at) item before after slots (l, found, (d, told, is)) h =
    subst (λ ls. AreMenusStocked ls slots) (sym is)
    (stocked_alike before _ slots (λ k. uses-edit k (with_definition d) (λ m. refl) at before) h)

-- where a menu is pulled down after the call
pulling_held : (ls : List MenuRecord) (o : Option ℕ) (slots : List MenuSlot) (m : PulledMenu) (after : MenuDesk) → after.menus ≡ record { menus = ls; highlighted = o; stock = slots } → after.desk.activity ≡ Pulling m → IsPulledThere after.desk.activity after.menus → AreMenusStocked ls slots → AreMenusHeld after.menus
pulling_held ls o slots m after is pulls there h = record {
  stocked = subst (λ (s : MenusState). AreMenusStocked s.menus s.stock) (sym is) h;
  title = pulled_title after.desk.activity m after.menus pulls there;
}

pressed_held : (t : Option TitleOf) (answer : Option ℕ) (before after : MenuDesk) → IsPulledThere after.desk.activity after.menus → IsPressedOn t answer before after → AreMenusHeld before.menus → AreMenusHeld after.menus
pressed_held None answer before after there (is, same) h = same_held before.menus after.menus same.menus h
pressed_held (Some t) answer before after there (is, pulled) h = pulling_held _ _ _ _ after pulled.shown.menus pulled.activity there h.stocked

moved_on_held : (m : PulledMenu) (t : Option TitleOf) (p : Point) (answer : Option ℕ) (before after : MenuDesk) → IsPulledThere after.desk.activity after.menus → IsMovedOn m t p answer before after → AreMenusHeld before.menus → AreMenusHeld after.menus
moved_on_held m (Some t) p answer before after there (is, (menus, told, pulled)) h =
    pulling_held _ _ _ _ after pulled.shown.menus pulled.activity there (told_stocked (menu_index (pos m.menu) before.menus.menus) None before.menus.menus menus before.menus.stock told h.stocked)
moved_on_held m None p answer before after there (is, (menus, told, shown)) h =
    pulling_held _ _ _ _ after shown.menus shown.activity there (told_stocked (menu_index (pos m.menu) before.menus.menus) answer before.menus.menus menus before.menus.stock told h.stocked)

moved_held : (a : Activity) (p : Point) (answer : Option ℕ) (before after : MenuDesk) → IsPulledThere after.desk.activity after.menus → IsMoved a p answer before after → AreMenusHeld before.menus → AreMenusHeld after.menus
moved_held (Pulling m) p answer before after there moved h = moved_on_held m (other_title m (title_of_point before p)) p answer before after there moved h
moved_held Idle p answer before after there wrong h = absurd wrong
moved_held (Updating s) p answer before after there wrong h = absurd wrong
moved_held (Tracking s) p answer before after there wrong h = absurd wrong
moved_held (TrackingControl c) p answer before after there wrong h = absurd wrong
moved_held (Dragging d) p answer before after there wrong h = absurd wrong
moved_held (Growing g) p answer before after there wrong h = absurd wrong
moved_held (Selecting k) p answer before after there wrong h = absurd wrong

-- the title stays highlighted, or none is
put_away_title : (o was : Option ℕ) (choice : Option Choice) (ls : List MenuRecord) → o ≡ (if is_none choice then None else was) → IfSome was (λ h. Shows h ls) → IfSome o (λ h. Shows h ls)
put_away_title o was None ls is h = subst (λ x. IfSome x (λ n. Shows n ls)) (sym is) tt
put_away_title o was (Some c) ls is h = subst (λ x. IfSome x (λ n. Shows n ls)) (sym is) h

released_held : (a : Activity) (p : Point) (choice : Option Choice) (before after : MenuDesk) → IsMenuReleased a p choice before after → AreMenusHeld before.menus → AreMenusHeld after.menus
released_held (Pulling m) p choice before after (is, away) h =
    let at = menu_index (pos m.menu) before.menus.menus in
    subst AreMenusHeld (sym away.shown.menus) (record {
      stocked = told_stocked at None before.menus.menus away.told before.menus.stock away.definition h.stocked;
      title = put_away_title _ before.menus.highlighted choice away.told refl
          (weaker (λ n. Shows n before.menus.menus) (λ n. Shows n away.told) (λ n k. told_in_bar (pos n) at None before.menus.menus away.told away.definition ∙ k) before.menus.highlighted h.title);
    })
released_held Idle p choice before after wrong h = absurd wrong
released_held (Updating s) p choice before after wrong h = absurd wrong
released_held (Tracking s) p choice before after wrong h = absurd wrong
released_held (TrackingControl c) p choice before after wrong h = absurd wrong
released_held (Dragging d) p choice before after wrong h = absurd wrong
released_held (Growing g) p choice before after wrong h = absurd wrong
released_held (Selecting k) p choice before after wrong h = absurd wrong

-- a menu that is gone loses its highlighting
gone_title : (at : ℕ) (ls : List MenuRecord) (l : MenuRecord) (was : Option ℕ) → slice_get ls at ≡ Some l → IfSome was (λ h. Shows h ls) → IfSome (without_highlight l.menu.id was) (λ h. Shows h (remove ls at))
gone_title at ls l None there h = tt
gone_title at ls l (Some n) there h = by_test (n == l.menu.id) refl
  where
    by_test : (b : Bool) → (n == l.menu.id) ≡ b → IfSome (if b then None else Some n) (λ k. Shows k (remove ls at))
    by_test true is = tt
    by_test false is = shows-remove n at ls l there (of_another n l is) h

disposed_held : (at : Option ℕ) (before after : MenuDesk) → IsDisposedAt at before after → AreMenusHeld before.menus → AreMenusHeld after.menus
disposed_held None before after wrong h = absurd wrong
disposed_held (Some at) before after gone h =
    subst AreMenusHeld (sym gone.shown.menus) (record {
      stocked = stocked_without at before.menus.menus (remove before.menus.menus at) gone.listed before.menus.stock after.menus.stock gone.found
          (λ k. uses-remove k at before.menus.menus gone.listed gone.found) gone.shut h.stocked;
      title = gone_title at before.menus.menus gone.listed before.menus.highlighted gone.found h.title;
    })

effect_held : (call : MenuCall) (answer : MenuReply) (before after : MenuDesk) → IsPulledThere after.desk.activity after.menus → IsMenuEffect call answer before after → AreMenusHeld before.menus → AreMenusHeld after.menus
effect_held (New n) answer before after there (is, made) h =
    let l = new_record n made.loan.slot made.begun in
    subst AreMenusHeld (sym made.shown.menus) (record {
      stocked = stocked_with before.menus.menus l made.loan before.menus.stock after.menus.stock refl made.taken h.stocked;
      title = weaker (λ k. Shows k before.menus.menus) (λ k. Shows k (before.menus.menus ++ l ∷ [])) (λ k e. shows-append k before.menus.menus l e) before.menus.highlighted h.title;
    })
effect_held (Dispose id) answer before after there (is, gone) h = disposed_held (menu_index id before.menus.menus) before after gone h
effect_held (Down p) answer before after there (menu, is, pressed) h = pressed_held (title_of_point before p) menu before after there pressed h
effect_held (Move p) answer before after there (item, is, moved) h = moved_held before.desk.activity p item before after there moved h
effect_held (Up p) answer before after there (choice, is, released) h = released_held before.desk.activity p choice before after released h
effect_held call answer before after there edited h =
    subst AreMenusHeld (sym edited.shown.menus) (record {
      stocked = stocked_alike before.menus.menus (menus_after call before.menus.menus) before.menus.stock (uses_after call before.menus.menus) h.stocked;
      title = edited_title call before.menus.menus before.menus.highlighted h.title;
    })

menu_held : (call : MenuCall) (answer : Result MenuReply Refusal) (before after : MenuDesk) → IsPulledThere after.desk.activity after.menus → IsMenuStep call answer before after → AreMenusHeld before.menus → AreMenusHeld after.menus
menu_held call (Ok answer) before after there step h = effect_held call answer before after there step.1 h
menu_held call (Err e) before after there step h = same_held before.menus after.menus step.1.menus h

-- ---- any step

made_menus : (call : WindowCall) (answer : Result WindowReply Refusal) (before after : ToolboxState) → IsWindowMade call answer before after → after.menus ≡ before.menus
made_menus call (Ok answer) before after made = made.menus
made_menus call (Err e) before after (answered, rest) = rest.menus

abbrev KeepsHeld : Call → Result Reply Refusal → ToolboxState → ToolboxState → Type 0
KeepsHeld call answer before after = IsPulledThere after.desk.activity after.menus → AreMenusHeld before.menus → AreMenusHeld after.menus

each_keeps_held : HoldsOfEach KeepsHeld
each_keeps_held = record {
  unchanged = λ call e before after same there h. same_held before.menus after.menus same.menus h;
  covered = λ p before after same there h. same_held before.menus after.menus same.menus h;
  hidden = λ p before after same there h. same_held before.menus after.menus same.menus h;
  window = λ call answer before after may step there h. same_held before.menus after.menus (made_menus call answer before after step) h;
  update = λ call answer before after may step rest there h. same_held before.menus after.menus rest.menus h;
  frame = λ call answer before after may step rest there h. same_held before.menus after.menus rest.menus h;
  control = λ call answer before after may step events lists texts menus there h. same_held before.menus after.menus menus h;
  list = λ call answer before after may step events texts menus there h. same_held before.menus after.menus menus h;
  text = λ call answer before after may step events controls lists menus there h. same_held before.menus after.menus menus h;
  menu = λ call answer before after may step events controls lists texts there h. menu_held call answer (with_menus before) (with_menus after) there step h;
  outline = λ call answer before after may step rest there h. same_held before.menus after.menus rest.menus h;
  moved = λ call move before after may step there h. same_held before.menus after.menus (made_menus (window_calls.Move move) (Ok window_reply.Done) (put_down before) after step) h;
  event = λ call answer before after step there h. same_held before.menus after.menus step.menus h;
}

pub step_keeps_held : (call : Call) (answer : Result Reply Refusal) (before after : ToolboxState) → IsStep call answer before after → IsPulledThere after.desk.activity after.menus → AreMenusHeld before.menus → AreMenusHeld after.menus
step_keeps_held = of_step KeepsHeld each_keeps_held
