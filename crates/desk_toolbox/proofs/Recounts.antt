-- What a call on windows does to the count of windows, to the next number, and to the active window.
use Rattle.std.proofs.Common.{◌≡◌, ℕ, ◌+◌, ◌≤◌, ◌==◌, ◌&&◌, Bool, true, false, not, if◌then◌else◌, List, [], ◌∷◌, map, Option, None, Some, refl, sym, ap, ◌∙◌, subst, arith}
use Rattle.std.proofs.lemmas.Bool.{eqb-true}
use Rattle.std.proofs.lemmas.Bool.Decides.{nat_tests}
use Rattle.std.specs.Prelude.{is_none}
use Rattle.desk_call.specs.declared.window.MoveWindow.{MoveWindow}
use Rattle.desk_call.specs.declared.window.NewWindow.{NewWindow}
use Rattle.desk_call.specs.declared.window.WindowCall.{WindowCall}
use Rattle.desk_call.specs.declared.window.WindowCall.TheVariants as asks
use Rattle.desk_call.specs.declared.window.WindowReply.{WindowReply}
use Rattle.window_list.specs.Lists.{serial_after}
use Rattle.window_list.specs.Classes.{front_place}
use Rattle.vis_update.specs.Records.{WindowRecord, is_floating}
use Rattle.vis_update.specs.Touches.{is_this}
use Rattle.window_mgr.specs.declared.arrange.Activates.{Activates}
use Rattle.window_mgr.specs.declared.arrange.Activates.TheVariants.{Nothing, Itself, ItselfIfFront, FrontInItsPlace, NextInItsPlace}
use Rattle.window_mgr.specs.Arrange.{Arrangement, with_highlighting, activated, active_after, activation_of, if_active, next_active, if_leading, is_visible, with_shown, with_placement, at_place, without, brought, changed, placed}
use Rattle.window_mgr.specs.Effects.{Effect, IsEffect, IsNewWindow, IsArrangement, IsWindowDisposed, begins_active, effect_of, new_record, places, with_drawn, with_new_picture, with_scrolled}
use Rattle.window_mgr.specs.Effects.Effect.{Makes, Disposes, Draws, Pictures, Scrolls, Arranges, Places, Tells, Describes}
use Rattle.window_mgr.specs.Finding.{record_with, front_of, is_leading}
use Rattle.window_mgr.specs.FullDesk.{FullDesk, FullState}
use Rattle.window_mgr.specs.Placings.{Placing, sized, zoomed}
use Rattle.window_mgr.specs.Refused.{is_missing}
use Rattle.desk_toolbox.proofs.Totals.{Classing, Ordinary, Weight, alone, counted, counting, found_of_class, front_is_ordinary, has_when, leading_is_ordinary, of_class, total, total_activated, total_brought, total_changed, total_insert, total_lit, total_map, total_sent, total_without, weight_of}

-- the windows count as much, and the next number is the same
pub record IsKept (before after : FullDesk) : Type 0 where
  pub next : after.next ≡ before.next
  pub all : (g : Weight) → total g after.windows ≡ total g before.windows

-- there is one window more, of the next number
pub record IsAdded (number : ℕ) (before after : FullDesk) : Type 0 where
  pub floating : Bool
  pub serials : before.next ≡ Some number
  pub next : after.next ≡ serial_after number
  pub all : (g : Weight) → total g after.windows ≡ g number false floating + total g before.windows

-- the window of this serial was there, and is not any more
pub record IsRemoved (s : ℕ) (before after : FullDesk) : Type 0 where
  pub heard : Bool
  pub floating : Bool
  pub found : is_missing s before.windows ≡ false
  pub next : after.next ≡ before.next
  pub all : (g : Weight) → total g before.windows ≡ g s heard floating + total g after.windows

pub unchanged_is_kept : (before after : FullDesk) → after ≡ before → IsKept before after
unchanged_is_kept before after same = record { next = ap (λ (d : FullDesk). d.next) same; all = λ g. ap (λ (d : FullDesk). total g d.windows) same }

-- ---- what an effect does

-- the arrangement has the windows of the desk
abbrev IsReordered : Effect → FullDesk → Type 0
IsReordered (Arranges a) desk = (g : Weight) → total g a.windows ≡ total g desk.windows
IsReordered _ desk = Unit {0}

abbrev pub Counts : Effect → FullDesk → FullDesk → Type 0
Counts (Makes floating w) before after = (n : ℕ) × (added : IsAdded n before after) × (added.floating ≡ floating)
Counts (Disposes s) before after = IsRemoved s before after
Counts _ before after = IsKept before after

-- one window that may change in what does not count
by_serial : (g : Weight) (w v : WindowRecord) (b : Bool) → weight_of g v ≡ weight_of g w → weight_of g (if b then v else w) ≡ weight_of g w
by_serial g w v true same = same
by_serial g w v false same = refl

serial_found : (s : ℕ) (w : WindowRecord) (ws : List WindowRecord) → record_with s ws ≡ Some w → w.serial ≡ s
serial_found s w [] found = absurd (cc)
serial_found s w (v ∷ vs) found = by_this (v.serial == s) refl found (serial_found s w vs)
  where
    by_this : (b : Bool) → (v.serial == s) ≡ b → (if b then Some v else record_with s vs) ≡ Some w → (record_with s vs ≡ Some w → w.serial ≡ s) → w.serial ≡ s
    by_this true same found rest = let its : v ≡ w = cc in sym (ap (λ (x : WindowRecord). x.serial) its) ∙ eqb-true v.serial s same
    by_this false same found rest = rest found

made_counts : (floating : Bool) (w : NewWindow) (n : ℕ) (before after : FullState) → IsNewWindow floating w n before after → IsAdded n before.desk after.desk
made_counts floating w n before after new = record {
  floating = floating;
  serials = new.serials;
  next = ap (λ (d : FullDesk). d.next) new.desk;
  all = λ g.
      let rest = if begins_active floating w then map (with_highlighting false before.desk.active) before.desk.windows else before.desk.windows in
      ap (λ (d : FullDesk). total g d.windows) new.desk
      ∙ total_insert g (front_place is_floating floating rest) (new_record floating w n new.loan.slot new.begun) rest
      ∙ ap (λ k. g n false floating + k) (by_active g (begins_active floating w));
}
  where
    by_active : (g : Weight) (b : Bool) → total g (if b then map (with_highlighting false before.desk.active) before.desk.windows else before.desk.windows) ≡ total g before.desk.windows
    by_active g true = total_map g (with_highlighting false before.desk.active) (λ v. total_lit g false before.desk.active v) before.desk.windows
    by_active g false = refl

disposed_counts : (s : ℕ) (before after : FullState) → IsWindowDisposed s before after → IsRemoved s before.desk after.desk
disposed_counts s before after gone = record {
  heard = gone.window.heard.tracked;
  floating = gone.window.floating;
  found = ap is_none gone.found;
  next = ap (λ (d : FullDesk). d.next) gone.desk;
  all = λ g.
      let rest = without s before.desk.windows in
      let activation = activation_of FrontInItsPlace s before.desk.active (front_of rest) in
      let left : total g after.desk.windows ≡ total g rest = ap (λ (d : FullDesk). total g d.windows) gone.desk ∙ total_activated g activation before.desk.active rest in
      let its : total g (alone (record_with s before.desk.windows)) ≡ g gone.window.serial gone.window.heard.tracked gone.window.floating + 0 = ap (λ o. total g (alone o)) gone.found in
      let serial : g gone.window.serial gone.window.heard.tracked gone.window.floating ≡ g s gone.window.heard.tracked gone.window.floating = ap (λ n. g n gone.window.heard.tracked gone.window.floating) (serial_found s gone.window before.desk.windows gone.found) in
      let all = total_without g s before.desk.windows in
      omega arith;
}

arranged_counts : (a : Arrangement) (before after : FullState) → ((g : Weight) → total g a.windows ≡ total g before.desk.windows) → IsArrangement a before after → IsKept before.desk after.desk
arranged_counts a before after reordered arranged = record {
  next = ap (λ (d : FullDesk). d.next) arranged.desk;
  all = λ g. ap (λ (d : FullDesk). total g d.windows) arranged.desk
      ∙ total_activated g (activation_of a.activates a.window before.desk.active (front_of a.windows)) before.desk.active a.windows ∙ reordered g;
}

effect_counts : (effect : Effect) (answer : WindowReply) (before after : FullState) → IsReordered effect before.desk → IsEffect effect answer before after → Counts effect before.desk after.desk
unfolding made_counts
effect_counts (Makes floating w) answer before after all (n, is, new) = (n, made_counts floating w n before after new, refl)
effect_counts (Draws d) answer before after all (is, drawn) = record {
  next = ap (λ (x : FullDesk). x.next) drawn.desk;
  all = λ g. ap (λ (x : FullDesk). total g x.windows) drawn.desk
      ∙ total_map g (with_drawn d.window drawn.operation) (λ w. by_serial g w _ (w.serial == d.window) refl) before.desk.windows;
}
effect_counts (Pictures n) answer before after all (is, done) = record {
  next = ap (λ (x : FullDesk). x.next) done.desk;
  all = λ g. ap (λ (x : FullDesk). total g x.windows) done.desk
      ∙ total_map g (with_new_picture n) (λ w. by_serial g w _ (w.serial == n.window) refl) before.desk.windows;
}
effect_counts (Scrolls m) answer before after all (is, done) = record {
  next = ap (λ (x : FullDesk). x.next) done.desk;
  all = λ g. ap (λ (x : FullDesk). total g x.windows) done.desk
      ∙ total_map g (with_scrolled m) (λ w. by_serial g w _ (w.serial == m.window) refl) before.desk.windows;
}
effect_counts (Arranges a) answer before after all (is, arranged) = arranged_counts a before after all arranged
effect_counts (Disposes s) answer before after all (is, gone) = disposed_counts s before after gone
effect_counts (Places p) answer before after all (is, change) =
    arranged_counts (placed p change.definition before.desk.windows) before after
    (λ g. total_changed g p.window (with_placement p.to change.definition) (λ w its. refl) before.desk.windows) change.arranged
effect_counts (Tells r) answer before after all (is, same) = unchanged_is_kept before.desk after.desk same.desk
effect_counts (Describes region) answer before after all (is, same) = unchanged_is_kept before.desk after.desk same.desk

placed_reordered : (o : Option Placing) (desk : FullDesk) → IsReordered (places o) desk
placed_reordered None desk = tt
placed_reordered (Some p) desk = tt

moved_reordered : (m : MoveWindow) (ws : List WindowRecord) (g : Weight) (b : Bool) → total g (if b then brought m.window (changed m.window (at_place m.place) ws) else changed m.window (at_place m.place) ws) ≡ total g ws
moved_reordered m ws g true = total_brought g m.window (changed m.window (at_place m.place) ws) ∙ total_changed g m.window (at_place m.place) (λ w its. refl) ws
moved_reordered m ws g false = total_changed g m.window (at_place m.place) (λ w its. refl) ws

call_reorders : (call : WindowCall) (desk : FullDesk) → IsReordered (effect_of call desk) desk
call_reorders (asks.Select s) desk = λ g. total_brought g s desk.windows
call_reorders (asks.BringToFront s) desk = λ g. total_brought g s desk.windows
call_reorders (asks.SendBehind b) desk = λ g. total_sent g b desk.windows
call_reorders (asks.Move m) desk = λ g. moved_reordered m desk.windows g m.select
call_reorders (asks.Show s) desk = λ g. total_changed g s (with_shown true) (λ w its. refl) desk.windows
call_reorders (asks.Hide s) desk = λ g. total_changed g s (with_shown false) (λ w its. refl) desk.windows
call_reorders (asks.ShowHide c) desk = λ g. total_changed g c.window (with_shown c.shown) (λ w its. refl) desk.windows
call_reorders (asks.Size z) desk = placed_reordered (sized z (record_with z.window desk.windows)) desk
call_reorders (asks.Zoom z) desk = placed_reordered (zoomed z (record_with z.window desk.windows) desk) desk
call_reorders _ desk = tt

-- a call on windows that was done
pub done_counts : (call : WindowCall) (answer : WindowReply) (before after : FullState) → IsEffect (effect_of call before.desk) answer before after → Counts (effect_of call before.desk) before.desk after.desk
done_counts call answer before after done = effect_counts (effect_of call before.desk) answer before after (call_reorders call before.desk) done

-- ---- the active window

-- a call that makes a window active by itself has that among its ordinary windows
abbrev IsAimed : Effect → Type 0
IsAimed (Arranges a) = a.activates ≡ Itself → Ordinary (Some a.window) a.windows
IsAimed _ = Unit {0}

this_is_ordinary : (s : ℕ) (o : Option ℕ) (ws : List WindowRecord) → is_this o s ≡ true → Ordinary o ws → Ordinary (Some s) ws
this_is_ordinary s None ws e h = absurd (cc)
this_is_ordinary s (Some t) ws e h = subst (λ n. Ordinary (Some n) ws) (sym (eqb-true s t e)) h

-- whichever becomes active is among the ordinary windows
activation_ordinary : (a : Activates) (s : ℕ) (active front : Option ℕ) (ws : List WindowRecord) → (a ≡ Itself → Ordinary (Some s) ws) → Ordinary active ws → Ordinary front ws → Ordinary (active_after (activation_of a s active front) active) ws
activation_ordinary Nothing s active front ws aim was first = was
activation_ordinary Itself s active front ws aim was first = aim refl
activation_ordinary ItselfIfFront s active front ws aim was first = by_front (is_this front s) refl
  where
    by_front : (b : Bool) → is_this front s ≡ b → Ordinary (active_after (if_active b (Some s)) active) ws
    by_front true e = this_is_ordinary s front ws e first
    by_front false e = was
activation_ordinary FrontInItsPlace s active front ws aim was first = by_active (is_this active s)
  where
    by_active : (b : Bool) → Ordinary (active_after (if_active b front) active) ws
    by_active true = first
    by_active false = was
activation_ordinary NextInItsPlace s active front ws aim was first = by_active (is_this active s)
  where
    by_other : (t : ℕ) (b : Bool) → Ordinary (Some t) ws → Ordinary (active_after (if_active b (Some t)) active) ws
    by_other t true first = first
    by_other t false first = was

    by_front : (o : Option ℕ) → Ordinary o ws → Ordinary (active_after (next_active s o) active) ws
    by_front None first = was
    by_front (Some t) first = by_other t (not (t == s)) first

    by_active : (b : Bool) → Ordinary (active_after (if b then next_active s front else activation_of Nothing s active front) active) ws
    by_active true = by_front front first
    by_active false = was

-- what is among the ordinary ones of windows that count as much
pub ordinary_kept : (o : Option ℕ) (ws vs : List WindowRecord) → ((g : Weight) → total g vs ≡ total g ws) → Ordinary o ws → Ordinary o vs
ordinary_kept o ws vs all h = has_when (of_class false) o ws vs (λ s. let same = all (counting (of_class false) s) in omega arith) h

arranged_active : (a : Arrangement) (before after : FullState) → ((g : Weight) → total g a.windows ≡ total g before.desk.windows) → (a.activates ≡ Itself → Ordinary (Some a.window) a.windows) → IsArrangement a before after → Ordinary before.desk.active before.desk.windows → Ordinary after.desk.active after.desk.windows
arranged_active a before after reordered aim arranged was =
    let front = front_of a.windows in
    let activation = activation_of a.activates a.window before.desk.active front in
    subst (λ (d : FullDesk). Ordinary d.active d.windows) (sym arranged.desk)
    (ordinary_kept (active_after activation before.desk.active) a.windows (activated activation before.desk.active a.windows) (λ g. total_activated g activation before.desk.active a.windows)
    (activation_ordinary a.activates a.window before.desk.active front a.windows aim (ordinary_kept before.desk.active before.desk.windows a.windows reordered was) (front_is_ordinary a.windows)))

-- another window than the one that is gone
pub others_stay : (s : ℕ) (o : Option ℕ) (before after : FullDesk) → IsRemoved s before after → is_this o s ≡ false → Ordinary o before.windows → Ordinary o after.windows
others_stay s None before after removed other h = tt
others_stay s (Some t) before after removed other h =
    let c = of_class false in
    let all : counted c t before.windows ≡ (if s == t then c removed.floating else 0) + counted c t after.windows = removed.all (counting c t) in
    let same : counted c t before.windows ≡ 0 + counted c t after.windows = subst (λ (b : Bool). counted c t before.windows ≡ (if b then c removed.floating else 0) + counted c t after.windows) other all in
    omega arith

disposed_active : (s : ℕ) (before after : FullState) → IsWindowDisposed s before after → Ordinary before.desk.active before.desk.windows → Ordinary after.desk.active after.desk.windows
disposed_active s before after gone was = subst (λ o. Ordinary o after.desk.windows) (sym (ap (λ (d : FullDesk). d.active) gone.desk)) (by_active (is_this before.desk.active s) refl)
  where
    left : (g : Weight) → total g after.desk.windows ≡ total g (without s before.desk.windows)
    left g = ap (λ (d : FullDesk). total g d.windows) gone.desk ∙ total_activated g (activation_of FrontInItsPlace s before.desk.active (front_of (without s before.desk.windows))) before.desk.active (without s before.desk.windows)

    by_active : (b : Bool) → is_this before.desk.active s ≡ b → Ordinary (active_after (if_active b (front_of (without s before.desk.windows))) before.desk.active) after.desk.windows
    by_active true e = ordinary_kept (front_of (without s before.desk.windows)) (without s before.desk.windows) after.desk.windows left (front_is_ordinary (without s before.desk.windows))
    by_active false e = others_stay s before.desk.active before.desk after.desk (disposed_counts s before after gone) e was

made_active : (floating : Bool) (w : NewWindow) (n : ℕ) (before after : FullState) → IsNewWindow floating w n before after → Ordinary before.desk.active before.desk.windows → Ordinary after.desk.active after.desk.windows
unfolding made_counts
made_active floating w n before after new was = subst (λ o. Ordinary o after.desk.windows) (sym (ap (λ (d : FullDesk). d.active) new.desk)) (by_active (begins_active floating w) refl)
  where
    c : Classing
    c = of_class false

    more : (s : ℕ) → counted c s after.desk.windows ≡ (if n == s then c floating else 0) + counted c s before.desk.windows
    more s = (made_counts floating w n before after new).all (counting c s)

    ordinary : (a b : Bool) → (a && not b) ≡ true → c b ≡ 1
    ordinary true true e = absurd (cc)
    ordinary true false e = refl
    ordinary false b e = absurd (cc)

    by_active : (b : Bool) → begins_active floating w ≡ b → Ordinary (if b then Some n else before.desk.active) after.desk.windows
    by_active true e =
        let same : (n == n) ≡ true = grind (arith, nat_tests) in
        let its : (if n == n then c floating else 0) ≡ 1 = ap (λ (b : Bool). if b then c floating else 0) same ∙ ordinary w.shown floating e in
        let all = more n in
        omega arith
    by_active false e = has_when c before.desk.active before.desk.windows after.desk.windows (λ s. let all = more s in omega arith) was

-- which window is active did not change, nor which windows there are
pub same_active : (before after : FullState) → after.desk.active ≡ before.desk.active → IsKept before.desk after.desk → Ordinary before.desk.active before.desk.windows → Ordinary after.desk.active after.desk.windows
same_active before after same kept was =
    subst (λ o. Ordinary o after.desk.windows) (sym same) (ordinary_kept before.desk.active before.desk.windows after.desk.windows kept.all was)

effect_keeps_active : (effect : Effect) (answer : WindowReply) (before after : FullState) → IsReordered effect before.desk → IsAimed effect → IsEffect effect answer before after → Ordinary before.desk.active before.desk.windows → Ordinary after.desk.active after.desk.windows
effect_keeps_active (Makes floating w) answer before after all aim (n, is, new) was = made_active floating w n before after new was
effect_keeps_active (Draws d) answer before after all aim (is, drawn) was = same_active before after (ap (λ (x : FullDesk). x.active) drawn.desk) (effect_counts (Draws d) answer before after tt (is, drawn)) was
effect_keeps_active (Pictures n) answer before after all aim (is, done) was = same_active before after (ap (λ (x : FullDesk). x.active) done.desk) (effect_counts (Pictures n) answer before after tt (is, done)) was
effect_keeps_active (Scrolls m) answer before after all aim (is, done) was = same_active before after (ap (λ (x : FullDesk). x.active) done.desk) (effect_counts (Scrolls m) answer before after tt (is, done)) was
effect_keeps_active (Arranges a) answer before after all aim (is, arranged) was = arranged_active a before after all aim arranged was
effect_keeps_active (Disposes s) answer before after all aim (is, gone) was = disposed_active s before after gone was
effect_keeps_active (Places p) answer before after all aim (is, change) was =
    arranged_active (placed p change.definition before.desk.windows) before after
    (λ g. total_changed g p.window (with_placement p.to change.definition) (λ w its. refl) before.desk.windows) (λ e. absurd (cc)) change.arranged was
effect_keeps_active (Tells r) answer before after all aim (is, same) was = subst (λ (d : FullDesk). Ordinary d.active d.windows) (sym same.desk) was
effect_keeps_active (Describes region) answer before after all aim (is, same) was = subst (λ (d : FullDesk). Ordinary d.active d.windows) (sym same.desk) was

aimed : (s : ℕ) (ws : List WindowRecord) (o : Option WindowRecord) → record_with s ws ≡ o → if_leading o ≡ Itself → Ordinary (Some s) ws
aimed s ws None found e = absurd (cc)
aimed s ws (Some w) found e = by_leading (is_leading w) refl e
  where
    by_leading : (b : Bool) → is_leading w ≡ b → (if b then Itself else Nothing) ≡ Itself → Ordinary (Some s) ws
    by_leading true leads e = subst (λ (b : Bool). 1 ≤ counted (of_class b) s ws) (leading_is_ordinary w leads) (found_of_class s ws w found)
    by_leading false leads e = absurd (cc)

brought_aimed : (s : ℕ) (ws vs : List WindowRecord) → ((g : Weight) → total g vs ≡ total g ws) → if_leading (record_with s ws) ≡ Itself → Ordinary (Some s) vs
brought_aimed s ws vs all e =
    let some = aimed s ws (record_with s ws) refl e in
    let same = all (counting (of_class false) s) in
    omega arith

moved_aimed : (m : MoveWindow) (ws : List WindowRecord) (b : Bool) → (if b then if_leading (record_with m.window ws) else Nothing) ≡ Itself → Ordinary (Some m.window) (if b then brought m.window (changed m.window (at_place m.place) ws) else changed m.window (at_place m.place) ws)
moved_aimed m ws true e = brought_aimed m.window ws (brought m.window (changed m.window (at_place m.place) ws)) (λ g. moved_reordered m ws g true) e
moved_aimed m ws false e = absurd (cc)

never_itself : (b : Bool) (a : Activates) → (a ≡ Itself → ⊥) → (if b then a else Nothing) ≡ Itself → ⊥
never_itself true a other e = other e
never_itself false a other e = cc

shown_aimed : (b : Bool) → (if b then Nothing else ItselfIfFront) ≡ Itself → ⊥
shown_aimed true e = cc
shown_aimed false e = cc

placed_aimed : (o : Option Placing) → IsAimed (places o)
placed_aimed None = tt
placed_aimed (Some p) = tt

call_aims : (call : WindowCall) (desk : FullDesk) → IsAimed (effect_of call desk)
call_aims (asks.Select s) desk = λ e. brought_aimed s desk.windows (brought s desk.windows) (λ g. total_brought g s desk.windows) e
call_aims (asks.BringToFront s) desk = λ e. absurd (cc)
call_aims (asks.SendBehind b) desk = λ e. absurd (cc)
call_aims (asks.Move m) desk = λ e. moved_aimed m desk.windows m.select e
call_aims (asks.Show s) desk = λ e. absurd (shown_aimed (is_visible (record_with s desk.windows)) e)
call_aims (asks.Hide s) desk = λ e. absurd (never_itself (is_visible (record_with s desk.windows)) FrontInItsPlace (λ f. cc) e)
call_aims (asks.ShowHide c) desk = λ e. absurd (cc)
call_aims (asks.Size z) desk = placed_aimed (sized z (record_with z.window desk.windows))
call_aims (asks.Zoom z) desk = placed_aimed (zoomed z (record_with z.window desk.windows) desk)
call_aims _ desk = tt

pub done_keeps_active : (call : WindowCall) (answer : WindowReply) (before after : FullState) → IsEffect (effect_of call before.desk) answer before after → Ordinary before.desk.active before.desk.windows → Ordinary after.desk.active after.desk.windows
done_keeps_active call answer before after done was =
    effect_keeps_active (effect_of call before.desk) answer before after (call_reorders call before.desk) (call_aims call before.desk) done was
