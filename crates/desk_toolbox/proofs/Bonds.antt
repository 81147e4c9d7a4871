-- What holds of each window by its serial and its layers holds on, whatever a call on windows does.
use Rattle.std.proofs.Common.{◌≡◌, ℕ, ◌==◌, Bool, true, false, if◌then◌else◌, List, [], ◌∷◌, map, Option, None, Some, sym, subst, zero, suc}
use Rattle.std.specs.Prelude.{All}
use Rattle.std.proofs.lemmas.List.Elements.{All-nil, All-cons, All-head, All-tail}
use Rattle.window_list.specs.declared.layer.Layer.{Layer}
use Rattle.desk_call.specs.declared.window.MoveWindow.{MoveWindow}
use Rattle.desk_call.specs.declared.window.NewWindow.{NewWindow}
use Rattle.desk_call.specs.declared.window.SendBehind.{SendBehind}
use Rattle.desk_call.specs.declared.window.WindowCall.{WindowCall}
use Rattle.desk_call.specs.declared.window.WindowCall.TheVariants as asks
use Rattle.desk_call.specs.declared.window.WindowReply.{WindowReply}
use Rattle.window_list.specs.Classes.{back_place, front_place}
use Rattle.std.specs.List.{insert}
use Rattle.vis_update.specs.Records.{WindowRecord, is_floating}
use Rattle.window_mgr.specs.declared.arrange.Activation.{Activation}
use Rattle.window_mgr.specs.declared.arrange.Activation.TheVariants.{Stays, Becomes}
use Rattle.window_mgr.specs.Arrange.{Arrangement, with_highlighting, activated, activation_of, with_shown, with_placement, at_place, without, put_behind, put_next, in_front, behind_this, brought, sent, changed, placed}
use Rattle.window_mgr.specs.declared.arrange.Activates.TheVariants.{FrontInItsPlace}
use Rattle.window_mgr.specs.Effects.{Effect, IsEffect, IsNewWindow, IsArrangement, IsWindowDisposed, begins_active, effect_of, new_record, places, with_drawn, with_new_picture, with_scrolled}
use Rattle.window_mgr.specs.Effects.Effect.{Makes, Disposes, Draws, Pictures, Scrolls, Arranges, Places, Tells, Describes}
use Rattle.window_mgr.specs.Finding.{record_with, front_of}
use Rattle.window_mgr.specs.FullDesk.{FullDesk, FullState}
use Rattle.window_mgr.specs.Placings.{Placing, sized, zoomed}
use Rattle.window_mgr.proofs.DimLemmas.{either}

-- what may hold of a window by its serial, whether it floats, and its layers
abbrev pub Bond : Type 1
Bond = ℕ → Bool → List Layer → Type 0

abbrev pub Bound : Bond → WindowRecord → Type 0
Bound B w = B w.serial w.floating w.layers

abbrev pub Every : Bond → List WindowRecord → Type 0
Every B [] = Unit {0}
Every B (w ∷ ws) = Bound B w × Every B ws

-- of each window by its place in the list
pub every_all : (B : Bond) (ws : List WindowRecord) → Every B ws → All (λ w. B w.serial w.floating w.layers) ws
every_all B [] h = All-nil (λ w. B w.serial w.floating w.layers)
every_all B (w ∷ ws) h = All-cons (λ w. B w.serial w.floating w.layers) w ws h.0 (every_all B ws h.1)

pub all_every : (B : Bond) (ws : List WindowRecord) → All (λ w. B w.serial w.floating w.layers) ws → Every B ws
all_every B [] h = tt
all_every B (w ∷ ws) h = (All-head (λ w. B w.serial w.floating w.layers) w ws h, all_every B ws (All-tail (λ w. B w.serial w.floating w.layers) w ws h))

-- by another bond too
pub every_also : (B C D : Bond) → ((n : ℕ) (f : Bool) (ls : List Layer) → B n f ls → C n f ls → D n f ls) → (ws : List WindowRecord) → Every B ws → Every C ws → Every D ws
every_also B C D both [] h k = tt
every_also B C D both (w ∷ ws) h k = (both w.serial w.floating w.layers h.0 k.0, every_also B C D both ws h.1 k.1)

module _ (B : Bond) where
  every_map : (f : WindowRecord → WindowRecord) → ((w : WindowRecord) → Bound B w → Bound B (f w)) → (ws : List WindowRecord) → Every B ws → Every B (map f ws)
  every_map f same [] h = tt
  every_map f same (w ∷ ws) h = (same w h.0, every_map f same ws h.1)

  pub every_changed : (s : ℕ) (f : WindowRecord → WindowRecord) → ((w : WindowRecord) → Bound B w → Bound B (f w)) → (ws : List WindowRecord) → Every B ws → Every B (changed s f ws)
  every_changed s f same [] h = tt
  every_changed s f same (w ∷ ws) h = by_this (w.serial == s) (every_changed s f same ws h.1)
    where
      by_this : (b : Bool) → Every B (changed s f ws) → Every B (if b then f w ∷ ws else w ∷ changed s f ws)
      by_this true rest = (same w h.0, h.1)
      by_this false rest = (h.0, rest)

  every_without : (s : ℕ) (ws : List WindowRecord) → Every B ws → Every B (without s ws)
  every_without s [] h = tt
  every_without s (w ∷ ws) h = by_this (w.serial == s) (every_without s ws h.1)
    where
      by_this : (b : Bool) → Every B (without s ws) → Every B (if b then ws else w ∷ without s ws)
      by_this true rest = h.1
      by_this false rest = (h.0, rest)

  -- of the window that is found, if one is
  abbrev OfThis : Option WindowRecord → Type 0
  OfThis None = Unit {0}
  OfThis (Some w) = Bound B w

  of_found : (s : ℕ) (ws : List WindowRecord) → Every B ws → OfThis (record_with s ws)
  of_found s [] h = tt
  of_found s (w ∷ ws) h = by_this (w.serial == s) (of_found s ws h.1)
    where
      by_this : (b : Bool) → OfThis (record_with s ws) → OfThis (if b then Some w else record_with s ws)
      by_this true rest = h.0
      by_this false rest = rest

  every_insert : (k : ℕ) (w : WindowRecord) (ws : List WindowRecord) → Bound B w → Every B ws → Every B (insert ws k w)
  every_insert zero w ws its h = (its, h)
  every_insert (suc k) w [] its h = (its, tt)
  every_insert (suc k) w (v ∷ vs) its h = (h.0, every_insert k w vs its h.1)

  every_in_front : (o : Option WindowRecord) (ws : List WindowRecord) → OfThis o → Every B ws → Every B (in_front o ws)
  every_in_front None ws its h = h
  every_in_front (Some w) ws its h = every_insert (front_place is_floating (is_floating w) ws) w ws its h

  every_brought : (s : ℕ) (ws : List WindowRecord) → Every B ws → Every B (brought s ws)
  every_brought s ws h = every_in_front (record_with s ws) (without s ws) (of_found s ws h) (every_without s ws h)

  every_next : (x : ℕ) (w : WindowRecord) (ws : List WindowRecord) → Bound B w → Every B ws → Every B (put_next x w ws)
  every_next x w [] its h = (its, tt)
  every_next x w (v ∷ vs) its h = by_this (v.serial == x) (every_next x w vs its h.1)
    where
      by_this : (b : Bool) → Every B (put_next x w vs) → Every B (if b then v ∷ w ∷ vs else v ∷ put_next x w vs)
      by_this true rest = (h.0, (its, h.1))
      by_this false rest = (h.0, rest)

  every_put : (x : Option ℕ) (w : WindowRecord) (ws : List WindowRecord) → Bound B w → Every B ws → Every B (put_behind x w ws)
  every_put None w ws its h = every_insert (back_place is_floating (is_floating w) ws) w ws its h
  every_put (Some x) w ws its h = every_next x w ws its h

  every_behind : (x : Option ℕ) (o : Option WindowRecord) (ws : List WindowRecord) → OfThis o → Every B ws → Every B (behind_this x o ws)
  every_behind x None ws its h = h
  every_behind x (Some w) ws its h = every_put x w ws its h

  every_sent : (b : SendBehind) (ws : List WindowRecord) → Every B ws → Every B (sent b ws)
  every_sent b ws h = every_behind b.behind (record_with b.window ws) (without b.window ws) (of_found b.window ws h) (every_without b.window ws h)

  lit : (on : Bool) (s : Option ℕ) (w : WindowRecord) → Bound B w → Bound B (with_highlighting on s w)
  lit on s w h = either on s (λ v. Bound B v) w h h

  every_activated : (a : Activation) (former : Option ℕ) (ws : List WindowRecord) → Every B ws → Every B (activated a former ws)
  every_activated Stays former ws h = h
  every_activated (Becomes s) former ws h =
      every_map (λ w. with_highlighting true s (with_highlighting false former w)) (λ w k. lit true s (with_highlighting false former w) (lit false former w k)) ws h

  -- ---- what an effect does

  -- what holds of each window holds of each afterwards, if it does of a new one, which has no layers
  abbrev pub HoldsOn : Effect → FullDesk → FullDesk → Type 0
  HoldsOn (Makes floating w) before after = (n : ℕ) × (before.next ≡ Some n) × (B n floating [] → Every B before.windows → Every B after.windows)
  HoldsOn _ before after = Every B before.windows → Every B after.windows

  abbrev IsReordered : Effect → FullDesk → Type 0
  IsReordered (Arranges a) desk = Every B desk.windows → Every B a.windows
  IsReordered _ desk = Unit {0}

  -- one window that may change in what does not count
  by_serial : (w v : WindowRecord) (b : Bool) → Bound B v → Bound B w → Bound B (if b then v else w)
  by_serial w v true new old = new
  by_serial w v false new old = old

  made_holds : (floating : Bool) (w : NewWindow) (n : ℕ) (before after : FullState) → IsNewWindow floating w n before after → B n floating [] → Every B before.desk.windows → Every B after.desk.windows
  made_holds floating w n before after new its h =
      let rest = if begins_active floating w then map (with_highlighting false before.desk.active) before.desk.windows else before.desk.windows in
      subst (λ (d : FullDesk). Every B d.windows) (sym new.desk)
      (every_insert (front_place is_floating floating rest) (new_record floating w n new.loan.slot new.begun) rest its (by_active (begins_active floating w)))
    where
      by_active : (b : Bool) → Every B (if b then map (with_highlighting false before.desk.active) before.desk.windows else before.desk.windows)
      by_active true = every_map (with_highlighting false before.desk.active) (λ v k. lit false before.desk.active v k) before.desk.windows h
      by_active false = h

  disposed_holds : (s : ℕ) (before after : FullState) → IsWindowDisposed s before after → Every B before.desk.windows → Every B after.desk.windows
  disposed_holds s before after gone h =
      let rest = without s before.desk.windows in
      subst (λ (d : FullDesk). Every B d.windows) (sym gone.desk)
      (every_activated (activation_of FrontInItsPlace s before.desk.active (front_of rest)) before.desk.active rest (every_without s before.desk.windows h))

  arranged_holds : (a : Arrangement) (before after : FullState) → IsArrangement a before after → Every B a.windows → Every B after.desk.windows
  arranged_holds a before after arranged h =
      subst (λ (d : FullDesk). Every B d.windows) (sym arranged.desk)
      (every_activated (activation_of a.activates a.window before.desk.active (front_of a.windows)) before.desk.active a.windows h)

  same_desk_holds : (before after : FullDesk) → after ≡ before → Every B before.windows → Every B after.windows
  same_desk_holds before after same h = subst (λ (d : FullDesk). Every B d.windows) (sym same) h

  effect_holds : (effect : Effect) (answer : WindowReply) (before after : FullState) → IsReordered effect before.desk → IsEffect effect answer before after → HoldsOn effect before.desk after.desk
  effect_holds (Makes floating w) answer before after all (n, is, new) = (n, new.serials, made_holds floating w n before after new)
  effect_holds (Draws d) answer before after all (is, drawn) = λ h.
      subst (λ (x : FullDesk). Every B x.windows) (sym drawn.desk)
      (every_map (with_drawn d.window drawn.operation) (λ w k. by_serial w _ (w.serial == d.window) k k) before.desk.windows h)
  effect_holds (Pictures n) answer before after all (is, done) = λ h.
      subst (λ (x : FullDesk). Every B x.windows) (sym done.desk)
      (every_map (with_new_picture n) (λ w k. by_serial w _ (w.serial == n.window) k k) before.desk.windows h)
  effect_holds (Scrolls m) answer before after all (is, done) = λ h.
      subst (λ (x : FullDesk). Every B x.windows) (sym done.desk)
      (every_map (with_scrolled m) (λ w k. by_serial w _ (w.serial == m.window) k k) before.desk.windows h)
  effect_holds (Arranges a) answer before after all (is, arranged) = λ h. arranged_holds a before after arranged (all h)
  effect_holds (Disposes s) answer before after all (is, gone) = disposed_holds s before after gone
  effect_holds (Places p) answer before after all (is, change) = λ h.
      arranged_holds (placed p change.definition before.desk.windows) before after change.arranged
      (every_changed p.window (with_placement p.to change.definition) (λ w k. k) before.desk.windows h)
  effect_holds (Tells r) answer before after all (is, same) = same_desk_holds before.desk after.desk same.desk
  effect_holds (Describes region) answer before after all (is, same) = same_desk_holds before.desk after.desk same.desk

  placed_reordered : (o : Option Placing) (desk : FullDesk) → IsReordered (places o) desk
  placed_reordered None desk = tt
  placed_reordered (Some p) desk = tt

  moved_reordered : (m : MoveWindow) (ws : List WindowRecord) (b : Bool) → Every B ws → Every B (if b then brought m.window (changed m.window (at_place m.place) ws) else changed m.window (at_place m.place) ws)
  moved_reordered m ws true h = every_brought m.window (changed m.window (at_place m.place) ws) (every_changed m.window (at_place m.place) (λ w k. k) ws h)
  moved_reordered m ws false h = every_changed m.window (at_place m.place) (λ w k. k) ws h

  call_reorders : (call : WindowCall) (desk : FullDesk) → IsReordered (effect_of call desk) desk
  call_reorders (asks.Select s) desk = every_brought s desk.windows
  call_reorders (asks.BringToFront s) desk = every_brought s desk.windows
  call_reorders (asks.SendBehind b) desk = every_sent b desk.windows
  call_reorders (asks.Move m) desk = moved_reordered m desk.windows m.select
  call_reorders (asks.Show s) desk = every_changed s (with_shown true) (λ w k. k) desk.windows
  call_reorders (asks.Hide s) desk = every_changed s (with_shown false) (λ w k. k) desk.windows
  call_reorders (asks.ShowHide c) desk = every_changed c.window (with_shown c.shown) (λ w k. k) desk.windows
  call_reorders (asks.Size z) desk = placed_reordered (sized z (record_with z.window desk.windows)) desk
  call_reorders (asks.Zoom z) desk = placed_reordered (zoomed z (record_with z.window desk.windows) desk) desk
  call_reorders _ desk = tt

  -- a call on windows that was done
  pub done_holds : (call : WindowCall) (answer : WindowReply) (before after : FullState) → IsEffect (effect_of call before.desk) answer before after → HoldsOn (effect_of call before.desk) before.desk after.desk
  done_holds call answer before after done = effect_holds (effect_of call before.desk) answer before after (call_reorders call before.desk) done
