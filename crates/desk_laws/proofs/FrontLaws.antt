-- The screen with the menu or the outline in front.
use Rattle.std.proofs.Common.{◌≡◌, ℕ, ℤ, Bool, true, false, not, ◌&&◌, if◌then◌else◌, List, [], Option, None, Some, Result, Ok, refl, sym, ap, ◌∙◌, subst}
use Rattle.std.proofs.lemmas.Bool.{and_parts, false≢true}
use Rattle.tb_geom.specs.declared.point.Point.{Point}
use Rattle.tb_geom.specs.declared.refusal.Refusal.{Refusal}
use Rattle.tb_geom.specs.Points.{PixelSet}
use Rattle.tb_geom.specs.Rects.{rect_holds}
use Rattle.desk_layers.specs.Desk.{LayeredDesk, IsDesk, on_screen}
use Rattle.desk_layers.specs.Owner.{owner}
use Rattle.desk_layers.specs.Scratch.{scratch}
use Rattle.desk_layers.proofs.Painting.{scratch_is_owners}
use Rattle.overlay.specs.Outlines.{outline_holds, outlined}
use Rattle.overlay.specs.Overlays.{Pulled, pulled_bit, pulled_rect, shown_bit}
use Rattle.bit_map.specs.Modes.{xor_bit}
use Rattle.bit_map.specs.Patterns.{pattern_bit, gray}
use Rattle.desk_call.specs.Outlines.{outline_of}
use Rattle.tb_geom.specs.declared.rect.Rect.{Rect}
use Rattle.desk_call.specs.declared.activity.Activity.{Activity}
use Rattle.desk_call.specs.declared.activity.Activity.TheVariants.{Idle, Updating, Tracking, Pulling, TrackingControl, Dragging, Growing, Selecting}
use Rattle.desk_call.specs.declared.activity.Standing.TheVariants.{Asks}
use Rattle.desk_call.specs.declared.call.Call.{Call}
use Rattle.desk_call.specs.declared.call.Call.TheVariants.{Window}
use Rattle.desk_call.specs.declared.call.Reply.{Reply}
use Rattle.desk_call.specs.declared.call.Reply.TheVariants as reply
use Rattle.desk_call.specs.declared.window.WindowCall.TheVariants.{Find}
use Rattle.desk_call.specs.declared.window.WindowReply.{WindowReply}
use Rattle.desk_call.specs.Gates.{gate}
use Rattle.window_mgr.specs.FullDesk.{IsRightState, layered_desk}
use Rattle.window_update.specs.Served.{AreAllServed}
use Rattle.menu_mgr.specs.Pulling.{is_in, pulled_of}
use Rattle.desk_toolbox.specs.Fronts.{IsScreenAllRight, IsScreenRight, is_on_menu, is_on_outline, pulled, pulled_value, screen_bit, screen_of, screen_owner, screen_scratch, with_outline}
use Rattle.desk_toolbox.specs.Fronts.ScreenOwner.{PulledMenu, Base}
use Rattle.desk_toolbox.specs.Reached.{AreContentsRight}
use Rattle.desk_toolbox.specs.ToolboxStates.{ToolboxState, IsToolboxUnchanged}
use Rattle.desk_toolbox.specs.Run.{IsAdmitted, IsGated, IsRunOfCalls, IsStep, IsWindowTold, found_menu, replied}
use Rattle.desk_toolbox.proofs.Runs.{served_run_is_all_right}

-- ---- what the screen shows

-- where the pulled menu does not lie the screen shows what is behind it
shown_alike : (font : List ℕ) (m : Option Pulled) (a b : PixelSet) (p : Point) → (is_in m p ≡ false → a p ≡ b p) → shown_bit font m a p ≡ shown_bit font m b p
shown_alike font None a b p alike = alike refl
shown_alike font (Some m) a b p alike = by_test (rect_holds (pulled_rect m.place m.size) p) alike
  where
    by_test : (c : Bool) → (c ≡ false → a p ≡ b p) → (if c then pulled_bit font m p else a p) ≡ (if c then pulled_bit font m p else b p)
    by_test true alike = refl
    by_test false alike = alike refl

-- the outline inverts what it lies on
outlined_alike : (bar : ℤ) (lines : List Rect) (a b : PixelSet) (p : Point) → a p ≡ b p → outlined bar lines a p ≡ outlined bar lines b p
outlined_alike bar lines a b p same = ap (λ v. if outline_holds bar lines p then xor_bit (pattern_bit gray p) v else v) same

not_stale : (stale covered : Bool) → (stale && not covered) ≡ false → covered ≡ false → stale ≡ false
not_stale true true fresh away = absurd (cc)
not_stale true false fresh away = absurd (cc)
not_stale false covered fresh away = refl

pub screen_is_right : (s : ToolboxState) → IsRightState s.desk.windows → IsScreenRight s
screen_is_right s right p on fresh =
    let font = s.desk.windows.desk.font in
    let desk = layered_desk s.desk.windows.desk in
    outlined_alike s.desk.windows.desk.bar.rows (outline_of s.desk.activity) (shown_bit font (pulled s) s.desk.windows.image) (shown_bit font (pulled s) (scratch desk)) p
    (shown_alike font (pulled s) s.desk.windows.image (scratch desk) p
    (λ away. right.plain.right p on (not_stale (s.desk.windows.stale p) (is_on_menu s p) fresh (λ i. on i && away i))))

pub served_run_shows_all_right : (first last : ToolboxState) (calls : List Call) (answers : List (Result Reply Refusal)) → IsRightState first.desk.windows → AreContentsRight first → IsRunOfCalls first calls answers last → AreAllServed last.desk.windows → IsScreenAllRight last
served_run_shows_all_right first last calls answers right controls run served p on =
    let font = last.desk.windows.desk.font in
    let desk = layered_desk last.desk.windows.desk in
    outlined_alike last.desk.windows.desk.bar.rows (outline_of last.desk.activity) (shown_bit font (pulled last) last.desk.windows.image) (shown_bit font (pulled last) (scratch desk)) p
    (shown_alike font (pulled last) last.desk.windows.image (scratch desk) p
    (λ away. served_run_is_all_right first last calls answers right controls run served p on))

-- ---- whose a pixel is

module _ (s : ToolboxState) (p : Point) where
  abbrev desk : LayeredDesk
  desk = layered_desk s.desk.windows.desk

  owned : (m : Option Pulled) → pulled s ≡ m → IsDesk desk → shown_bit s.desk.windows.desk.font m (scratch desk) p ≡ screen_bit s (if is_in m p then PulledMenu else Base (owner desk p)) p
  owned None e distinct = scratch_is_owners desk p distinct
  owned (Some m) e distinct = by_test (rect_holds (pulled_rect m.place m.size) p)
    where
      by_test : (c : Bool) → (if c then pulled_bit s.desk.windows.desk.font m p else scratch desk p) ≡ screen_bit s (if c then PulledMenu else Base (owner desk p)) p
      by_test true = sym (ap (λ o. pulled_value s o p) e)
      by_test false = scratch_is_owners desk p distinct

  pub screen_scratch_is_owners : IsDesk desk → screen_scratch s p ≡ with_outline s (λ q. screen_bit s (screen_owner s q) q) p
  screen_scratch_is_owners distinct =
      outlined_alike s.desk.windows.desk.bar.rows (outline_of s.desk.activity) (shown_bit s.desk.windows.desk.font (pulled s) (scratch desk)) (λ q. screen_bit s (screen_owner s q) q) p
      (owned (pulled s) refl distinct)

  shows_menu : (m : Option Pulled) → is_in m p ≡ true → shown_bit s.desk.windows.desk.font m s.desk.windows.image p ≡ pulled_value s m p
  shows_menu None inside = absurd (false≢true inside)
  shows_menu (Some m) inside = λ i. if inside i then pulled_bit s.desk.windows.desk.font m p else s.desk.windows.image p

  shows_base : (m : Option Pulled) → is_in m p ≡ false → shown_bit s.desk.windows.desk.font m s.desk.windows.image p ≡ s.desk.windows.image p
  shows_base None outside = refl
  shows_base (Some m) outside = λ i. if outside i then pulled_bit s.desk.windows.desk.font m p else s.desk.windows.image p

  -- no outline is shown while a menu is pulled down
  none_beside_menu : (a : Activity) → is_in (pulled_of a s.menus.menus) p ≡ true → outline_of a ≡ []
  none_beside_menu (Pulling m) inside = refl
  none_beside_menu Idle inside = refl
  none_beside_menu (Updating w) inside = refl
  none_beside_menu (Tracking w) inside = refl
  none_beside_menu (TrackingControl c) inside = refl
  none_beside_menu (Dragging d) inside = absurd (false≢true inside)
  none_beside_menu (Growing g) inside = absurd (false≢true inside)
  none_beside_menu (Selecting k) inside = absurd (false≢true inside)

  -- what is shown, where these are the lines of the outline
  abbrev along : List Rect → Bool
  along lines = outlined s.desk.windows.desk.bar.rows lines (shown_bit s.desk.windows.desk.font (pulled s) s.desk.windows.image) p

  pub menu_is_in_front : is_on_menu s p ≡ true → (screen_owner s p ≡ PulledMenu) × (screen_of s p ≡ screen_bit s PulledMenu p)
  menu_is_in_front on =
      let inside = (and_parts (on_screen desk p) (is_in (pulled s) p) on).1 in
      (ap (λ (c : Bool). if c then PulledMenu else Base (owner desk p)) inside, ap along (none_beside_menu s.desk.activity inside) ∙ shows_menu (pulled s) inside)

  pub base_is_elsewhere : on_screen desk p ≡ true → is_on_menu s p ≡ false → (screen_owner s p ≡ Base (owner desk p)) × (screen_of s p ≡ with_outline s s.desk.windows.image p)
  base_is_elsewhere on away =
      let outside : is_in (pulled s) p ≡ false = sym (λ i. on i && is_in (pulled s) p) ∙ away in (
        ap (λ (c : Bool). if c then PulledMenu else Base (owner desk p)) outside,
        outlined_alike s.desk.windows.desk.bar.rows (outline_of s.desk.activity) (shown_bit s.desk.windows.desk.font (pulled s) s.desk.windows.image) s.desk.windows.image p (shows_base (pulled s) outside),
      )

  -- no menu is pulled down while an outline is shown
  none_beside_outline : (a : Activity) → outline_holds s.desk.windows.desk.bar.rows (outline_of a) p ≡ true → pulled_of a s.menus.menus ≡ None
  none_beside_outline (Pulling m) on = absurd (false≢true on)
  none_beside_outline Idle on = refl
  none_beside_outline (Updating w) on = refl
  none_beside_outline (Tracking w) on = refl
  none_beside_outline (TrackingControl c) on = refl
  none_beside_outline (Dragging d) on = refl
  none_beside_outline (Growing g) on = refl
  none_beside_outline (Selecting k) on = refl

  -- what is shown below the outline, where this menu is pulled down
  abbrev below : Option Pulled → Bool
  below m = shown_bit s.desk.windows.desk.font m s.desk.windows.image p

  pub outline_is_in_front : is_on_outline s p ≡ true → screen_of s p ≡ xor_bit (pattern_bit gray p) (s.desk.windows.image p)
  outline_is_in_front on =
      ap (λ (b : Bool). if b then xor_bit (pattern_bit gray p) (below (pulled s)) else below (pulled s)) on
      ∙ ap (λ m. xor_bit (pattern_bit gray p) (below m)) (none_beside_outline s.desk.activity on)

  pub no_outline_is_elsewhere : pulled s ≡ None → is_on_outline s p ≡ false → screen_of s p ≡ s.desk.windows.image p
  no_outline_is_elsewhere none off =
      ap (λ (b : Bool). if b then xor_bit (pattern_bit gray p) (below (pulled s)) else below (pulled s)) off
      ∙ ap below none

-- ---- FindWindow

pub asks_may_come : (a : Activity) → gate a Asks ≡ None
asks_may_come Idle = refl
asks_may_come (Updating s) = refl
asks_may_come (Tracking s) = refl
asks_may_come (TrackingControl c) = refl
asks_may_come (Dragging d) = refl
asks_may_come (Growing g) = refl
asks_may_come (Selecting k) = refl
asks_may_come (Pulling m) = refl

covered_is_told : (covered : Bool) (p : Point) (own : Result WindowReply Refusal) (before after : ToolboxState) → covered ≡ true → IsWindowTold covered (Find p) own before after → (own ≡ Ok found_menu) × IsToolboxUnchanged before after
covered_is_told true p own before after on step = step
covered_is_told false p own before after on step = absurd (false≢true on)

admitted_finds_bar : (p : Point) (answer : Result Reply Refusal) (before after : ToolboxState) → is_on_menu before p ≡ true → IsAdmitted (Window (Find p)) answer before after → (answer ≡ Ok (reply.Window found_menu)) × IsToolboxUnchanged before after
admitted_finds_bar p answer before after on (own, is, step) =
    let told = covered_is_told (is_on_menu before p) p own before after on step in
    (is ∙ ap (replied reply.Window) told.0, told.1)

pub menu_is_found_as_bar : (p : Point) (answer : Result Reply Refusal) (before after : ToolboxState) → is_on_menu before p ≡ true → IsStep (Window (Find p)) answer before after → (answer ≡ Ok (reply.Window found_menu)) × IsToolboxUnchanged before after
menu_is_found_as_bar p answer before after on step =
    admitted_finds_bar p answer before after on (subst (λ stopped. IsGated stopped (Window (Find p)) answer before after) (asks_may_come before.desk.activity) step)
