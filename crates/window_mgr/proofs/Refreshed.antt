-- A window manager that drew what was to be redrawn of some content layers of a window.
use Rattle.std.proofs.Common.{◌≡◌, ℕ, ◌<◌, ◌&&◌, not, Bool, true, false, if◌then◌else◌, List, length, refl, sym, ap, ◌∙◌, subst}
use Rattle.std.specs.Prelude.{get_or, slice_set}
use Rattle.std.proofs.lemmas.Bool.{false≢true, and_parts}
use Rattle.tb_geom.specs.declared.point.Point.{Point}
use Rattle.tb_geom.specs.Points.{PixelSet}
use Rattle.tb_geom.specs.Pixels.{Pixels, holds}
use Rattle.bit_map.specs.Bits.{Bits, on_map, bit}
use Rattle.bit_blit.specs.Draws.{Draws}
use Rattle.desk_layers.specs.declared.part.Part.{Part}
use Rattle.def_iface.specs.Slots.{TakenBox}
use Rattle.def_iface.specs.WindowMeaning.{WindowLoan}
use Rattle.def_iface.specs.WindowSlots.{WindowSlot}
use Rattle.desk_layers.specs.Desk as layers
use Rattle.desk_layers.specs.Desk.{LayeredDesk}
use Rattle.desk_layers.specs.Owner.{Owner, owner, is_content}
use Rattle.desk_layers.specs.Scratch.{scratch}
use Rattle.desk_layers.specs.Change as plain
use Rattle.desk_layers.proofs.Owning.{same_owner-self}
use Rattle.desk_layers.proofs.Painting.{scratch_is_owners}
use Rattle.vis_update.specs.declared.area.Area.{Area}
use Rattle.vis_update.specs.Areas.{IsArea, is_content_of, stale_in}
use Rattle.window_list.specs.declared.window.Window.{Window}
use Rattle.window_mgr.specs.declared.manager.WindowManager.{WindowManager}
use Rattle.window_mgr.specs.Edits.{IsWindowAt}
use Rattle.window_mgr.specs.FullDesk.{FullDesk, FullState, layered_desk, layered_state}
use Rattle.window_mgr.specs.Records.{desk_of, desk_showing, state_of, state_showing}
use Rattle.window_mgr.specs.Updating.{IsRefreshed, refresh_change}
use Rattle.window_mgr.specs.Whole.{IsWholeManager}
use Rattle.window_mgr.proofs.Arranged.{between-is_below}
use Rattle.window_mgr.proofs.Repicturing.{no_content, not_stale}
use Rattle.window_mgr.proofs.Remarked as remarked
use Rattle.window_mgr.proofs.Remarked.{unless}
use Rattle.window_mgr.proofs.Showing.{owner_showing, distinct_showing, frames_showing}

module _ {V : Type 0} {H : V → Type 0} (loan : TakenBox V H → WindowLoan) (t : WindowManager V H) (slots : List WindowSlot) (whole : IsWholeManager loan t slots) (at : ℕ) (low : at < length t.windows.records.items) (w : Window V H) (there : IsWindowAt t.windows.records.items at w) (a : Area) (read : a ≡ get_or t.areas.items at a) (shows : List ℕ → Part → PixelSet) where
  abbrev before : FullState
  before = state_showing shows (state_of loan t slots)

  -- the desk with what its controls and lists show
  abbrev desk : LayeredDesk
  desk = layered_desk before.desk

  abbrev stale : PixelSet
  stale = stale_in t.areas.items

  owner_is : (p : Point) → owner desk p ≡ owner (layered_desk (desk_of loan t slots)) p
  owner_is = owner_showing shows (desk_of loan t slots)

  distinct : layers.IsDesk desk
  distinct = distinct_showing shows (desk_of loan t slots) whole.sound.distinct

  plain_area : IsArea (layered_desk (desk_of loan t slots)) stale w.serial a
  plain_area = remarked.area_is loan t slots whole at low w there a read

  on_map_is : (p : Point) → layers.on_screen desk p ≡ on_map t.screen p
  unfolding on_map
  on_map_is p = λ i. between-is_below t.screen.width p.h i && between-is_below t.screen.height p.v i

  -- what is drawn: these layers, of which the set has the pixels; `shown` is what they show, and `update` what is left
  module _ (these : Owner → Bool) (of : (o : Owner) → is_content_of w.serial o ≡ false → these o ≡ false)
      (has shown : PixelSet) (has_is : (p : Point) → is_content_of w.serial (owner desk p) ≡ true → has p ≡ these (owner desk p))
      (shown_is : (p : Point) → these (owner desk p) ≡ true → shown p ≡ scratch desk p)
      (update : Pixels) (left : (p : Point) → holds update p ≡ (holds a.update p && not (has p))) where
    abbrev with_screen : Bits → WindowManager V H
    with_screen screen = remarked.with_update loan t slots whole at low w there a read update screen

    within : (p : Point) → holds update p ≡ true → holds a.visible p ≡ true
    within p e = (and_parts (holds a.visible p) _ (sym (plain_area.update p) ∙ (and_parts (holds a.update p) _ (sym (left p) ∙ e)).0)).0

    abbrev change : plain.Change
    change = refresh_change these before

    module _ (screen : Bits) (drawn : Draws (λ p. holds a.update p && has p) (λ p _. shown p) t.screen screen) (p : Point) (on : layers.on_screen desk p ≡ true) where
      abbrev its : Owner
      its = owner desk p

      -- what was stale of the window's content
      update_is : holds a.update p ≡ (is_content_of w.serial its && stale p)
      update_is = plain_area.update p ∙ ap (λ b. b && stale p) (plain_area.visible p ∙ (λ i. on i && is_content_of w.serial (sym (owner_is p) i)))

      -- what of it was drawn, and what is left
      parts_are : (b : Bool) → is_content_of w.serial its ≡ b → ((holds a.update p && has p) ≡ (these its && stale p)) × ((holds a.update p && not (has p)) ≡ (is_content_of w.serial its && (stale p && not (these its))))
      parts_are true e = (
        (λ i. (update_is ∙ ap (λ b. b && stale p) e) i && has_is p e i) ∙ turned (stale p) (these its),
        (λ i. (update_is ∙ ap (λ b. b && stale p) e) i && not (has_is p e i)) ∙ sym (ap (λ b. b && (stale p && not (these its))) e),
      )
        where
          turned : (m n : Bool) → (m && n) ≡ (n && m)
          turned true true = refl
          turned true false = refl
          turned false true = refl
          turned false false = refl
      parts_are false e = (
        ap (λ b. b && has p) (update_is ∙ ap (λ b. b && stale p) e) ∙ sym (ap (λ b. b && stale p) (of its e)),
        ap (λ b. b && not (has p)) (update_is ∙ ap (λ b. b && stale p) e) ∙ sym (ap (λ b. b && (stale p && not (these its))) e),
      )

      bit_is : bit screen p ≡ (if these its && stale p then shown p else bit t.screen p)
      bit_is = drawn.pixels p (sym (on_map_is p) ∙ on) ∙ ap (λ b. if b then shown p else bit t.screen p) (parts_are (is_content_of w.serial its) refl).0

      still : is_content_of w.serial its ≡ false → bit screen p ≡ bit t.screen p
      still e = bit_is ∙ ap (λ b. if b && stale p then shown p else bit t.screen p) (of its e)

      had_is : plain.had change desk its p ≡ true
      had_is = λ i. on i && same_owner-self its i

      image_is : bit screen p ≡ plain.image_by change (layered_state before) desk its p
      image_is = by_content (is_content its) refl
        where
          by_test : (m old : Bool) → (m ≡ true → shown p ≡ scratch desk p) → (if m && old then shown p else bit t.screen p) ≡ (if m && old then scratch desk p else bit t.screen p)
          by_test true true e = e refl
          by_test true false e = refl
          by_test false old e = refl

          by_content : (b : Bool) → is_content its ≡ b → bit screen p ≡ plain.image_by change (layered_state before) desk its p
          by_content false c =
              still (no_content w.serial its c)
              ∙ frames_showing shows (state_of loan t slots) whole.frames p on c
              ∙ sym (scratch_is_owners desk p distinct)
              ∙ sym (unless (is_content its) (scratch desk p) _ c)
          by_content true c =
              bit_is
              ∙ by_test (these its) (stale p) (shown_is p)
              ∙ sym (λ i. if not (c i) then scratch desk p else (if these its && stale p then scratch desk p else (if not (had_is i) then false else bit t.screen p)))

      abbrev areas : List Area
      areas = slice_set t.areas.items at (record a { update = update })

      stale_is : stale_in areas p ≡ plain.stale_by change (layered_state before) its p
      stale_is =
          remarked.stale_is loan t slots whole at low w there a read update within p on
          ∙ ap (λ o. if is_content_of w.serial o then holds update p else stale p) (sym (owner_is p))
          ∙ by_content (is_content its) refl
        where
          by_test : (c one old : Bool) → (c ≡ false → one ≡ false) → (if c then c && (old && not one) else old) ≡ (if one && old then false else old)
          by_test true true true e = refl
          by_test true true false e = refl
          by_test true false true e = refl
          by_test true false false e = refl
          by_test false true old e = absurd (false≢true (sym (e refl)))
          by_test false false old e = refl

          by_content : (b : Bool) → is_content its ≡ b → (if is_content_of w.serial its then holds update p else stale p) ≡ plain.stale_by change (layered_state before) its p
          by_content false c =
              (λ i. if no_content w.serial its c i then holds update p else stale p)
              ∙ not_stale (layered_desk (desk_of loan t slots)) stale (desk_of loan t slots).windows t.areas.items p whole.areas (ap is_content (sym (owner_is p)) ∙ c)
              ∙ sym (unless (is_content its) false _ c)
          by_content true c =
              ap (λ b. if is_content_of w.serial its then b else stale p) (left p ∙ (parts_are (is_content_of w.serial its) refl).1)
              ∙ by_test (is_content_of w.serial its) (these its) (stale p) (of its)
              ∙ sym (λ i. if not (c i) then false else (if these its && stale p then false else (if had_is i then stale p else true)))

    -- it is whole, and what was stale of these layers was drawn
    pub refreshed : (screen : Bits) → Draws (λ p. holds a.update p && has p) (λ p _. shown p) t.screen screen
        → IsWholeManager loan (with_screen screen) slots × IsRefreshed these before (state_showing shows (state_of loan (with_screen screen) slots))
    refreshed screen drawn =
        let unmoved = λ (p : Point) (on : layers.on_screen desk p ≡ true) (e : is_content_of w.serial (owner (layered_desk (desk_of loan t slots)) p) ≡ false). still screen drawn p on (ap (is_content_of w.serial) (owner_is p) ∙ e) in
        let desk_is = remarked.desk_is loan t slots whole at low w there a read update within screen drawn.width drawn.height unmoved in (
          remarked.is_whole loan t slots whole at low w there a read update within screen drawn.width drawn.height unmoved,
          record {
            desk = ap (desk_showing shows) desk_is;
            pixels = record {
              stale = subst (λ (d : FullDesk). (p : Point) → layers.on_screen (layered_desk (desk_showing shows d)) p ≡ true → stale_in (with_screen screen).areas.items p ≡ plain.stale_by change (layered_state before) (owner (layered_desk (desk_showing shows d)) p) p) (sym desk_is)
                  (λ p on. stale_is screen drawn p on);
              image = subst (λ (d : FullDesk). (p : Point) → layers.on_screen (layered_desk (desk_showing shows d)) p ≡ true → bit screen p ≡ plain.image_by change (layered_state before) (layered_desk (desk_showing shows d)) (owner (layered_desk (desk_showing shows d)) p) p) (sym desk_is)
                  (λ p on. image_is screen drawn p on);
            };
          },
        )
