-- A layer of a window that stays as it lies: what is known of a pixel of the screen, and of a window manager of which only pixels
-- of the window's content changed on the screen.
use Rattle.std.proofs.Common.{◌≡◌, ℕ, ◌<◌, ◌&&◌, not, Bool, true, false, if◌then◌else◌, List, length, pos, refl, sym, ap, ◌∙◌, subst}
use Rattle.std.specs.Prelude.{get_or}
use Rattle.tb_geom.specs.declared.point.Point.{Point}
use Rattle.tb_geom.specs.Points.{PixelSet, minus}
use Rattle.tb_geom.specs.Pixels.{holds}
use Rattle.bit_map.specs.Bits.{Bits, on_map, bit}
use Rattle.desk_layers.specs.declared.part.Part.{Part}
use Rattle.def_iface.specs.Slots.{TakenBox}
use Rattle.def_iface.specs.WindowMeaning.{WindowLoan}
use Rattle.def_iface.specs.WindowSlots.{WindowSlot}
use Rattle.desk_layers.specs.Desk as layers
use Rattle.desk_layers.specs.Desk.{LayeredDesk, same_part}
use Rattle.desk_layers.specs.Owner.{Owner, owner, own_bit, same_owner, is_content}
use Rattle.desk_layers.specs.Owner.Owner.{Desktop, Bar, Frame, Content}
use Rattle.desk_layers.specs.Scratch.{scratch}
use Rattle.desk_layers.specs.Change as plain
use Rattle.desk_layers.specs.Change.{Change}
use Rattle.desk_layers.proofs.Owning.{same_number, same_owner-self}
use Rattle.desk_layers.proofs.Painting.{scratch_is_owners}
use Rattle.window_list.specs.Holders.{part_at, belongs_to}
use Rattle.vis_update.specs.declared.area.Area.{Area}
use Rattle.vis_update.specs.Areas.{IsArea, IsGray, IsDesktop, AreAreas, is_content_of, stale_in}
use Rattle.window_list.specs.declared.window.Window.{Window}
use Rattle.window_mgr.specs.declared.manager.WindowManager.{WindowManager}
use Rattle.window_mgr.specs.Edits.{IsWindowAt}
use Rattle.window_mgr.specs.FullDesk.{FullDesk, FullState, layered_desk, layered_state}
use Rattle.window_mgr.specs.Records.{desk_of, desk_showing, state_of, state_showing}
use Rattle.window_mgr.specs.Whole.{IsWholeManager, IsSoundDesk}
use Rattle.window_mgr.proofs.Arranged.{between-is_below}
use Rattle.window_mgr.proofs.Contents as contents
use Rattle.window_mgr.proofs.Repicturing.{no_content, not_stale}
use Rattle.window_mgr.proofs.Remarked as remarked
use Rattle.window_mgr.proofs.Remarked.{unless}
use Rattle.window_mgr.proofs.Showing.{owner_showing, distinct_showing, frames_showing}

-- no content of the window is no part of it
pub no_part : (s : ℕ) (q : Part) (o : Owner) → is_content_of s o ≡ false → same_owner o (Content s q) ≡ false
no_part s q Desktop e = refl
no_part s q Bar e = refl
no_part s q (Frame t) e = refl
no_part s q (Content t b) e = ap (λ x. x && same_part b q) e

module _ {V : Type 0} {H : V → Type 0} (loan : TakenBox V H → WindowLoan) (t : WindowManager V H) (slots : List WindowSlot) (whole : IsWholeManager loan t slots) (at : ℕ) (low : at < length t.windows.records.items) (w : Window V H) (there : IsWindowAt t.windows.records.items at w) (a : Area) (read : a ≡ get_or t.areas.items at a)
    (was now : List ℕ → Part → PixelSet) (q : Part) where
  abbrev pub full : FullDesk
  full = desk_of loan t slots

  abbrev pub before : FullState
  before = state_showing was (state_of loan t slots)

  abbrev pub desk : LayeredDesk
  desk = layered_desk (desk_showing now full)

  abbrev pub stale : PixelSet
  stale = stale_in t.areas.items

  abbrev pub mine : Owner → Bool
  mine o = same_owner o (Content w.serial q)

  -- what of the screen the layer shows
  abbrev pub own : PixelSet
  own p = holds a.visible p && belongs_to q w.layers.layers (minus p w.layers.place)

  pub distinct : layers.IsDesk desk
  distinct = distinct_showing now full whole.sound.distinct

  plain_area : IsArea (layered_desk full) stale w.serial a
  plain_area = remarked.area_is loan t slots whole at low w there a read

  pub on_map_is : (p : Point) → layers.on_screen desk p ≡ on_map t.screen p
  unfolding on_map
  on_map_is p = λ i. between-is_below t.screen.width p.h i && between-is_below t.screen.height p.v i

  module _ (p : Point) (on : layers.on_screen desk p ≡ true) where
    abbrev pub its : Owner
    its = owner desk p

    pub on_screen : on_map t.screen p ≡ true
    on_screen = sym (on_map_is p) ∙ on

    pub visible_is : holds a.visible p ≡ is_content_of w.serial its
    visible_is = plain_area.visible p ∙ (λ i. on i && is_content_of w.serial (sym (owner_showing now full p) i))

    pub update_is : holds a.update p ≡ (is_content_of w.serial its && stale p)
    update_is = plain_area.update p ∙ ap (λ b. b && stale p) visible_is

    -- the part there is this one just where the owner is
    pub mine_is : is_content_of w.serial its ≡ true → belongs_to q w.layers.layers (minus p w.layers.place) ≡ mine its
    mine_is e =
        ap (λ place. same_part (part_at w.layers.layers (minus p place)) q) (contents.layers_there loan t slots whole at low w there now)
        ∙ sym (ap mine (contents.owner_there loan t slots whole at low w there now p e)
        ∙ ap (λ b. b && same_part (part_at w.layers.layers (minus p w.place)) q) (same_number w.serial))

    pub own_is : own p ≡ mine its
    own_is = by_test (is_content_of w.serial its) refl
      where
        by_test : (b : Bool) → is_content_of w.serial its ≡ b → own p ≡ mine its
        by_test true e = λ i. (visible_is ∙ e) i && mine_is e i
        by_test false e =
            ap (λ b. b && belongs_to q w.layers.layers (minus p w.layers.place)) (visible_is ∙ e)
            ∙ sym (no_part w.serial q its e)

    -- nothing moved
    pub had_is : plain.had plain.no_change (layered_state before).desk its p ≡ true
    had_is = λ i. on i && (ap (λ o. same_owner o its) (owner_showing was full p ∙ sym (owner_showing now full p)) ∙ same_owner-self its) i

    pub stale_by_is : is_content its ≡ true → plain.stale_by plain.no_change (layered_state before) its p ≡ stale p
    stale_by_is c = λ i. if not (c i) then false else (if had_is i then stale p else true)

    -- what was to be redrawn is to be so still
    pub stale_is : stale p ≡ plain.stale_by plain.no_change (layered_state before) its p
    stale_is = by_content (is_content its) refl
      where
        by_content : (b : Bool) → is_content its ≡ b → stale p ≡ plain.stale_by plain.no_change (layered_state before) its p
        by_content true c = sym (stale_by_is c)
        by_content false c =
            not_stale (layered_desk full) stale full.windows t.areas.items p whole.areas (ap is_content (sym (owner_showing now full p)) ∙ c)
            ∙ sym (unless (is_content its) false _ c)

    -- what is no content shows what painting from nothing gives
    pub plain_bit : is_content its ≡ false → bit t.screen p ≡ scratch desk p
    plain_bit c = frames_showing now (state_of loan t slots) whole.frames p on c ∙ sym (scratch_is_owners desk p distinct)

  module _ (screen : Bits) (width : screen.width ≡ t.screen.width) (height : screen.height ≡ t.screen.height)
      (still : (p : Point) → layers.on_screen desk p ≡ true → is_content_of w.serial (owner desk p) ≡ false → bit screen p ≡ bit t.screen p) where
    abbrev pub new : WindowManager V H
    new = record t { screen = screen }

    desk_is : desk_of loan new slots ≡ full
    desk_is = λ i. record full { width = pos (width i); height = pos (height i) }

    unmoved : (p : Point) → layers.on_screen (layered_desk full) p ≡ true → is_content (owner (layered_desk full) p) ≡ false → bit screen p ≡ own_bit (layered_desk full) (owner (layered_desk full) p) p
    unmoved p on c =
        still p on (no_content w.serial (owner desk p) (ap is_content (owner_showing now full p) ∙ c)) ∙ whole.frames p on c

    pub still_whole : IsWholeManager loan new slots
    still_whole = record {
      sound = subst IsSoundDesk (sym desk_is) whole.sound;
      gray = subst (λ (x : FullDesk). IsGray (layered_desk x) t.gray) (sym desk_is) whole.gray;
      desktop = subst (λ (x : FullDesk). IsDesktop (layered_desk x) t.desktop) (sym desk_is) whole.desktop;
      areas = subst (λ (x : FullDesk). AreAreas (layered_desk x) stale x.windows t.areas.items) (sym desk_is) whole.areas;
      frames = subst (λ (x : FullDesk). (p : Point) → layers.on_screen (layered_desk x) p ≡ true → is_content (owner (layered_desk x) p) ≡ false → bit screen p ≡ own_bit (layered_desk x) (owner (layered_desk x) p) p) (sym desk_is) unmoved;
      layers = whole.layers;
    }

    pub same_desk : desk_showing now (desk_of loan new slots) ≡ desk_showing now full
    same_desk = ap (desk_showing now) desk_is

    -- the state changed so, where each pixel did
    pub changed : (c : Change) → ((p : Point) → layers.on_screen desk p ≡ true → stale p ≡ plain.stale_by c (layered_state before) (owner desk p) p)
        → ((p : Point) → layers.on_screen desk p ≡ true → bit screen p ≡ plain.image_by c (layered_state before) desk (owner desk p) p)
        → plain.IsChanged c (layered_state before) (layered_state (state_showing now (state_of loan new slots)))
    changed c stales images = record {
      stale = subst (λ (d : FullDesk). (p : Point) → layers.on_screen (layered_desk (desk_showing now d)) p ≡ true → stale p ≡ plain.stale_by c (layered_state before) (owner (layered_desk (desk_showing now d)) p) p) (sym desk_is) stales;
      image = subst (λ (d : FullDesk). (p : Point) → layers.on_screen (layered_desk (desk_showing now d)) p ≡ true → bit screen p ≡ plain.image_by c (layered_state before) (layered_desk (desk_showing now d)) (owner (layered_desk (desk_showing now d)) p) p) (sym desk_is) images;
    }
