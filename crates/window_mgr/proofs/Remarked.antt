-- A window manager whose update region of one window is another.
use Rattle.std.proofs.Common.{◌≡◌, ℕ, zero, suc, ◌==◌, ◌<◌, ◌&&◌, not, Bool, true, false, if◌then◌else◌, List, [], ◌∷◌, length, map, None, Some, pos, refl, sym, ap, ◌∙◌, subst, arith}
use Rattle.std.specs.Prelude.{get_or, slice_get, slice_set, vec_len}
use Rattle.std.specs.Vec.{with_item}
use Rattle.std.specs.Option.{option_map}
use Rattle.std.proofs.lemmas.Bool.{false≢true, and_parts}
use Rattle.std.proofs.lemmas.Option.{slice_get-map, slice_get-get_or}
use Rattle.tb_geom.specs.declared.point.Point.{Point}
use Rattle.tb_geom.specs.Points.{PixelSet}
use Rattle.tb_geom.specs.Pixels.{Pixels, holds}
use Rattle.bit_map.specs.Bits.{Bits, bit}
use Rattle.def_iface.specs.Slots.{TakenBox}
use Rattle.def_iface.specs.WindowMeaning.{WindowLoan}
use Rattle.def_iface.specs.WindowSlots.{WindowSlot}
use Rattle.desk_layers.specs.Desk as layers
use Rattle.desk_layers.specs.Desk.{LayeredDesk}
use Rattle.desk_layers.specs.Owner.{owner, own_bit, is_content}
use Rattle.desk_layers.specs.Change as plain
use Rattle.desk_layers.proofs.Owning.{same_number, same_owner-self, not_first}
use Rattle.vis_update.specs.declared.area.Area.{Area}
use Rattle.vis_update.specs.Areas.{IsGray, IsDesktop, IsArea, AreAreas, is_content_of, stale_in}
use Rattle.vis_update.specs.Plans.{stale_after, AreAreasAfter}
use Rattle.vis_update.specs.Records.{WindowRecord, Look, layered_window, record_of}
use Rattle.vis_update.proofs.UpdateLemmas.{areas_are, updated_is_stale}
use Rattle.window_list.specs.declared.window.Window.{Window}
use Rattle.window_mgr.specs.declared.manager.WindowManager.{WindowManager}
use Rattle.window_mgr.specs.Edits.{IsWindowAt}
use Rattle.window_mgr.specs.FullDesk.{FullDesk, layered_desk, layered_state}
use Rattle.window_mgr.specs.Kept.{IsKept}
use Rattle.window_mgr.specs.Records.{desk_of, state_of, look_on}
use Rattle.window_mgr.specs.Updating.{IsRemarked}
use Rattle.window_mgr.specs.Whole.{IsWholeManager, IsSoundDesk, IsSettled}
use Rattle.window_mgr.proofs.Repicturing.{no_content, its_layer, not_stale}
use Rattle.window_mgr.proofs.FindLemmas.{area_at, not_among, settled_at}
use Rattle.window_mgr.proofs.KeptLemmas.{kept}
use Rattle.window_mgr.proofs.Seating.{as_many}

-- ---- the window at a place

-- each window has its area
pub area_there : {V : Type 0} {H : V → Type 0} (loan : TakenBox V H → WindowLoan) (t : WindowManager V H) → IsKept loan t → (at : ℕ) → at < length t.windows.records.items → at < length t.areas.items
area_there loan t whole at low = let long = as_many loan t whole in omega arith

-- and that area is among those that are kept
pub area_kept : {V : Type 0} {H : V → Type 0} (loan : TakenBox V H → WindowLoan) (t : WindowManager V H) → IsKept loan t → (at : ℕ) → at < length t.windows.records.items → at < vec_len t.areas
area_kept loan t whole at low =
    let there = area_there loan t whole at low in
    let long = t.areas.ok.0 in
    omega arith

pub area_low : {V : Type 0} {H : V → Type 0} (loan : TakenBox V H → WindowLoan) (t : WindowManager V H) (slots : List WindowSlot) → IsWholeManager loan t slots → (at : ℕ) → at < length t.windows.records.items → at < length t.areas.items
area_low loan t slots whole at low = area_there loan t (kept loan t slots whole) at low

-- the window at the place has a settled definition
pub settled_there : {V : Type 0} {H : V → Type 0} (loan : TakenBox V H → WindowLoan) (t : WindowManager V H) → IsKept loan t → (at : ℕ) (w : Window V H) → at < length t.windows.records.items → IsWindowAt t.windows.records.items at w → IsSettled (record_of loan w)
settled_there loan t whole at w low there = settled_at loan t whole (record { h = pos 0; v = pos 0 }) at w low there

-- as layers, it is the one of its number
pub window_at : (look : Look) (ws : List WindowRecord) (i : ℕ) (v : WindowRecord) → layers.AreWindows (map (layered_window look) ws) → slice_get ws i ≡ Some v → layers.window_of v.serial (map (layered_window look) ws) ≡ Some (layered_window look v)
window_at look [] i v distinct e = absurd (cc)
window_at look (w ∷ ws) zero v distinct e =
    let same : w ≡ v = cc in
    rw (ap (λ (x : WindowRecord). x.serial == v.serial) same ∙ same_number v.serial) (ap (λ x. Some (layered_window look x)) same)
window_at look (w ∷ ws) (suc i) v distinct e = rw (not_among look w.serial ws i v distinct.0 e) (window_at look ws i v distinct.1.1 e)

-- a choice that is made by a test that fails
pub unless : (b x y : Bool) → b ≡ false → (if not b then x else y) ≡ x
unless true x y e = absurd (cc)
unless false x y e = refl

-- ---- the areas

-- the change by which the update region of a window becomes this one
abbrev remarking : ℕ → Pixels → plain.Change
remarking s update = record plain.no_change {
  taken = λ o p. is_content_of s o && not (holds update p);
  added = λ o p. is_content_of s o && holds update p;
}

module _ (desk : LayeredDesk) (image stale : PixelSet) (s : ℕ) (update : Pixels) where
  abbrev state : plain.State
  state = record { desk = desk; stale = stale; image = image }

  -- what is then stale of content
  content_stale : (p : Point) → layers.on_screen desk p ≡ true → is_content (owner desk p) ≡ true → plain.stale_by (remarking s update) state (owner desk p) p ≡ (if is_content_of s (owner desk p) then holds update p else stale p)
  content_stale p on c =
      (λ i. if not (c i) then false else (if is_content_of s (owner desk p) && not (holds update p) then false else (if is_content_of s (owner desk p) && holds update p then true else (if on i && same_owner-self (owner desk p) i then stale p else true))))
      ∙ by_test (is_content_of s (owner desk p)) (holds update p)
    where
      by_test : (m u : Bool) → (if m && not u then false else (if m && u then true else stale p)) ≡ (if m then u else stale p)
      by_test true true = refl
      by_test true false = refl
      by_test false u = refl

  abbrev stale_now : PixelSet
  stale_now = stale_after (remarking s update) state desk

  -- where a window's content is seen, on the screen
  seen : (n : ℕ) (a : Area) (p : Point) → IsArea desk stale n a → holds a.visible p ≡ true → (layers.on_screen desk p ≡ true) × (is_content_of n (owner desk p) ≡ true)
  seen n a p its e = and_parts (layers.on_screen desk p) (is_content_of n (owner desk p)) (sym (its.visible p) ∙ e)

  -- another window's area stays as it is
  other_area : (n : ℕ) (a : Area) → (n == s) ≡ false → IsArea desk stale n a → IsArea desk stale_now n a
  other_area n a away its = record { visible = its.visible; update = λ p. its.update p ∙ by_visible p (holds a.visible p) refl; frame = its.frame }
    where
      by_visible : (p : Point) (b : Bool) → holds a.visible p ≡ b → (b && stale p) ≡ (b && stale_now p)
      by_visible p true e =
          let parts = seen n a p its e in
          let is = its_layer n (owner desk p) parts.1 in
          sym (content_stale p parts.0 (ap is_content is.1) ∙ ap (λ o. if is_content_of s o then holds update p else stale p) is.1 ∙ ap (λ b. if b then holds update p else stale p) away)
      by_visible p false e = refl

  -- and this window's gets its region
  its_area : (a : Area) → ((p : Point) → holds update p ≡ true → holds a.visible p ≡ true) → IsArea desk stale s a → IsArea desk stale_now s (record a { update = update })
  its_area a within its = record { visible = its.visible; update = λ p. by_visible p (holds a.visible p) refl; frame = its.frame }
    where
      by_update : (p : Point) (u : Bool) → holds update p ≡ u → holds a.visible p ≡ false → u ≡ false
      by_update p true e hidden = absurd (false≢true (sym hidden ∙ within p e))
      by_update p false e hidden = refl

      by_visible : (p : Point) (b : Bool) → holds a.visible p ≡ b → holds update p ≡ (b && stale_now p)
      by_visible p true e =
          let parts = seen s a p its e in
          sym (content_stale p parts.0 (ap is_content (its_layer s (owner desk p) parts.1).1) ∙ ap (λ b. if b then holds update p else stale p) parts.1)
      by_visible p false e = by_update p (holds update p) refl e

  -- windows of other numbers
  other_areas : (look : Look) (ws : List WindowRecord) (areas : List Area) → layers.window_of s (map (layered_window look) ws) ≡ None → AreAreas desk stale ws areas → AreAreas desk stale_now ws areas
  other_areas look [] [] none its = tt
  other_areas look (w ∷ ws) (a ∷ areas) none its =
      let first = not_first (w.serial == s) (layered_window look w) (layers.window_of s (map (layered_window look) ws)) none in
      (other_area w.serial a first.0 its.0, other_areas look ws areas first.1 its.1)
  other_areas look [] (a ∷ areas) none its = absurd its
  other_areas look (w ∷ ws) [] none its = absurd its

  -- all windows, one of which gets its region
  areas_now : (look : Look) (ws : List WindowRecord) (areas : List Area) (i : ℕ) (v : WindowRecord) (a : Area) → layers.AreWindows (map (layered_window look) ws) → slice_get ws i ≡ Some v → v.serial ≡ s → a ≡ get_or areas i a
      → ((p : Point) → holds update p ≡ true → holds a.visible p ≡ true) → AreAreas desk stale ws areas → AreAreas desk stale_now ws (slice_set areas i (record a { update = update }))
  areas_now look [] [] i v a distinct e number read within its = absurd (cc)
  areas_now look (w ∷ ws) (x ∷ areas) zero v a distinct e number read within its =
      let same : w ≡ v = cc in
      let serial : w.serial ≡ s = ap (λ (y : WindowRecord). y.serial) same ∙ number in (
        subst (λ n. IsArea desk stale_now n (record a { update = update })) (sym serial) (its_area a within (subst (λ (k : ℕ × Area). IsArea desk stale k.0 k.1) (λ i. (serial i, sym read i)) its.0)),
        other_areas look ws areas (subst (λ n. layers.window_of n (map (layered_window look) ws) ≡ None) serial distinct.0) its.1,
      )
  areas_now look (w ∷ ws) (x ∷ areas) (suc i) v a distinct e number read within its =
      (other_area w.serial x (ap (λ n. w.serial == n) (sym number) ∙ not_among look w.serial ws i v distinct.0 e) its.0, areas_now look ws areas i v a distinct.1.1 e number read within its.1)
  areas_now look [] (x ∷ areas) i v a distinct e number read within its = absurd its
  areas_now look (w ∷ ws) [] i v a distinct e number read within its = absurd its

-- ---- the window manager

module _ {V : Type 0} {H : V → Type 0} (loan : TakenBox V H → WindowLoan) (t : WindowManager V H) (slots : List WindowSlot) (whole : IsWholeManager loan t slots) (at : ℕ) (low : at < length t.windows.records.items) (w : Window V H) (there : IsWindowAt t.windows.records.items at w) (a : Area) (read : a ≡ get_or t.areas.items at a) where
  abbrev before : FullDesk
  before = desk_of loan t slots

  abbrev desk : LayeredDesk
  desk = layered_desk before

  -- the window manager, with this update region of the window, and these pixels on its screen
  abbrev pub with_update : Pixels → Bits → WindowManager V H
  with_update update screen = record t { screen = screen; areas = with_item t.areas at (record a { update = update }) }

  pub record_there : slice_get before.windows at ≡ Some (record_of loan w)
  record_there = slice_get-map (record_of loan) t.windows.records.items at ∙ ap (option_map (record_of loan)) (slice_get-get_or t.windows.records.items at w low ∙ ap Some (sym there))

  -- its area is that of the window
  pub area_is : IsArea desk (stale_in t.areas.items) w.serial a
  area_is =
      let its = area_at desk (stale_in t.areas.items) before.windows t.areas.items at a whole.areas (area_low loan t slots whole at low) in
      let both : Some its.0 ≡ Some (record_of loan w) = sym its.1 ∙ record_there in
      let same : its.0 ≡ record_of loan w = cc in
      subst (λ (k : ℕ × Area). IsArea desk (stale_in t.areas.items) k.0 k.1) (λ i. ((ap (λ (v : WindowRecord). v.serial) same) i, sym read i)) its.2

  module _ (update : Pixels) (within : (p : Point) → holds update p ≡ true → holds a.visible p ≡ true) where
    abbrev areas : List Area
    areas = slice_set t.areas.items at (record a { update = update })

    areas_after : AreAreasAfter (remarking w.serial update) (layered_state (state_of loan t slots)) desk before.windows areas
    areas_after = areas_now desk (bit t.screen) (stale_in t.areas.items) w.serial update (look_on t) before.windows t.areas.items at (record_of loan w) a whole.sound.distinct record_there refl read within whole.areas

    -- what is then stale
    pub stale_is : (p : Point) → layers.on_screen desk p ≡ true → stale_in areas p ≡ (if is_content_of w.serial (owner desk p) then holds update p else stale_in t.areas.items p)
    stale_is p on = updated_is_stale (look_on t) (remarking w.serial update) (layered_state (state_of loan t slots)) desk before.windows areas p refl areas_after on ∙ by_content (is_content (owner desk p)) refl
      where
        by_content : (b : Bool) → is_content (owner desk p) ≡ b → plain.stale_by (remarking w.serial update) (layered_state (state_of loan t slots)) (owner desk p) p ≡ (if is_content_of w.serial (owner desk p) then holds update p else stale_in t.areas.items p)
        by_content true c = content_stale desk (bit t.screen) (stale_in t.areas.items) w.serial update p on c
        by_content false c =
            unless (is_content (owner desk p)) false _ c
            ∙ sym ((λ i. if no_content w.serial (owner desk p) c i then holds update p else stale_in t.areas.items p) ∙ not_stale desk (stale_in t.areas.items) before.windows t.areas.items p whole.areas c)

    module _ (screen : Bits) (width : screen.width ≡ t.screen.width) (height : screen.height ≡ t.screen.height) (still : (p : Point) → layers.on_screen desk p ≡ true → is_content_of w.serial (owner desk p) ≡ false → bit screen p ≡ bit t.screen p) where
      pub desk_is : desk_of loan (with_update update screen) slots ≡ before
      desk_is = λ i. record before { width = pos (width i); height = pos (height i) }

      -- it is whole again
      pub is_whole : IsWholeManager loan (with_update update screen) slots
      is_whole = record {
        sound = subst IsSoundDesk (sym desk_is) whole.sound;
        gray = subst (λ (x : FullDesk). IsGray (layered_desk x) t.gray) (sym desk_is) whole.gray;
        desktop = subst (λ (x : FullDesk). IsDesktop (layered_desk x) t.desktop) (sym desk_is) whole.desktop;
        areas = subst (λ (x : FullDesk). AreAreas (layered_desk x) (stale_in areas) x.windows areas) (sym desk_is)
            (areas_are (look_on t) (remarking w.serial update) (layered_state (state_of loan t slots)) desk before.windows areas refl areas_after);
        frames = subst (λ (k : LayeredDesk). (p : Point) → layers.on_screen k p ≡ true → is_content (owner k p) ≡ false → bit screen p ≡ own_bit k (owner k p) p) (sym (ap layered_desk desk_is))
            (λ p on c. still p on (no_content w.serial (owner desk p) c) ∙ whole.frames p on c);
        layers = whole.layers;
      }

    -- nothing is drawn
    pub remarked : IsWholeManager loan (with_update update t.screen) slots × IsRemarked w.serial update (state_of loan t slots) (state_of loan (with_update update t.screen) slots)
    remarked = (is_whole t.screen refl refl (λ p on e. refl), record { desk = refl; image = refl; stale = stale_is })
