-- The window that has a pixel is its owner's.
use Rattle.std.proofs.Common.{◌≡◌, ℕ, zero, suc, ◌<◌, ◌≤◌, ◌==◌, ◌&&◌, ◌||◌, Bool, true, false, if◌then◌else◌, List, [], ◌∷◌, length, get_or, map, Option, Some, None, refl, sym, ap, ◌∙◌, subst, arith, position}
use Rattle.std.specs.Prelude.{slice_get, IsSomeAnd, MatchOption}
use Rattle.std.proofs.lemmas.Bool.{false≢true, and_parts, eqb-true}
use Rattle.std.proofs.lemmas.Bool.Decides.{nat_tests}
use Rattle.std.proofs.lemmas.Option.{slice_get-map, slice_get-get_or, slice_get_within}
use Rattle.std.proofs.lemmas.List.{length-map, get_or-map}
use Rattle.std.proofs.lemmas.List.Sums.{fails_before_first}
use Rattle.std.proofs.lemmas.Grind.{common_steps}
use Rattle.std.specs.List.{position_or_len}
use Rattle.std.specs.Option.{option_map}
use Rattle.std.proofs.lemmas.List.Quantifiers.{position-Some}
use Rattle.tb_geom.specs.declared.point.Point.{Point}
use Rattle.tb_geom.specs.Points.{PixelSet, minus}
use Rattle.tb_geom.specs.Pixels.{holds}
use Rattle.def_iface.specs.WindowNews.{no_news}
use Rattle.def_iface.specs.Slots.{TakenBox}
use Rattle.def_iface.specs.WindowMeaning.{WindowLoan}
use Rattle.desk_layers.specs.Desk as layers
use Rattle.desk_layers.specs.Desk.{LayeredDesk}
use Rattle.desk_layers.specs.Owner.{Owner, owner, owner_among, same_owner}
use Rattle.desk_layers.specs.Owner.Owner.{Desktop, Bar, Frame, Content}
use Rattle.desk_layers.proofs.Owning.{same_number, same_owner-true, not_first}
use Rattle.vis_update.specs.declared.area.Area.{Area}
use Rattle.window_list.specs.Holders.{part_at as layer_at}
use Rattle.vis_update.proofs.LayerOwners.{first_owner, owner_first}
use Rattle.window_mgr.specs.declared.manager.WindowManager.{WindowManager}
use Rattle.window_list.specs.declared.window.Window.{Window}
use Rattle.window_list.specs.Lists.{first_leading, leads, has_serial}
use Rattle.vis_update.specs.Records.{WindowRecord, Look, layered_window}
use Rattle.window_mgr.specs.FullDesk.{layered_desk}
use Rattle.vis_update.specs.Records.{record_of}
use Rattle.window_mgr.specs.Records.{desk_of, look_on}
use Rattle.vis_update.specs.Areas.{stale_in}
use Rattle.window_mgr.specs.Kept.{IsKept}
use Rattle.vis_update.specs.Areas.{area_has}
use Rattle.desk_call.specs.declared.window.WindowPart.TheVariants as part
use Rattle.window_mgr.specs.Edits.{StandsAt}
use Rattle.window_mgr.proofs.EditSeats.{there_is}
use Rattle.window_mgr.specs.Finding.{front_of, record_with, found_by, found_none, found_window, found_at, window_part_at, part_of_hit}
use Rattle.vis_update.specs.Areas.{IsArea, AreAreas, is_content_of}
use Rattle.window_mgr.specs.Whole.{IsSettled}

-- where nothing passes, each fails
position-None : {X : Type 0} (f : X → Bool) (xs : List X) → position f xs ≡ None → (i : ℕ) (d : X) → i < length xs → f (get_or xs i d) ≡ false
position-None f xs e i d within =
    let past : length xs ≤ position_or_len f xs = grind (arith, common_steps) in
    fails_before_first f xs i d (omega arith)

-- ---- the window at a place of the list

-- each area is its window's
pub area_at : (desk : LayeredDesk) (stale : PixelSet) (ws : List WindowRecord) (areas : List Area) (i : ℕ) (d : Area) → AreAreas desk stale ws areas → i < length areas → (v : WindowRecord) × (slice_get ws i ≡ Some v) × IsArea desk stale v.serial (get_or areas i d)
area_at desk stale [] [] i d h within = absurd (omega arith)
area_at desk stale (w ∷ ws) (a ∷ areas) zero d h within = (w, refl, h.0)
area_at desk stale (w ∷ ws) (a ∷ areas) (suc i) d h within = area_at desk stale ws areas i d h.1 (omega arith)
area_at desk stale [] (a ∷ areas) i d h within = absurd h
area_at desk stale (w ∷ ws) [] i d h within = absurd h

-- a number that no window has is not this window's
pub not_among : (look : Look) (s : ℕ) (ws : List WindowRecord) (i : ℕ) (v : WindowRecord) → layers.window_of s (map (layered_window look) ws) ≡ None → slice_get ws i ≡ Some v → (s == v.serial) ≡ false
not_among look s [] i v none e = absurd (cc)
not_among look s (w ∷ ws) zero v none e =
    let same : w ≡ v = cc in
    let away : (w.serial == s) ≡ false = (not_first (w.serial == s) _ _ none).0 in
    let other : (v.serial == s) ≡ false = sym (ap (λ (x : WindowRecord). x.serial == s) same) ∙ away in
    grind (arith, nat_tests)
not_among look s (w ∷ ws) (suc i) v none e = not_among look s ws i v (not_first (w.serial == s) _ _ none).1 e

-- the window at a place is the one of its number
pub record_at : (look : Look) (ws : List WindowRecord) (i : ℕ) (v : WindowRecord) → layers.AreWindows (map (layered_window look) ws) → slice_get ws i ≡ Some v → record_with v.serial ws ≡ Some v
record_at look [] i v distinct e = absurd (cc)
record_at look (w ∷ ws) zero v distinct e =
    let same : w ≡ v = cc in
    rw (ap (λ (x : WindowRecord). x.serial == v.serial) same ∙ same_number v.serial) (ap Some same)
record_at look (w ∷ ws) (suc i) v distinct e = rw (not_among look w.serial ws i v distinct.0 e) (record_at look ws i v distinct.1.1 e)

-- ---- whose the pixel is

-- a window whose area has the pixel is its owner's
found_there : (desk : LayeredDesk) (stale : PixelSet) (ws : List WindowRecord) (v : WindowRecord) (a : Area) (p : Point) → IsArea desk stale v.serial a → area_has p a ≡ true → found_by ws (owner desk p) p ≡ found_window v.serial ws p
found_there desk stale ws v a p its has = by_visible (holds a.visible p) refl
  where
    content_is : (o : Owner) → is_content_of v.serial o ≡ true → found_by ws o p ≡ found_window v.serial ws p
    content_is Desktop e = absurd (cc)
    content_is Bar e = absurd (cc)
    content_is (Frame s) e = absurd (cc)
    content_is (Content s part) e = let same : s ≡ v.serial = grind (arith, nat_tests) in ap (λ n. found_window n ws p) same

    by_visible : (b : Bool) → holds a.visible p ≡ b → found_by ws (owner desk p) p ≡ found_window v.serial ws p
    by_visible true seen = content_is (owner desk p) (and_parts _ _ (sym (its.visible p) ∙ seen)).1
    by_visible false unseen =
        let framed : holds a.frame p ≡ true = sym (ap (λ b. b || holds a.frame p) unseen) ∙ has in
        ap (λ o. found_by ws o p) (same_owner-true (owner desk p) (Frame v.serial) (and_parts _ _ (sym (its.frame p) ∙ framed)).1)

-- no window of the list has the pixel
abbrev NoneHas : List WindowRecord → Owner → Type 0
NoneHas [] o = Unit {0}
NoneHas (w ∷ ws) o = ((is_content_of w.serial o ≡ false) × (same_owner o (Frame w.serial) ≡ false)) × NoneHas ws o

nowhere : (look : Look) (ws : List WindowRecord) (p : Point) → NoneHas ws (owner_among (map (layered_window look) ws) p) → owner_among (map (layered_window look) ws) p ≡ Desktop
nowhere look [] p none = refl
nowhere look (w ∷ ws) p none = by_structure (nowhere look ws p) (layers.in_structure (layered_window look w) p) refl
  where
    within : (c : Bool) → ((is_content_of w.serial (if c then Content w.serial (layer_at w.layers (minus p w.place)) else Frame w.serial) ≡ false) × (same_owner (if c then Content w.serial (layer_at w.layers (minus p w.place)) else Frame w.serial) (Frame w.serial) ≡ false)) → ⊥
    within true h = false≢true (sym h.0 ∙ same_number w.serial)
    within false h = false≢true (sym h.1 ∙ same_number w.serial)

    by_structure : (NoneHas ws (owner_among (map (layered_window look) ws) p) → owner_among (map (layered_window look) ws) p ≡ Desktop) → (b : Bool) → layers.in_structure (layered_window look w) p ≡ b → owner_among (map (layered_window look) (w ∷ ws)) p ≡ Desktop
    by_structure rest true e =
        let its : owner_among (map (layered_window look) (w ∷ ws)) p ≡ (if w.definition.content w.size (minus p w.place) then Content w.serial (layer_at w.layers (minus p w.place)) else Frame w.serial) = owner_first look w ws p ∙ ap (λ b. first_owner w p b (owner_among (map (layered_window look) ws) p)) e in
        absurd (within (w.definition.content w.size (minus p w.place)) (subst (λ o. (is_content_of w.serial o ≡ false) × (same_owner o (Frame w.serial) ≡ false)) its none.0))
    by_structure rest false e =
        let behind : owner_among (map (layered_window look) (w ∷ ws)) p ≡ owner_among (map (layered_window look) ws) p = owner_first look w ws p ∙ ap (λ b. first_owner w p b (owner_among (map (layered_window look) ws) p)) e in
        behind ∙ rest (subst (λ o. NoneHas ws o) behind none.1)

-- where no area has a pixel of the screen, no window has it
none_has : (desk : LayeredDesk) (stale : PixelSet) (ws : List WindowRecord) (areas : List Area) (p : Point) → layers.on_screen desk p ≡ true → AreAreas desk stale ws areas → ((i : ℕ) (d : Area) → i < length areas → area_has p (get_or areas i d) ≡ false) → NoneHas ws (owner desk p)
none_has desk stale [] [] p on h none = tt
none_has desk stale (w ∷ ws) (a ∷ areas) p on h none = (here, none_has desk stale ws areas p on h.1 (λ i d within. none (suc i) d (omega arith)))
  where
    or_parts : (x y : Bool) → (x || y) ≡ false → (x ≡ false) × (y ≡ false)
    or_parts true y e = absurd (cc)
    or_parts false y e = (refl, e)

    here : (is_content_of w.serial (owner desk p) ≡ false) × (same_owner (owner desk p) (Frame w.serial) ≡ false)
    here =
        let parts = or_parts (holds a.visible p) (holds a.frame p) (none 0 a (omega arith)) in
        (ap (λ b. b && is_content_of w.serial (owner desk p)) (sym on) ∙ sym (h.0.visible p) ∙ parts.0, ap (λ b. b && same_owner (owner desk p) (Frame w.serial)) (sym on) ∙ sym (h.0.frame p) ∙ parts.1)
none_has desk stale [] (a ∷ areas) p on h none = absurd h
none_has desk stale (w ∷ ws) [] p on h none = absurd h

-- ---- what is found on a window manager

module _ {V : Type 0} {H : V → Type 0} (loan : TakenBox V H → WindowLoan) (t : WindowManager V H) (A : IsKept loan t) (p : Point) where
  abbrev desk : LayeredDesk
  desk = layered_desk (desk_of loan t [])

  abbrev windows : List WindowRecord
  windows = (desk_of loan t []).windows

  -- the place of an area that has the point is a window's
  pub within : (i : ℕ) → position (area_has p) t.areas.items ≡ Some i → i < length t.windows.records.items
  within i e = by_areas t.areas.items A.whole.areas e
    where
      by_areas : (areas : List Area) → AreAreas desk (stale_in t.areas.items) windows areas → position (area_has p) areas ≡ Some i → i < length t.windows.records.items
      by_areas [] its e = absurd (cc)
      by_areas (a ∷ areas) its e =
          let found = area_at desk (stale_in t.areas.items) windows (a ∷ areas) i a its (position-Some (area_has p) (a ∷ areas) i a e).0 in
          let there : i < length windows = slice_get_within windows i found.0 found.1 in
          let long : length windows ≡ length t.windows.records.items = length-map t.windows.records.items (record_of loan) in
          omega arith

  -- its definition can be asked
  pub settled_at : (i : ℕ) (x : Window V H) → i < length t.windows.records.items → x ≡ get_or t.windows.records.items i x → IsSettled (record_of loan x)
  settled_at i x low read =
      let long : length windows ≡ length t.windows.records.items = length-map t.windows.records.items (record_of loan) in
      subst IsSettled (get_or-map (record_of loan) t.windows.records.items i x (record_of loan x) low ∙ ap (record_of loan) (sym read)) (A.whole.sound.settled i (record_of loan x) (omega arith))

  -- the window whose area has the point is what is found
  pub found_window_is : (i : ℕ) (x : Window V H) → layers.on_screen desk p ≡ true → position (area_has p) t.areas.items ≡ Some i → x ≡ get_or t.windows.records.items i x
      → found_at (desk_of loan t []) p ≡ record { part = part_of_hit ((loan x.taken).definition.hit no_news (minus p x.place)); window = Some x.serial }
  found_window_is i x on e read = by_areas t.areas.items A.whole.areas e
    where
      low : i < length t.windows.records.items
      low = within i e

      there : slice_get windows i ≡ Some (record_of loan x)
      there = slice_get-map (record_of loan) t.windows.records.items i ∙ ap (option_map (record_of loan)) (slice_get-get_or t.windows.records.items i x low ∙ ap Some (sym read))

      by_areas : (areas : List Area) → AreAreas desk (stale_in t.areas.items) windows areas → position (area_has p) areas ≡ Some i → found_at (desk_of loan t []) p ≡ record { part = part_of_hit ((loan x.taken).definition.hit no_news (minus p x.place)); window = Some x.serial }
      by_areas [] its e = absurd (cc)
      by_areas (a ∷ areas) its e =
          let first = position-Some (area_has p) (a ∷ areas) i a e in
          let found = area_at desk (stale_in t.areas.items) windows (a ∷ areas) i a its first.0 in
          let same : found.0 ≡ record_of loan x = let both : Some found.0 ≡ Some (record_of loan x) = sym found.1 ∙ there in cc in
          let owned : found_by windows (owner desk p) p ≡ found_window found.0.serial windows p = found_there desk (stale_in t.areas.items) windows found.0 _ p found.2 first.1 in
          let its_record : record_with x.serial windows ≡ Some (record_of loan x) = record_at (look_on t) windows i (record_of loan x) A.whole.sound.distinct there in
          rw on (owned ∙ ap (λ (v : WindowRecord). found_window v.serial windows p) same ∙ ap (λ r. record { part = window_part_at r p; window = Some x.serial }) its_record)

  -- where no area has it, it is the desktop's
  pub found_desk_is : layers.on_screen desk p ≡ true → layers.in_bar desk p ≡ false → position (area_has p) t.areas.items ≡ None → found_at (desk_of loan t []) p ≡ found_none part.InDesk
  found_desk_is on low e =
      let none = none_has desk (stale_in t.areas.items) windows t.areas.items p on A.whole.areas (λ i d within. position-None (area_has p) t.areas.items e i d within) in
      let among : owner desk p ≡ owner_among (map (layered_window (look_on t)) windows) p = rw low refl in
      let its : owner desk p ≡ Desktop = among ∙ nowhere (look_on t) windows p (subst (λ o. NoneHas windows o) among none) in
      rw on (ap (λ o. found_by windows o p) its)

-- the first visible ordinary window, of the list and of its records
pub front-records : {V : Type 0} {H : V → Type 0} (loan : TakenBox V H → WindowLoan) (ws : List (Window V H)) → front_of (map (record_of loan) ws) ≡ first_leading ws
front-records loan [] = refl
front-records loan (w ∷ ws) = ap (λ o. if leads w then Some w.serial else o) (front-records loan ws)

-- what the search for a number among the windows tells
module _ {V : Type 0} {H : V → Type 0} (loan : TakenBox V H → WindowLoan) (s : ℕ) where
  missing : (ws : List (Window V H)) → ((i : ℕ) (d : Window V H) → i < length ws → has_serial s (get_or ws i d) ≡ false) → record_with s (map (record_of loan) ws) ≡ None
  missing [] none = refl
  missing (w ∷ ws) none =
      (λ i. if none 0 w (omega arith) i then Some (record_of loan w) else record_with s (map (record_of loan) ws)) ∙ missing ws (λ k d low. none (suc k) d (omega arith))

  stands : (ws : List (Window V H)) (i : ℕ) → position (has_serial s) ws ≡ Some i → StandsAt ws s i
  stands [] i e = absurd (cc)
  stands (w ∷ ws) i e = (
    (position-Some (has_serial s) (w ∷ ws) i w e).0,
    λ v v_is. ap (λ (z : Window V H). z.serial) v_is ∙ eqb-true _ s (position-Some (has_serial s) (w ∷ ws) i v e).1,
  )

  pub numbered_at : (ws : List (Window V H)) (o : Option ℕ) → o ≡ position (has_serial s) ws
      → MatchOption o (record_with s (map (record_of loan) ws) ≡ None) (StandsAt ws s)
  numbered_at ws o e = by_answer o (sym e)
    where
      by_answer : (a : Option ℕ) → position (has_serial s) ws ≡ a → MatchOption a (record_with s (map (record_of loan) ws) ≡ None) (StandsAt ws s)
      by_answer None f = missing ws (position-None (has_serial s) ws f)
      by_answer (Some i) f = stands ws i f

-- the window at the place is there
pub some_at : {V : Type 0} {H : V → Type 0} (ws : List (Window V H)) (s i : ℕ) → StandsAt ws s i → IsSomeAnd (slice_get ws i) (λ w. w.serial ≡ s)
some_at ws s i at =
    let w = there_is ws i at.0 in
    rw (slice_get-get_or ws i w.0 at.0) (ap (λ (z : Window _ _). z.serial) (sym w.1) ∙ at.1 w.0 w.1)
