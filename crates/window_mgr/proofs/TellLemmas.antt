-- A window's own regions, moved into its own coordinates.
use Rattle.std.proofs.Common.{◌≡◌, ◌⊎◌, inl, inr, ℕ, ◌<◌, ◌==◌, ◌&&◌, Bool, true, false, if◌then◌else◌, List, [], ◌∷◌, length, get_or, set, map, None, Some, Result, Ok, Err, ℤ, pos, negsuc, ◌+ℤ◌, ◌-ℤ◌, ◌≤ℤ◌, ◌<ℤ◌, neg_ℤ, refl, sym, ap, ◌∙◌, subst, arith}
use Rattle.std.specs.Prelude.{MatchResult, is_none, slice_get}
use Rattle.std.specs.Vec.{with_item}
use Rattle.std.proofs.Math.IntN.{neg_ℤ-neg_ℤ, +ℤ-neg_ℤ_cancel, +ℤ_idl}
use Rattle.std.proofs.lemmas.Bool.{and_parts}
use Rattle.std.proofs.lemmas.Bool.Decides.{nat_tests}
use Rattle.std.proofs.lemmas.Int.{ints}
use Rattle.std.proofs.lemmas.List.{set-get_or}
use Rattle.std.proofs.lemmas.List.Elements.{All-nil}
use Rattle.std.proofs.lemmas.Option.{slice_get-map, slice_get-get_or}
use Rattle.std.specs.Option.{option_map}
use Rattle.tb_geom.specs.declared.point.Point.{Point}
use Rattle.tb_geom.specs.declared.rect.Rect.{Rect}
use Rattle.tb_geom.specs.declared.refusal.Refusal.{Refusal}
use Rattle.tb_geom.specs.declared.refusal.Refusal.TheVariants.{NoMemory, NoSuchWindow, TooLong}
use Rattle.tb_geom.specs.Points.{PixelSet, plus, minus}
use Rattle.tb_geom.specs.Rects.{between, in_plane, is_coordinate, is_in_range, rect_holds}
use Rattle.tb_geom.specs.Pixels.{Pixels, holds, pixels_where}
use Rattle.tb_geom.proofs.PixelsLemmas.{same_holds, test_holds}
use Rattle.tb_geom.proofs.RectLemmas.{sides_of}
use Rattle.scan_region.specs.Moves.{StaysInRange, is_pixel_in_range}
use Rattle.region_bytes.specs.Points.{points_of, inverted}
use Rattle.region_bytes.specs.Words.{bytes_of, words_of, box_of}
use Rattle.region_bytes.specs.Bytes.{IsRegionBytes, IsUnwritten}
use Rattle.region_bytes.proofs.Short.{none_canonical}
use Rattle.def_iface.specs.Slots.{TakenBox}
use Rattle.def_iface.specs.WindowMeaning.{WindowLoan}
use Rattle.def_iface.specs.Sizes.{is_size}
use Rattle.desk_layers.specs.Desk as layers
use Rattle.desk_layers.specs.Owner.{Owner, owner, owner_among}
use Rattle.desk_layers.specs.Owner.Owner.{Desktop, Bar, Frame, Content}
use Rattle.desk_layers.proofs.Owning.{is_other, owner_is_other}
use Rattle.window_list.specs.declared.window.Window.{Window}
use Rattle.vis_update.specs.declared.area.Area.{Area}
use Rattle.vis_update.specs.Records.{WindowRecord, Look, layered_window, record_of}
use Rattle.vis_update.specs.Areas.{IsArea, is_content_of, stale_in}
use Rattle.desk_call.specs.declared.window.WindowCall.TheVariants.{VisibleRegion, UpdateRegion}
use Rattle.desk_call.specs.declared.window.WindowReply.{WindowReply}
use Rattle.window_list.specs.Holders.{part_at}
use Rattle.vis_update.proofs.LayerOwners.{owner_first}
use Rattle.window_mgr.specs.declared.manager.WindowManager.{WindowManager}
use Rattle.window_mgr.specs.declared.tell.AskedRegion.{AskedRegion}
use Rattle.window_mgr.specs.declared.tell.AskedRegion.TheVariants.{Visible, Update}
use Rattle.window_mgr.specs.FullDesk.{FullDesk, layered_desk}
use Rattle.window_mgr.specs.Records.{desk_of, state_of, look_on}
use Rattle.window_mgr.specs.Finding.{record_with}
use Rattle.window_mgr.specs.Telling.{IsRegionOf, IsMeasured, AreRegionBytes, IsNotTold, seen_from, visible_of, update_of, asked_region, kept_region, asking, IsRegionTold}
use Rattle.tb_geom.specs.Refusals.{first_refusal}
use Rattle.window_mgr.specs.Refused.{IsRefusal, IsUntold, is_missing}
use Rattle.window_mgr.specs.Step.{IsCallRefused, IsWindowStep}
use Rattle.window_mgr.specs.Kept.{IsKept}
use Rattle.window_mgr.specs.Planned.{SameDesk}
use Rattle.window_mgr.specs.Whole.{IsSettled}
use Rattle.desk_ground.specs.Screens.{is_screen_side}
use Rattle.window_mgr.proofs.SameDeskLemmas.{stays_whole, stays_unchanged, stays_refused}
use Rattle.window_mgr.proofs.Seating.{as_many}
use Rattle.window_mgr.proofs.DrawRefusals.{record_there}
use Rattle.window_mgr.proofs.DrawLemmas.{window_settled}
use Rattle.window_mgr.proofs.FindLemmas.{area_at}
use Rattle.window_mgr.specs.Updating.{LeavesState}

-- ---- points there and back

back_one : (x d : ℤ) → (x -ℤ neg_ℤ d) ≡ (x +ℤ d)
back_one x d = ap (λ k. x +ℤ k) (neg_ℤ-neg_ℤ d)

apart_one : (x d : ℤ) → ((x -ℤ d) +ℤ d) ≡ x
apart_one x d = sym (back_one (x -ℤ d) d) ∙ +ℤ-neg_ℤ_cancel x (neg_ℤ d)

-- the way back
abbrev back : Point → Point
back o = record { h = neg_ℤ o.h; v = neg_ℤ o.v }

pub again_there : (p o : Point) → plus (minus p o) o ≡ p
again_there p o = λ i. record { h = apart_one p.h o.h i; v = apart_one p.v o.v i }

again_here : (p o : Point) → minus (plus p o) o ≡ p
again_here p o = λ i. record { h = +ℤ-neg_ℤ_cancel p.h o.h i; v = +ℤ-neg_ℤ_cancel p.v o.v i }

minus_back : (p o : Point) → minus p (back o) ≡ plus p o
minus_back p o = λ i. record { h = back_one p.h o.h i; v = back_one p.v o.v i }

-- ---- the bytes of a region, moved there and back

-- the same of equal pixels
measured_as : (set other : PixelSet) → ((p : Point) → set p ≡ other p) → (long : Bool) → IsMeasured set long → IsMeasured other long
measured_as set other same long (region, is, measured) = (region, (λ p. is p ∙ same p), measured)

-- the way back is where 0 0 is seen from the origin
module _ (r : Pixels) (o b : Point) (b_is : b ≡ minus (record { h = pos 0; v = pos 0 }) o) where
  is_way_back : b ≡ back o
  is_way_back = b_is ∙ (λ i. record { h = +ℤ_idl (neg_ℤ o.h) i; v = +ℤ_idl (neg_ℤ o.v) i })

  pub stays_there : ((p : Point) → holds r (plus p o) ≡ true → is_pixel_in_range p ≡ true) → StaysInRange r b
  stays_there inside = subst (StaysInRange r) (sym is_way_back) (λ p e. inside (plus p (back o)) (ap (holds r) (again_there p o) ∙ e))

  module _ (m : Pixels) (moved : (p : Point) → holds m p ≡ holds r (minus p b)) where
    pub there : IsRegionOf (λ p. holds r (plus p o)) m
    there p = moved p ∙ ap (λ w. holds r (minus p w)) is_way_back ∙ ap (holds r) (minus_back p o)

    pub stays_back : ((p : Point) → holds r p ≡ true → is_pixel_in_range p ≡ true) → StaysInRange m o
    stays_back inside p e = inside (plus p o) (sym (there p) ∙ e)

    pub is_back : (n : Pixels) → ((p : Point) → holds n p ≡ holds m (minus p o)) → n ≡ r
    is_back n again = same_holds n r (λ p. again p ∙ there (minus p o) ∙ ap (holds r) (again_there p o))

    pub told : {X : Type 0} (items : X → List ℕ) (result : Result X Refusal) → MatchResult result (λ b. IsRegionBytes (items b) m) (IsUnwritten m)
        → MatchResult result (λ b. AreRegionBytes (λ p. holds r (plus p o)) (items b)) (IsNotTold (λ p. holds r (plus p o)))
    told items (Ok b) written = (m, there, written)
    told items (Err e) (inl (is, long)) = inl (is, (m, there, long))
    told items (Err e) (inr (is, bytes)) = inr (is, (m, there, bytes))

-- ---- the region of no pixel

abbrev none : Pixels
none = pixels_where (λ h v. false)

none_holds : (p : Point) → holds none p ≡ false
none_holds p = test_holds (λ h v. false) p ∙ by_test (in_plane p)
  where
    by_test : (b : Bool) → (b && false) ≡ false
    by_test true = refl
    by_test false = refl

none_bytes : IsRegionBytes (bytes_of []) none
unfolding bytes_of words_of box_of points_of inverted
none_bytes = record {
  rows = [];
  canonical = none_canonical;
  in_range = All-nil _;
  pixels = none_holds;
  written = refl;
  fits = omega arith;
}

-- ---- the pixels of a window's content

coordinate_in : (low high x : ℤ) → is_coordinate low ≡ true → is_coordinate high ≡ true → low ≤ℤ x → x <ℤ high → between (negsuc 16383) x (pos 16383) ≡ true
coordinate_in low high x a b l m = grind (arith, ints)

-- a pixel of a rectangle in range is in range
box_in : (r : Rect) (p : Point) → is_in_range r ≡ true → rect_holds r p ≡ true → is_pixel_in_range p ≡ true
box_in r p fits e =
    let sides = sides_of r p e in
    let l = and_parts (is_coordinate r.left) _ fits in
    let t = and_parts (is_coordinate r.top) _ l.1 in
    let b = and_parts (is_coordinate r.right) _ t.1 in
    λ i. coordinate_in r.left r.right p.h l.0 b.0 sides.left sides.right i && coordinate_in r.top r.bottom p.v t.0 b.1 sides.top sides.bottom i

-- so is one of a screen
side_in : (x n : ℤ) → is_screen_side n ≡ true → between (pos 0) x n ≡ true → between (negsuc 16383) x (pos 16383) ≡ true
side_in x n s e = grind (arith, ints)

-- an owner is not of one window and of no layer of it
not_both : (s t : ℕ) (o : Owner) → (t == s) ≡ true → is_other t o ≡ true → is_content_of s o ≡ true → ⊥
not_both s t Desktop same other its = cc
not_both s t Bar same other its = cc
not_both s t (Frame n) same other its = cc
not_both s t (Content n part) same other its = grind (arith, nat_tests)

-- the pixel lies in the content of the window
abbrev LiesIn : WindowRecord → Point → Type 0
LiesIn w p = w.definition.content w.size (minus p w.place) ≡ true

-- the content of the window of this serial owns the pixel, among these windows
abbrev Owns : Look → List WindowRecord → ℕ → Point → Type 0
Owns look ws s p = is_content_of s (owner_among (map (layered_window look) ws) p) ≡ true

-- what the content of a window owns lies in its content
content_has : (look : Look) (ws : List WindowRecord) (s : ℕ) (w : WindowRecord) (p : Point) → layers.AreWindows (map (layered_window look) ws) → record_with s ws ≡ Some w → Owns look ws s p → LiesIn w p
content_has look [] s w p distinct e its = absurd (cc)
content_has look (v ∷ ws) s w p distinct e its = by_tests (λ k owned. content_has look ws s w p distinct.1.1 k owned) (layers.in_structure (layered_window look v) p) (v.definition.content v.size (minus p v.place)) refl (sym (ap (is_content_of s) (owner_first look v ws p)) ∙ its)
  where
    behind : (record_with s ws ≡ Some w → Owns look ws s p → LiesIn w p) → (b : Bool) → (v.serial == s) ≡ b → Owns look ws s p → LiesIn w p
    behind rest true n owned = absurd (not_both s v.serial _ n (owner_is_other (map (layered_window look) ws) p v.serial distinct.0) owned)
    behind rest false n owned = rest (sym (ap (λ b. if b then Some v else record_with s ws) n) ∙ e) owned

    by_tests : (record_with s ws ≡ Some w → Owns look ws s p → LiesIn w p) → (a b : Bool) → v.definition.content v.size (minus p v.place) ≡ b → is_content_of s (if a then (if b then Content v.serial (part_at v.layers (minus p v.place)) else Frame v.serial) else owner_among (map (layered_window look) ws) p) ≡ true → LiesIn w p
    by_tests rest true true c owned =
        let first : v ≡ w = let both : Some v ≡ Some w = sym (ap (λ b. if b then Some v else record_with s ws) owned) ∙ e in cc in
        sym (ap (λ (x : WindowRecord). x.definition.content x.size (minus p x.place)) first) ∙ c
    by_tests rest true false c owned = absurd (cc)
    by_tests rest false b c owned = behind rest (v.serial == s) refl owned

not_bar : (s : ℕ) (b : Bool) (o : Owner) → is_content_of s (if b then Bar else o) ≡ true → is_content_of s o ≡ true
not_bar s true o e = absurd (cc)
not_bar s false o e = e

-- ---- the regions of the window at a place of the list

-- an area that is put back as it was
pub put_back : (areas : List Area) (at : ℕ) (a b : Area) → a ≡ get_or areas at a → b ≡ a → set areas at b ≡ areas
put_back areas at a b read same = ap (set areas at) (same ∙ read) ∙ set-get_or areas at a

module _ {V : Type 0} {H : V → Type 0} (loan : TakenBox V H → WindowLoan) (t : WindowManager V H) (kept : IsKept loan t) (s : ℕ) where
  abbrev pub desk : FullDesk
  desk = desk_of loan t []

  -- what the content of the window owns
  abbrev pub own : PixelSet
  own p = layers.on_screen (layered_desk desk) p && is_content_of s (owner (layered_desk desk) p)

  -- a window that is not there
  missing_first : (set : PixelSet) → record_with s desk.windows ≡ None → IsUntold s (seen_from (record_with s desk.windows) set) desk (Some NoSuchWindow)
  missing_first set missing = (
    false,
    (none, (λ p. none_holds p ∙ sym (ap (λ o. seen_from o set p) missing)), (bytes_of [], none_bytes)),
    ap (λ o. if is_none o then Some NoSuchWindow else None) missing,
  )

  pub missing_refused : (told : AskedRegion) → record_with s desk.windows ≡ None → IsCallRefused (asking told s) NoSuchWindow (state_of loan t [])
  missing_refused Visible missing = inl (missing_first _ missing)
  missing_refused Update missing = inl (missing_first _ missing)

  module _ (at : ℕ) (x : Window V H) (low : at < length t.windows.records.items) (read : x ≡ get_or t.windows.records.items at x) (serial : x.serial ≡ s) where
    pub found : record_with s desk.windows ≡ Some (record_of loan x)
    found = record_there loan t kept at s x (slice_get-get_or t.windows.records.items at x low ∙ ap Some (sym read)) serial

    pub settled : IsSettled (record_of loan x)
    settled = window_settled loan t kept at x (slice_get-get_or t.windows.records.items at x low ∙ ap Some (sym read))

    -- what the content owns is in range on the screen
    pub screen_in : (p : Point) → own p ≡ true → is_pixel_in_range p ≡ true
    screen_in p e =
        let on = and_parts (layers.on_screen (layered_desk desk) p) _ e in
        let sides = and_parts (between (pos 0) p.h (pos t.screen.width)) _ on.0 in
        let wide = and_parts (is_screen_side (pos t.screen.width)) _ kept.whole.sound.screen in
        let high = and_parts (is_screen_side (pos t.screen.height)) _ wide.1 in
        λ i. side_in p.h (pos t.screen.width) wide.0 sides.0 i && side_in p.v (pos t.screen.height) high.0 sides.1 i

    -- and in the window's own coordinates
    pub local_in : (p : Point) → own (plus p x.place) ≡ true → is_pixel_in_range p ≡ true
    local_in p e =
        let its = (and_parts (layers.on_screen (layered_desk desk) (plus p x.place)) _ e).1 in
        let held = content_has (look_on t) desk.windows s (record_of loan x) (plus p x.place) kept.whole.sound.distinct found (not_bar s _ _ its) in
        let boxed = settled.within p (sym (ap ((loan x.taken).definition.content x.size) (again_here p x.place)) ∙ held) in
        box_in ((loan x.taken).definition.bounds x.size) p (and_parts (is_size x.size) _ settled.fits).1 boxed

    -- the region of these pixels is told as the call asks, which nothing refuses but that its bytes are too long, or memory
    told_where : {X : Type 0} (items : X → List ℕ) (result : Result X Refusal) (set other : PixelSet) → ((p : Point) → set p ≡ other p)
        → MatchResult result (λ b. AreRegionBytes set (items b)) (IsNotTold set)
        → MatchResult result (λ b. IsUntold s other desk None × AreRegionBytes other (items b)) (λ e. IsUntold s other desk (Some e) ⊎ (IsUntold s other desk None × ((true ≡ true) × (e ≡ NoMemory))))
    told_where items (Ok b) set other same (region, is, written) = ((false, (region, (λ p. is p ∙ same p), (items b, written)), unrefused), (region, (λ p. is p ∙ same p), written))
      where
        unrefused : first_refusal ((is_missing s desk.windows, NoSuchWindow) ∷ (false, TooLong) ∷ []) ≡ None
        unrefused = ap (λ o. first_refusal ((is_none o, NoSuchWindow) ∷ (false, TooLong) ∷ [])) found
    told_where items (Err e) set other same (inl (is, long)) = inl (true, measured_as set other same true long, ap (λ o. first_refusal ((is_none o, NoSuchWindow) ∷ (true, TooLong) ∷ [])) found ∙ ap Some (sym is))
    told_where items (Err e) set other same (inr (is, short)) = inr ((false, measured_as set other same false short, ap (λ o. first_refusal ((is_none o, NoSuchWindow) ∷ (false, TooLong) ∷ [])) found), (refl, is))

    -- the window's area
    module _ (a : Area) (a_is : a ≡ get_or t.areas.items at a) where
      pub area_is : IsArea (layered_desk desk) (stale_in t.areas.items) s a
      area_is =
          let long = as_many loan t kept in
          let there = area_at (layered_desk desk) (stale_in t.areas.items) desk.windows t.areas.items at a kept.whole.areas (omega arith) in
          subst (λ (y : ℕ × Area). IsArea (layered_desk desk) (stale_in t.areas.items) y.0 y.1) (λ i. (serial_is there.0 there.1 i, sym a_is i)) there.2
        where
          serial_is : (v : WindowRecord) → slice_get desk.windows at ≡ Some v → v.serial ≡ s
          serial_is v v_is =
              let here : slice_get desk.windows at ≡ Some (record_of loan x) = slice_get-map (record_of loan) t.windows.records.items at ∙ ap (option_map (record_of loan)) (slice_get-get_or t.windows.records.items at x low ∙ ap Some (sym read)) in
              let same : v ≡ record_of loan x = let both : Some v ≡ Some (record_of loan x) = sym v_is ∙ here in cc in
              ap (λ (w : WindowRecord). w.serial) same ∙ serial

      -- its visible region is what the content owns
      visible_seen : (p : Point) → holds a.visible (plus p x.place) ≡ visible_of s (state_of loan t []) p
      visible_seen p = area_is.visible (plus p x.place) ∙ sym (ap (λ o. seen_from o own p) found)

      -- and its update region what of that is stale
      pub update_seen : (p : Point) → holds a.update (plus p x.place) ≡ update_of s (state_of loan t []) p
      update_seen p =
          area_is.update (plus p x.place) ∙ ap (λ b. b && stale_in t.areas.items (plus p x.place)) (area_is.visible (plus p x.place))
          ∙ sym (ap (λ o. seen_from o (λ q. own q && stale_in t.areas.items q) p) found)

      -- so the call tells it
      pub region_told : (told : AskedRegion) {X : Type 0} (items : X → List ℕ) (result : Result X Refusal)
          → MatchResult result (λ b. AreRegionBytes (λ p. holds (kept_region told a) (plus p x.place)) (items b)) (IsNotTold (λ p. holds (kept_region told a) (plus p x.place)))
          → MatchResult result (λ b. IsRefusal (asking told s) (state_of loan t []) None × AreRegionBytes (asked_region told s (state_of loan t [])) (items b)) (λ e. IsCallRefused (asking told s) e (state_of loan t []))
      region_told Visible items result its = told_where items result _ _ visible_seen its
      region_told Update items result its = told_where items result _ _ update_seen its

      -- both can be moved
      visible_too : (told : AskedRegion) (p : Point) → holds (kept_region told a) p ≡ true → holds a.visible p ≡ true
      visible_too Visible p e = e
      visible_too Update p e = (and_parts (holds a.visible p) _ (sym (area_is.update p) ∙ e)).0

      pub region_local : (told : AskedRegion) (p : Point) → holds (kept_region told a) (plus p x.place) ≡ true → is_pixel_in_range p ≡ true
      region_local told p e = local_in p (sym (area_is.visible (plus p x.place)) ∙ visible_too told (plus p x.place) e)

      pub region_screen : (told : AskedRegion) (p : Point) → holds (kept_region told a) p ≡ true → is_pixel_in_range p ≡ true
      region_screen told p e = screen_in p (sym (area_is.visible p) ∙ visible_too told p e)

  -- ---- the call

  -- an area that is put back as it was leaves the desk
  pub same_desk : (at : ℕ) (a b : Area) → a ≡ get_or t.areas.items at a → b ≡ a → SameDesk t (record t { areas = with_item t.areas at b })
  same_desk at a b read same = record {
    screen = refl;
    bar = refl;
    font = refl;
    gray = refl;
    desktop = refl;
    windows = refl;
    areas = put_back t.areas.items at a b read same;
    active = refl;
    next = refl;
  }

  -- a region that is told, or not, on a desk that stays
  pub region_step : (told : AskedRegion) (u : WindowManager V H) (answer : WindowReply) → SameDesk t u → IsRefusal (asking told s) (state_of loan t []) None → IsRegionTold (asked_region told s (state_of loan t [])) answer → LeavesState loan (IsWindowStep (asking told s) (Ok answer)) t u
  region_step Visible u answer same allowed its slots whole = (stays_whole loan t u slots slots same refl whole, (allowed, (its, stays_unchanged loan t u slots slots same refl)))
  region_step Update u answer same allowed its slots whole = (stays_whole loan t u slots slots same refl whole, (allowed, (its, stays_unchanged loan t u slots slots same refl)))

  pub region_refused : (told : AskedRegion) (u : WindowManager V H) (e : Refusal) → SameDesk t u → IsCallRefused (asking told s) e (state_of loan t []) → LeavesState loan (IsWindowStep (asking told s) (Err e)) t u
  region_refused Visible u e same refused = stays_refused loan t u same (VisibleRegion s) e (λ slots whole. refused)
  region_refused Update u e same refused = stays_refused loan t u same (UpdateRegion s) e (λ slots whole. refused)
