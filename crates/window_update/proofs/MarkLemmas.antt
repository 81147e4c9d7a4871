-- A window's update region, with pixels marked.
use Rattle.std.proofs.Common.{◌≡◌, ℕ, ◌<◌, Bool, true, false, ◌&&◌, ◌||◌, [], length, Result, Ok, Err, pos, refl, sym, ap, ◌∙◌, arith}
use Rattle.std.specs.Prelude.{IfOk, is_none, slice_index_or}
use Rattle.std.proofs.lemmas.Bool.{and_parts}
use Rattle.std.proofs.lemmas.Int.{ints}
use Rattle.tb_geom.specs.declared.point.Point.{Point}
use Rattle.tb_geom.specs.Points.{PixelSet, plus, minus}
use Rattle.tb_geom.specs.Rects.{in_plane}
use Rattle.tb_geom.specs.Pixels.{Pixels, holds}
use Rattle.scan_region.specs.Moves.{StaysInRange, is_pixel_in_range}
use Rattle.def_iface.specs.Slots.{TakenBox}
use Rattle.def_iface.specs.WindowMeaning.{WindowLoan}
use Rattle.desk_call.specs.declared.update.AreaRef.{AreaRef}
use Rattle.window_list.specs.declared.window.Window.{Window}
use Rattle.vis_update.specs.declared.area.Area.{Area}
use Rattle.vis_update.specs.Areas.{IsArea, stale_in}
use Rattle.vis_update.specs.Records.{record_of}
use Rattle.window_mgr.specs.declared.manager.WindowManager.{WindowManager}
use Rattle.window_mgr.specs.FullDesk.{layered_desk}
use Rattle.window_mgr.specs.Kept.{IsKept}
use Rattle.window_mgr.specs.Records.{desk_of}
use Rattle.window_mgr.specs.Whole.{IsSettled}
use Rattle.window_mgr.proofs.Seating.{as_many}
use Rattle.window_mgr.specs.Edits.{IsWindowAt, StandsAt}
use Rattle.window_mgr.specs.Refused.{is_missing}
use Rattle.window_mgr.proofs.TellLemmas as telling
use Rattle.window_mgr.proofs.EditSeats.{same_at, there_is}
use Rattle.window_update.specs.declared.marking.Verdict.{Verdict}
use Rattle.window_update.specs.declared.marking.Verdict.TheVariants.{Stale, Right}
use Rattle.window_update.specs.Sets.{IsAreaOf}
use Rattle.window_update.specs.Marks.{marked_by, IsUpdateAfter}

-- what follows of a value follows at Ok
pub if_ok : {T E : Type 0} {P Q : T → Type 0} (r : Result T E) → ((x : T) → P x → Q x) → IfOk r P → IfOk r Q
if_ok (Ok x) f h = f x h
if_ok (Err e) f h = h

-- ---- pixels of a region moved into the coordinates of a window and back

module _ (visible shown moved part back : Pixels) (place way : Point)
    (copied : shown ≡ visible) (way_is : way ≡ minus (record { h = pos 0; v = pos 0 }) place)
    (there : (p : Point) → holds moved p ≡ holds shown (minus p way)) (pixels : PixelSet)
    (cut : (p : Point) → holds part p ≡ (holds moved p && pixels p)) where
  moved_is : (p : Point) → holds moved p ≡ holds visible (plus p place)
  moved_is p = telling.there shown place way way_is moved there p ∙ ap (λ r. holds r (plus p place)) copied

  pub part_stays : ((p : Point) → holds visible p ≡ true → is_pixel_in_range p ≡ true) → StaysInRange part place
  part_stays inside p e = inside (plus p place) (sym (moved_is p) ∙ (and_parts (holds moved p) (pixels p) (sym (cut p) ∙ e)).0)

  pub back_is : ((p : Point) → holds back p ≡ holds part (minus p place)) → (p : Point) → holds back p ≡ (holds visible p && pixels (minus p place))
  back_is again p = again p ∙ cut (minus p place) ∙ ap (λ b. b && pixels (minus p place)) (moved_is (minus p place) ∙ ap (holds visible) (telling.again_there p place))

-- ---- the window at a place of the list

module _ {V : Type 0} {H : V → Type 0} (loan : TakenBox V H → WindowLoan) (t : WindowManager V H) (kept : IsKept loan t) (at : ℕ) (low : at < length t.windows.records.items) where
  -- it is settled
  pub settled : (x : Window V H) → IsWindowAt t.windows.records.items at x → IsSettled (record_of loan x)
  settled x x_is = telling.settled loan t kept x.serial at x low x_is refl

  -- its area is that of what it owns
  pub its_area : (x : Window V H) (a : Area) → IsWindowAt t.windows.records.items at x → a ≡ slice_index_or t.areas.items at a → IsArea (layered_desk (desk_of loan t [])) (stale_in t.areas.items) x.serial a
  its_area x a x_is a_is = telling.area_is loan t kept x.serial at x low x_is refl a a_is

  -- what its content owns is in range, on the screen and as the window sees it
  pub shown_in : (x : Window V H) (a : Area) → IsWindowAt t.windows.records.items at x → a ≡ slice_index_or t.areas.items at a → (p : Point) → holds a.visible p ≡ true → is_pixel_in_range p ≡ true
  shown_in x a x_is a_is p e = telling.screen_in loan t kept x.serial at x low x_is refl p (sym ((its_area x a x_is a_is).visible p) ∙ e)

  pub seen_in : (x : Window V H) (a : Area) → IsWindowAt t.windows.records.items at x → a ≡ slice_index_or t.areas.items at a → (p : Point) → holds a.visible (plus p x.place) ≡ true → is_pixel_in_range p ≡ true
  seen_in x a x_is a_is p e = telling.local_in loan t kept x.serial at x low x_is refl p (sym ((its_area x a x_is a_is).visible (plus p x.place)) ∙ e)

  -- what is stale of it shows
  pub stale_shows : (x : Window V H) (a : Area) → IsWindowAt t.windows.records.items at x → a ≡ slice_index_or t.areas.items at a → (p : Point) → holds a.update p ≡ true → holds a.visible p ≡ true
  stale_shows x a x_is a_is p u = (and_parts (holds a.visible p) _ (sym ((its_area x a x_is a_is).update p) ∙ u)).0

  -- there are as many areas as windows
  pub area_low : at < length t.areas.items
  area_low = let many = as_many loan t kept in omega arith

  -- what is marked lies in the visible content
  pub marks_within : (area : AreaRef) (verdict : Verdict) (update : Pixels) → IsUpdateAfter t at area verdict update
      → (x : Window V H) → IsWindowAt t.windows.records.items at x → (a : Area) → a ≡ slice_index_or t.areas.items at a
      → (p : Point) → holds update p ≡ true → holds a.visible p ≡ true
  marks_within area verdict update (set, is_set, after) x x_is a a_is p e =
      by_verdict verdict (sym (after x a x_is a_is p) ∙ e)
    where
      stale_in_view : holds a.update p ≡ true → holds a.visible p ≡ true
      stale_in_view = stale_shows x a x_is a_is p

      by_parts : (u v w : Bool) → (u || (v && w)) ≡ true → (u ≡ true → v ≡ true) → v ≡ true
      by_parts true v w h f = f refl
      by_parts false true w h f = refl
      by_parts false false w h f = absurd (cc)

      by_verdict : (k : Verdict) → marked_by k (holds a.update p) (holds a.visible p && set (minus p x.place)) ≡ true → holds a.visible p ≡ true
      by_verdict Stale h = by_parts (holds a.update p) (holds a.visible p) (set (minus p x.place)) h stale_in_view
      by_verdict Right h = stale_in_view (and_parts (holds a.update p) _ h).0

  -- the region that was made is that of the window
  pub after_is : (area : AreaRef) (verdict : Verdict) (pixels update : Pixels) (x : Window V H) (a : Area) → IsAreaOf area (holds pixels)
      → IsWindowAt t.windows.records.items at x → a ≡ slice_index_or t.areas.items at a
      → ((p : Point) → holds update p ≡ marked_by verdict (holds a.update p) (holds a.visible p && holds pixels (minus p x.place)))
      → IsUpdateAfter t at area verdict update
  after_is area verdict pixels update x a its x_is a_is marked =
      (holds pixels, its, λ w b w_is b_is p. marked p ∙ (λ i. marked_by verdict (holds (same_at t.areas.items at a b area_low a_is b_is i).update p) (holds (same_at t.areas.items at a b area_low a_is b_is i).visible p && holds pixels (minus p (same_at t.windows.records.items at x w low x_is w_is i).place))))

  -- the window is there
  pub not_missing : (s : ℕ) → StandsAt t.windows.records.items s at → is_missing s (desk_of loan t []).windows ≡ false
  not_missing s stands =
      let x = there_is t.windows.records.items at low in
      ap is_none (telling.found loan t kept s at x.0 low x.1 (stands.1 x.0 x.1))

-- a pixel in range is a point of the plane
pub in_plane_of : (p : Point) → is_pixel_in_range p ≡ true → in_plane p ≡ true
in_plane_of p e = grind (arith, ints)
