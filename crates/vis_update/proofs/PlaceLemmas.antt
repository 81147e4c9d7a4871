-- Regions of a window at its place.
use Rattle.std.proofs.Common.{◌≡◌, Bool, true, false, not, ◌&&◌, ◌||◌, Some, ℤ, pos, negsuc, ◌+ℤ◌, ◌-ℤ◌, ◌≤ℤ◌, ◌<ℤ◌, refl, ap, ◌∙◌, sym, arith}
use Rattle.std.proofs.lemmas.Bool.{and_parts}
use Rattle.std.proofs.lemmas.Int.{ints}
use Rattle.tb_geom.specs.declared.point.Point.{Point}
use Rattle.tb_geom.specs.declared.rect.Rect.{Rect}
use Rattle.tb_geom.specs.Points.{minus, plus}
use Rattle.tb_geom.specs.Rects.{rect_holds, between, is_in_range, is_coordinate, in_plane, moved_rect}
use Rattle.tb_geom.specs.Pixels.{Pixels, holds}
use Rattle.tb_geom.proofs.RectLemmas.{sides_of}
use Rattle.scan_region.specs.Moves.{StaysInRange, LeavesRange, is_pixel_in_range}
use Rattle.def_iface.specs.declared.size.Size.{Size}
use Rattle.def_iface.specs.Sizes.{is_size}
use Rattle.def_iface.specs.WindowMeaning.{WindowDefinition, is_fitting}
use Rattle.vis_update.specs.Places.{is_placed}
use Rattle.vis_update.specs.Areas.{is_near, IsNear}

true-false : (b : Bool) → b ≡ true → b ≡ false → ⊥
true-false true e f = cc
true-false false e f = cc

one_side : (low high d x : ℤ) → is_coordinate (low +ℤ d) ≡ true → is_coordinate (high +ℤ d) ≡ true → low ≤ℤ x → x <ℤ high → between (negsuc 16383) (x +ℤ d) (pos 16383) ≡ true
one_side low high d x a b l m = grind (arith, ints)

-- what lies in a rectangle that stays in range stays in range
pub stays_with_box : (s : Pixels) (box : Rect) (d : Point) → ((p : Point) → holds s p ≡ true → rect_holds box p ≡ true) → is_in_range (moved_rect box d.h d.v) ≡ true → StaysInRange s d
stays_with_box s box d within fits = λ p e.
    let sides = sides_of box p (within p e) in
    let l = and_parts (is_coordinate (box.left +ℤ d.h)) _ fits in
    let t = and_parts (is_coordinate (box.top +ℤ d.v)) _ l.1 in
    let r = and_parts (is_coordinate (box.right +ℤ d.h)) _ t.1 in
    λ i. one_side box.left box.right d.h p.h l.0 r.0 sides.left sides.right i && one_side box.top box.bottom d.v p.v t.0 r.1 sides.top sides.bottom i

-- what it says that a window with this definition may be somewhere
pub record IsPlaced (d : WindowDefinition) (place : Point) (size : Size) : Type 0 where
  pub place_in : in_plane place ≡ true
  pub size_in : is_size size ≡ true
  pub fits : is_fitting d size ≡ true
  pub moved : is_in_range (moved_rect (d.bounds size) place.h place.v) ≡ true

pub placed_parts : (d : WindowDefinition) (place : Point) (size : Size) → is_placed (Some d) place size ≡ true → IsPlaced d place size
unfolding is_placed
placed_parts d place size e =
    let a = and_parts (in_plane place) _ e in
    let b = and_parts (is_size size) _ a.1 in
    let c = and_parts (is_in_range (d.bounds size)) _ b.1 in
    record { place_in = a.0; size_in = b.0; fits = λ i. b.0 i && c.0 i; moved = c.1 }

-- and what is enough for it
pub placed_from : (d : WindowDefinition) (place : Point) (size : Size) → in_plane place ≡ true → is_fitting d size ≡ true → is_in_range (moved_rect (d.bounds size) place.h place.v) ≡ true → is_placed (Some d) place size ≡ true
unfolding is_placed
placed_from d place size here fits inside =
    let parts = and_parts (is_size size) _ fits in
    λ i. here i && (parts.0 i && (parts.1 i && inside i))

-- what lies near, moved away from near to near, stays in range
near_side : (x y d : ℤ) → pos 0 ≤ℤ x → x <ℤ pos 1024 → pos 0 ≤ℤ (y -ℤ d) → (y -ℤ d) <ℤ pos 1024 → pos 0 ≤ℤ y → y <ℤ pos 1024 → between (negsuc 16383) (x +ℤ d) (pos 16383) ≡ true
near_side x y d a b c e f g = grind (arith, ints)

near_sides : (x y d : Point) → is_near x ≡ true → is_near (minus y d) ≡ true → is_near y ≡ true → is_pixel_in_range (plus x d) ≡ true
near_sides x y d nx nm ny =
    let sx = sides_of (record { left = pos 0; top = pos 0; right = pos 1024; bottom = pos 1024 }) x nx in
    let sm = sides_of (record { left = pos 0; top = pos 0; right = pos 1024; bottom = pos 1024 }) (minus y d) nm in
    let sy = sides_of (record { left = pos 0; top = pos 0; right = pos 1024; bottom = pos 1024 }) y ny in
    λ i. near_side x.h y.h d.h sx.left sx.right sm.left sm.right sy.left sy.right i && near_side x.v y.v d.v sx.top sx.bottom sm.top sm.bottom sy.top sy.bottom i

-- where a region near leaves the range, none of its pixels arrive near
pub none_arrive : (within region copy empty : Pixels) (d : Point) → IsNear within → IsNear region → copy ≡ region → LeavesRange copy d → ((p : Point) → holds empty p ≡ false) → (p : Point) → holds empty p ≡ (holds within p && holds region (minus p d))
none_arrive within region copy empty d nw nr same leaves none p = none p ∙ by_test (holds within p) (holds region (minus p d)) refl refl
  where
    by_test : (b c : Bool) → holds within p ≡ b → holds region (minus p d) ≡ c → false ≡ (b && c)
    by_test true true e f = absurd (true-false _ (near_sides leaves.0 p d (nr leaves.0 (sym (ap (λ s. holds s leaves.0) same) ∙ leaves.1)) (nr (minus p d) f) (nw p e)) leaves.2)
    by_test true false e f = refl
    by_test false c e f = refl

-- what is left of a region near is near
pub left_near : (rest left : Pixels) (taken : Point → Bool) → IsNear rest → ((p : Point) → holds left p ≡ (holds rest p && taken p)) → IsNear left
left_near rest left taken near left_is p e = near p (and_parts (holds rest p) (taken p) (sym (left_is p) ∙ e)).0

-- what of a moved copy lies in a region is what the region has of what was moved
pub carried : (within region copy moved cut : Pixels) (by p : Point) → copy ≡ region → holds moved p ≡ holds copy (minus p by) → holds cut p ≡ (holds moved p && holds within p) → holds cut p ≡ (holds within p && holds region (minus p by))
carried within region copy moved cut by p same arrived kept =
    kept ∙ turned_round (holds moved p) (holds within p) ∙ ap (λ b. holds within p && b) (arrived ∙ ap (λ r. holds r (minus p by)) same)
  where
    turned_round : (a b : Bool) → (a && b) ≡ (b && a)
    turned_round true true = refl
    turned_round true false = refl
    turned_round false true = refl
    turned_round false false = refl

-- what a region near keeps, and what is taken of one, is near
pub kept_near : (region changed taken both : Pixels) (rest its : Point → Bool) (shown : Bool) → IsNear region → ((p : Point) → rest p ≡ true → is_near p ≡ true)
    → ((p : Point) → holds taken p ≡ (its p && (shown && rest p))) → ((p : Point) → holds both p ≡ ((holds region p && not (holds changed p)) || holds taken p)) → IsNear both
kept_near region changed taken both rest its shown near near_rest taken_is both_is p e = by_test (holds region p) refl
  where
    of_rest : (a b c : Bool) → (a && (b && c)) ≡ true → c ≡ true
    of_rest true true c f = f
    of_rest true false c f = absurd (true-false false f refl)
    of_rest false b c f = absurd (true-false false f refl)

    by_test : (b : Bool) → holds region p ≡ b → is_near p ≡ true
    by_test true f = near p f
    by_test false f = near_rest p (of_rest (its p) shown (rest p) (sym (taken_is p) ∙ (λ i. (sym f i && not (holds changed p)) || holds taken p) ∙ sym (both_is p) ∙ e))
