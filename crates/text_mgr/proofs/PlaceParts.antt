-- What is known of a text record that may stand so.
use Rattle.std.proofs.Common.{◌≡◌, ◌≤◌, Bool, true, false, ◌&&◌, ℤ, pos, negsuc, ◌+ℤ◌, ◌≤ℤ◌, if◌then◌else◌, None, Some, FitsSigned, w32, refl, sym, ap, ◌∙◌, arith}
use Rattle.std.specs.Prelude.{int_le, int_lt, nat_abs}
use Rattle.std.proofs.lemmas.Int.{ints}
use Rattle.tb_geom.specs.declared.rect.Rect.{Rect}
use Rattle.text_record.proofs.PlacingLemmas.{placing_numbers}
use Rattle.std.proofs.lemmas.Bool.{and_parts}
use Rattle.tb_geom.specs.declared.point.Point.{Point}
use Rattle.tb_geom.specs.Rects.{is_in_range, moved_rect}
use Rattle.desk_call.specs.declared.text.TextPlace.{TextPlace}
use Rattle.text_record.specs.declared.placing.Placing.{Placing}
use Rattle.text_record.specs.Placings.{box_of, is_near, is_placing, is_sized, is_width}
use Rattle.text_mgr.specs.TextPlaces.{may_stand, may_stand_at, placing_of, view_of}

-- its box lies in the range of coordinates
pub box_in_range : (framed : Bool) (p : Placing) → is_placing framed p ≡ true → is_in_range (box_of framed p.view) ≡ true
box_in_range framed p h =
    let a = and_parts (is_near p.left) _ h in
    let b = and_parts (is_near p.top) _ a.1 in
    let c = and_parts (is_width p.width) _ b.1 in
    (and_parts (is_sized p.view) _ c.1).1

pub record MayStand (framed : Bool) (p : TextPlace) (window : Point) : Type 0 where
  pub placing : is_placing framed (placing_of p) ≡ true
  pub inside : is_in_range (box_of framed (view_of p)) ≡ true
  pub on_screen : is_in_range (moved_rect (box_of framed (view_of p)) window.h window.v) ≡ true

pub place_parts : (framed : Bool) (p : TextPlace) (window : Point) → may_stand_at framed p window ≡ true → MayStand framed p window
place_parts framed p window h =
    let a = and_parts (may_stand framed p) _ h in
    let b = and_parts (int_le (pos 0) p.width) _ a.0 in
    record { placing = b.1; inside = box_in_range framed (placing_of p) b.1; on_screen = a.1 }

-- the numbers of one that may stand so are small
pub record AreSmall (p : TextPlace) : Type 0 where
  pub width_from : pos 0 ≤ℤ p.width
  pub width_to : nat_abs p.width ≤ 16383
  pub right_from : negsuc 16383 ≤ℤ (p.view.h +ℤ p.view_size.width)
  pub right_to : (p.view.h +ℤ p.view_size.width) ≤ℤ pos 16383
  pub bottom_from : negsuc 16383 ≤ℤ (p.view.v +ℤ p.view_size.height)
  pub bottom_to : (p.view.v +ℤ p.view_size.height) ≤ℤ pos 16383

from_zero : (x : ℤ) → int_le (pos 0) x ≡ true → pos 0 ≤ℤ x
from_zero x e = grind (arith, ints)

at_zero : (x : ℤ) → pos 0 ≤ℤ x → int_le (pos 0) x ≡ true
at_zero x e = grind (arith, ints)

further : (a b : ℤ) → negsuc 16383 ≤ℤ a → (a +ℤ pos 1) ≤ℤ b → negsuc 16383 ≤ℤ b
further a b e f = grind (arith, ints)

pub below_zero : (x : ℤ) → int_lt x (pos 0) ≡ true → pos 0 ≤ℤ x → ⊥
below_zero x e f = grind (arith, ints)

pub from_test : (x : ℤ) → int_lt x (pos 0) ≡ false → pos 0 ≤ℤ x
from_test x e = grind (arith, ints)

pub too_wide : (x : ℤ) → int_lt (pos 65535) x ≡ true → pos 0 ≤ℤ x → nat_abs x ≤ 16383 → ⊥
too_wide (pos n) e f g = grind (arith, ints)
too_wide (negsuc n) e f g = grind (arith, ints)

pub fits_small : (x : ℤ) → negsuc 16383 ≤ℤ x → x ≤ℤ pos 16383 → FitsSigned w32 x
fits_small x e f = grind (arith, ints)

pub are_small : (framed : Bool) (p : TextPlace) → may_stand framed p ≡ true → AreSmall p
are_small framed p h =
    let a = and_parts (int_le (pos 0) p.width) (is_placing framed (placing_of p)) h in
    let its = placing_numbers framed (placing_of p) a.1 in
    record {
      width_from = from_zero p.width a.0;
      width_to = its.width_to;
      right_from = further p.view.h (p.view.h +ℤ p.view_size.width) its.view_left_from its.view_columns;
      right_to = its.view_right_to;
      bottom_from = further p.view.v (p.view.v +ℤ p.view_size.height) its.view_top_from its.view_rows;
      bottom_to = its.view_bottom_to;
    }

-- where it may not, there is none
pub none_stands : (framed : Bool) (p : TextPlace) → (AreSmall p → ⊥) → None ≡ (if may_stand framed p then Some (placing_of p) else None)
none_stands framed p large = by_test (may_stand framed p) refl
  where
    by_test : (b : Bool) → may_stand framed p ≡ b → None ≡ (if b then Some (placing_of p) else None)
    by_test true e = absurd (large (are_small framed p e))
    by_test false e = refl

-- a placing with these numbers
pub placed : (framed : Bool) (p : TextPlace) (right bottom : ℤ) → right ≡ p.view.h +ℤ p.view_size.width → bottom ≡ p.view.v +ℤ p.view_size.height → pos 0 ≤ℤ p.width → (b : Bool)
    → b ≡ is_placing framed (record { left = p.left; top = p.top; width = nat_abs p.width; view = record { left = p.view.h; top = p.view.v; right = right; bottom = bottom } })
    → (if b then Some (record { left = p.left; top = p.top; width = nat_abs p.width; view = record { left = p.view.h; top = p.view.v; right = right; bottom = bottom } }) else None)
    ≡ (if may_stand framed p then Some (placing_of p) else None)
placed framed p right bottom right_is bottom_is wide b e =
    ap (λ (x : Bool × Rect). if x.0 then Some (record { left = p.left; top = p.top; width = nat_abs p.width; view = x.1 }) else None) (λ i. (allowed i, view i))
  where
    view : record { left = p.view.h; top = p.view.v; right = right; bottom = bottom } ≡ view_of p
    view = λ i. record { left = p.view.h; top = p.view.v; right = right_is i; bottom = bottom_is i }

    allowed : b ≡ may_stand framed p
    allowed =
        e
        ∙ ap (λ (v : Rect). is_placing framed (record { left = p.left; top = p.top; width = nat_abs p.width; view = v })) view
        ∙ sym (ap (λ c. c && is_placing framed (placing_of p)) (at_zero p.width wide))

-- what was found to stand in some window
pub record IsPlaced (framed : Bool) (p : TextPlace) (placing : Placing) : Type 0 where
  pub stands : may_stand framed p ≡ true
  pub is : placing ≡ placing_of p

pub placed_is : (framed : Bool) (p : TextPlace) (placing : Placing) → (if may_stand framed p then Some (placing_of p) else None) ≡ Some placing → IsPlaced framed p placing
placed_is framed p placing e = by_test (may_stand framed p) refl e
  where
    by_test : (b : Bool) → may_stand framed p ≡ b → (if b then Some (placing_of p) else None) ≡ Some placing → IsPlaced framed p placing
    by_test true is e = let same : placing_of p ≡ placing = cc in record { stands = is; is = sym same }
    by_test false is e = absurd (cc)

pub placed_box : (framed : Bool) (p : TextPlace) (placing : Placing) → IsPlaced framed p placing → is_placing framed placing ≡ true
placed_box framed p placing its = ap (is_placing framed) its.is ∙ (and_parts (int_le (pos 0) p.width) (is_placing framed (placing_of p)) its.stands).1

-- where none was found, there is none in this window
pub none_at : (framed : Bool) (p : TextPlace) (window : Point) → (if may_stand framed p then Some (placing_of p) else None) ≡ None → None ≡ (if may_stand_at framed p window then Some (placing_of p) else None)
none_at framed p window e = by_test (may_stand framed p) refl e
  where
    by_test : (b : Bool) → may_stand framed p ≡ b → (if b then Some (placing_of p) else None) ≡ None → None ≡ (if may_stand_at framed p window then Some (placing_of p) else None)
    by_test true is e = absurd (cc)
    by_test false is e = sym (ap (λ c. if c && is_in_range (moved_rect (box_of framed (view_of p)) window.h window.v) then Some (placing_of p) else None) is)

-- and what stands in some window stands in this one, or not, as its box lies there
pub placed_at : (framed : Bool) (p : TextPlace) (window : Point) (placing : Placing) → IsPlaced framed p placing → (b : Bool) → b ≡ is_in_range (moved_rect (box_of framed placing.view) window.h window.v)
    → (if b then Some placing else None) ≡ (if may_stand_at framed p window then Some (placing_of p) else None)
placed_at framed p window placing its b e =
    ap (λ (x : Bool × Placing). if x.0 then Some x.1 else None) (λ i. ((e ∙ ap (λ (q : Placing). is_in_range (moved_rect (box_of framed q.view) window.h window.v)) its.is ∙ sym (ap (λ c. c && is_in_range (moved_rect (box_of framed (view_of p)) window.h window.v)) its.stands)) i, its.is i))
