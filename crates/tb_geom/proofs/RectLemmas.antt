-- Rectangles, pixel by pixel.
use Rattle.std.proofs.Common.{◌≡◌, ◌⊎◌, inl, inr, ◌↔◌, IsTrue, Bool, true, false, ◌&&◌, ◌||◌, ℤ, pos, ◌-ℤ◌, ◌+ℤ◌, ◌≤ℤ◌, ◌<ℤ◌, refl, sym, ap, ◌∙◌, arith}
use Rattle.std.proofs.lemmas.Bool.{true≢false, and_parts}
use Rattle.std.specs.Prelude.{int_le, int_lt}
use Rattle.std.specs.Int.{int_min, int_max}
use Rattle.std.proofs.lemmas.Int.{ints, clamps}
use Rattle.tb_geom.specs.declared.point.Point.{Point}
use Rattle.tb_geom.specs.declared.rect.Rect.{Rect}
use Rattle.tb_geom.specs.Points.{minus}
use Rattle.tb_geom.specs.Rects.{rect_holds, is_empty_rect, moved_rect, between, shared_rect, rect_around}

-- no number lies between two that do not rise
between-none : (low x high : ℤ) → high ≤ℤ low → between low x high ≡ false
between-none low x high l = grind (arith, ints)

and-false : (a : Bool) → (a && false) ≡ false
and-false true = refl
and-false false = refl

no_side : (a b : Bool) → (a || b) ≡ true → (a ≡ true) ⊎ (b ≡ true)
no_side true b e = inl refl
no_side false b e = inr e

-- a rectangle whose sides do not rise encloses nothing
pub holds_none : (r : Rect) → is_empty_rect r ≡ true → (p : Point) → rect_holds r p ≡ false
holds_none r e p = elim (no_side (int_le r.right r.left) (int_le r.bottom r.top) e) [
  | inl w ↦ let none = between-none r.left p.h r.right (grind (arith, ints)) in ap (λ b. b && between r.top p.v r.bottom) none
  | inr w ↦ let none = between-none r.top p.v r.bottom (grind (arith, ints)) in ap (λ b. between r.left p.h r.right && b) none ∙ and-false _
]

-- the sides of a rectangle that encloses something rise
pub record IsSome (r : Rect) : Type 0 where
  pub across : r.left <ℤ r.right
  pub down : r.top <ℤ r.bottom

pub sides_rise : (r : Rect) → is_empty_rect r ≡ false → IsSome r
sides_rise r e = record { across = grind (arith, ints); down = grind (arith, ints) }

pub between-in : (low x high : ℤ) → low ≤ℤ x → x <ℤ high → between low x high ≡ true
between-in low x high l m = grind (arith, ints)

pub holds_in : (r : Rect) (p : Point) → r.left ≤ℤ p.h → p.h <ℤ r.right → r.top ≤ℤ p.v → p.v <ℤ r.bottom → rect_holds r p ≡ true
holds_in r p a b c d = λ i. between-in r.left p.h r.right a b i && between-in r.top p.v r.bottom c d i

-- what enclosing a pixel says of the sides
pub record IsInside (r : Rect) (p : Point) : Type 0 where
  pub left : r.left ≤ℤ p.h
  pub right : p.h <ℤ r.right
  pub top : r.top ≤ℤ p.v
  pub bottom : p.v <ℤ r.bottom

pub sides_of : (r : Rect) (p : Point) → rect_holds r p ≡ true → IsInside r p
sides_of r p e =
    let both = and_parts (between r.left p.h r.right) (between r.top p.v r.bottom) e in
    let across = and_parts (int_le r.left p.h) (int_lt p.h r.right) both.0 in
    let down = and_parts (int_le r.top p.v) (int_lt p.v r.bottom) both.1 in
    record { left = grind (arith, ints); right = grind (arith, ints); top = grind (arith, ints); bottom = grind (arith, ints) }

-- a rectangle that encloses nothing is empty: it would enclose its first pixel
pub is_empty_from : (r : Rect) → ((p : Point) → rect_holds r p ≡ false) → is_empty_rect r ≡ true
is_empty_from r none = by_value (is_empty_rect r) refl
  where
    by_value : (b : Bool) → is_empty_rect r ≡ b → b ≡ true
    by_value true e = refl
    by_value false e =
        let some = sides_rise r e in
        let first : Point = record { h = r.left; v = r.top } in
        sym (none first) ∙ holds_in r first (omega (arith, ints)) some.across (omega (arith, ints)) some.down

between-shared : (a b c d x : ℤ) → between (int_max a b) x (int_min c d) ≡ (between a x c && between b x d)
between-shared a b c d x = grind (arith, ints, clamps)

and-and : (a b c d : Bool) → ((a && b) && (c && d)) ≡ ((a && c) && (b && d))
and-and true b true d = refl
and-and true true false d = refl
and-and true false false d = refl
and-and false b c d = refl

pub holds-shared : (a b : Rect) (p : Point) → rect_holds (shared_rect a b) p ≡ (rect_holds a p && rect_holds b p)
holds-shared a b p =
    (λ i. between-shared a.left b.left a.right b.right p.h i && between-shared a.top b.top a.bottom b.bottom p.v i)
    ∙ and-and (between a.left p.h a.right) (between b.left p.h b.right) (between a.top p.v a.bottom) (between b.top p.v b.bottom)

-- a rectangle within another
pub record IsWithin (a r : Rect) : Type 0 where
  pub left : r.left ≤ℤ a.left
  pub top : r.top ≤ℤ a.top
  pub right : a.right ≤ℤ r.right
  pub bottom : a.bottom ≤ℤ r.bottom

-- what holds all pixels of a rectangle that has some is around it
pub is_around : (a r : Rect) → IsSome a → ((p : Point) → rect_holds a p ≡ true → rect_holds r p ≡ true) → IsWithin a r
is_around a r some holds =
    let first : Point = record { h = a.left; v = a.top } in
    let last : Point = record { h = a.right -ℤ pos 1; v = a.bottom -ℤ pos 1 } in
    let across = some.across in
    let down = some.down in
    let f = sides_of r first (holds first (holds_in a first (omega (arith, ints)) across (omega (arith, ints)) down)) in
    let l = sides_of r last (holds last (holds_in a last (omega (arith, ints)) (omega (arith, ints)) (omega (arith, ints)) (omega (arith, ints)))) in
    record { left = f.left; top = f.top; right = omega (arith, ints); bottom = omega (arith, ints) }

-- the pixels of a moved rectangle are those of the rectangle, moved
pub holds-moved : (r : Rect) (dh dv : ℤ) (p : Point) → rect_holds (moved_rect r dh dv) p ≡ rect_holds r (minus p (record { h = dh; v = dv }))
holds-moved r dh dv p = λ i. one r.left r.right dh p.h i && one r.top r.bottom dv p.v i
  where
    one : (low high d x : ℤ) → between (low +ℤ d) x (high +ℤ d) ≡ between low (x -ℤ d) high
    one low high d x = grind (arith, ints)

-- what a test for no side that rises says of the pixels
pub encloses_none : (r : Rect) (b : Bool) → b ≡ is_empty_rect r → IsTrue b ↔ ((p : Point) → rect_holds r p ≡ false)
encloses_none r true e = (λ _. holds_none r (sym e), λ _. refl)
encloses_none r false e = (λ t. absurd (cc), λ none. absurd (cc (e, is_empty_from r none)))

pub holds-around : (a b : Rect) (p : Point) → (rect_holds a p || rect_holds b p) ≡ true → rect_holds (rect_around a b) p ≡ true
holds-around a b p e = elim (no_side (rect_holds a p) (rect_holds b p) e) [
  | inl w ↦ let s = sides_of a p w in holds_in _ p (omega (arith, ints, clamps)) (omega (arith, ints, clamps)) (omega (arith, ints, clamps)) (omega (arith, ints, clamps))
  | inr w ↦ let s = sides_of b p w in holds_in _ p (omega (arith, ints, clamps)) (omega (arith, ints, clamps)) (omega (arith, ints, clamps)) (omega (arith, ints, clamps))
]

pub or_left : (a b : Bool) → a ≡ true → (a || b) ≡ true
or_left a b e = ap (λ c. c || b) e

pub or_right : (a b : Bool) → b ≡ true → (a || b) ≡ true
or_right true b e = refl
or_right false b e = e

-- what holds the pixels of two rectangles that have some holds the rectangle around them
pub around-smallest : (a b r : Rect) → is_empty_rect a ≡ false → is_empty_rect b ≡ false → ((p : Point) → (rect_holds a p || rect_holds b p) ≡ true → rect_holds r p ≡ true) → (p : Point) → rect_holds (rect_around a b) p ≡ true → rect_holds r p ≡ true
around-smallest a b r some_a some_b holds p e =
    let s = sides_of (rect_around a b) p e in
    let in_a = is_around a r (sides_rise a some_a) (λ q f. holds q (or_left _ _ f)) in
    let in_b = is_around b r (sides_rise b some_b) (λ q f. holds q (or_right (rect_holds a q) _ f)) in
    holds_in r p (omega (arith, ints, clamps)) (omega (arith, ints, clamps)) (omega (arith, ints, clamps)) (omega (arith, ints, clamps))

-- one of the two, and not the second
pub or_first : (a b : Bool) → b ≡ false → (a || b) ≡ true → a ≡ true
or_first true b n e = refl
or_first false b n e = absurd (cc)

-- one of the two, and not the first
pub or_second : (a b : Bool) → a ≡ false → (a || b) ≡ true → b ≡ true
or_second true b n e = absurd (cc)
or_second false b n e = e

-- a rectangle is its sides
pub same_rect : (a b : Rect) → a.left ≡ b.left → a.top ≡ b.top → a.right ≡ b.right → a.bottom ≡ b.bottom → a ≡ b
same_rect a b l t r m = λ i. record { left = l i; top = t i; right = r i; bottom = m i }

-- the rectangle around two that enclose something encloses something
pub around-some : (a b : Rect) → is_empty_rect a ≡ false → is_empty_rect b ≡ false → is_empty_rect (rect_around a b) ≡ true → ⊥
around-some a b some_a some_b e =
    let s = sides_rise a some_a in
    let first : Point = record { h = a.left; v = a.top } in
    let across = s.across in
    let down = s.down in
    let here = holds-around a b first (or_left _ _ (holds_in a first (omega (arith, ints)) across (omega (arith, ints)) down)) in
    true≢false (sym here ∙ holds_none (rect_around a b) e first)
