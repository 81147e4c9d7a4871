-- The lines of outlines share no pixel.
use Rattle.std.proofs.Common.{◌≡◌, Bool, true, false, not, ◌&&◌, ◌||◌, List, [], ◌∷◌, ◌++◌, replicate, ℤ, pos, negsuc, ◌+ℤ◌, ◌-ℤ◌, ◌≤ℤ◌, ◌<ℤ◌, refl, sym, ap, ◌∙◌, arith, w32}
use Rattle.std.proofs.lemmas.Bool.{true≢false}
use Rattle.std.proofs.lemmas.Int.{ints, clamps}
use Rattle.std.specs.Int.{int_min, int_max, saturate_signed}
use Rattle.tb_geom.specs.declared.point.Point.{Point}
use Rattle.tb_geom.specs.declared.rect.Rect.{Rect}
use Rattle.std.specs.Ordering.{int_eq}
use Rattle.tb_geom.specs.Rects.{between, rect_holds, empty_rect}
use Rattle.tb_geom.proofs.RectLemmas.{IsInside, sides_of, holds_in, holds_none}
use Rattle.draw_port.specs.Ops.{frame_holds, is_end}
use Rattle.def_iface.specs.Lines.{line_holds, AreApart, inside, four_sides, frame_lines}

-- a rectangle does not hold a pixel that its sides exclude
pub not_held : (r : Rect) (p : Point) → (IsInside r p → true ≡ false) → rect_holds r p ≡ false
not_held r p out = by_test (rect_holds r p) refl
  where
    by_test : (b : Bool) → rect_holds r p ≡ b → b ≡ false
    by_test false t = refl
    by_test true t = out (sides_of r p t)

-- a pixel in none of two
pub in_neither : (a b : Bool) → a ≡ false → b ≡ false → (a || b) ≡ false
in_neither false b e f = f
in_neither true b e f = absurd (cc)

-- lines of no pixel have none
pub none_held : (p : Point) → line_holds (replicate 4 empty_rect) p ≡ false
none_held p = ap (λ b. b || (b || (b || (b || false)))) (holds_none empty_rect refl p)

pub none_apart : AreApart (replicate 4 empty_rect)
none_apart =
    let no : (p : Point) → rect_holds empty_rect p ≡ false = holds_none empty_rect refl in
    (λ p e. ap (λ b. b || (b || (b || false))) (no p), (λ p e. ap (λ b. b || (b || false)) (no p), (λ p e. ap (λ b. b || false) (no p), (λ p e. refl, tt))))

module _ (r : Rect) (more : List Rect) (within : (p : Point) → line_holds more p ≡ true → rect_holds (inside r) p ≡ true) where
  -- a pixel that is not inside is in none of the other lines
  beyond : (p : Point) → (IsInside (inside r) p → true ≡ false) → line_holds more p ≡ false
  beyond p out = by_test (line_holds more p) refl
    where
      by_test : (b : Bool) → line_holds more p ≡ b → b ≡ false
      by_test false t = refl
      by_test true t = out (sides_of (inside r) p (within p t))

  -- the sides of a rectangle share no pixel, with one another and with lines inside
  pub sides_apart : AreApart more → AreApart (four_sides r ++ more)
  sides_apart apart = (
    λ p e. let k = sides_of _ p e in
        in_neither _ _ (not_held _ p (λ m. absurd (omega (arith, ints, clamps))))
        (in_neither _ _ (not_held _ p (λ m. absurd (omega (arith, ints, clamps))))
        (in_neither _ _ (not_held _ p (λ m. absurd (omega (arith, ints, clamps)))) (beyond p (λ m. absurd (omega (arith, ints, clamps)))))),
    (
      λ p e. let k = sides_of _ p e in
          in_neither _ _ (not_held _ p (λ m. absurd (omega (arith, ints, clamps))))
          (in_neither _ _ (not_held _ p (λ m. absurd (omega (arith, ints, clamps)))) (beyond p (λ m. absurd (omega (arith, ints, clamps))))),
      (
        λ p e. let k = sides_of _ p e in
            in_neither _ _ (not_held _ p (λ m. absurd (omega (arith, ints, clamps)))) (beyond p (λ m. absurd (omega (arith, ints, clamps)))),
        (
          λ p e. let k = sides_of _ p e in beyond p (λ m. absurd (omega (arith, ints, clamps))),
          apart,
        ),
      ),
    ),
  )

-- those of a frame and four of no pixel
pub frame_apart : (r : Rect) → AreApart (frame_lines r)
frame_apart r = sides_apart r (replicate 4 empty_rect) (λ p e. absurd (true≢false (sym e ∙ none_held p))) none_apart

-- ---- the pixels of the sides

-- numbers of 32 bits
pub after_first_is : (first end : ℤ) → negsuc 2147483647 ≤ℤ first → end ≤ℤ pos 2147483647 → int_min end (saturate_signed w32 (first +ℤ pos 1)) ≡ int_min end (first +ℤ pos 1)
after_first_is first end low high = grind (arith, ints, clamps)

pub before_last_is : (first end : ℤ) → negsuc 2147483647 ≤ℤ first → end ≤ℤ pos 2147483647 → int_max first (saturate_signed w32 (end -ℤ pos 1)) ≡ int_max first (end -ℤ pos 1)
before_last_is first end low high = grind (arith, ints, clamps)

-- of the numbers low .. high - 1, the first, the last where that is another, and those between
is_first : (low x high : ℤ) → low ≤ℤ x → x <ℤ high → between low x (int_min high (low +ℤ pos 1)) ≡ int_eq x low
is_first low x high l m = grind (arith, ints, clamps)

is_last : (low x high : ℤ) → low ≤ℤ x → x <ℤ high → between (int_max (int_min high (low +ℤ pos 1)) (high -ℤ pos 1)) x high ≡ (int_eq (x +ℤ pos 1) high && not (int_eq x low))
is_last low x high l m = grind (arith, ints, clamps)

is_between : (low x high : ℤ) → low ≤ℤ x → x <ℤ high → between (int_min high (low +ℤ pos 1)) x (int_max (int_min high (low +ℤ pos 1)) (high -ℤ pos 1)) ≡ (not (int_eq x low) && not (int_eq (x +ℤ pos 1) high))
is_between low x high l m = grind (arith, ints, clamps)

is_there : (low x high : ℤ) → low ≤ℤ x → x <ℤ high → between low x high ≡ true
is_there low x high l m = grind (arith, ints)

-- T: in the first row, B: in the last; L: in the first column, M: in the last
any_side : (T B L M : Bool) → ((true && T) || ((true && (B && not T)) || ((L && (not T && not B)) || (((M && not L) && (not T && not B)) || false)))) ≡ ((L || M) || (T || B))
any_side true B true M = refl
any_side true B false true = refl
any_side true B false false = refl
any_side false true true M = refl
any_side false true false true = refl
any_side false true false false = refl
any_side false false true M = refl
any_side false false false true = refl
any_side false false false false = refl

module _ (r : Rect) (p : Point) where
  sides_hold : IsInside r p → line_holds (four_sides r) p ≡ ((int_eq p.h r.left || int_eq (p.h +ℤ pos 1) r.right) || (int_eq p.v r.top || int_eq (p.v +ℤ pos 1) r.bottom))
  sides_hold k =
      (λ i. (is_there r.left p.h r.right k.left k.right i && is_first r.top p.v r.bottom k.top k.bottom i)
      || ((is_there r.left p.h r.right k.left k.right i && is_last r.top p.v r.bottom k.top k.bottom i)
      || ((is_first r.left p.h r.right k.left k.right i && is_between r.top p.v r.bottom k.top k.bottom i)
      || ((is_last r.left p.h r.right k.left k.right i && is_between r.top p.v r.bottom k.top k.bottom i) || false))))
      ∙ any_side (int_eq p.v r.top) (int_eq (p.v +ℤ pos 1) r.bottom) (int_eq p.h r.left) (int_eq (p.h +ℤ pos 1) r.right)

  none_beside : (IsInside r p → true ≡ false) → line_holds (four_sides r) p ≡ false
  none_beside out =
      in_neither _ _ (not_held _ p (λ m. out (record { left = omega (arith, ints, clamps); right = omega (arith, ints, clamps); top = omega (arith, ints, clamps); bottom = omega (arith, ints, clamps) })))
      (in_neither _ _ (not_held _ p (λ m. out (record { left = omega (arith, ints, clamps); right = omega (arith, ints, clamps); top = omega (arith, ints, clamps); bottom = omega (arith, ints, clamps) })))
      (in_neither _ _ (not_held _ p (λ m. out (record { left = omega (arith, ints, clamps); right = omega (arith, ints, clamps); top = omega (arith, ints, clamps); bottom = omega (arith, ints, clamps) })))
      (in_neither _ _ (not_held _ p (λ m. out (record { left = omega (arith, ints, clamps); right = omega (arith, ints, clamps); top = omega (arith, ints, clamps); bottom = omega (arith, ints, clamps) }))) refl)))

  -- the sides of a rectangle have its outermost pixels
  sides_are_frame : line_holds (four_sides r) p ≡ frame_holds r p
  unfolding is_end
  sides_are_frame = by_test (rect_holds r p) refl
    where
      by_test : (b : Bool) → rect_holds r p ≡ b → line_holds (four_sides r) p ≡ (b && ((int_eq p.h r.left || int_eq (p.h +ℤ pos 1) r.right) || (int_eq p.v r.top || int_eq (p.v +ℤ pos 1) r.bottom)))
      by_test true e = sides_hold (sides_of r p e)
      by_test false e = none_beside (λ k. sym (holds_in r p k.left k.right k.top k.bottom) ∙ e)

-- lines of no pixel add none
none_more : (ls : List Rect) (p : Point) → line_holds (ls ++ replicate 4 empty_rect) p ≡ line_holds ls p
none_more [] p = none_held p
none_more (l ∷ ls) p = ap (λ b. rect_holds l p || b) (none_more ls p)

pub frame_pixels : (r : Rect) (p : Point) → line_holds (frame_lines r) p ≡ frame_holds r p
frame_pixels r p = none_more (four_sides r) p ∙ sides_are_frame r p
