-- How a desk without windows is painted.
use Rattle.std.proofs.Common.{◌≡◌, ℕ, zero, suc, ◌<◌, true, false, ◌&&◌, if◌then◌else◌, [], ◌∷◌, ℤ, pos, negsuc, ◌-ℤ◌, refl, sym, ap, ◌∙◌, arith}
use Rattle.std.specs.Prelude.{slice_index}
use Rattle.std.specs.Ordering.{int_eq}
use Rattle.std.proofs.lemmas.Bool.{and_parts}
use Rattle.std.proofs.lemmas.Bool.Decides.{nat_tests}
use Rattle.std.proofs.lemmas.Int.{ints}
use Rattle.tb_geom.specs.declared.point.Point.{Point}
use Rattle.tb_geom.specs.declared.rect.Rect.{Rect}
use Rattle.tb_geom.specs.Points.{minus}
use Rattle.tb_geom.specs.Rects.{rect_holds, between}
use Rattle.tb_geom.specs.Pixels.{Pixels, holds}
use Rattle.tb_geom.proofs.PointLemmas.{origin, minus-origin}
use Rattle.bit_map.specs.declared.pattern.Pattern.{Pattern}
use Rattle.bit_map.specs.declared.mode.Mode.TheVariants.{Copy}
use Rattle.bit_map.specs.Bits.{Bits, on_map, bit, is_below}
use Rattle.bit_map.specs.Modes.{mode_bit}
use Rattle.bit_map.specs.Patterns.{pattern_bit, bit_of, eighth_of}
use Rattle.bit_blit.specs.Draws.{Draws}
use Rattle.bit_blit.proofs.DrawsLemmas.{Draws-on_map}
use Rattle.desk_ground.specs.Screens.{desktop as pattern, is_bar, is_screen}
use Rattle.desk_ground.specs.Grounds.{last_row, below, IsEmptyPainted, IsGround}

abbrev pub black : Pattern
black = record { rows = 255 ∷ 255 ∷ 255 ∷ 255 ∷ 255 ∷ 255 ∷ 255 ∷ 255 ∷ [] }

eighth_of-below : (x : ℤ) → eighth_of x < 8
eighth_of-below (pos n) = grind arith
eighth_of-below (negsuc n) = omega arith

full_at : (k : ℕ) → k < 8 → slice_index (255 ∷ 255 ∷ 255 ∷ 255 ∷ 255 ∷ 255 ∷ 255 ∷ 255 ∷ []) k ≡ 255
full_at zero l = refl
full_at (suc zero) l = refl
full_at (suc (suc zero)) l = refl
full_at (suc (suc (suc zero))) l = refl
full_at (suc (suc (suc (suc zero)))) l = refl
full_at (suc (suc (suc (suc (suc zero))))) l = refl
full_at (suc (suc (suc (suc (suc (suc zero)))))) l = refl
full_at (suc (suc (suc (suc (suc (suc (suc zero))))))) l = refl
full_at (suc (suc (suc (suc (suc (suc (suc (suc k)))))))) l = absurd (omega arith)

bit_of-full : (k : ℕ) → k < 8 → bit_of 255 k ≡ true
bit_of-full zero l = refl
bit_of-full (suc zero) l = refl
bit_of-full (suc (suc zero)) l = refl
bit_of-full (suc (suc (suc zero))) l = refl
bit_of-full (suc (suc (suc (suc zero)))) l = refl
bit_of-full (suc (suc (suc (suc (suc zero))))) l = refl
bit_of-full (suc (suc (suc (suc (suc (suc zero)))))) l = refl
bit_of-full (suc (suc (suc (suc (suc (suc (suc zero))))))) l = refl
bit_of-full (suc (suc (suc (suc (suc (suc (suc (suc k)))))))) l = absurd (omega arith)

-- the black pattern is black
pub pattern_bit-black : (p : Point) → pattern_bit black p ≡ true
pattern_bit-black p = ap (λ n. bit_of n (eighth_of p.h)) (full_at (eighth_of p.v) (eighth_of-below p.v)) ∙ bit_of-full (eighth_of p.h) (eighth_of-below p.h)

in_row : (bar v : ℤ) → between (bar -ℤ pos 1) v bar ≡ int_eq v (bar -ℤ pos 1)
in_row bar v = grind (arith, ints)

below-between : (n : ℕ) (x : ℤ) → is_below n x ≡ true → between (pos 0) x (pos n) ≡ true
below-between n (pos k) e = grind (arith, ints, nat_tests)
below-between n (negsuc k) e = absurd (cc)

row_holds : (bar : ℤ) (m : Bits) (p : Point) → on_map m p ≡ true → rect_holds (last_row bar (pos m.width)) p ≡ int_eq p.v (bar -ℤ pos 1)
unfolding on_map
row_holds bar m p on = λ i. below-between m.width p.h (and_parts (is_below m.width p.h) _ on).0 i && in_row bar p.v i

-- the pattern of the desktop under a row that is black
pub empty_painted : (bar right : ℤ) (row : Rect) (region : Pixels) (old mid new : Bits)
    → right ≡ pos mid.width
    → row ≡ last_row bar right
    → Draws (holds region) (λ p d. mode_bit Copy (pattern_bit pattern (minus p origin)) d) old mid
    → Draws (rect_holds row) (λ p d. mode_bit Copy (pattern_bit black (minus p origin)) d) mid new
    → IsEmptyPainted bar region old new
empty_painted bar right row region old mid new is_right is_row filled drawn = record {
  pixels = λ p on.
      let there : on_map mid p ≡ true = Draws-on_map _ _ old mid filled p ∙ on in
      let in_last : rect_holds row p ≡ int_eq p.v (bar -ℤ pos 1) = ap (λ r. rect_holds r p) is_row ∙ ap (λ r. rect_holds (last_row bar r) p) is_right ∙ row_holds bar mid p there in
      let under : bit mid p ≡ (if holds region p then pattern_bit pattern p else bit old p) = filled.pixels p on ∙ ap (λ q. if holds region p then pattern_bit pattern q else bit old p) (minus-origin p) in
      drawn.pixels p there ∙ (λ i. if in_last i then pattern_bit-black (minus p origin) i else under i);
  width = drawn.width ∙ filled.width;
  height = drawn.height ∙ filled.height;
}

same_sides : (old new : Bits) → new.width ≡ old.width → new.height ≡ old.height → (p : Point) → on_map new p ≡ on_map old p
unfolding on_map
same_sides old new w h p = λ i. is_below (w i) p.h && is_below (h i) p.v

-- on a white map that makes the screen of a desk without windows
pub is_ground : (width height bar : ℤ) (old new : Bits) (region desktop : Pixels)
    → desktop ≡ region
    → (pos old.width ≡ width) × (pos old.height ≡ height)
    → ((p : Point) → bit old p ≡ false)
    → IsEmptyPainted bar region old new
    → ((p : Point) → holds region p ≡ rect_holds (below width height bar) p)
    → IsGround width height bar (record { screen = new; gray = region; desktop = desktop })
is_ground width height bar old new region desktop same sides white painted under = record {
  wide = ap pos painted.width ∙ sides.0;
  high = ap pos painted.height ∙ sides.1;
  gray = under;
  desktop = λ p. ap (λ r. holds r p) same;
  pixels = λ p on.
      painted.pixels p (sym (same_sides old new painted.width painted.height p) ∙ on)
      ∙ ap (λ b. if int_eq p.v (bar -ℤ pos 1) then true else (if holds region p then pattern_bit pattern p else b)) (white p);
}

-- a screen has a menu bar of its size
pub has_bar : (width height bar : ℤ) → is_screen width height bar ≡ true → is_bar bar ≡ true
has_bar width height bar e = (and_parts _ _ (and_parts _ _ (and_parts _ _ e).1).1).0
