-- The bits of a map, point by point.
use Rattle.std.proofs.Common.{◌≡◌, ℕ, zero, suc, ◌+◌, ◌*◌, ◌/◌, ◌%◌, ◌<◌, ◌≤ℤ◌, ℤ, pos, negsuc, nat_abs, ◌≢◌, Bool, true, false, ◌&&◌, cond, List, [], ◌∷◌, map, length, get_or, set, nat_eq, nat_le, nat_lt, replicate, refl, sym, ap, subst, ◌∙◌, arith}
use Rattle.std.specs.List.{range_with_len}
use Rattle.std.specs.Ordering.{int_eq}
use Rattle.std.proofs.lemmas.Bool.Decides.{nat_tests}
use Rattle.std.proofs.lemmas.Int.{ints}
use Rattle.std.proofs.lemmas.List.FromFn.{get_or-map-range_with_len}
use Rattle.std.proofs.lemmas.Nat.{mul-add-lt, div-mul-add, mod-mul-add, same_from_place}
use Rattle.std.proofs.lemmas.Bool.{and_parts}
use Rattle.tb_geom.specs.declared.point.Point.{Point}
use Rattle.tb_geom.specs.declared.rect.Rect.{Rect}
use Rattle.tb_geom.specs.Rects.{between, rect_holds}
use Rattle.bit_map.proofs.WordLemmas.{bit_in-none}
use Rattle.bit_map.proofs.PartLemmas.{IsRunOf, word_part}
use Rattle.bit_map.specs.Words.{bit_in, place_bit, words_across, black_of, IsWholeMap}
use Rattle.bit_map.specs.Bits.{Bits, is_below, on_map, bit, is_point, bounds_of}

is_below-between : (limit : ℕ) (x : ℤ) → between (pos 0) x (pos limit) ≡ is_below limit x
is_below-between limit (pos n) = grind (arith, ints, nat_tests)
is_below-between limit (negsuc n) = grind (arith, ints)

-- the map has the pixels of its bounds
pub rect_holds-bounds_of : (m : Bits) (p : Point) → rect_holds (bounds_of m) p ≡ on_map m p
unfolding on_map
rect_holds-bounds_of m p = λ i. is_below-between m.width p.h i && is_below-between m.height p.v i

-- a rectangle with those sides
pub rect_holds-same : (r : Rect) (m : Bits) → r.left ≡ pos 0 → r.top ≡ pos 0 → r.right ≡ pos m.width → r.bottom ≡ pos m.height → (p : Point) → rect_holds r p ≡ on_map m p
rect_holds-same r m left top right bottom p =
    (λ i. between (left i) p.h (right i) && between (top i) p.v (bottom i)) ∙ rect_holds-bounds_of m p

-- what lying on a map says of a point's numbers
pub record IsOn (m : Bits) (p : Point) : Type 0 where
  pub right : pos 0 ≤ℤ p.h
  pub across : nat_abs p.h < m.width
  pub below : pos 0 ≤ℤ p.v
  pub down : nat_abs p.v < m.height

not_negative : (limit : ℕ) (x : ℤ) → is_below limit x ≡ true → pos 0 ≤ℤ x
not_negative limit (pos n) e = omega (arith, ints)
not_negative limit (negsuc n) e = absurd (cc)

below_limit : (limit : ℕ) (x : ℤ) → is_below limit x ≡ true → nat_abs x < limit
below_limit limit (pos n) e = grind (arith, nat_tests)
below_limit limit (negsuc n) e = absurd (cc)

-- a point of the map has its numbers within the sides
pub on_map-sides : (m : Bits) (p : Point) → on_map m p ≡ true → IsOn m p
unfolding on_map
on_map-sides m p on =
    let both = and_parts (is_below m.width p.h) (is_below m.height p.v) on in
    record { right = not_negative m.width p.h both.0; across = below_limit m.width p.h both.0; below = not_negative m.height p.v both.1; down = below_limit m.height p.v both.1 }

-- a map whose bits are those of words
pub record IsOfWords (m : Bits) (words : List ℕ) : Type 0 where
  pub whole : IsWholeMap m.width m.height words
  pub black : m.black ≡ black_of m.width m.height words

pub of_words : (m : Bits) (width height : ℕ) (words : List ℕ) {counts : List ℕ} → record { width = width; height = height; black = black_of width height words; counts = counts } ≡ m → IsWholeMap width height words → IsOfWords m words
of_words m width height words {counts} e whole = subst (λ (n : Bits). IsOfWords n words) e (record { whole = whole; black = refl })

-- where the bit of a point stands
abbrev pub place_of : ℕ → Point → ℕ
place_of width p = nat_abs p.v * (64 * words_across width) + nat_abs p.h

-- a row has bits for its columns
row_long : (width x : ℕ) → x < width → x < 64 * words_across width
row_long width x low = omega (arith, low)

-- the place of a point of the map lies in the words
pub place_in : (m : Bits) (words : List ℕ) (p : Point) → IsWholeMap m.width m.height words → IsOn m p → place_of m.width p < 64 * length words
place_in m words p whole at =
    let below = mul-add-lt (nat_abs p.v) (64 * words_across m.width) (nat_abs p.h) m.height at.down (row_long m.width (nat_abs p.h) at.across) in
    omega (arith, ap (λ n. 64 * n) whole.all, below, turn m.height (words_across m.width))
  where
    turn : (h w : ℕ) → 64 * w * h ≡ 64 * (h * w)
    turn h w = grind arith

-- the bit at a point of the map stands at its place
pub bit-on : (m : Bits) (words : List ℕ) (p : Point) → IsOfWords m words → on_map m p ≡ true → bit m p ≡ place_bit words (place_of m.width p)
unfolding bit black_of
bit-on m words p of on =
    let at = on_map-sides m p on in
    ap (λ b. b && get_or m.black i false) on
    ∙ ap (λ l. get_or l i false) of.black
    ∙ get_or-map-range_with_len f 0 (m.height * m.width) i i false (mul-add-lt-turned at) (omega arith)
    ∙ (λ j. place_bit words (div-mul-add (nat_abs p.v) m.width (nat_abs p.h) at.across j * (64 * words_across m.width) + mod-mul-add (nat_abs p.v) m.width (nat_abs p.h) at.across j))
  where
    i : ℕ
    i = nat_abs p.v * m.width + nat_abs p.h

    f : ℕ → Bool
    f n = place_bit words (n / m.width * (64 * words_across m.width) + n % m.width)

    mul-add-lt-turned : IsOn m p → i < m.height * m.width
    mul-add-lt-turned at = omega (arith, mul-add-lt (nat_abs p.v) m.width (nat_abs p.h) m.height at.down at.across)

-- off the map there is no black
pub bit-off : (m : Bits) (p : Point) → on_map m p ≡ false → bit m p ≡ false
unfolding bit
bit-off m p off = ap (λ b. b && get_or m.black (nat_abs p.v * m.width + nat_abs p.h) false) off

get_or-replicate_same : (n i a : ℕ) → get_or (replicate n a) i a ≡ a
get_or-replicate_same zero i a = refl
get_or-replicate_same (suc n) zero a = refl
get_or-replicate_same (suc n) (suc i) a = get_or-replicate_same n i a

get_or-map_none : (f : ℕ → Bool) → ((n : ℕ) → f n ≡ false) → (ns : List ℕ) (i : ℕ) → get_or (map f ns) i false ≡ false
get_or-map_none f none [] i = refl
get_or-map_none f none (n ∷ ns) zero = none n
get_or-map_none f none (n ∷ ns) (suc i) = get_or-map_none f none ns i

and-false : (a : Bool) → (a && false) ≡ false
and-false true = refl
and-false false = refl

-- a map whose words are all 0 is white at each point
pub bit-white : (m : Bits) (words : List ℕ) (n : ℕ) → m.black ≡ black_of m.width m.height words → words ≡ replicate n 0 → (p : Point) → bit m p ≡ false
unfolding bit black_of place_bit
bit-white m words n black e p =
    ap (λ b. on_map m p && b) (ap (λ l. get_or l (nat_abs p.v * m.width + nat_abs p.h) false) black ∙ get_or-map_none _ (λ i. none (i / m.width * (64 * words_across m.width) + i % m.width)) (range_with_len 0 (m.height * m.width)) (nat_abs p.v * m.width + nat_abs p.h))
    ∙ and-false (on_map m p)
  where
    none : (i : ℕ) → place_bit words i ≡ false
    none i = ap (λ w. bit_in w (i % 64)) (ap (λ l. get_or l (i / 64) 0) e ∙ get_or-replicate_same n (i / 64) 0) ∙ bit_in-none (i % 64)

-- maps of the same sides have the same points
pub on_map-same : (a b : Bits) (p : Point) → b.width ≡ a.width → b.height ≡ a.height → on_map b p ≡ on_map a p
unfolding on_map
on_map-same a b p w h = λ i. is_below (w i) p.h && is_below (h i) p.v

-- ---- a write into the list

-- each point is itself
pub is_point-here : (p : Point) → is_point p p ≡ true
is_point-here p = grind (arith, ints)

-- a point with the numbers of another is that other
pub is_point-is : (q p : Point) → is_point q p ≡ true → p ≡ q
is_point-is q p e =
    let h : p.h ≡ q.h = grind (arith, ints) in
    let v : p.v ≡ q.v = grind (arith, ints) in
    λ i. record { h = h i; v = v i }

same_number : (x y : ℤ) → pos 0 ≤ℤ x → pos 0 ≤ℤ y → nat_abs x ≡ nat_abs y → x ≡ y
same_number (pos m) (pos n) a b e = ap pos e
same_number (pos m) (negsuc n) a b e = absurd (omega (arith, ints))
same_number (negsuc m) y a b e = absurd (omega (arith, ints))

-- two points of a map that have the same place are one
pub same_place : (m : Bits) (q p : Point) → IsOn m q → IsOn m p → place_of m.width p ≡ place_of m.width q → is_point q p ≡ true
same_place m q p on_q on_p e =
    let same = same_from_place (nat_abs p.v) (nat_abs p.h) (nat_abs q.v) (nat_abs q.h) (64 * words_across m.width) (row_long m.width (nat_abs p.h) on_p.across) (row_long m.width (nat_abs q.h) on_q.across) e in
    let sh : p.h ≡ q.h = same_number p.h q.h on_p.right on_q.right same.1 in
    let sv : p.v ≡ q.v = same_number p.v q.v on_p.below on_q.below same.0 in
    (λ i. int_eq (sh i) q.h && int_eq (sv i) q.v) ∙ is_point-here q

-- one bit of the words was written
pub record IsBitSet (place : ℕ) (value : Bool) (old new : List ℕ) : Type 0 where
  pub here : place_bit new place ≡ value
  pub other : (n : ℕ) → n ≢ place → place_bit new n ≡ place_bit old n

pub bit_written : (old : List ℕ) (place word : ℕ) (value : Bool) → place / 64 < length old
    → ((k : ℕ) → k < 64 → bit_in word k ≡ cond (nat_eq k (place % 64)) value (bit_in (get_or old (place / 64) 0) k))
    → IsBitSet place value old (set old (place / 64) word)
bit_written old place word value within is =
    let part = word_part old place 1 word (λ k. value) within (omega arith) (λ k low. is k low ∙ ap (λ t. cond t value (bit_in (get_or old (place / 64) 0) k)) (same_test (place % 64) k)) in
    record {
      here = ap (place_bit (set old (place / 64) word)) (zero_more place) ∙ part.run 0 (omega arith);
      other = λ n apart. by_side part n apart (nat_lt n place) refl;
    }
  where
    same_test : (n k : ℕ) → nat_eq k n ≡ (nat_le n k && nat_lt k (n + 1))
    same_test n k = grind (arith, nat_tests)

    zero_more : (n : ℕ) → n ≡ n + 0
    zero_more n = omega arith

    by_side : IsRunOf place 1 (λ k. value) old (set old (place / 64) word) → (n : ℕ) → n ≢ place → (t : Bool) → nat_lt n place ≡ t → place_bit (set old (place / 64) word) n ≡ place_bit old n
    by_side part n apart true e = part.before n (grind (arith, nat_tests))
    by_side part n apart false e = part.after n (grind (arith, nat_tests))

-- the bits of a map after a write of one bit
pub bit-set : (a b : Bits) (old new : List ℕ) (q : Point) (value : Bool) → IsOfWords a old → IsOfWords b new → on_map a q ≡ true → IsBitSet (place_of a.width q) value old new → b.width ≡ a.width → b.height ≡ a.height → (p : Point) → bit b p ≡ cond (is_point q p) value (bit a p)
bit-set a b old new q value of_a of_b on_q written width height p = by_place (on_map a p) refl
  where
    at_q : IsOn a q
    at_q = on_map-sides a q on_q

    read : on_map a p ≡ true → bit b p ≡ place_bit new (place_of a.width p)
    read e = bit-on b new p of_b (on_map-same a b p width height ∙ e) ∙ ap (λ w. place_bit new (place_of w p)) width

    not_q : (t : Bool) → is_point q p ≡ t → on_map a p ≡ false → t ≡ false
    not_q false e off = refl
    not_q true e off = absurd (cc (ap (on_map a) (is_point-is q p e), off, on_q))

    off : on_map a p ≡ false → bit b p ≡ cond (is_point q p) value (bit a p)
    off e = bit-off b p (on_map-same a b p width height ∙ e) ∙ sym (bit-off a p e) ∙ ap (λ t. cond t value (bit a p)) (sym (not_q (is_point q p) refl e))

    on : on_map a p ≡ true → (t : Bool) → is_point q p ≡ t → bit b p ≡ cond t value (bit a p)
    on e true same = read e ∙ ap (λ (r : Point). place_bit new (place_of a.width r)) (is_point-is q p same) ∙ written.here
    on e false other = read e ∙ written.other (place_of a.width p) (λ same. absurd (cc (other, same_place a q p at_q (on_map-sides a p e) same))) ∙ sym (bit-on a old p of_a e)

    by_place : (t : Bool) → on_map a p ≡ t → bit b p ≡ cond (is_point q p) value (bit a p)
    by_place true e = on e (is_point q p) refl
    by_place false e = off e
