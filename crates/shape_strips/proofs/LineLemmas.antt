-- Thin lines: their rectangles, and the columns of their rows.
use Rattle.std.proofs.Common.{◌≡◌, ◌&&◌, ◌||◌, Bool, true, false, zero, suc, ℤ, pos, negsuc, neg_ℤ, ◌+ℤ◌, ◌-ℤ◌, ◌*ℤ◌, ◌≤ℤ◌, ◌<ℤ◌, inl, inr, refl, sym, ap, ◌∙◌, arith, cond, unsigned_abs}
use Rattle.std.specs.Prelude.{int_le, int_lt, nat_le}
use Rattle.std.specs.Int.{int_min, int_max}
use Rattle.std.proofs.lemmas.Int.{ints, clamps, by_lt_z}
use Rattle.std.proofs.lemmas.Bool.{and_parts, and_from, and_left, or_cases, or_left, or_right, cases_Bool, cond-true, cond-false, le-leb, lt-leb}
use Rattle.std.proofs.Math.IntN.{*ℤ_comm}
use Rattle.tb_geom.specs.declared.point.Point.{Point}
use Rattle.tb_geom.specs.Rects.{between}
use Rattle.tb_geom.proofs.RectLemmas.{between-in}
use Rattle.shape_strips.specs.Lines.{depth, is_nearest, rightward, turned, is_flat, thin_holds, IsReach}
use Rattle.shape_strips.proofs.RangeLemmas.{row_of}
use Rattle.shape_strips.proofs.Products.{times_less, times_back, times_le, times_next, times_natural, times_not_above, times_falls, times_rises, times_neg, twice_times}

lt_from : (a b : ℤ) → int_lt a b ≡ true → a <ℤ b
lt_from a b e = grind (arith, ints)

le_from : (a b : ℤ) → int_le a b ≡ true → a ≤ℤ b
le_from a b e = grind (arith, ints)

pub lt_yes : (a b : ℤ) → a <ℤ b → int_lt a b ≡ true
lt_yes a b l = grind (arith, ints)

pub le_yes : (a b : ℤ) → a ≤ℤ b → int_le a b ≡ true
le_yes a b l = grind (arith, ints)

pub le_not : (a b : ℤ) → b <ℤ a → int_le a b ≡ false
le_not a b l = grind (arith, ints)

pub lt_not : (a b : ℤ) → b ≤ℤ a → int_lt a b ≡ false
lt_not a b l = grind (arith, ints)

between_none : (low x high : ℤ) → high ≤ℤ low → between low x high ≡ false
between_none low x high l = grind (arith, ints)

pub or_none : (x : Bool) → (x || false) ≡ x
or_none true = refl
or_none false = refl

-- ---- the rectangle of a thin line

-- a pixel lies in the rectangle of two points
pub record IsAround (a b p : Point) : Type 0 where
  pub left : int_min a.h b.h ≤ℤ p.h
  pub right : p.h ≤ℤ int_max a.h b.h
  pub top : int_min a.v b.v ≤ℤ p.v
  pub bottom : p.v ≤ℤ int_max a.v b.v

-- a row whose pixel is the nearest one is not past one that lies on the other side of the way
row_low : (w y b n : ℤ) → pos 0 <ℤ w → (w *ℤ b) ≤ℤ n → neg_ℤ w <ℤ (pos 2 *ℤ ((w *ℤ y) -ℤ n)) → b ≤ℤ y
row_low w y b n some from near =
    by_lt_z y b
    (λ less. no (w *ℤ y) (w *ℤ (b -ℤ pos 1)) (w *ℤ b) w n b y (times_le w y (b -ℤ pos 1) (omega (arith, ints)) (omega (arith, ints))) (times_back w b) some from near)
    (λ l. l)
  where
    no : (m o l w n b y : ℤ) → m ≤ℤ o → o ≡ l -ℤ w → pos 0 <ℤ w → l ≤ℤ n → neg_ℤ w <ℤ (pos 2 *ℤ (m -ℤ n)) → b ≤ℤ y
    no m o l w n b y p e q r s = omega (arith, ints)

row_high : (w y b n : ℤ) → pos 0 <ℤ w → n ≤ℤ (w *ℤ b) → (pos 2 *ℤ ((w *ℤ y) -ℤ n)) ≤ℤ w → y ≤ℤ b
row_high w y b n some to near =
    by_lt_z b y
    (λ less. no (w *ℤ y) (w *ℤ (b +ℤ pos 1)) (w *ℤ b) w n b y (times_le w (b +ℤ pos 1) y (omega (arith, ints)) (omega (arith, ints))) (times_next w b) some to near)
    (λ l. l)
  where
    no : (m o l w n b y : ℤ) → o ≤ℤ m → o ≡ l +ℤ w → pos 0 <ℤ w → n ≤ℤ l → (pos 2 *ℤ (m -ℤ n)) ≤ℤ w → y ≤ℤ b
    no m o l w n b y p e q r s = omega (arith, ints)

nothing : (w : ℤ) → w *ℤ pos 0 ≡ pos 0
nothing w = omega (arith, ints)

rows_of : (w k x y : ℤ) → pos 0 <ℤ w → pos 0 ≤ℤ x → x ≤ℤ w → is_nearest w ((w *ℤ y) -ℤ (k *ℤ x)) ≡ true
    → (int_min (pos 0) k ≤ℤ y) × (y ≤ℤ int_max (pos 0) k)
rows_of w k x y some left right e =
    let near = and_parts (int_lt (neg_ℤ w) (pos 2 *ℤ ((w *ℤ y) -ℤ (k *ℤ x)))) (int_le (pos 2 *ℤ ((w *ℤ y) -ℤ (k *ℤ x))) w) e in
    let low = lt_from (neg_ℤ w) (pos 2 *ℤ ((w *ℤ y) -ℤ (k *ℤ x))) near.0 in
    let high = le_from (pos 2 *ℤ ((w *ℤ y) -ℤ (k *ℤ x))) w near.1 in
    by_lt_z k (pos 0)
    (λ rises.
    let l : k ≤ℤ y = row_low w y k (k *ℤ x) some (times_falls k x w (omega (arith, ints)) right) low in
    let h : y ≤ℤ pos 0 = row_high w y (pos 0) (k *ℤ x) some (rw (nothing w) (times_not_above k x (omega (arith, ints)) left)) high in
    (omega (arith, ints, clamps), omega (arith, ints, clamps)))
    (λ falls.
    let l : pos 0 ≤ℤ y = row_low w y (pos 0) (k *ℤ x) some (rw (nothing w) (times_natural k x falls left)) low in
    let h : y ≤ℤ k = row_high w y k (k *ℤ x) some (times_rises k x w falls right) high in
    (omega (arith, ints, clamps), omega (arith, ints, clamps)))

pub rightward_in : (a b p : Point) → rightward a b p ≡ true → IsAround a b p
unfolding rightward
rightward_in a b p e =
    let two = and_parts (between a.h p.h (b.h +ℤ pos 1)) (cond (int_lt a.h b.h) (is_nearest (b.h -ℤ a.h) (depth a b p)) (between a.v p.v (a.v +ℤ pos 1))) e in
    let columns = row_of a.h p.h (b.h +ℤ pos 1) two.0 in
    let first : a.h ≤ℤ p.h = columns.0 in
    let last : p.h <ℤ (b.h +ℤ pos 1) = columns.1 in
    by_lt_z a.h b.h
    (λ less.
    let near = sym (cond-true (int_lt a.h b.h) (is_nearest (b.h -ℤ a.h) (depth a b p)) (between a.v p.v (a.v +ℤ pos 1)) (lt_yes a.h b.h less)) ∙ two.1 in
    let rows = rows_of (b.h -ℤ a.h) (b.v -ℤ a.v) (p.h -ℤ a.h) (p.v -ℤ a.v) (omega (arith, ints)) (omega (arith, ints)) (omega (arith, ints)) near in
    let low : int_min (pos 0) (b.v -ℤ a.v) ≤ℤ (p.v -ℤ a.v) = rows.0 in
    let high : (p.v -ℤ a.v) ≤ℤ int_max (pos 0) (b.v -ℤ a.v) = rows.1 in
    record { left = omega (arith, ints, clamps); right = omega (arith, ints, clamps); top = omega (arith, ints, clamps); bottom = omega (arith, ints, clamps) })
    (λ from.
    let at = sym (cond-false (int_lt a.h b.h) (is_nearest (b.h -ℤ a.h) (depth a b p)) (between a.v p.v (a.v +ℤ pos 1)) (lt_not a.h b.h from)) ∙ two.1 in
    let rows = row_of a.v p.v (a.v +ℤ pos 1) at in
    let low : a.v ≤ℤ p.v = rows.0 in
    let high : p.v <ℤ (a.v +ℤ pos 1) = rows.1 in
    record { left = omega (arith, ints, clamps); right = omega (arith, ints, clamps); top = omega (arith, ints, clamps); bottom = omega (arith, ints, clamps) })

other_end : (a b p : Point) → IsAround a b p → IsAround b a p
other_end a b p is =
    let left = is.left in
    let right = is.right in
    let top = is.top in
    let bottom = is.bottom in
    record { left = omega (arith, ints, clamps); right = omega (arith, ints, clamps); top = omega (arith, ints, clamps); bottom = omega (arith, ints, clamps) }

from_turned : (a b p : Point) → IsAround (turned a) (turned b) (turned p) → IsAround a b p
from_turned a b p is = record { left = is.top; right = is.bottom; top = is.left; bottom = is.right }

pub flat_is : (a b p : Point) → is_flat a b ≡ true → thin_holds a b p ≡ (rightward a b p || rightward b a p)
unfolding thin_holds
flat_is a b p f = cond-true (is_flat a b) (rightward a b p || rightward b a p) (rightward (turned a) (turned b) (turned p) || rightward (turned b) (turned a) (turned p)) f

pub steep_is : (a b p : Point) → is_flat a b ≡ false
    → thin_holds a b p ≡ (rightward (turned a) (turned b) (turned p) || rightward (turned b) (turned a) (turned p))
unfolding thin_holds
steep_is a b p f = cond-false (is_flat a b) (rightward a b p || rightward b a p) (rightward (turned a) (turned b) (turned p) || rightward (turned b) (turned a) (turned p)) f

either_in : (a b p : Point) → (rightward a b p || rightward b a p) ≡ true → IsAround a b p
either_in a b p e = elim (or_cases (rightward a b p) (rightward b a p) e) [
  | inl f ↦ rightward_in a b p f
  | inr f ↦ other_end b a p (rightward_in b a p f)
]

-- a thin line lies in the rectangle of its ends
pub thin_in : (a b p : Point) → thin_holds a b p ≡ true → IsAround a b p
thin_in a b p e = elim (cases_Bool (is_flat a b)) [
  | inl f ↦ either_in a b p (sym (flat_is a b p f) ∙ e)
  | inr f ↦ from_turned a b p (either_in (turned a) (turned b) (turned p) (sym (steep_is a b p f) ∙ e))
]

-- ---- either end first

or_turned : (x y : Bool) → (x || y) ≡ (y || x)
or_turned true true = refl
or_turned true false = refl
or_turned false true = refl
or_turned false false = refl

abs_neg : (z : ℤ) → unsigned_abs (neg_ℤ z) ≡ unsigned_abs z
abs_neg (pos zero) = refl
abs_neg (pos (suc n)) = refl
abs_neg (negsuc n) = refl

abs_turned : (x y : ℤ) → unsigned_abs (x -ℤ y) ≡ unsigned_abs (y -ℤ x)
abs_turned x y = let back : x -ℤ y ≡ neg_ℤ (y -ℤ x) = omega (arith, ints) in ap unsigned_abs back ∙ abs_neg (y -ℤ x)

pub thin_either : (a b p : Point) → thin_holds a b p ≡ thin_holds b a p
unfolding thin_holds
thin_either a b p = λ i. cond (nat_le (abs_turned b.v a.v i) (abs_turned b.h a.h i)) (or_turned (rightward a b p) (rightward b a p) i)
    (or_turned (rightward (turned a) (turned b) (turned p)) (rightward (turned b) (turned a) (turned p)) i)

-- ---- the columns of a row

-- what is nearest to a way that goes to the right
pub near_is : (a b p : Point) → a.h <ℤ b.h → a.h ≤ℤ p.h → p.h ≤ℤ b.h → rightward a b p ≡ is_nearest (b.h -ℤ a.h) (depth a b p)
unfolding rightward
near_is a b p less low high =
    λ i. between-in a.h p.h (b.h +ℤ pos 1) low (omega (arith, ints)) i
    && cond-true (int_lt a.h b.h) (is_nearest (b.h -ℤ a.h) (depth a b p)) (between a.v p.v (a.v +ℤ pos 1)) (lt_yes a.h b.h less) i

-- a way to the left
pub past_is : (a b p : Point) → b.h <ℤ a.h → rightward a b p ≡ false
unfolding rightward
past_is a b p less = and_left (between a.h p.h (b.h +ℤ pos 1)) _ (between_none a.h p.h (b.h +ℤ pos 1) (omega (arith, ints)))

depth_back : (a b p : Point) → depth b a p ≡ neg_ℤ (depth a b p)
depth_back a b p =
    back (b.h -ℤ a.h) (b.v -ℤ a.v) (p.h -ℤ a.h) (p.v -ℤ a.v) (a.h -ℤ b.h) (a.v -ℤ b.v) (p.h -ℤ b.h) (p.v -ℤ b.v)
    (omega (arith, ints)) (omega (arith, ints)) (omega (arith, ints)) (omega (arith, ints))
  where
    sums : (m n o q r s : ℤ) → r ≡ neg_ℤ (m -ℤ o) → s ≡ neg_ℤ (n -ℤ q) → q ≡ o → r -ℤ s ≡ neg_ℤ (m -ℤ n)
    sums m n o q r s e f g = omega (arith, ints)

    back : (w k x y v j g z : ℤ) → v ≡ neg_ℤ w → j ≡ neg_ℤ k → g ≡ x -ℤ w → z ≡ y -ℤ k
        → (v *ℤ z) -ℤ (j *ℤ g) ≡ neg_ℤ ((w *ℤ y) -ℤ (k *ℤ x))
    back w k x y v j g z d e f h =
        (λ i. (d i *ℤ h i) -ℤ (e i *ℤ f i))
        ∙ sums (w *ℤ y) (k *ℤ x) (w *ℤ k) (k *ℤ w) (neg_ℤ w *ℤ (y -ℤ k)) (neg_ℤ k *ℤ (x -ℤ w))
        (times_neg w (y -ℤ k) ∙ ap neg_ℤ (times_less w y k)) (times_neg k (x -ℤ w) ∙ ap neg_ℤ (times_less k x w)) (*ℤ_comm k w)

size_of : (z : ℤ) → pos 0 <ℤ z → pos (unsigned_abs z) ≡ z
size_of z l = grind (arith, ints)

size_back : (z : ℤ) → z <ℤ pos 0 → pos (unsigned_abs z) ≡ neg_ℤ z
size_back (pos n) l = absurd (omega (arith, ints))
size_back (negsuc n) l = refl

falling_flat : (k w : ℤ) → pos 0 <ℤ k → k ≤ℤ w → nat_le (unsigned_abs k) (unsigned_abs w) ≡ true
falling_flat k w some l =
    let e = size_of k some in
    let f = size_of w (omega (arith, ints)) in
    le-leb (unsigned_abs k) (unsigned_abs w) (omega (arith, ints))

rising_flat : (k w : ℤ) → pos 0 <ℤ k → k ≤ℤ neg_ℤ w → nat_le (unsigned_abs k) (unsigned_abs w) ≡ true
rising_flat k w some l =
    let e = size_of k some in
    let f = size_back w (omega (arith, ints)) in
    le-leb (unsigned_abs k) (unsigned_abs w) (omega (arith, ints))

pub none_size : (z : ℤ) → z ≡ pos 0 → unsigned_abs z ≡ 0
none_size z e = ap unsigned_abs e

not_flat : (k w : ℤ) → w <ℤ k → neg_ℤ w <ℤ k → nat_le (unsigned_abs k) (unsigned_abs w) ≡ false
not_flat k w l m =
    let e = size_of k (omega (arith, ints)) in
    lt-leb (unsigned_abs k) (unsigned_abs w) (by_lt_z w (pos 0)
    (λ less. let f = size_back w less in omega (arith, ints))
    (λ from. by_lt_z (pos 0) w
    (λ more. let f = size_of w more in omega (arith, ints))
    (λ to. let f = none_size w (omega (arith, ints)) in omega (arith, ints))))

-- comparisons that mean the same
pub lt_lt : (a b c d : ℤ) → (a <ℤ b → c <ℤ d) → (b ≤ℤ a → d ≤ℤ c) → int_lt a b ≡ int_lt c d
lt_lt a b c d f g = by_lt_z a b (λ l. lt_yes a b l ∙ sym (lt_yes c d (f l))) (λ l. lt_not a b l ∙ sym (lt_not c d (g l)))

pub le_le : (a b c d : ℤ) → (a ≤ℤ b → c ≤ℤ d) → (b <ℤ a → d <ℤ c) → int_le a b ≡ int_le c d
le_le a b c d f g = by_lt_z b a (λ l. le_not a b l ∙ sym (le_not c d (g l))) (λ l. le_yes a b l ∙ sym (le_yes c d (f l)))

pub lt_le : (a b c d : ℤ) → (a <ℤ b → c ≤ℤ d) → (b ≤ℤ a → d <ℤ c) → int_lt a b ≡ int_le c d
lt_le a b c d f g = by_lt_z a b (λ l. lt_yes a b l ∙ sym (le_yes c d (f l))) (λ l. lt_not a b l ∙ sym (le_not c d (g l)))

-- the test of a row, by multiples
swapped : (a b c d : Bool) → a ≡ d → b ≡ c → (a && b) ≡ (c && d)
swapped a b c d e f = (λ i. e i && f i) ∙ and_turned d c
  where
    and_turned : (x y : Bool) → (x && y) ≡ (y && x)
    and_turned true true = refl
    and_turned true false = refl
    and_turned false true = refl
    and_turned false false = refl

test_falling : (w m n low high : ℤ) → low ≡ neg_ℤ w → high ≡ w
    → is_nearest w (m -ℤ n) ≡ between ((pos 2 *ℤ m) +ℤ low) (pos 2 *ℤ n) ((pos 2 *ℤ m) +ℤ high)
test_falling w m n low high e f = swapped _ _ _ _ (first w m n high f) (last w m n low e)
  where
    first : (w m n high : ℤ) → high ≡ w → int_lt (neg_ℤ w) (pos 2 *ℤ (m -ℤ n)) ≡ int_lt (pos 2 *ℤ n) ((pos 2 *ℤ m) +ℤ high)
    first w m n high f = lt_lt (neg_ℤ w) (pos 2 *ℤ (m -ℤ n)) (pos 2 *ℤ n) ((pos 2 *ℤ m) +ℤ high) (λ l. omega (arith, ints)) (λ l. omega (arith, ints))

    last : (w m n low : ℤ) → low ≡ neg_ℤ w → int_le (pos 2 *ℤ (m -ℤ n)) w ≡ int_le ((pos 2 *ℤ m) +ℤ low) (pos 2 *ℤ n)
    last w m n low e = le_le (pos 2 *ℤ (m -ℤ n)) w ((pos 2 *ℤ m) +ℤ low) (pos 2 *ℤ n) (λ l. omega (arith, ints)) (λ l. omega (arith, ints))

test_rising : (w m n v d low high : ℤ) → low ≡ w +ℤ pos 1 → high ≡ pos 1 -ℤ w → v ≡ neg_ℤ w → d ≡ neg_ℤ (m -ℤ n)
    → is_nearest v d ≡ between ((pos 2 *ℤ m) +ℤ low) (pos 2 *ℤ n) ((pos 2 *ℤ m) +ℤ high)
test_rising w m n v d low high e f g h = λ i. first w m n v d low e g h i && last w m n v d high f g h i
  where
    first : (w m n v d low : ℤ) → low ≡ w +ℤ pos 1 → v ≡ neg_ℤ w → d ≡ neg_ℤ (m -ℤ n) → int_lt (neg_ℤ v) (pos 2 *ℤ d) ≡ int_le ((pos 2 *ℤ m) +ℤ low) (pos 2 *ℤ n)
    first w m n v d low e g h = lt_le (neg_ℤ v) (pos 2 *ℤ d) ((pos 2 *ℤ m) +ℤ low) (pos 2 *ℤ n) (λ l. omega (arith, ints)) (λ l. omega (arith, ints))

    last : (w m n v d high : ℤ) → high ≡ pos 1 -ℤ w → v ≡ neg_ℤ w → d ≡ neg_ℤ (m -ℤ n) → int_le (pos 2 *ℤ d) v ≡ int_lt (pos 2 *ℤ n) ((pos 2 *ℤ m) +ℤ high)
    last w m n v d high f g h = sym (lt_le (pos 2 *ℤ n) ((pos 2 *ℤ m) +ℤ high) (pos 2 *ℤ d) v (λ l. omega (arith, ints)) (λ l. omega (arith, ints)))

test_steep : (k m n low high : ℤ) → low ≡ pos 1 -ℤ k → high ≡ k +ℤ pos 1
    → is_nearest k (n -ℤ m) ≡ between ((pos 2 *ℤ m) +ℤ low) (pos 2 *ℤ n) ((pos 2 *ℤ m) +ℤ high)
test_steep k m n low high e f = λ i. first k m n low e i && last k m n high f i
  where
    first : (k m n low : ℤ) → low ≡ pos 1 -ℤ k → int_lt (neg_ℤ k) (pos 2 *ℤ (n -ℤ m)) ≡ int_le ((pos 2 *ℤ m) +ℤ low) (pos 2 *ℤ n)
    first k m n low e = lt_le (neg_ℤ k) (pos 2 *ℤ (n -ℤ m)) ((pos 2 *ℤ m) +ℤ low) (pos 2 *ℤ n) (λ l. omega (arith, ints)) (λ l. omega (arith, ints))

    last : (k m n high : ℤ) → high ≡ k +ℤ pos 1 → int_le (pos 2 *ℤ (n -ℤ m)) k ≡ int_lt (pos 2 *ℤ n) ((pos 2 *ℤ m) +ℤ high)
    last k m n high f = sym (lt_le (pos 2 *ℤ n) ((pos 2 *ℤ m) +ℤ high) (pos 2 *ℤ (n -ℤ m)) k (λ l. omega (arith, ints)) (λ l. omega (arith, ints)))

-- a row of a line that goes down
pub row_is : (u l p : Point) (low high : ℤ) → u.v <ℤ l.v → IsReach (l.h -ℤ u.h) (l.v -ℤ u.v) low high → IsAround u l p
    → thin_holds u l p ≡ between ((pos 2 *ℤ ((l.h -ℤ u.h) *ℤ (p.v -ℤ u.v))) +ℤ low) ((pos 2 *ℤ (l.v -ℤ u.v)) *ℤ (p.h -ℤ u.h)) ((pos 2 *ℤ ((l.h -ℤ u.h) *ℤ (p.v -ℤ u.v))) +ℤ high)
row_is u l p low high slanted reach around =
    let left = around.left in
    let right = around.right in
    let top = around.top in
    let bottom = around.bottom in
    let above : u.v ≤ℤ p.v = omega (arith, ints, clamps) in
    let under : p.v ≤ℤ l.v = omega (arith, ints, clamps) in
    by_lt_z (l.h -ℤ u.h) (l.v -ℤ u.v)
    (λ less. by_lt_z (neg_ℤ (l.h -ℤ u.h)) (l.v -ℤ u.v)
    (λ more.
    let its = reach.steep less more in
    steep_is u l p (not_flat (l.v -ℤ u.v) (l.h -ℤ u.h) less more)
    ∙ (λ i. near_is (turned u) (turned l) (turned p) slanted above under i || past_is (turned l) (turned u) (turned p) slanted i)
    ∙ or_none _
    ∙ test_steep (l.v -ℤ u.v) ((l.h -ℤ u.h) *ℤ (p.v -ℤ u.v)) ((l.v -ℤ u.v) *ℤ (p.h -ℤ u.h)) low high its.0 its.1
    ∙ told)
    (λ rises.
    let its = reach.rising rises in
    let back : l.h <ℤ u.h = omega (arith, ints) in
    let first : l.h ≤ℤ p.h = omega (arith, ints, clamps) in
    let last : p.h ≤ℤ u.h = omega (arith, ints, clamps) in
    flat_is u l p (rising_flat (l.v -ℤ u.v) (l.h -ℤ u.h) (omega (arith, ints)) rises)
    ∙ (λ i. past_is u l p back i || near_is l u p back first last i)
    ∙ test_rising (l.h -ℤ u.h) ((l.h -ℤ u.h) *ℤ (p.v -ℤ u.v)) ((l.v -ℤ u.v) *ℤ (p.h -ℤ u.h)) (u.h -ℤ l.h) (depth l u p) low high its.0 its.1 (omega (arith, ints)) (depth_back u l p)
    ∙ told))
    (λ falls.
    let its = reach.falling falls in
    let ahead : u.h <ℤ l.h = omega (arith, ints) in
    let first : u.h ≤ℤ p.h = omega (arith, ints, clamps) in
    let last : p.h ≤ℤ l.h = omega (arith, ints, clamps) in
    flat_is u l p (falling_flat (l.v -ℤ u.v) (l.h -ℤ u.h) (omega (arith, ints)) falls)
    ∙ (λ i. near_is u l p ahead first last i || past_is l u p ahead i)
    ∙ or_none _
    ∙ test_falling (l.h -ℤ u.h) ((l.h -ℤ u.h) *ℤ (p.v -ℤ u.v)) ((l.v -ℤ u.v) *ℤ (p.h -ℤ u.h)) low high its.0 its.1
    ∙ told)
  where
    told : between ((pos 2 *ℤ ((l.h -ℤ u.h) *ℤ (p.v -ℤ u.v))) +ℤ low) (pos 2 *ℤ ((l.v -ℤ u.v) *ℤ (p.h -ℤ u.h))) ((pos 2 *ℤ ((l.h -ℤ u.h) *ℤ (p.v -ℤ u.v))) +ℤ high)
        ≡ between ((pos 2 *ℤ ((l.h -ℤ u.h) *ℤ (p.v -ℤ u.v))) +ℤ low) ((pos 2 *ℤ (l.v -ℤ u.v)) *ℤ (p.h -ℤ u.h)) ((pos 2 *ℤ ((l.h -ℤ u.h) *ℤ (p.v -ℤ u.v))) +ℤ high)
    told = ap (λ z. between ((pos 2 *ℤ ((l.h -ℤ u.h) *ℤ (p.v -ℤ u.v))) +ℤ low) z ((pos 2 *ℤ ((l.h -ℤ u.h) *ℤ (p.v -ℤ u.v))) +ℤ high)) (sym (twice_times (l.v -ℤ u.v) (p.h -ℤ u.h)))

-- what lies on the way itself
on_way : (w d : ℤ) → pos 0 <ℤ w → d ≡ pos 0 → is_nearest w d ≡ true
on_way w d l e = and_from (int_lt (neg_ℤ w) (pos 2 *ℤ d)) (int_le (pos 2 *ℤ d) w) (lt_yes (neg_ℤ w) (pos 2 *ℤ d) (omega (arith, ints))) (le_yes (pos 2 *ℤ d) w (omega (arith, ints)))

no_depth : (w y k x : ℤ) → y ≡ pos 0 → k ≡ pos 0 → (w *ℤ y) -ℤ (k *ℤ x) ≡ pos 0
no_depth w y k x e f = (λ i. (w *ℤ e i) -ℤ (f i *ℤ x)) ∙ both (w *ℤ pos 0) (pos 0 *ℤ x) (nothing w) (*ℤ_comm (pos 0) x ∙ nothing x)
  where
    both : (m n : ℤ) → m ≡ pos 0 → n ≡ pos 0 → m -ℤ n ≡ pos 0
    both m n e f = omega (arith, ints)

same_depth : (w k : ℤ) → (w *ℤ k) -ℤ (k *ℤ w) ≡ pos 0
same_depth w k = none (w *ℤ k) (k *ℤ w) (*ℤ_comm w k)
  where
    none : (m n : ℤ) → m ≡ n → m -ℤ n ≡ pos 0
    none m n e = omega (arith, ints)

-- both ends of a way to the right
pub right_ends : (a b : Point) → a.h <ℤ b.h → (rightward a b a ≡ true) × (rightward a b b ≡ true)
right_ends a b less = (
  near_is a b a less (omega (arith, ints)) (omega (arith, ints))
      ∙ on_way (b.h -ℤ a.h) (depth a b a) (omega (arith, ints)) (here (b.h -ℤ a.h) (a.v -ℤ a.v) (b.v -ℤ a.v) (a.h -ℤ a.h) (omega (arith, ints)) (omega (arith, ints))),
  near_is a b b less (omega (arith, ints)) (omega (arith, ints))
      ∙ on_way (b.h -ℤ a.h) (depth a b b) (omega (arith, ints)) (same_depth (b.h -ℤ a.h) (b.v -ℤ a.v)),
)
  where
    here : (w y k x : ℤ) → y ≡ pos 0 → x ≡ pos 0 → (w *ℤ y) -ℤ (k *ℤ x) ≡ pos 0
    here w y k x e f = (λ i. (w *ℤ e i) -ℤ (k *ℤ f i)) ∙ both (w *ℤ pos 0) (k *ℤ pos 0) (nothing w) (nothing k)
      where
        both : (m n : ℤ) → m ≡ pos 0 → n ≡ pos 0 → m -ℤ n ≡ pos 0
        both m n e f = omega (arith, ints)

-- a level line has all pixels between its ends
level_right : (a b p : Point) → a.h <ℤ b.h → a.v ≡ b.v → p.v ≡ a.v → a.h ≤ℤ p.h → p.h ≤ℤ b.h → rightward a b p ≡ true
level_right a b p less level at low high =
    near_is a b p less low high ∙ on_way (b.h -ℤ a.h) (depth a b p) (omega (arith, ints)) (no_depth (b.h -ℤ a.h) (p.v -ℤ a.v) (b.v -ℤ a.v) (p.h -ℤ a.h) (omega (arith, ints)) (omega (arith, ints)))

pub dot_right : (a b p : Point) → a.h ≡ b.h → p.v ≡ a.v → p.h ≡ a.h → rightward a b p ≡ true
unfolding rightward
dot_right a b p same at here =
    and_from _ _ (between-in a.h p.h (b.h +ℤ pos 1) (omega (arith, ints)) (omega (arith, ints)))
    (cond-false (int_lt a.h b.h) (is_nearest (b.h -ℤ a.h) (depth a b p)) (between a.v p.v (a.v +ℤ pos 1)) (lt_not a.h b.h (omega (arith, ints)))
    ∙ between-in a.v p.v (a.v +ℤ pos 1) (omega (arith, ints)) (omega (arith, ints)))

pub level_has : (a b p : Point) → a.v ≡ b.v → p.v ≡ a.v → int_min a.h b.h ≤ℤ p.h → p.h ≤ℤ int_max a.h b.h → thin_holds a b p ≡ true
level_has a b p level at low high =
    flat_is a b p (flat (b.v -ℤ a.v) (b.h -ℤ a.h) (omega (arith, ints)))
    ∙ by_lt_z a.h b.h
    (λ less. or_left (rightward a b p) (rightward b a p) (level_right a b p less level at (omega (arith, ints, clamps)) (omega (arith, ints, clamps))))
    (λ from. by_lt_z b.h a.h
    (λ more. or_right (rightward a b p) (rightward b a p) (level_right b a p more (sym level) (at ∙ level) (omega (arith, ints, clamps)) (omega (arith, ints, clamps))))
    (λ to. or_left (rightward a b p) (rightward b a p) (dot_right a b p (omega (arith, ints)) at (omega (arith, ints, clamps)))))
  where
    flat : (k w : ℤ) → k ≡ pos 0 → nat_le (unsigned_abs k) (unsigned_abs w) ≡ true
    flat k w e = let f = none_size k e in le-leb (unsigned_abs k) (unsigned_abs w) (omega arith)
