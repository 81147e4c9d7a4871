-- Products of integers.
use Rattle.std.proofs.Common.{◌≡◌, ℕ, ◌+◌, ◌*◌, ◌≤◌, ◌<◌, ◌^◌, ℤ, pos, ◌+ℤ◌, ◌-ℤ◌, ◌*ℤ◌, ◌≤ℤ◌, neg_ℤ, ap, sym, subst, ◌∙◌, arith, SFits, w64, unsigned_abs}
use Rattle.std.proofs.lemmas.Int.{ints, fits_signed_mul, unsigned_abs-mul}
use Rattle.std.proofs.lemmas.Nat.{mul-le}
use Rattle.std.proofs.Math.IntN.{*ℤ_comm, pos-*ℤ-pos}
use Rattle.region_rows.specs.Counts.{count_to}
use Rattle.region_rows.proofs.Counts.{count-is}
use Rattle.shape_strips.specs.Places.{IsWithin}
use borrow.Author.Differences.{up, down}

-- a product with a sum
pub times_sum : (w y x : ℤ) → w *ℤ (y +ℤ x) ≡ (w *ℤ y) +ℤ (w *ℤ x)
times_sum w y x =
    let s : up (y +ℤ x) + down y + down x ≡ down (y +ℤ x) + up y + up x = omega (arith, ints) in
    let e : up w * (up (y +ℤ x) + down y + down x) ≡ up w * (down (y +ℤ x) + up y + up x) = ap (λ n. up w * n) s in
    let f : down w * (up (y +ℤ x) + down y + down x) ≡ down w * (down (y +ℤ x) + up y + up x) = ap (λ n. down w * n) s in
    omega (arith, ints)

-- a factor that is one more
pub times_next : (w y : ℤ) → w *ℤ (y +ℤ pos 1) ≡ (w *ℤ y) +ℤ w
times_next w y = times_sum w y (pos 1) ∙ omega (arith, ints)

as_natural : (z : ℤ) → pos 0 ≤ℤ z → pos (count_to (pos 0) z) ≡ z
as_natural z l = let e = count-is (pos 0) z l in omega (arith, ints)

not_below : (m n : ℕ) → pos 0 ≤ℤ (pos m *ℤ pos n)
not_below m n = rw (pos-*ℤ-pos m n) (omega (arith, ints))

pub times_natural : (a b : ℤ) → pos 0 ≤ℤ a → pos 0 ≤ℤ b → pos 0 ≤ℤ (a *ℤ b)
times_natural a b l m =
    let P : ℤ → ℤ → Type 0 = λ x y. pos 0 ≤ℤ (x *ℤ y) in
    subst (λ x. P x b) (as_natural a l) (subst (λ y. P (pos (count_to (pos 0) a)) y) (as_natural b m) (not_below (count_to (pos 0) a) (count_to (pos 0) b)))

-- a factor that is no smaller
pub times_le : (w x y : ℤ) → pos 0 ≤ℤ w → x ≤ℤ y → (w *ℤ x) ≤ℤ (w *ℤ y)
times_le w x y l m =
    let whole : x +ℤ (y -ℤ x) ≡ y = omega (arith, ints) in
    let parts : w *ℤ (x +ℤ (y -ℤ x)) ≡ (w *ℤ x) +ℤ (w *ℤ (y -ℤ x)) = times_sum w x (y -ℤ x) in
    let same : w *ℤ (x +ℤ (y -ℤ x)) ≡ w *ℤ y = ap (λ z. w *ℤ z) whole in
    let more : pos 0 ≤ℤ (w *ℤ (y -ℤ x)) = times_natural w (y -ℤ x) l (omega (arith, ints)) in
    let total : w *ℤ y ≡ (w *ℤ x) +ℤ (w *ℤ (y -ℤ x)) = sym same ∙ parts in
    sums (w *ℤ x) (w *ℤ y) (w *ℤ (y -ℤ x)) total more
  where
    sums : (a b c : ℤ) → b ≡ a +ℤ c → pos 0 ≤ℤ c → a ≤ℤ b
    sums a b c e l = omega (arith, ints)

-- twice a number, and one more, as a factor
pub twice_times : (k x : ℤ) → (pos 2 *ℤ k) *ℤ x ≡ pos 2 *ℤ (k *ℤ x)
twice_times k x =
    *ℤ_comm (pos 2 *ℤ k) x ∙ ap (λ z. x *ℤ z) (two k) ∙ times_sum x k k ∙ both (x *ℤ k) (k *ℤ x) (*ℤ_comm x k)
  where
    two : (k : ℤ) → pos 2 *ℤ k ≡ k +ℤ k
    two k = omega (arith, ints)

    both : (m n : ℤ) → m ≡ n → m +ℤ m ≡ pos 2 *ℤ n
    both m n e = omega (arith, ints)

pub odd_times : (x k : ℤ) → ((pos 2 *ℤ x) +ℤ pos 1) *ℤ k ≡ (pos 2 *ℤ (k *ℤ x)) +ℤ k
odd_times x k =
    *ℤ_comm ((pos 2 *ℤ x) +ℤ pos 1) k ∙ times_next k (pos 2 *ℤ x)
    ∙ ap (λ z. z +ℤ k) (*ℤ_comm k (pos 2 *ℤ x) ∙ twice_times x k ∙ ap (λ z. pos 2 *ℤ z) (*ℤ_comm x k))

-- a factor on the other side of 0
pub times_neg : (k x : ℤ) → neg_ℤ k *ℤ x ≡ neg_ℤ (k *ℤ x)
times_neg k x =
    opposite (neg_ℤ k *ℤ x) (k *ℤ x) (x *ℤ neg_ℤ k) (x *ℤ k) (*ℤ_comm (neg_ℤ k) x) (*ℤ_comm k x) (sym (times_sum x (neg_ℤ k) k) ∙ ap (λ z. x *ℤ z) (none k) ∙ nothing x)
  where
    none : (k : ℤ) → neg_ℤ k +ℤ k ≡ pos 0
    none k = omega (arith, ints)

    nothing : (x : ℤ) → x *ℤ pos 0 ≡ pos 0
    nothing x = omega (arith, ints)

    opposite : (a b c d : ℤ) → a ≡ c → b ≡ d → c +ℤ d ≡ pos 0 → a ≡ neg_ℤ b
    opposite a b c d e f g = omega (arith, ints)

abs_le : (z : ℤ) (m : ℕ) → IsWithin z m → unsigned_abs z ≤ m
abs_le z m is = let low = is.low in let high = is.high in search (arith, ints)

pub from_abs : (z : ℤ) (m : ℕ) → unsigned_abs z ≤ m → IsWithin z m
from_abs z m l = record { low = search (arith, ints); high = search (arith, ints) }

pub product_within : (a b : ℤ) (m n : ℕ) → IsWithin a m → IsWithin b n → IsWithin (a *ℤ b) (m * n)
product_within a b m n p q = from_abs (a *ℤ b) (m * n) (rw (unsigned_abs-mul a b) (mul-le _ _ _ _ (abs_le a m p) (abs_le b n q)))

pub product_fits : (a b : ℤ) (m n : ℕ) → IsWithin a m → IsWithin b n → m * n < 2 ^ 63 → SFits w64 (a *ℤ b)
product_fits a b m n p q small = fits_signed_mul w64 a b m n (abs_le a m p) (abs_le b n q) small

-- a product with a difference
pub times_less : (w y x : ℤ) → w *ℤ (y -ℤ x) ≡ (w *ℤ y) -ℤ (w *ℤ x)
times_less w y x = less (w *ℤ (y -ℤ x)) (w *ℤ y) (w *ℤ x) (sym (times_sum w (y -ℤ x) x) ∙ ap (λ z. w *ℤ z) (back y x))
  where
    back : (y x : ℤ) → (y -ℤ x) +ℤ x ≡ y
    back y x = omega (arith, ints)

    less : (a b c : ℤ) → a +ℤ c ≡ b → a ≡ b -ℤ c
    less a b c e = omega (arith, ints)

-- a factor that is one less
pub times_back : (w y : ℤ) → w *ℤ (y -ℤ pos 1) ≡ (w *ℤ y) -ℤ w
times_back w y = times_less w y (pos 1) ∙ omega (arith, ints)

-- a product of a number that is not above 0, and one that is not below
pub times_not_above : (k x : ℤ) → k ≤ℤ pos 0 → pos 0 ≤ℤ x → (k *ℤ x) ≤ℤ pos 0
times_not_above k x l m = opposite (k *ℤ x) (neg_ℤ k *ℤ x) (times_neg k x) (times_natural (neg_ℤ k) x (omega (arith, ints)) m)
  where
    opposite : (a b : ℤ) → b ≡ neg_ℤ a → pos 0 ≤ℤ b → a ≤ℤ pos 0
    opposite a b e l = omega (arith, ints)

pub times_falls : (k x w : ℤ) → k ≤ℤ pos 0 → x ≤ℤ w → (w *ℤ k) ≤ℤ (k *ℤ x)
times_falls k x w l m =
    turned (k *ℤ x) (k *ℤ w) (neg_ℤ k *ℤ x) (neg_ℤ k *ℤ w) (w *ℤ k) (times_neg k x) (times_neg k w) (*ℤ_comm w k) (times_le (neg_ℤ k) x w (omega (arith, ints)) m)
  where
    turned : (a b c d e : ℤ) → c ≡ neg_ℤ a → d ≡ neg_ℤ b → e ≡ b → c ≤ℤ d → e ≤ℤ a
    turned a b c d e f g h l = omega (arith, ints)

pub times_rises : (k x w : ℤ) → pos 0 ≤ℤ k → x ≤ℤ w → (k *ℤ x) ≤ℤ (w *ℤ k)
times_rises k x w l m = rw (*ℤ_comm w k) (times_le k x w l m)
