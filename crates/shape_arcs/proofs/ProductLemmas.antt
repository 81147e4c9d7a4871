-- Products of integers, and their signs.
use Rattle.std.proofs.Common.{◌≡◌, ◌⊎◌, ℕ, suc, ◌*◌, ℤ, pos, negsuc, neg_ℤ, ◌*ℤ◌, ◌≤ℤ◌, ◌<ℤ◌, sym, ap, ◌∙◌, inl, inr, arith}
use Rattle.std.proofs.lemmas.Int.{ints, by_lt_z}
use Rattle.std.proofs.Math.IntN.{*ℤ_comm, zero-*ℤ, pos-*ℤ-pos}
use Rattle.std.proofs.Math.Nat.{mul_assoc}
use Rattle.shape_strips.proofs.Products.{times_le, times_neg}

-- ---- order and grouping

pub times_neg_right : (x y : ℤ) → x *ℤ neg_ℤ y ≡ neg_ℤ (x *ℤ y)
times_neg_right x y = *ℤ_comm x (neg_ℤ y) ∙ times_neg y x ∙ ap neg_ℤ (*ℤ_comm y x)

naturals_assoc : (a b c : ℕ) → (pos a *ℤ pos b) *ℤ pos c ≡ pos a *ℤ (pos b *ℤ pos c)
naturals_assoc a b c =
    ap (λ z. z *ℤ pos c) (pos-*ℤ-pos a b) ∙ pos-*ℤ-pos (a * b) c ∙ ap pos (mul_assoc a b c)
    ∙ sym (ap (λ z. pos a *ℤ z) (pos-*ℤ-pos b c) ∙ pos-*ℤ-pos a (b * c))

third_assoc : (a b : ℕ) (c : ℤ) → (pos a *ℤ pos b) *ℤ c ≡ pos a *ℤ (pos b *ℤ c)
third_assoc a b (pos c) = naturals_assoc a b c
third_assoc a b (negsuc c) =
    times_neg_right (pos a *ℤ pos b) (pos (suc c)) ∙ ap neg_ℤ (naturals_assoc a b (suc c))
    ∙ sym (ap (λ z. pos a *ℤ z) (times_neg_right (pos b) (pos (suc c))) ∙ times_neg_right (pos a) (pos b *ℤ pos (suc c)))

second_assoc : (a : ℕ) (b c : ℤ) → (pos a *ℤ b) *ℤ c ≡ pos a *ℤ (b *ℤ c)
second_assoc a (pos b) c = third_assoc a b c
second_assoc a (negsuc b) c =
    ap (λ z. z *ℤ c) (times_neg_right (pos a) (pos (suc b))) ∙ times_neg (pos a *ℤ pos (suc b)) c ∙ ap neg_ℤ (third_assoc a (suc b) c)
    ∙ sym (ap (λ z. pos a *ℤ z) (times_neg (pos (suc b)) c) ∙ times_neg_right (pos a) (pos (suc b) *ℤ c))

pub times_assoc : (a b c : ℤ) → (a *ℤ b) *ℤ c ≡ a *ℤ (b *ℤ c)
times_assoc (pos a) b c = second_assoc a b c
times_assoc (negsuc a) b c =
    ap (λ z. z *ℤ c) (times_neg (pos (suc a)) b) ∙ times_neg (pos (suc a) *ℤ b) c ∙ ap neg_ℤ (second_assoc (suc a) b c)
    ∙ sym (times_neg (pos (suc a)) (b *ℤ c))

pub times_swap : (a b c : ℤ) → a *ℤ (b *ℤ c) ≡ b *ℤ (a *ℤ c)
times_swap a b c = sym (times_assoc a b c) ∙ ap (λ z. z *ℤ c) (*ℤ_comm a b) ∙ times_assoc b a c

-- ---- signs

pub one_time : (a : ℤ) → a *ℤ pos 1 ≡ a
one_time a = omega (arith, ints)

pub above_above : (a b : ℤ) → pos 0 <ℤ a → pos 0 <ℤ b → pos 0 <ℤ (a *ℤ b)
above_above a b l m = along a (a *ℤ pos 1) (a *ℤ b) (one_time a) (times_le a (pos 1) b (omega (arith, ints)) (omega (arith, ints))) l
  where
    along : (a m n : ℤ) → m ≡ a → m ≤ℤ n → pos 0 <ℤ a → pos 0 <ℤ n
    along a m n e l k = omega (arith, ints)

pub above_below : (a b : ℤ) → pos 0 <ℤ a → b <ℤ pos 0 → (a *ℤ b) <ℤ pos 0
above_below a b l m = along (a *ℤ b) (a *ℤ neg_ℤ b) (times_neg_right a b) (above_above a (neg_ℤ b) l (omega (arith, ints)))
  where
    along : (m n : ℤ) → n ≡ neg_ℤ m → pos 0 <ℤ n → m <ℤ pos 0
    along m n e l = omega (arith, ints)

pub below_above : (a b : ℤ) → a <ℤ pos 0 → pos 0 <ℤ b → (a *ℤ b) <ℤ pos 0
below_above a b l m = rw (*ℤ_comm a b) (above_below b a m l)

pub below_below : (a b : ℤ) → a <ℤ pos 0 → b <ℤ pos 0 → pos 0 <ℤ (a *ℤ b)
below_below a b l m = along (a *ℤ b) (neg_ℤ a *ℤ b) (times_neg a b) (above_below (neg_ℤ a) b (omega (arith, ints)) m)
  where
    along : (m n : ℤ) → n ≡ neg_ℤ m → n <ℤ pos 0 → pos 0 <ℤ m
    along m n e l = omega (arith, ints)

-- below 0, 0 or above
pub sign : (z : ℤ) → (z <ℤ pos 0) ⊎ ((z ≡ pos 0) ⊎ (pos 0 <ℤ z))
sign z = by_lt_z z (pos 0) (λ l. inl l) (λ m. by_lt_z (pos 0) z (λ l. inr (inr l)) (λ k. inr (inl (omega (arith, ints)))))

-- a number as many times as another one, and so many times again, lies on its side of 0
pub twice_above : (a x : ℤ) → (a ≡ pos 0 → ⊥) → pos 0 <ℤ x → pos 0 <ℤ (a *ℤ (a *ℤ x))
twice_above a x n l = elim (sign a) [
  | inl below ↦ below_below a (a *ℤ x) below (below_above a x below l)
  | inr rest ↦ elim rest [
    | inl none ↦ absurd (n none)
    | inr above ↦ above_above a (a *ℤ x) above (above_above a x above l)
  ]
]

pub twice_any : (a x : ℤ) → pos 0 <ℤ x → pos 0 ≤ℤ (a *ℤ (a *ℤ x))
twice_any a x l = elim (sign a) [
  | inl below ↦ weak (a *ℤ (a *ℤ x)) (below_below a (a *ℤ x) below (below_above a x below l))
  | inr rest ↦ elim rest [
    | inl none ↦ rw none (none_times (pos 0 *ℤ x))
    | inr above ↦ weak (a *ℤ (a *ℤ x)) (above_above a (a *ℤ x) above (above_above a x above l))
  ]
]
  where
    weak : (z : ℤ) → pos 0 <ℤ z → pos 0 ≤ℤ z
    weak z l = omega (arith, ints)

    none_times : (z : ℤ) → pos 0 ≤ℤ (pos 0 *ℤ z)
    none_times z = rw (zero-*ℤ z) (omega (arith, ints))

-- two squares of which one is not 0, times a number, add to 0 for 0 alone
pub squares_none : (a b x : ℤ) → (a ≡ pos 0 → ⊥) ⊎ (b ≡ pos 0 → ⊥) → a *ℤ (a *ℤ x) ≡ neg_ℤ (b *ℤ (b *ℤ x)) → x ≡ pos 0
squares_none a b x some e = elim (sign x) [
  | inl below ↦ absurd (above_none a b (neg_ℤ x) some (omega (arith, ints)) (turned a b x e))
  | inr rest ↦ elim rest [
    | inl none ↦ none
    | inr above ↦ absurd (above_none a b x some above e)
  ]
]
  where
    both : (m n : ℤ) → m ≡ neg_ℤ n → pos 0 <ℤ m → pos 0 ≤ℤ n → ⊥
    both m n e l k = omega (arith, ints)

    other : (m n : ℤ) → m ≡ neg_ℤ n → pos 0 ≤ℤ m → pos 0 <ℤ n → ⊥
    other m n e l k = omega (arith, ints)

    above_none : (a b x : ℤ) → (a ≡ pos 0 → ⊥) ⊎ (b ≡ pos 0 → ⊥) → pos 0 <ℤ x → a *ℤ (a *ℤ x) ≡ neg_ℤ (b *ℤ (b *ℤ x)) → ⊥
    above_none a b x (inl n) l e = both (a *ℤ (a *ℤ x)) (b *ℤ (b *ℤ x)) e (twice_above a x n l) (twice_any b x l)
    above_none a b x (inr n) l e = other (a *ℤ (a *ℤ x)) (b *ℤ (b *ℤ x)) e (twice_any a x l) (twice_above b x n l)

    under : (a x : ℤ) → a *ℤ (a *ℤ neg_ℤ x) ≡ neg_ℤ (a *ℤ (a *ℤ x))
    under a x = ap (λ z. a *ℤ z) (times_neg_right a x) ∙ times_neg_right a (a *ℤ x)

    turned : (a b x : ℤ) → a *ℤ (a *ℤ x) ≡ neg_ℤ (b *ℤ (b *ℤ x)) → a *ℤ (a *ℤ neg_ℤ x) ≡ neg_ℤ (b *ℤ (b *ℤ neg_ℤ x))
    turned a b x e = under a x ∙ ap neg_ℤ e ∙ ap neg_ℤ (sym (under b x))
