-- The order of directions around the circle.
use Rattle.std.proofs.Common.{◌≡◌, ◌&&◌, ℕ, zero, suc, ◌+◌, ◌-◌, ◌*◌, ◌/◌, ◌%◌, ◌≤◌, ◌<◌, Bool, true, List, [], ◌∷◌, get_or, length, ℤ, pos, negsuc, neg_ℤ, ◌+ℤ◌, ◌-ℤ◌, ◌*ℤ◌, ◌≤ℤ◌, ◌<ℤ◌, refl, sym, ap, subst, ◌∙◌, inl, inr, arith, unsigned_abs, lit<}
use Rattle.std.specs.Prelude.{nat_lt}
use Rattle.std.specs.Int.{int_rem_euclid}
use Rattle.std.proofs.lemmas.Bool.{and_parts, cases_lt}
use Rattle.std.proofs.lemmas.Int.{ints, int_rem_euclid_is}
use Rattle.std.proofs.lemmas.Nat.{mul-le}
use Rattle.std.proofs.Math.IntN.{*ℤ_comm, pos-*ℤ-pos}
use Rattle.tb_geom.specs.declared.point.Point.{Point}
use Rattle.shape_strips.proofs.Products.{times_natural, times_neg}
use Rattle.shape_arcs.specs.Directions.{direction, first_quarter, quarter_turn, quarters, tangent, tangents}
use Rattle.shape_arcs.specs.Rays.{cross}
use Rattle.shape_arcs.specs.Sights.{opposite}
use Rattle.shape_arcs.proofs.DirectionLemmas.{high_direction, low_direction, tangent_near}
use Rattle.shape_arcs.proofs.ProductLemmas.{below_below, times_neg_right}

-- ---- tangents rise

above : ℕ → List ℕ → Bool
above x [] = true
above x (y ∷ ys) = nat_lt x y

are_rising : List ℕ → Bool
unfolding above
are_rising [] = true
are_rising (x ∷ xs) = above x xs && are_rising xs

rising : (xs : List ℕ) (d : ℕ) → are_rising xs ≡ true → suc d < length xs → get_or xs d 0 < get_or xs (suc d) 0
unfolding above are_rising
rising [] d e l = absurd (omega arith)
rising (x ∷ []) d e l = absurd (omega arith)
rising (x ∷ (y ∷ ys)) zero e l = let two = and_parts (nat_lt x y) _ e in let first = two.0 in grind arith
rising (x ∷ (y ∷ ys)) (suc d) e l = rising (y ∷ ys) d (and_parts (nat_lt x y) _ e).1 (omega arith)

tangent_next : (d : ℕ) → d ≤ 44 → tangent d < tangent (suc d)
unfolding tangent above are_rising
tangent_next d l = rising tangents d refl (omega arith)

tangent_rises : (n d k : ℕ) → k ≡ d + suc n → k ≤ 45 → tangent d < tangent k
tangent_rises zero d k e l =
    let next : k ≡ suc d = omega arith in
    subst (λ j. tangent d < tangent j) (sym next) (tangent_next d (omega arith))
tangent_rises (suc n) d k e l =
    let j : ℕ = d + suc n in
    let less = tangent_rises n d (d + suc n) refl (omega arith) in
    let more = tangent_next (d + suc n) (omega arith) in
    let next : k ≡ suc (d + suc n) = omega arith in
    subst (λ j. tangent d < tangent j) (sym next) (chain (tangent d) (tangent (d + suc n)) (tangent (suc (d + suc n))) less more)
  where
    chain : (a b c : ℕ) → a < b → b < c → a < c
    chain a b c l m = omega arith

tangent_above : (d k : ℕ) → d < k → k ≤ 45 → tangent d < tangent k
tangent_above d k l m = tangent_rises (k - d - 1) d k (omega arith) m

-- ---- directions of the first quarter, in order

level : (t u : ℕ) → t < u → pos 0 <ℤ ((pos t *ℤ negsuc 65535) -ℤ (negsuc 65535 *ℤ pos u))
level t u l = omega (arith, ints)

steep : (t u : ℕ) → t < u → pos 0 <ℤ ((pos 65536 *ℤ neg_ℤ (pos t)) -ℤ (neg_ℤ (pos u) *ℤ pos 65536))
steep t u l = omega (arith, ints)

corner : (t u : ℕ) → t ≤ 65536 → u < 65536 → pos 0 <ℤ ((pos t *ℤ neg_ℤ (pos u)) -ℤ (negsuc 65535 *ℤ pos 65536))
corner t u l m = past (pos t *ℤ neg_ℤ (pos u)) (t * u) (times_neg_right (pos t) (pos u) ∙ ap neg_ℤ (pos-*ℤ-pos t u)) (mul-le t u 65536 65535 l (omega arith))
  where
    past : (z : ℤ) (n : ℕ) → z ≡ neg_ℤ (pos n) → n ≤ 65536 * 65535 → pos 0 <ℤ (z -ℤ (negsuc 65535 *ℤ pos 65536))
    past z n e l = omega (arith, ints)

in_order : (i j : ℕ) → i < j → j < 90 → pos 0 <ℤ cross (first_quarter i) (first_quarter j)
in_order i j l m = elim (cases_lt 45 i) [
  | inl high ↦
      let e = high_direction i high in
      let f = high_direction j (omega arith) in
      subst (λ p. pos 0 <ℤ cross p (first_quarter j)) (sym e) (subst (λ p. pos 0 <ℤ cross (record { h = pos 65536; v = neg_ℤ (pos (tangent (90 - i))) }) p) (sym f)
      (steep (tangent (90 - j)) (tangent (90 - i)) (tangent_above (90 - j) (90 - i) (omega arith) (omega arith))))
  | inr low ↦
      let e = low_direction i i low refl in
      subst (λ p. pos 0 <ℤ cross p (first_quarter j)) (sym e) (elim (cases_lt 45 j) [
        | inl high ↦
            let most = tangent_above (90 - j) 45 (omega arith) (omega arith) in
            let near = tangent_near 45 (omega arith) in
            subst (λ p. pos 0 <ℤ cross (record { h = pos (tangent i); v = negsuc 65535 }) p) (sym (high_direction j high))
            (corner (tangent i) (tangent (90 - j)) (tangent_near i low) (under (tangent (90 - j)) (tangent 45) most near))
        | inr both ↦ subst (λ p. pos 0 <ℤ cross (record { h = pos (tangent i); v = negsuc 65535 }) p) (sym (low_direction j j both refl))
            (level (tangent i) (tangent j) (tangent_above i j l both))
      ])
]
  where
    under : (a b : ℕ) → a < b → b ≤ 65536 → a < 65536
    under a b l m = omega arith

record IsFirst (p : Point) : Type 0 where
  right : pos 0 ≤ℤ p.h
  up : p.v <ℤ pos 0

is_first : (i : ℕ) → i < 90 → IsFirst (first_quarter i)
is_first i l = elim (cases_lt 45 i) [
  | inl high ↦
      let some = tangent_above 0 (90 - i) (omega arith) (omega arith) in
      subst IsFirst (sym (high_direction i high)) (record { right = omega (arith, ints); up = below (tangent 0) (tangent (90 - i)) some })
  | inr low ↦ subst IsFirst (sym (low_direction i i low refl)) (record { right = natural (tangent i); up = omega (arith, ints) })
]
  where
    below : (m n : ℕ) → m < n → neg_ℤ (pos n) <ℤ pos 0
    below m n l = omega (arith, ints)

    natural : (n : ℕ) → pos 0 ≤ℤ pos n
    natural n = omega (arith, ints)

-- ---- quarters of a turn

cross_turn : (x y : Point) → cross (quarter_turn x) (quarter_turn y) ≡ cross x y
cross_turn x y = turned (x.h *ℤ y.v) (x.v *ℤ y.h) (neg_ℤ x.v *ℤ y.h) (x.h *ℤ neg_ℤ y.v) (times_neg x.v y.h) (times_neg_right x.h y.v)
  where
    turned : (m n a b : ℤ) → a ≡ neg_ℤ n → b ≡ neg_ℤ m → a -ℤ b ≡ m -ℤ n
    turned m n a b e f = omega (arith, ints)

cross_quarters : (n : ℕ) (x y : Point) → cross (quarters n x) (quarters n y) ≡ cross x y
unfolding quarters
cross_quarters zero x y = refl
cross_quarters (suc n) x y = cross_turn (quarters n x) (quarters n y) ∙ cross_quarters n x y

quarters_sum : (a b n : ℕ) (p : Point) → n ≡ a + b → quarters n p ≡ quarters a (quarters b p)
unfolding quarters
quarters_sum zero b n p e = let same : n ≡ b = omega arith in ap (λ k. quarters k p) same
quarters_sum (suc a) b n p e =
    let same : n ≡ suc (a + b) = omega arith in
    ap (λ k. quarters k p) same ∙ ap quarter_turn (quarters_sum a b (a + b) p refl)

half_turn : (p : Point) → quarter_turn (quarter_turn p) ≡ opposite p
half_turn p = refl

twice_neg : (z : ℤ) → neg_ℤ (neg_ℤ z) ≡ z
twice_neg z = omega (arith, ints)

whole_turn : (p : Point) → quarter_turn (quarter_turn (quarter_turn (quarter_turn p))) ≡ p
whole_turn p = λ i. record { h = twice_neg p.h i; v = twice_neg p.v i }

whole_turns : (t n : ℕ) (p : Point) → n ≡ t * 4 → quarters n p ≡ p
unfolding quarters
whole_turns zero n p e = let same : n ≡ 0 = omega arith in ap (λ k. quarters k p) same
whole_turns (suc t) n p e =
    let same : n ≡ suc (suc (suc (suc (t * 4)))) = omega arith in
    ap (λ k. quarters k p) same ∙ whole_turn (quarters (t * 4) p) ∙ whole_turns t (t * 4) p refl

-- ---- directions by naturals

pub compass : ℕ → Point
compass n = quarters (n / 90) (first_quarter (n % 90))

pub direction_compass : (z : ℤ) (k m : ℕ) → z +ℤ pos (k * 360) ≡ pos m → direction z ≡ compass m
unfolding direction compass
direction_compass z k m e =
    let is : int_rem_euclid z (pos 360) ≡ pos (m % 360) = int_rem_euclid_is z (pos 360) 360 k m (lit< tt) refl e in
    let rest : (m % 360) % 90 ≡ m % 90 = omega arith in
    let whole : m / 90 ≡ (m / 360) * 4 + (m % 360) / 90 = omega arith in
    ap (λ w. quarters (unsigned_abs w / 90) (first_quarter (unsigned_abs w % 90))) is
    ∙ ap (λ r. quarters ((m % 360) / 90) (first_quarter r)) rest
    ∙ sym (quarters_sum ((m / 360) * 4) ((m % 360) / 90) (m / 90) (first_quarter (m % 90)) whole ∙ whole_turns (m / 360) ((m / 360) * 4) _ refl)

pub compass_opposite : (m : ℕ) → compass (m + 180) ≡ opposite (compass m)
unfolding compass quarters
compass_opposite m =
    let quarter : (m + 180) / 90 ≡ suc (suc (m / 90)) = omega arith in
    let rest : (m + 180) % 90 ≡ m % 90 = omega arith in
    (λ i. quarters (quarter i) (first_quarter (rest i))) ∙ half_turn (quarters (m / 90) (first_quarter (m % 90)))

-- less than half a turn further lies clockwise
near_turn : (i n : ℕ) → i < 90 → 0 < n → n < 180 → pos 0 <ℤ cross (first_quarter i) (quarters ((i + n) / 90) (first_quarter ((i + n) % 90)))
unfolding quarters
near_turn i n l some few = elim (cases_lt (i + n) 90) [
  | inl same ↦
      let quarter : (i + n) / 90 ≡ 0 = omega arith in
      let rest : (i + n) % 90 ≡ i + n = omega arith in
      subst (λ k. pos 0 <ℤ cross (first_quarter i) (quarters k (first_quarter ((i + n) % 90)))) (sym quarter)
      (subst (λ k. pos 0 <ℤ cross (first_quarter i) (first_quarter k)) (sym rest) (in_order i (i + n) (omega arith) same))
  | inr past ↦ elim (cases_lt (i + n) 180) [
    | inl next ↦
        let quarter : (i + n) / 90 ≡ suc zero = omega arith in
        let less : (i + n) % 90 < 90 = omega arith in
        subst (λ k. pos 0 <ℤ cross (first_quarter i) (quarters k (first_quarter ((i + n) % 90)))) (sym quarter)
        (across (first_quarter i) (first_quarter ((i + n) % 90)) (is_first i l) (is_first ((i + n) % 90) less))
    | inr far ↦
        let quarter : (i + n) / 90 ≡ suc (suc zero) = omega arith in
        let less : (i + n) % 90 < i = omega arith in
        subst (λ k. pos 0 <ℤ cross (first_quarter i) (quarters k (first_quarter ((i + n) % 90)))) (sym quarter)
        (back (first_quarter i) (first_quarter ((i + n) % 90)) (in_order ((i + n) % 90) i less l))
  ]
]
  where
    across : (x y : Point) → IsFirst x → IsFirst y → pos 0 <ℤ cross x (quarter_turn y)
    across x y p q = sum (x.h *ℤ y.h) (x.v *ℤ y.v) (x.v *ℤ neg_ℤ y.v) (times_neg_right x.v y.v) (times_natural x.h y.h p.right q.right) (below_below x.v y.v p.up q.up)
      where
        sum : (m n a : ℤ) → a ≡ neg_ℤ n → pos 0 ≤ℤ m → pos 0 <ℤ n → pos 0 <ℤ (m -ℤ a)
        sum m n a e l k = omega (arith, ints)

    back : (x y : Point) → pos 0 <ℤ cross y x → pos 0 <ℤ cross x (quarter_turn (quarter_turn y))
    back x y l = turned (y.h *ℤ x.v) (y.v *ℤ x.h) (x.h *ℤ y.v) (x.v *ℤ y.h) (x.h *ℤ neg_ℤ y.v) (x.v *ℤ neg_ℤ y.h) (*ℤ_comm y.h x.v) (*ℤ_comm y.v x.h) (times_neg_right x.h y.v) (times_neg_right x.v y.h) l
      where
        turned : (m n o p a b : ℤ) → m ≡ p → n ≡ o → a ≡ neg_ℤ o → b ≡ neg_ℤ p → pos 0 <ℤ (m -ℤ n) → pos 0 <ℤ (a -ℤ b)
        turned m n o p a b e f g h l = omega (arith, ints)

pub compass_order : (m k : ℕ) → m < k → k < m + 180 → pos 0 <ℤ cross (compass m) (compass k)
unfolding compass
compass_order m k l few =
    let quarter : k / 90 ≡ m / 90 + (m % 90 + (k - m)) / 90 = omega arith in
    let rest : k % 90 ≡ (m % 90 + (k - m)) % 90 = omega arith in
    let i : ℕ = m % 90 in
    let n : ℕ = k - m in
    let parts : quarters (k / 90) (first_quarter (k % 90)) ≡ quarters (m / 90) (quarters ((m % 90 + (k - m)) / 90) (first_quarter ((m % 90 + (k - m)) % 90))) =
    quarters_sum (m / 90) ((m % 90 + (k - m)) / 90) (k / 90) (first_quarter (k % 90)) quarter
    ∙ ap (λ r. quarters (m / 90) (quarters ((m % 90 + (k - m)) / 90) (first_quarter r))) rest in
    subst (λ z. pos 0 <ℤ z) (sym (ap (cross (quarters (m / 90) (first_quarter (m % 90)))) parts ∙ cross_quarters (m / 90) (first_quarter (m % 90)) (quarters ((m % 90 + (k - m)) / 90) (first_quarter ((m % 90 + (k - m)) % 90)))))
    (near_turn (m % 90) (k - m) (omega arith) (omega arith) (omega arith))
