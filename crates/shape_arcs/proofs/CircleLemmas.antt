-- Wedges that follow each other once around.
use Rattle.std.proofs.Common.{◌≡◌, ◌⊎◌, ◌&&◌, ◌||◌, not, Bool, true, false, cond, ℕ, zero, suc, ◌+◌, ◌-◌, ◌*◌, ◌≤◌, ◌<◌, List, [], ◌∷◌, ℤ, pos, negsuc, neg_ℤ, ◌+ℤ◌, ◌-ℤ◌, ◌≤ℤ◌, refl, sym, ap, ◌∙◌, inl, inr, arith, unsigned_abs}
use Rattle.std.specs.Prelude.{int_le, int_lt, nat_lt}
use Rattle.std.proofs.lemmas.Bool.{cases_lt, false_from_ne_true, lt-ltb, le-ltb}
use Rattle.std.proofs.lemmas.Int.{ints}
use Rattle.tb_geom.specs.declared.point.Point.{Point}
use Rattle.tb_geom.specs.declared.rect.Rect.{Rect}
use Rattle.region_rows.specs.Counts.{count_to}
use Rattle.region_rows.proofs.Counts.{count-is}
use Rattle.shape_arcs.specs.Directions.{direction}
use Rattle.shape_arcs.specs.Rays.{is_from, is_seen_from, seen}
use Rattle.shape_arcs.specs.Wedges.{broad_wedge, clockwise, narrow_wedge, wedge_holds}
use Rattle.shape_arcs.specs.Sights.{opposite}
use Rattle.shape_arcs.specs.Circles.{GoAround, wedges_with}
use Rattle.shape_arcs.proofs.DirectionLemmas.{direction_somewhere}
use Rattle.shape_arcs.proofs.RayLemmas.{held, holds, not_middle, opposite_from}
use Rattle.shape_arcs.proofs.OrderLemmas.{compass, compass_opposite, compass_order, direction_compass}
use Rattle.shape_arcs.proofs.ConvexLemmas.{between_holds}

-- ---- a test of degrees that is true on half a circle

record IsHalf (f : ℕ → Bool) : Type 0 where
  back : (n : ℕ) → f (n + 180) ≡ not (f n)
  between : (i j k : ℕ) → i < j → j < k → k < i + 180 → f i ≡ true → f k ≡ true → f j ≡ true

-- where it turns first
record IsFirstTurn (f : ℕ → Bool) (b : Bool) (m : ℕ) : Type 0 where
  turns : f m ≡ not b
  before : (n : ℕ) → n < m → f n ≡ b

search_turn : (f : ℕ → Bool) (b : Bool) (k : ℕ) → ((m : ℕ) × (m < k) × IsFirstTurn f b m) ⊎ ((n : ℕ) → n < k → f n ≡ b)
search_turn f b zero = inr (λ n l. absurd (omega arith))
search_turn f b (suc k) = elim (search_turn f b k) [
  | inl found ↦ inl (found.0, omega (arith, found.1), found.2)
  | inr none ↦ here b (f k) refl none
]
  where
    here : (b x : Bool) → f k ≡ x → ((n : ℕ) → n < k → f n ≡ b) → ((m : ℕ) × (m < suc k) × IsFirstTurn f b m) ⊎ ((n : ℕ) → n < suc k → f n ≡ b)
    here true true e none = inr (λ n l. elim (cases_lt n k) [
      | inl less ↦ none n less
      | inr from ↦ let same : n ≡ k = omega arith in ap f same ∙ e
    ])
    here true false e none = inl (k, omega arith, record { turns = e; before = none })
    here false true e none = inl (k, omega arith, record { turns = e; before = none })
    here false false e none = inr (λ n l. elim (cases_lt n k) [
      | inl less ↦ none n less
      | inr from ↦ let same : n ≡ k = omega arith in ap f same ∙ e
    ])

neither : (x : Bool) → x ≡ not x → ⊥
neither true e = absurd (cc)
neither false e = absurd (cc)

-- the test is the same before some degree, the other one for half a turn from there, and again the same up to 360
record IsTurned (f : ℕ → Bool) (b : Bool) (m : ℕ) : Type 0 where
  some : 0 < m
  early : m ≤ 180
  low : (n : ℕ) → n < m → f n ≡ b
  middle : (n : ℕ) → m ≤ n → n < m + 180 → f n ≡ not b
  high : (n : ℕ) → m + 180 ≤ n → n ≤ 360 → f n ≡ b

not_not : (b : Bool) → not (not b) ≡ b
not_not true = refl
not_not false = refl

half_on : (f : ℕ → Bool) (b : Bool) (m n : ℕ) → IsHalf f → IsFirstTurn f b m → f 0 ≡ b → 0 < m → m ≤ n → n ≤ 180 → f n ≡ not b
half_on f b m n half first start some from to = elim (cases_lt m n) [
  | inl past ↦ elim (cases_lt n 180) [
    | inl less ↦ within b first start past less
    | inr last ↦ let same : n ≡ 0 + 180 = omega arith in ap f same ∙ half.back 0 ∙ ap not start
  ]
  | inr here ↦ let same : n ≡ m = omega arith in ap f same ∙ first.turns
]
  where
    within : (b : Bool) → IsFirstTurn f b m → f 0 ≡ b → m < n → n < 180 → f n ≡ not b
    within true first start past less = false_from_ne_true (f n) (λ t. neither true (sym (half.between 0 m n some past (omega arith) start t) ∙ first.turns))
    within false first start past less = half.between m n (0 + 180) past (omega arith) (omega arith) first.turns (half.back 0 ∙ ap not start)

turned_at : (f : ℕ → Bool) → IsHalf f → (m : ℕ) × IsTurned f (f 0) m
turned_at f half = elim (search_turn f (f 0) 181) [
  | inr none ↦ absurd (neither (f 0) (sym (none 180 (omega arith)) ∙ half.back 0))
  | inl found ↦
      let m : ℕ = found.0 in
      let few : found.0 < 181 = found.1 in
      let first = found.2 in
      let some : 0 < found.0 = positive found.0 first in (
        found.0,
        record {
          some = some;
          early = omega (arith, few);
          low = first.before;
          middle = λ n from to. elim (cases_lt 180 n) [
            | inl past ↦
                let same : n ≡ (n - 180) + 180 = omega arith in
                ap f same ∙ half.back (n - 180) ∙ ap not (first.before (n - 180) (omega arith))
            | inr within ↦ half_on f (f 0) found.0 n half first refl some from within
          ];
          high = λ n from to.
              let same : n ≡ (n - 180) + 180 = omega arith in
              ap f same ∙ half.back (n - 180) ∙ ap not (half_on f (f 0) found.0 (n - 180) half first refl some (omega arith) (omega arith)) ∙ not_not (f 0);
        },
      )
]
  where
    positive : (m : ℕ) → IsFirstTurn f (f 0) m → 0 < m
    positive zero first = absurd (neither (f 0) first.turns)
    positive (suc m) first = omega arith

-- ---- one wedge

wedge_of : Bool → Bool → Bool → Bool → Bool
wedge_of whole narrow x y = cond whole true (cond narrow (x && not y) (x || not y))

near_same : {e t x y : Bool} → e ≡ false → t ≡ true → x ≡ y → wedge_of e t x y ≡ false
unfolding wedge_of
near_same {y = y} e t s = (λ i. cond (e i) true (cond (t i) (s i && not y) (s i || not y))) ∙ none y
  where
    none : (y : Bool) → (y && not y) ≡ false
    none true = refl
    none false = refl

far_same : (e : Bool) {t x y : Bool} → t ≡ false → x ≡ y → wedge_of e t x y ≡ true
unfolding wedge_of
far_same e {y = y} t s = (λ i. cond e true (cond (t i) (s i && not y) (s i || not y))) ∙ all e y
  where
    all : (e y : Bool) → cond e true (y || not y) ≡ true
    all true y = refl
    all false true = refl
    all false false = refl

on_off : (e t : Bool) {x y : Bool} → x ≡ true → y ≡ false → wedge_of e t x y ≡ true
unfolding wedge_of
on_off e t p q = (λ i. cond e true (cond t (p i && not (q i)) (p i || not (q i)))) ∙ all e t
  where
    all : (e t : Bool) → cond e true (cond t true true) ≡ true
    all true t = refl
    all false true = refl
    all false false = refl

off_on : (t : Bool) {e x y : Bool} → e ≡ false → x ≡ false → y ≡ true → wedge_of e t x y ≡ false
unfolding wedge_of
off_on t e p q = (λ i. cond (e i) true (cond t (p i && not (q i)) (p i || not (q i)))) ∙ none t
  where
    none : (t : Bool) → cond t false false ≡ false
    none true = refl
    none false = refl

-- how many wedges are left to have the pixel, from a degree on
left_from : Bool → ℕ → ℕ → ℕ
left_from true m n = cond (nat_lt n m) 1 0
left_from false m n = cond (nat_lt n (m + 180)) 1 0

sum_up : {w v : Bool} {x y k l : ℕ} → w ≡ v → x ≡ k → y ≡ l → cond v 1 0 + k ≡ l → cond w 1 0 + x ≡ y
sum_up p q r s = (λ i. cond (p i) 1 0 + q i) ∙ s ∙ sym r

yes : (n m : ℕ) → n < m → ◌≡◌ {A = ℕ} (cond (nat_lt n m) 1 0) 1
yes n m l = ap (λ t. cond t 1 0) (lt-ltb n m l)

no : (n m : ℕ) → m ≤ n → ◌≡◌ {A = ℕ} (cond (nat_lt n m) 1 0) 0
no n m l = ap (λ t. cond t 1 0) (le-ltb n m l)

part : (n : ℕ) → n < 360 → int_le (pos 360) (pos n) ≡ false
part n l = grind (arith, ints)

narrow : (n : ℕ) → n ≤ 180 → int_le (pos n) (pos 180) ≡ true
narrow n l = grind (arith, ints)

broad : (n : ℕ) → 180 < n → int_le (pos n) (pos 180) ≡ false
broad n l = grind (arith, ints)

one_wedge : (f : ℕ → Bool) (b : Bool) (m a c : ℕ) → IsTurned f b m → a < c → c ≤ 360
    → cond (wedge_of (int_le (pos 360) (pos (c - a))) (int_le (pos (c - a)) (pos 180)) (f a) (f c)) 1 0 + left_from b m c ≡ left_from b m a
unfolding left_from
one_wedge f true m a c t l most =
    let some = t.some in
    let early = t.early in
    elim (cases_lt a m) [
      | inl a_low ↦ elim (cases_lt c m) [
        | inl c_low ↦ sum_up (near_same (part (c - a) (omega arith)) (narrow (c - a) (omega arith)) (t.low a a_low ∙ sym (t.low c c_low))) (yes c m c_low) (yes a m a_low) refl
        | inr c_from ↦ elim (cases_lt c (m + 180)) [
          | inl c_mid ↦ sum_up (on_off _ _ (t.low a a_low) (t.middle c c_from c_mid)) (no c m c_from) (yes a m a_low) refl
          | inr c_high ↦ sum_up (far_same _ (broad (c - a) (omega arith)) (t.low a a_low ∙ sym (t.high c c_high most))) (no c m c_from) (yes a m a_low) refl
        ]
      ]
      | inr a_from ↦ elim (cases_lt a (m + 180)) [
        | inl a_mid ↦ elim (cases_lt c (m + 180)) [
          | inl c_mid ↦ sum_up (near_same (part (c - a) (omega arith)) (narrow (c - a) (omega arith)) (t.middle a a_from a_mid ∙ sym (t.middle c (omega arith) c_mid))) (no c m (omega arith)) (no a m a_from) refl
          | inr c_high ↦ sum_up (off_on _ (part (c - a) (omega arith)) (t.middle a a_from a_mid) (t.high c c_high most)) (no c m (omega arith)) (no a m a_from) refl
        ]
        | inr a_high ↦ sum_up (near_same (part (c - a) (omega arith)) (narrow (c - a) (omega arith)) (t.high a a_high (omega arith) ∙ sym (t.high c (omega arith) most))) (no c m (omega arith)) (no a m a_from) refl
      ]
    ]
one_wedge f false m a c t l most =
    let some = t.some in
    let early = t.early in
    elim (cases_lt a m) [
      | inl a_low ↦ elim (cases_lt c m) [
        | inl c_low ↦ sum_up (near_same (part (c - a) (omega arith)) (narrow (c - a) (omega arith)) (t.low a a_low ∙ sym (t.low c c_low))) (yes c (m + 180) (omega arith)) (yes a (m + 180) (omega arith)) refl
        | inr c_from ↦ elim (cases_lt c (m + 180)) [
          | inl c_mid ↦ sum_up (off_on _ (part (c - a) (omega arith)) (t.low a a_low) (t.middle c c_from c_mid)) (yes c (m + 180) c_mid) (yes a (m + 180) (omega arith)) refl
          | inr c_high ↦ sum_up (far_same _ (broad (c - a) (omega arith)) (t.low a a_low ∙ sym (t.high c c_high most))) (no c (m + 180) c_high) (yes a (m + 180) (omega arith)) refl
        ]
      ]
      | inr a_from ↦ elim (cases_lt a (m + 180)) [
        | inl a_mid ↦ elim (cases_lt c (m + 180)) [
          | inl c_mid ↦ sum_up (near_same (part (c - a) (omega arith)) (narrow (c - a) (omega arith)) (t.middle a a_from a_mid ∙ sym (t.middle c (omega arith) c_mid))) (yes c (m + 180) c_mid) (yes a (m + 180) a_mid) refl
          | inr c_high ↦ sum_up (on_off _ _ (t.middle a a_from a_mid) (t.high c c_high most)) (no c (m + 180) c_high) (yes a (m + 180) a_mid) refl
        ]
        | inr a_high ↦ sum_up (near_same (part (c - a) (omega arith)) (narrow (c - a) (omega arith)) (t.high a a_high (omega arith) ∙ sym (t.high c (omega arith) most))) (no c (m + 180) (omega arith)) (no a (m + 180) a_high) refl
      ]
    ]

-- ---- pixels are seen from half of the degrees on

naturally : (z : ℤ) → pos 0 ≤ℤ (z +ℤ pos (unsigned_abs z * 360))
naturally (pos n) = omega (arith, ints)
naturally (negsuc n) = omega (arith, ints)

base : ℤ → ℕ
base z = count_to (pos 0) (z +ℤ pos (unsigned_abs z * 360))

by_compass : (z : ℤ) (n : ℕ) → direction (z +ℤ pos n) ≡ compass (base z + n)
unfolding base
by_compass z n =
    let is = count-is (pos 0) (z +ℤ pos (unsigned_abs z * 360)) (naturally z) in
    direction_compass (z +ℤ pos n) (unsigned_abs z) (base z + n) (moved z n (unsigned_abs z * 360) (base z) is)
  where
    moved : (z : ℤ) (n k m : ℕ) → pos m ≡ (z +ℤ pos k) -ℤ pos 0 → (z +ℤ pos n) +ℤ pos k ≡ pos (m + n)
    moved z n k m e = omega (arith, ints)

seen_half : (r : Rect) (z : ℤ) (p : Point) → IsHalf (λ n. is_from (direction (z +ℤ pos n)) (seen r p))
seen_half r z p = record {
  back = λ n.
      let sum : base z + (n + 180) ≡ (base z + n) + 180 = omega arith in
      ap (λ d. is_from d (seen r p)) (by_compass z (n + 180) ∙ ap compass sum ∙ compass_opposite (base z + n) ∙ sym (ap opposite (by_compass z n)))
      ∙ opposite_from r (direction (z +ℤ pos n)) p (direction_somewhere (z +ℤ pos n));
  between = λ i j k l m o e f.
      ap (λ d. is_from d (seen r p)) (by_compass z j)
      ∙ held (compass (base z + j)) (seen r p) (between_holds (compass (base z + i)) (compass (base z + j)) (compass (base z + k)) (seen r p)
      (compass_order (base z + i) (base z + j) (omega arith) (omega arith))
      (compass_order (base z + j) (base z + k) (omega arith) (omega arith))
      (compass_order (base z + i) (base z + k) (omega arith) (omega arith))
      (not_middle r p)
      (holds (compass (base z + i)) (seen r p) (sym (ap (λ d. is_from d (seen r p)) (by_compass z i)) ∙ e))
      (holds (compass (base z + k)) (seen r p) (sym (ap (λ d. is_from d (seen r p)) (by_compass z k)) ∙ f)));
}

-- ---- all wedges

wedge_is : (r : Rect) (z : ℤ) (p : Point) (a c : ℕ) → a < c
    → wedge_holds r (z +ℤ pos a) (pos (c - a)) p
    ≡ wedge_of (int_le (pos 360) (pos (c - a))) (int_le (pos (c - a)) (pos 180)) (is_seen_from r (z +ℤ pos a) p) (is_seen_from r (z +ℤ pos c) p)
unfolding wedge_holds wedge_of
wedge_is r z p a c l =
    let end : (z +ℤ pos a) +ℤ pos (c - a) ≡ z +ℤ pos c = omega (arith, ints) in
    ap (λ t. cond t (clockwise r ((z +ℤ pos a) +ℤ pos (c - a)) (neg_ℤ (pos (c - a))) p) (clockwise r (z +ℤ pos a) (pos (c - a)) p)) (on (c - a))
    ∙ ap (λ e. cond (int_le (pos 360) (pos (c - a))) true (cond (int_le (pos (c - a)) (pos 180)) (narrow_wedge r (z +ℤ pos a) e p) (broad_wedge r (z +ℤ pos a) e p))) end
  where
    on : (n : ℕ) → int_lt (pos n) (pos 0) ≡ false
    on n = grind (arith, ints)

at_most : (a : ℕ) (cuts : List ℕ) → GoAround a cuts → a ≤ 360
at_most a [] e = omega arith
at_most a (c ∷ cuts) (l, more) = let most = at_most c cuts more in omega arith

count_left : (r : Rect) (z : ℤ) (p : Point) (b : Bool) (m a : ℕ) (cuts : List ℕ) → IsTurned (λ n. is_from (direction (z +ℤ pos n)) (seen r p)) b m → GoAround a cuts
    → wedges_with r z a cuts p ≡ left_from b m a
unfolding left_from
count_left r z p b m a [] t e = sym (last b t.early t.some)
  where
    last : (b : Bool) → m ≤ 180 → 0 < m → left_from b m a ≡ 0
    last true early some = no a m (omega arith)
    last false early some = no a (m + 180) (omega arith)
count_left r z p b m a (c ∷ cuts) t (l, more) =
    (λ i. cond (wedge_is r z p a c l i) 1 0 + count_left r z p b m c cuts t more i)
    ∙ one_wedge (λ n. is_from (direction (z +ℤ pos n)) (seen r p)) b m a c t l (at_most c cuts more)

pub each_once : (r : Rect) (z : ℤ) (cuts : List ℕ) (p : Point) → GoAround 0 cuts → wedges_with r z 0 cuts p ≡ 1
unfolding left_from
each_once r z cuts p e =
    let found = turned_at (λ n. is_from (direction (z +ℤ pos n)) (seen r p)) (seen_half r z p) in
    count_left r z p (is_from (direction (z +ℤ pos 0)) (seen r p)) found.0 0 cuts found.1 e ∙ all (is_from (direction (z +ℤ pos 0)) (seen r p)) found.0 found.1.some
  where
    all : (b : Bool) (m : ℕ) → 0 < m → left_from b m 0 ≡ 1
    all true m l = yes 0 m l
    all false m l = yes 0 (m + 180) (omega arith)
