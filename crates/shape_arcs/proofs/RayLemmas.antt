-- Where the pixels of a row are from a direction on.
use Rattle.std.proofs.Common.{◌≡◌, ◌⊎◌, ◌&&◌, ◌||◌, not, Bool, true, false, cond, ℕ, ◌<◌, ◌≤◌, ℤ, pos, negsuc, neg_ℤ, ◌+ℤ◌, ◌-ℤ◌, ◌*ℤ◌, ◌≤ℤ◌, ◌<ℤ◌, refl, sym, ap, subst, ◌∙◌, inl, inr, arith, SFits, w32}
use Rattle.std.specs.Prelude.{int_le, int_lt, nat_le}
use Rattle.std.specs.Ordering.{int_eq}
use Rattle.std.proofs.lemmas.Bool.{and_parts, or_cases, cases_Bool, cases_lt, false_from_ne_true, le-leb, lt-leb}
use Rattle.std.proofs.lemmas.Int.{ints, by_lt_z}
use Rattle.std.proofs.Math.IntN.{*ℤ_comm, *ℤ-zero, zero-*ℤ, *ℤ-negsuc}
use Rattle.tb_geom.specs.declared.point.Point.{Point}
use Rattle.tb_geom.specs.declared.rect.Rect.{Rect}
use Rattle.region_rows.specs.Counts.{count_to}
use Rattle.region_rows.proofs.Counts.{count-is, count-none}
use Rattle.tb_geom.specs.Rects.{in_plane, is_in_range}
use Rattle.shape_strips.proofs.RangeLemmas.{coordinate_from, sides_in}
use Rattle.shape_strips.proofs.Products.{times_less, times_neg}
use Rattle.shape_arcs.specs.Rays.{cross, dot, is_from, is_origin, past_middle, seen, stretched}
use Rattle.shape_arcs.specs.Sights.{from_at, IsNear, IsTurn, PointsSomewhere, PointsUp, opposite}
use Rattle.shape_arcs.proofs.ProductLemmas.{above_above, above_below, below_above, below_below, one_time, sign, squares_none, times_neg_right, times_swap}

-- ---- what is from a direction on

abbrev pub Holds : Point → Point → Type 0
Holds d p = (pos 0 <ℤ cross d p) ⊎ ((cross d p ≡ pos 0) × (pos 0 <ℤ dot d p))

lt_from : (z : ℤ) → int_lt (pos 0) z ≡ true → pos 0 <ℤ z
lt_from z e = grind (arith, ints)

lt_to : (z : ℤ) → pos 0 <ℤ z → int_lt (pos 0) z ≡ true
lt_to z l = grind (arith, ints)

lt_not : (z : ℤ) → z ≤ℤ pos 0 → int_lt (pos 0) z ≡ false
lt_not z l = grind (arith, ints)

eq_from : (z : ℤ) → int_eq z (pos 0) ≡ true → z ≡ pos 0
eq_from z e = grind (arith, ints)

eq_to : (z : ℤ) → z ≡ pos 0 → int_eq z (pos 0) ≡ true
eq_to z e = rw e refl

eq_not : (z : ℤ) → (z ≡ pos 0 → ⊥) → int_eq z (pos 0) ≡ false
eq_not z n = grind (arith, ints)

pub holds : (d p : Point) → is_from d p ≡ true → Holds d p
unfolding is_from
holds d p e = elim (or_cases (int_lt (pos 0) (cross d p)) (int_eq (cross d p) (pos 0) && int_lt (pos 0) (dot d p)) e) [
  | inl l ↦ inl (lt_from (cross d p) l)
  | inr r ↦
      let two = and_parts (int_eq (cross d p) (pos 0)) (int_lt (pos 0) (dot d p)) r in
      inr (eq_from (cross d p) two.0, lt_from (dot d p) two.1)
]

pub held : (d p : Point) → Holds d p → is_from d p ≡ true
unfolding is_from
held d p (inl l) = ap (λ t. t || (int_eq (cross d p) (pos 0) && int_lt (pos 0) (dot d p))) (lt_to (cross d p) l)
held d p (inr (z, l)) = (λ i. int_lt (pos 0) (cross d p) || (eq_to (cross d p) z i && lt_to (dot d p) l i)) ∙ or_true (int_lt (pos 0) (cross d p))
  where
    or_true : (b : Bool) → (b || true) ≡ true
    or_true true = refl
    or_true false = refl

-- ---- to the right what is from a direction on stays so, where the direction points up

to_right : (d : Point) (x x' y : ℤ) → PointsUp d → x <ℤ x' → Holds d (record { h = x; v = y }) → Holds d (record { h = x'; v = y })
to_right d x x' y (inl up) l h = inl (further (d.h *ℤ y) (d.v *ℤ x) (d.v *ℤ x') (d.v *ℤ (x' -ℤ x)) (times_less d.v x' x) (below_above d.v (x' -ℤ x) up (omega (arith, ints))) (not_left h))
  where
    further : (m n n' e : ℤ) → e ≡ n' -ℤ n → e <ℤ pos 0 → pos 0 ≤ℤ (m -ℤ n) → pos 0 <ℤ (m -ℤ n')
    further m n n' e f l k = omega (arith, ints)

    weak : (z : ℤ) → pos 0 <ℤ z → pos 0 ≤ℤ z
    weak z l = omega (arith, ints)

    same : (z : ℤ) → z ≡ pos 0 → pos 0 ≤ℤ z
    same z e = omega (arith, ints)

    not_left : Holds d (record { h = x; v = y }) → pos 0 ≤ℤ ((d.h *ℤ y) -ℤ (d.v *ℤ x))
    not_left (inl l) = weak ((d.h *ℤ y) -ℤ (d.v *ℤ x)) l
    not_left (inr (e, l)) = same ((d.h *ℤ y) -ℤ (d.v *ℤ x)) e
to_right d x x' y (inr (level, right)) l h = both h
  where
    none : (z : ℤ) → d.v *ℤ z ≡ pos 0
    none z = ap (λ b. b *ℤ z) level ∙ zero-*ℤ z

    as_far : (m n n' : ℤ) → n ≡ pos 0 → n' ≡ pos 0 → pos 0 <ℤ (m -ℤ n) → pos 0 <ℤ (m -ℤ n')
    as_far m n n' e f l = omega (arith, ints)

    as_level : (m n n' : ℤ) → n ≡ pos 0 → n' ≡ pos 0 → m -ℤ n ≡ pos 0 → m -ℤ n' ≡ pos 0
    as_level m n n' e f g = omega (arith, ints)

    ahead : (m m' n e : ℤ) → e ≡ m' -ℤ m → pos 0 <ℤ e → pos 0 <ℤ (m +ℤ n) → pos 0 <ℤ (m' +ℤ n)
    ahead m m' n e f k l = omega (arith, ints)

    both : Holds d (record { h = x; v = y }) → Holds d (record { h = x'; v = y })
    both (inl m) = inl (as_far (d.h *ℤ y) (d.v *ℤ x) (d.v *ℤ x') (none x) (none x') m)
    both (inr (e, m)) = inr (
      as_level (d.h *ℤ y) (d.v *ℤ x) (d.v *ℤ x') (none x) (none x') e,
      ahead (d.h *ℤ x) (d.h *ℤ x') (d.v *ℤ y) (d.h *ℤ (x' -ℤ x)) (times_less d.h x' x) (above_above d.h (x' -ℤ x) right (omega (arith, ints))) m,
    )

abbrev pub straight_up : Point
straight_up = record { h = pos 0; v = negsuc 0 }

minus_one : (a : ℤ) → a *ℤ negsuc 0 ≡ neg_ℤ a
minus_one a = *ℤ-negsuc a 0 ∙ ap neg_ℤ (one_time a)

-- from the middle pixel on, and up to it
past_up : (d : Point) (x : ℤ) → PointsUp d → pos 0 <ℤ x → Holds d straight_up → Holds d (record { h = x; v = pos 0 })
past_up d x (inl up) l h = inl (crossed (d.h *ℤ pos 0) (d.v *ℤ x) (*ℤ-zero d.h) (below_above d.v x up l))
  where
    crossed : (m n : ℤ) → m ≡ pos 0 → n <ℤ pos 0 → pos 0 <ℤ (m -ℤ n)
    crossed m n e l = omega (arith, ints)
past_up d x (inr (level, right)) l h = absurd (neither h)
  where
    not_across : (a m n : ℤ) → m ≡ neg_ℤ a → n ≡ pos 0 → pos 0 <ℤ a → pos 0 <ℤ (m -ℤ n) → ⊥
    not_across a m n e f k l = omega (arith, ints)

    not_level : (a m n : ℤ) → m ≡ neg_ℤ a → n ≡ pos 0 → pos 0 <ℤ a → m -ℤ n ≡ pos 0 → ⊥
    not_level a m n e f k l = omega (arith, ints)

    neither : Holds d straight_up → ⊥
    neither (inl m) = not_across d.h (d.h *ℤ negsuc 0) (d.v *ℤ pos 0) (minus_one d.h) (*ℤ-zero d.v) right m
    neither (inr (e, m)) = not_level d.h (d.h *ℤ negsuc 0) (d.v *ℤ pos 0) (minus_one d.h) (*ℤ-zero d.v) right e

before_up : (d : Point) (x : ℤ) → PointsUp d → x <ℤ pos 0 → Holds d (record { h = x; v = pos 0 }) → ⊥
before_up d x (inl up) l (inl m) = crossed (d.h *ℤ pos 0) (d.v *ℤ x) (*ℤ-zero d.h) (below_below d.v x up l) m
  where
    crossed : (m n : ℤ) → m ≡ pos 0 → pos 0 <ℤ n → pos 0 <ℤ (m -ℤ n) → ⊥
    crossed m n e l k = omega (arith, ints)
before_up d x (inl up) l (inr (e, m)) = crossed (d.h *ℤ pos 0) (d.v *ℤ x) (*ℤ-zero d.h) (below_below d.v x up l) e
  where
    crossed : (m n : ℤ) → m ≡ pos 0 → pos 0 <ℤ n → m -ℤ n ≡ pos 0 → ⊥
    crossed m n e l k = omega (arith, ints)
before_up d x (inr (level, right)) l (inl m) = crossed (d.h *ℤ pos 0) (d.v *ℤ x) (*ℤ-zero d.h) (ap (λ b. b *ℤ x) level ∙ zero-*ℤ x) m
  where
    crossed : (m n : ℤ) → m ≡ pos 0 → n ≡ pos 0 → pos 0 <ℤ (m -ℤ n) → ⊥
    crossed m n e f k = omega (arith, ints)
before_up d x (inr (level, right)) l (inr (e, m)) = behind (d.h *ℤ x) (d.v *ℤ pos 0) (above_below d.h x right l) (*ℤ-zero d.v) m
  where
    behind : (m n : ℤ) → m <ℤ pos 0 → n ≡ pos 0 → pos 0 <ℤ (m +ℤ n) → ⊥
    behind m n l e k = omega (arith, ints)

-- ---- pixels of a row

abbrev pub IsMiddle : Point → Type 0
IsMiddle o = (o.h ≡ pos 0) × (o.v ≡ pos 0)

-- where a pixel is seen, by where it lies
sight : (r : Rect) (p : Point) → (IsMiddle (stretched r p) × (seen r p ≡ straight_up)) ⊎ ((IsMiddle (stretched r p) → ⊥) × (seen r p ≡ stretched r p))
unfolding seen
sight r p = by_test (stretched r p)
  where
    told : (o : Point) → is_origin o ≡ true → IsMiddle o
    told o e = let two = and_parts (int_eq o.h (pos 0)) (int_eq o.v (pos 0)) e in (eq_from o.h two.0, eq_from o.v two.1)

    not_told : (o : Point) → is_origin o ≡ false → IsMiddle o → ⊥
    not_told o e (h, v) = let yes : is_origin o ≡ true = λ i. eq_to o.h h i && eq_to o.v v i in absurd (cc)

    by_test : (o : Point) → (IsMiddle o × (cond (is_origin o) straight_up o ≡ straight_up)) ⊎ ((IsMiddle o → ⊥) × (cond (is_origin o) straight_up o ≡ o))
    by_test o = elim (cases_Bool (is_origin o)) [
      | inl e ↦ inl (told o e, ap (λ t. cond t straight_up o) e)
      | inr e ↦ inr (not_told o e, ap (λ t. cond t straight_up o) e)
    ]

-- further right by a column is further right in the square
further_right : (low high k h h' : ℤ) → pos 0 <ℤ k → h <ℤ h' → (past_middle low high h *ℤ k) <ℤ (past_middle low high h' *ℤ k)
further_right low high k h h' l m =
    moved (past_middle low high h *ℤ k) (past_middle low high h' *ℤ k) (k *ℤ past_middle low high h) (k *ℤ past_middle low high h')
    (k *ℤ (past_middle low high h' -ℤ past_middle low high h)) (*ℤ_comm _ k) (*ℤ_comm _ k)
    (times_less k (past_middle low high h') (past_middle low high h)) (above_above k (past_middle low high h' -ℤ past_middle low high h) l (omega (arith, ints)))
  where
    moved : (m n a b e : ℤ) → m ≡ a → n ≡ b → e ≡ b -ℤ a → pos 0 <ℤ e → m <ℤ n
    moved m n a b e f g i l = omega (arith, ints)

pub stays : (r : Rect) (d : Point) (h h' v : ℤ) → PointsUp d → r.top <ℤ r.bottom → h <ℤ h'
    → is_from d (seen r (record { h = h; v = v })) ≡ true → is_from d (seen r (record { h = h'; v = v })) ≡ true
stays r d h h' v up some l e =
    held d (seen r (record { h = h'; v = v })) (go (sight r (record { h = h; v = v })) (sight r (record { h = h'; v = v })) (holds d (seen r (record { h = h; v = v })) e))
  where
    o : Point
    o = stretched r (record { h = h; v = v })

    o' : Point
    o' = stretched r (record { h = h'; v = v })

    right : (past_middle r.left r.right h *ℤ (r.bottom -ℤ r.top)) <ℤ (past_middle r.left r.right h' *ℤ (r.bottom -ℤ r.top))
    right = further_right r.left r.right (r.bottom -ℤ r.top) h h' (omega (arith, ints)) l

    above : (x y : ℤ) → x ≡ pos 0 → x <ℤ y → pos 0 <ℤ y
    above x y e l = omega (arith, ints)

    below : (x y : ℤ) → y ≡ pos 0 → x <ℤ y → x <ℤ pos 0
    below x y e l = omega (arith, ints)

    go : (IsMiddle (stretched r (record { h = h; v = v })) × (seen r (record { h = h; v = v }) ≡ straight_up)) ⊎ ((IsMiddle (stretched r (record { h = h; v = v })) → ⊥) × (seen r (record { h = h; v = v }) ≡ stretched r (record { h = h; v = v })))
        → (IsMiddle (stretched r (record { h = h'; v = v })) × (seen r (record { h = h'; v = v }) ≡ straight_up)) ⊎ ((IsMiddle (stretched r (record { h = h'; v = v })) → ⊥) × (seen r (record { h = h'; v = v }) ≡ stretched r (record { h = h'; v = v })))
        → Holds d (seen r (record { h = h; v = v })) → Holds d (seen r (record { h = h'; v = v }))
    go (inl (m, s)) (inl (m', s')) t = subst (Holds d) (s ∙ sym s') t
    go (inl (m, s)) (inr (n, s')) t =
        let x' : ℤ = past_middle r.left r.right h' *ℤ (r.bottom -ℤ r.top) in
        let level : record { h = x'; v = pos 0 } ≡ stretched r (record { h = h'; v = v }) = λ i. record { h = x'; v = sym m.1 i } in
        subst (Holds d) (level ∙ sym s') (past_up d x' up (above _ x' m.0 right) (subst (Holds d) s t))
    go (inr (n, s)) (inl (m', s')) t =
        let x : ℤ = past_middle r.left r.right h *ℤ (r.bottom -ℤ r.top) in
        let level : stretched r (record { h = h; v = v }) ≡ record { h = x; v = pos 0 } = λ i. record { h = x; v = m'.1 i } in
        absurd (before_up d x up (below x _ m'.0 right) (subst (Holds d) (s ∙ level) t))
    go (inr (n, s)) (inr (n', s')) t =
        subst (Holds d) (sym s') (to_right d (past_middle r.left r.right h *ℤ (r.bottom -ℤ r.top)) (past_middle r.left r.right h' *ℤ (r.bottom -ℤ r.top)) (past_middle r.top r.bottom v *ℤ (r.right -ℤ r.left)) up right (subst (Holds d) s t))

-- ---- from a direction on, or from the opposite one

-- what lies on one line with a direction lies to one side
no_dot : (d p : Point) → (d.h ≡ pos 0 → ⊥) ⊎ (d.v ≡ pos 0 → ⊥) → (IsMiddle p → ⊥) → cross d p ≡ pos 0 → dot d p ≡ pos 0 → ⊥
no_dot d p some there c z = there (
  squares_none d.h d.v p.h some (ap (λ t. d.h *ℤ t) back ∙ times_neg_right d.h (d.v *ℤ p.v) ∙ ap neg_ℤ (times_swap d.h d.v p.v ∙ ap (λ t. d.v *ℤ t) across)),
  squares_none d.h d.v p.v some (ap (λ t. d.h *ℤ t) across ∙ times_swap d.h d.v p.h ∙ ap (λ t. d.v *ℤ t) back ∙ times_neg_right d.v (d.v *ℤ p.v)),
)
  where
    same : (m n : ℤ) → m -ℤ n ≡ pos 0 → m ≡ n
    same m n e = omega (arith, ints)

    other : (m n : ℤ) → m +ℤ n ≡ pos 0 → m ≡ neg_ℤ n
    other m n e = omega (arith, ints)

    across : d.h *ℤ p.v ≡ d.v *ℤ p.h
    across = same (d.h *ℤ p.v) (d.v *ℤ p.h) c

    back : d.h *ℤ p.h ≡ neg_ℤ (d.v *ℤ p.v)
    back = other (d.h *ℤ p.h) (d.v *ℤ p.v) z

cross_opposite : (d p : Point) → cross (opposite d) p ≡ neg_ℤ (cross d p)
cross_opposite d p = turned (d.h *ℤ p.v) (d.v *ℤ p.h) (neg_ℤ d.h *ℤ p.v) (neg_ℤ d.v *ℤ p.h) (times_neg d.h p.v) (times_neg d.v p.h)
  where
    turned : (m n a b : ℤ) → a ≡ neg_ℤ m → b ≡ neg_ℤ n → a -ℤ b ≡ neg_ℤ (m -ℤ n)
    turned m n a b e f = omega (arith, ints)

dot_opposite : (d p : Point) → dot (opposite d) p ≡ neg_ℤ (dot d p)
dot_opposite d p = turned (d.h *ℤ p.h) (d.v *ℤ p.v) (neg_ℤ d.h *ℤ p.h) (neg_ℤ d.v *ℤ p.v) (times_neg d.h p.h) (times_neg d.v p.v)
  where
    turned : (m n a b : ℤ) → a ≡ neg_ℤ m → b ≡ neg_ℤ n → a +ℤ b ≡ neg_ℤ (m +ℤ n)
    turned m n a b e f = omega (arith, ints)

by_signs : (c z : ℤ) → (c ≡ pos 0 → z ≡ pos 0 → ⊥)
    → (int_lt (pos 0) (neg_ℤ c) || (int_eq (neg_ℤ c) (pos 0) && int_lt (pos 0) (neg_ℤ z))) ≡ not (int_lt (pos 0) c || (int_eq c (pos 0) && int_lt (pos 0) z))
by_signs c z n = elim (sign c) [
  | inl below ↦ (λ i. lt_to (neg_ℤ c) (omega (arith, ints)) i || (int_eq (neg_ℤ c) (pos 0) && int_lt (pos 0) (neg_ℤ z)))
      ∙ sym (λ i. not (lt_not c (omega (arith, ints)) i || (eq_not c (λ e. omega (arith, ints)) i && int_lt (pos 0) z)))
  | inr rest ↦ elim rest [
    | inl level ↦ (λ i. lt_not (neg_ℤ c) (omega (arith, ints)) i || (eq_to (neg_ℤ c) (omega (arith, ints)) i && int_lt (pos 0) (neg_ℤ z)))
        ∙ beyond z (n level)
        ∙ sym (λ i. not (lt_not c (omega (arith, ints)) i || (eq_to c level i && int_lt (pos 0) z)))
    | inr above ↦ (λ i. lt_not (neg_ℤ c) (omega (arith, ints)) i || (eq_not (neg_ℤ c) (λ e. omega (arith, ints)) i && int_lt (pos 0) (neg_ℤ z)))
        ∙ sym (λ i. not (lt_to c above i || (int_eq c (pos 0) && int_lt (pos 0) z)))
  ]
]
  where
    beyond : (z : ℤ) → (z ≡ pos 0 → ⊥) → int_lt (pos 0) (neg_ℤ z) ≡ not (int_lt (pos 0) z)
    beyond z n = elim (sign z) [
      | inl below ↦ lt_to (neg_ℤ z) (omega (arith, ints)) ∙ sym (ap not (lt_not z (omega (arith, ints))))
      | inr rest ↦ elim rest [
        | inl none ↦ absurd (n none)
        | inr above ↦ lt_not (neg_ℤ z) (omega (arith, ints)) ∙ sym (ap not (lt_to z above))
      ]
    ]

pub not_middle : (r : Rect) (p : Point) → IsMiddle (seen r p) → ⊥
not_middle r p m = elim (sight r p) [
  | inl s ↦ minus (sym (ap (λ q. q.v) s.1) ∙ m.1)
  | inr s ↦ s.0 (subst IsMiddle s.1 m)
]
  where
    minus : negsuc 0 ≡ pos 0 → ⊥
    minus e = absurd (cc)

pub opposite_from : (r : Rect) (d p : Point) → (d.h ≡ pos 0 → ⊥) ⊎ (d.v ≡ pos 0 → ⊥) → is_from (opposite d) (seen r p) ≡ not (is_from d (seen r p))
unfolding is_from
opposite_from r d p some =
    (λ i. int_lt (pos 0) (cross_opposite d (seen r p) i) || (int_eq (cross_opposite d (seen r p) i) (pos 0) && int_lt (pos 0) (dot_opposite d (seen r p) i)))
    ∙ by_signs (cross d (seen r p)) (dot d (seen r p)) (no_dot d (seen r p) some (not_middle r p))

-- ---- columns by how many lie left of them

pub stays_at : (r : Rect) (d : Point) (v : ℤ) (i j : ℕ) → PointsUp d → r.top ≤ℤ v → v <ℤ r.bottom → i ≤ j → from_at r d v i ≡ true → from_at r d v j ≡ true
unfolding from_at
stays_at r d v i j up top bottom l e = by_lt_z (r.left +ℤ pos i) (r.left +ℤ pos j)
    (λ less. stays r d (r.left +ℤ pos i) (r.left +ℤ pos j) v up (omega (arith, ints)) less e)
    (λ from. let same : r.left +ℤ pos i ≡ r.left +ℤ pos j = omega (arith, ints) in subst (λ h. is_from d (seen r (record { h = h; v = v })) ≡ true) same e)

pub lacks_at : (r : Rect) (d : Point) (v : ℤ) (i j : ℕ) → PointsUp d → r.top ≤ℤ v → v <ℤ r.bottom → i ≤ j → from_at r d v j ≡ false → from_at r d v i ≡ false
lacks_at r d v i j up top bottom l e = false_from_ne_true (from_at r d v i) (λ t. let t' = stays_at r d v i j up top bottom l t in absurd (cc))

pub edge_at : (f : ℕ → Bool) (n columns : ℕ) → ((i : ℕ) → i < n → f i ≡ false) → ((i : ℕ) → n ≤ i → i < columns → f i ≡ true) → (i : ℕ) → i < columns → f i ≡ nat_le n i
edge_at f n columns before after i l = elim (cases_lt i n) [
  | inl less ↦ before i less ∙ sym (lt-leb n i less)
  | inr from ↦ after i from l ∙ sym (le-leb n i from)
]

pub turn_from : (r : Rect) (d : Point) (v : ℤ) (n columns : ℕ) → columns ≡ count_to r.left r.right → r.left <ℤ r.right → n ≤ columns
    → ((i : ℕ) → i < columns → from_at r d v i ≡ nat_le n i) → IsTurn r d v (r.left +ℤ pos n) true
unfolding from_at
turn_from r d v n columns e some few edge =
    let all : pos columns ≡ r.right -ℤ r.left = ap pos e ∙ count-is r.left r.right (omega (arith, ints)) in
    record {
      low = omega (arith, ints);
      high = omega (arith, ints);
      edge = λ h low high.
          let is : pos (count_to r.left h) ≡ h -ℤ r.left = count-is r.left h low in
          let place : r.left +ℤ pos (count_to r.left h) ≡ h = omega (arith, ints) in
          ap (λ z. is_from d (seen r (record { h = z; v = v }))) (sym place)
          ∙ edge (count_to r.left h) (omega (arith, ints))
          ∙ columns_are n (count_to r.left h) r.left
          ∙ ap (int_le (r.left +ℤ pos n)) place;
    }
  where
    columns_are : (n i : ℕ) (l : ℤ) → nat_le n i ≡ int_le (l +ℤ pos n) (l +ℤ pos i)
    columns_are n i l = elim (cases_lt i n) [
      | inl less ↦ lt-leb n i less ∙ sym (not_le (l +ℤ pos n) (l +ℤ pos i) (omega (arith, ints)))
      | inr from ↦ le-leb n i from ∙ sym (yes_le (l +ℤ pos n) (l +ℤ pos i) (omega (arith, ints)))
    ]
      where
        not_le : (a b : ℤ) → b <ℤ a → int_le a b ≡ false
        not_le a b l = grind (arith, ints)

        yes_le : (a b : ℤ) → a ≤ℤ b → int_le a b ≡ true
        yes_le a b l = grind (arith, ints)

pub turn_back : (r : Rect) (d : Point) (v column : ℤ) → PointsSomewhere d → IsTurn r (opposite d) v column true → IsTurn r d v column false
turn_back r d v column some t = record {
  low = t.low;
  high = t.high;
  edge = λ h low high. not_not (is_from d (seen r (record { h = h; v = v }))) ∙ ap not (sym (opposite_from r d (record { h = h; v = v }) some) ∙ t.edge h low high);
}
  where
    not_not : (b : Bool) → b ≡ not (not b)
    not_not true = refl
    not_not false = refl

-- ---- numbers of 32 bits

-- a column of a rectangle by how many lie left of it
pub record IsColumn (r : Rect) (v : ℤ) (i : ℕ) : Type 0 where
  pub few : i < 2147483648
  pub fits : SFits w32 (r.left +ℤ pos i)
  pub placed : in_plane (record { h = r.left +ℤ pos i; v = v }) ≡ true

few_columns : (l r : ℤ) → negsuc 16383 ≤ℤ l → r ≤ℤ pos 16383 → count_to l r < 32768
few_columns l r low high = by_lt_z l r
    (λ less. let is : pos (count_to l r) ≡ r -ℤ l = count-is l r (omega (arith, ints)) in omega (arith, ints))
    (λ from. let none = count-none l r from in omega (arith, none))

pub column_of : (r : Rect) (v : ℤ) (i : ℕ) → is_in_range r ≡ true → r.top ≤ℤ v → v <ℤ r.bottom → i < count_to r.left r.right → IsColumn r v i
column_of r v i e top bottom l =
    let s = sides_in r e in
    let left_low = s.left_low in
    let left_high = s.left_high in
    let right_high = s.right_high in
    let top_low = s.top_low in
    let bottom_high = s.bottom_high in
    let few : count_to r.left r.right < 32768 = few_columns r.left r.right left_low right_high in
    let below : (r.left +ℤ pos i) <ℤ r.right = by_lt_z r.left r.right
    (λ less. let is : pos (count_to r.left r.right) ≡ r.right -ℤ r.left = count-is r.left r.right (omega (arith, ints)) in omega (arith, ints))
    (λ from. let none = count-none r.left r.right from in absurd (omega (arith, none))) in
    record {
      few = omega arith;
      fits = sum_near r.left i left_low left_high (omega arith);
      placed = λ j. coordinate_from (r.left +ℤ pos i) (omega (arith, ints)) (omega (arith, ints)) j && coordinate_from v (omega (arith, ints)) (omega (arith, ints)) j;
    }
  where
    sum_near : (z : ℤ) (n : ℕ) → negsuc 16383 ≤ℤ z → z ≤ℤ pos 16383 → n < 65536 → SFits w32 (z +ℤ pos n)
    sum_near z n l m few = search (arith, ints)

pub near_opposite : (d : Point) → IsNear d → (SFits w32 (pos 0 -ℤ d.h)) × (SFits w32 (pos 0 -ℤ d.v))
near_opposite d n =
    let a = n.h_low in
    let b = n.h_high in
    let c = n.v_low in
    let e = n.v_high in
    (search (arith, ints), search (arith, ints))

pub is_opposite : (d : Point) → opposite d ≡ record { h = pos 0 -ℤ d.h; v = pos 0 -ℤ d.v }
is_opposite d = λ i. record { h = minus d.h i; v = minus d.v i }
  where
    minus : (z : ℤ) → neg_ℤ z ≡ pos 0 -ℤ z
    minus z = omega (arith, ints)
