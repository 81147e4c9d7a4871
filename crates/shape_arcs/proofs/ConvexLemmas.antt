-- What two directions have on their side, one between them has.
use Rattle.std.proofs.Common.{◌≡◌, ℤ, pos, ◌+ℤ◌, ◌-ℤ◌, ◌*ℤ◌, ◌≤ℤ◌, ◌<ℤ◌, sym, ap, ◌∙◌, inl, inr, arith}
use Rattle.std.proofs.lemmas.Int.{ints}
use Rattle.std.proofs.Math.IntN.{*ℤ_comm}
use Rattle.tb_geom.specs.declared.point.Point.{Point}
use Rattle.shape_strips.proofs.Products.{times_less, times_natural}
use Rattle.shape_arcs.specs.Rays.{cross}
use Rattle.shape_arcs.proofs.ProductLemmas.{above_above, above_below, sign, times_assoc, times_swap}
use Rattle.shape_arcs.proofs.RayLemmas.{Holds, IsMiddle}

-- ---- products of four factors

middle : (x y z w : ℤ) → (x *ℤ y) *ℤ (z *ℤ w) ≡ (x *ℤ z) *ℤ (y *ℤ w)
middle x y z w = times_assoc x y (z *ℤ w) ∙ ap (λ t. x *ℤ t) (times_swap y z w) ∙ sym (times_assoc x z (y *ℤ w))

exchanged : (x y z w : ℤ) → (x *ℤ y) *ℤ (z *ℤ w) ≡ (z *ℤ y) *ℤ (x *ℤ w)
exchanged x y z w = ap (λ t. t *ℤ (z *ℤ w)) (*ℤ_comm x y) ∙ middle y x z w ∙ ap (λ t. t *ℤ (x *ℤ w)) (*ℤ_comm y z)

less_times : (m n o : ℤ) → (m -ℤ n) *ℤ o ≡ (m *ℤ o) -ℤ (n *ℤ o)
less_times m n o = *ℤ_comm (m -ℤ n) o ∙ times_less o m n ∙ (λ i. (*ℤ_comm o m i) -ℤ (*ℤ_comm o n i))

four : (m n o p : ℤ) → (m -ℤ n) *ℤ (o -ℤ p) ≡ ((m *ℤ o) -ℤ (m *ℤ p)) -ℤ ((n *ℤ o) -ℤ (n *ℤ p))
four m n o p = less_times m n (o -ℤ p) ∙ (λ i. (times_less m o p i) -ℤ (times_less n o p i))

-- three cross products
three : (a b c q : Point) → cross a c *ℤ cross b q ≡ (cross b c *ℤ cross a q) +ℤ (cross a b *ℤ cross c q)
three a b c q =
    joined _ _ _
    ((a.h *ℤ c.v) *ℤ (b.h *ℤ q.v)) ((a.h *ℤ c.v) *ℤ (b.v *ℤ q.h)) ((a.v *ℤ c.h) *ℤ (b.h *ℤ q.v)) ((a.v *ℤ c.h) *ℤ (b.v *ℤ q.h))
    ((b.h *ℤ c.v) *ℤ (a.h *ℤ q.v)) ((b.h *ℤ c.v) *ℤ (a.v *ℤ q.h)) ((b.v *ℤ c.h) *ℤ (a.h *ℤ q.v)) ((b.v *ℤ c.h) *ℤ (a.v *ℤ q.h))
    ((a.h *ℤ b.v) *ℤ (c.h *ℤ q.v)) ((a.h *ℤ b.v) *ℤ (c.v *ℤ q.h)) ((a.v *ℤ b.h) *ℤ (c.h *ℤ q.v)) ((a.v *ℤ b.h) *ℤ (c.v *ℤ q.h))
    (four (a.h *ℤ c.v) (a.v *ℤ c.h) (b.h *ℤ q.v) (b.v *ℤ q.h))
    (four (b.h *ℤ c.v) (b.v *ℤ c.h) (a.h *ℤ q.v) (a.v *ℤ q.h))
    (four (a.h *ℤ b.v) (a.v *ℤ b.h) (c.h *ℤ q.v) (c.v *ℤ q.h))
    (exchanged a.h c.v b.h q.v)
    (exchanged a.v c.h b.v q.h)
    (middle a.h b.v c.v q.h)
    (middle a.v b.h c.h q.v)
    (exchanged a.h b.v c.h q.v ∙ ap (λ t. t *ℤ (a.h *ℤ q.v)) (*ℤ_comm c.h b.v))
    (exchanged a.v b.h c.v q.h ∙ ap (λ t. t *ℤ (a.v *ℤ q.h)) (*ℤ_comm c.v b.h))
  where
    joined : (x y z m1 m2 m3 m4 n1 n2 n3 n4 o1 o2 o3 o4 : ℤ)
        → x ≡ (m1 -ℤ m2) -ℤ (m3 -ℤ m4) → y ≡ (n1 -ℤ n2) -ℤ (n3 -ℤ n4) → z ≡ (o1 -ℤ o2) -ℤ (o3 -ℤ o4)
        → m1 ≡ n1 → m4 ≡ n4 → o2 ≡ m2 → o3 ≡ m3 → o1 ≡ n3 → o4 ≡ n2 → x ≡ y +ℤ z
    joined x y z m1 m2 m3 m4 n1 n2 n3 n4 o1 o2 o3 o4 e f g h i j k l m = omega (arith, ints)

-- what lies on the lines of two directions lies in the middle
none_of : (k z : ℤ) → pos 0 <ℤ k → k *ℤ z ≡ pos 0 → z ≡ pos 0
none_of k z l e = elim (sign z) [
  | inl below ↦ absurd (not_below (k *ℤ z) (above_below k z l below) e)
  | inr rest ↦ elim rest [
    | inl none ↦ none
    | inr above ↦ absurd (not_above (k *ℤ z) (above_above k z l above) e)
  ]
]
  where
    not_below : (m : ℤ) → m <ℤ pos 0 → m ≡ pos 0 → ⊥
    not_below m l e = omega (arith, ints)

    not_above : (m : ℤ) → pos 0 <ℤ m → m ≡ pos 0 → ⊥
    not_above m l e = omega (arith, ints)

two_lines : (a c q : Point) → pos 0 <ℤ cross a c → cross a q ≡ pos 0 → cross c q ≡ pos 0 → IsMiddle q
two_lines a c q some e f = (none_of (cross a c) q.h some across, none_of (cross a c) q.v some down)
  where
    same : (m n : ℤ) → m -ℤ n ≡ pos 0 → m ≡ n
    same m n e = omega (arith, ints)

    on_a : a.h *ℤ q.v ≡ a.v *ℤ q.h
    on_a = same (a.h *ℤ q.v) (a.v *ℤ q.h) e

    on_c : c.h *ℤ q.v ≡ c.v *ℤ q.h
    on_c = same (c.h *ℤ q.v) (c.v *ℤ q.h) f

    nothing : (m n z : ℤ) → z ≡ m -ℤ n → m ≡ n → z ≡ pos 0
    nothing m n z e f = omega (arith, ints)

    across : cross a c *ℤ q.h ≡ pos 0
    across = nothing ((a.h *ℤ c.v) *ℤ q.h) ((a.v *ℤ c.h) *ℤ q.h) _ (less_times (a.h *ℤ c.v) (a.v *ℤ c.h) q.h)
        (times_assoc a.h c.v q.h ∙ ap (λ t. a.h *ℤ t) (sym on_c) ∙ times_swap a.h c.h q.v ∙ ap (λ t. c.h *ℤ t) on_a ∙ sym (ap (λ t. t *ℤ q.h) (*ℤ_comm a.v c.h) ∙ times_assoc c.h a.v q.h))

    down : cross a c *ℤ q.v ≡ pos 0
    down = nothing ((a.h *ℤ c.v) *ℤ q.v) ((a.v *ℤ c.h) *ℤ q.v) _ (less_times (a.h *ℤ c.v) (a.v *ℤ c.h) q.v)
        (ap (λ t. t *ℤ q.v) (*ℤ_comm a.h c.v) ∙ times_assoc c.v a.h q.v ∙ ap (λ t. c.v *ℤ t) on_a ∙ times_swap c.v a.v q.h ∙ ap (λ t. a.v *ℤ t) (sym on_c) ∙ sym (times_assoc a.v c.h q.v))

pub between_holds : (a b c q : Point) → pos 0 <ℤ cross a b → pos 0 <ℤ cross b c → pos 0 <ℤ cross a c → (IsMiddle q → ⊥) → Holds a q → Holds c q → Holds b q
between_holds a b c q ab bc ac there p r = inl (positive (cross a c) (cross b q) ac (sum p r))
  where
    weak : (z : ℤ) → pos 0 <ℤ z → pos 0 ≤ℤ z
    weak z l = omega (arith, ints)

    at_least : (z : ℤ) → z ≡ pos 0 → pos 0 ≤ℤ z
    at_least z e = omega (arith, ints)

    first_more : (x m n : ℤ) → x ≡ m +ℤ n → pos 0 <ℤ m → pos 0 ≤ℤ n → pos 0 <ℤ x
    first_more x m n e l k = omega (arith, ints)

    second_more : (x m n : ℤ) → x ≡ m +ℤ n → pos 0 ≤ℤ m → pos 0 <ℤ n → pos 0 <ℤ x
    second_more x m n e l k = omega (arith, ints)

    not_left : (d : Point) → Holds d q → pos 0 ≤ℤ cross d q
    not_left d (inl l) = weak (cross d q) l
    not_left d (inr (e, l)) = at_least (cross d q) e

    sum : Holds a q → Holds c q → pos 0 <ℤ (cross a c *ℤ cross b q)
    sum (inl l) h = first_more (cross a c *ℤ cross b q) (cross b c *ℤ cross a q) (cross a b *ℤ cross c q) (three a b c q) (above_above (cross b c) (cross a q) bc l)
        (times_natural (cross a b) (cross c q) (weak (cross a b) ab) (not_left c h))
    sum (inr (e, l)) (inl k) = second_more (cross a c *ℤ cross b q) (cross b c *ℤ cross a q) (cross a b *ℤ cross c q) (three a b c q)
        (times_natural (cross b c) (cross a q) (weak (cross b c) bc) (at_least (cross a q) e)) (above_above (cross a b) (cross c q) ab k)
    sum (inr (e, l)) (inr (f, k)) = absurd (there (two_lines a c q ac e f))

    positive : (k z : ℤ) → pos 0 <ℤ k → pos 0 <ℤ (k *ℤ z) → pos 0 <ℤ z
    positive k z l m = elim (sign z) [
      | inl below ↦ absurd (clash (k *ℤ z) (above_below k z l below) m)
      | inr rest ↦ elim rest [
        | inl none ↦ absurd (flat k z none m)
        | inr above ↦ above
      ]
    ]
      where
        clash : (m : ℤ) → m <ℤ pos 0 → pos 0 <ℤ m → ⊥
        clash m l k = omega (arith, ints)

        flat : (k z : ℤ) → z ≡ pos 0 → pos 0 <ℤ (k *ℤ z) → ⊥
        flat k z e l = none k (rw e at l)
          where
            none : (k : ℤ) → pos 0 <ℤ (k *ℤ pos 0) → ⊥
            none k l = omega (arith, ints)
