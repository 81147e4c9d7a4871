-- Edges of polygons.
use Rattle.std.proofs.Common.{◌≡◌, ◌&&◌, ◌||◌, Bool, true, false, ℤ, pos, neg_ℤ, ◌+ℤ◌, ◌-ℤ◌, ◌*ℤ◌, ◌≤ℤ◌, ◌<ℤ◌, ◌⊎◌, inl, inr, refl, sym, ap, ◌∙◌, arith, ◌*◌, ◌^◌, ◌<◌, unsigned_abs, SFits, w64, lit<}
use Rattle.std.specs.Prelude.{int_le, int_lt}
use Rattle.std.specs.Int.{int_min, int_max}
use Rattle.std.proofs.lemmas.Int.{ints, clamps, by_lt_z}
use Rattle.std.proofs.lemmas.Bool.{and_parts, and_from, and_left, and_right, or_cases, cases_Bool, false_from_ne_true}
use Rattle.std.proofs.Math.IntN.{*ℤ_comm}
use Rattle.tb_geom.specs.declared.point.Point.{Point}
use Rattle.tb_geom.specs.Rects.{between, rect_holds}
use Rattle.tb_geom.proofs.RectLemmas.{between-in}
use Rattle.shape_strips.specs.Places.{IsPlace, IsWithin}
use Rattle.shape_strips.specs.Bands.{passes, edge_turns}
use Rattle.shape_strips.proofs.RangeLemmas.{row_of}
use Rattle.shape_strips.proofs.RunLemmas.{between_before, between_past}
use Rattle.shape_strips.proofs.Products.{product_within, product_fits, times_le, times_natural, times_next, odd_times, twice_times, times_neg}

-- a pixel left of both ends of an edge is not passed
left_of : (w k x y : ℤ) → pos 0 ≤ℤ y → y <ℤ k → x <ℤ pos 0 → x <ℤ w
    → (((pos 2 *ℤ x) +ℤ pos 1) *ℤ k) <ℤ (((pos 2 *ℤ y) +ℤ pos 1) *ℤ w)
left_of w k x y top bottom left before = by_lt_z w (pos 0) falling rising
  where
    sums : (m n l k w : ℤ) → m ≤ℤ (l -ℤ k) → (l -ℤ w) ≤ℤ n → w <ℤ k → ((pos 2 *ℤ m) +ℤ k) <ℤ ((pos 2 *ℤ n) +ℤ w)
    sums m n l k w p q r = omega (arith, ints)

    signs : (m n k w : ℤ) → m ≤ℤ (pos 0 -ℤ k) → pos 0 ≤ℤ n → pos 0 <ℤ k → pos 0 ≤ℤ w → ((pos 2 *ℤ m) +ℤ k) <ℤ ((pos 2 *ℤ n) +ℤ w)
    signs m n k w p q r s = omega (arith, ints)

    back : (k z : ℤ) → k *ℤ (z -ℤ pos 1) ≡ (k *ℤ z) -ℤ k
    back k z =
        let same : (z -ℤ pos 1) +ℤ pos 1 ≡ z = omega (arith, ints) in
        less (k *ℤ (z -ℤ pos 1)) (k *ℤ z) k (sym (times_next k (z -ℤ pos 1)) ∙ ap (λ u. k *ℤ u) same)
      where
        less : (a b k : ℤ) → a +ℤ k ≡ b → a ≡ b -ℤ k
        less a b k e = omega (arith, ints)

    told : ((pos 2 *ℤ (k *ℤ x)) +ℤ k) <ℤ ((pos 2 *ℤ (w *ℤ y)) +ℤ w) → (((pos 2 *ℤ x) +ℤ pos 1) *ℤ k) <ℤ (((pos 2 *ℤ y) +ℤ pos 1) *ℤ w)
    told l = rw (odd_times x k, odd_times y w) l

    falling : w <ℤ pos 0 → (((pos 2 *ℤ x) +ℤ pos 1) *ℤ k) <ℤ (((pos 2 *ℤ y) +ℤ pos 1) *ℤ w)
    falling less =
        let first : (k *ℤ x) ≤ℤ (k *ℤ (w -ℤ pos 1)) = times_le k x (w -ℤ pos 1) (omega (arith, ints)) (omega (arith, ints)) in
        let second : (neg_ℤ w *ℤ y) ≤ℤ (neg_ℤ w *ℤ (k -ℤ pos 1)) = times_le (neg_ℤ w) y (k -ℤ pos 1) (omega (arith, ints)) (omega (arith, ints)) in
        told (sums (k *ℤ x) (w *ℤ y) (k *ℤ w) k w (under (k *ℤ x) _ _ first (back k w)) (over w k y second) (omega (arith, ints)))
      where
        under : (a b c : ℤ) → a ≤ℤ b → b ≡ c → a ≤ℤ c
        under a b c l e = omega (arith, ints)

        over : (w k y : ℤ) → (neg_ℤ w *ℤ y) ≤ℤ (neg_ℤ w *ℤ (k -ℤ pos 1)) → ((k *ℤ w) -ℤ w) ≤ℤ (w *ℤ y)
        over w k y l = turned (w *ℤ y) (w *ℤ (k -ℤ pos 1)) (w *ℤ k) (k *ℤ w) w (neg_ℤ w *ℤ y) (neg_ℤ w *ℤ (k -ℤ pos 1)) l (times_neg w y) (times_neg w (k -ℤ pos 1)) (back w k) (*ℤ_comm w k)
          where
            turned : (m n q p w a b : ℤ) → a ≤ℤ b → a ≡ neg_ℤ m → b ≡ neg_ℤ n → n ≡ q -ℤ w → q ≡ p → (p -ℤ w) ≤ℤ m
            turned m n q p w a b l e f g h = omega (arith, ints)

    rising : pos 0 ≤ℤ w → (((pos 2 *ℤ x) +ℤ pos 1) *ℤ k) <ℤ (((pos 2 *ℤ y) +ℤ pos 1) *ℤ w)
    rising from =
        let first : (k *ℤ x) ≤ℤ (k *ℤ (pos 0 -ℤ pos 1)) = times_le k x (pos 0 -ℤ pos 1) (omega (arith, ints)) (omega (arith, ints)) in
        told (signs (k *ℤ x) (w *ℤ y) k w (none k first) (times_natural w y from top) (omega (arith, ints)) from)
      where
        none : (k : ℤ) {m : ℤ} → m ≤ℤ (k *ℤ (pos 0 -ℤ pos 1)) → m ≤ℤ (pos 0 -ℤ k)
        none k l = omega (arith, ints, back k (pos 0))

le_not : (a b : ℤ) → a <ℤ b → int_le b a ≡ false
le_not a b l = grind (arith, ints)

pub passes_row : (a b p : Point) → passes a b p ≡ true → (a.v ≤ℤ p.v) × (p.v <ℤ b.v)
unfolding passes
passes_row a b p e = row_of a.v p.v b.v (and_parts (between a.v p.v b.v) _ e).0

-- an edge turns no pixel above or below it, and none left of it
pub passes_above : (a b p : Point) → (p.v <ℤ a.v) ⊎ (b.v ≤ℤ p.v) → passes a b p ≡ false
unfolding passes
passes_above a b p (inl l) = and_left (between a.v p.v b.v) _ (between_before a.v p.v b.v l)
passes_above a b p (inr l) = and_left (between a.v p.v b.v) _ (between_past a.v p.v b.v l)

pub passes_left : (a b p : Point) → p.h <ℤ a.h → p.h <ℤ b.h → passes a b p ≡ false
unfolding passes
passes_left a b p l m = elim (cases_Bool (between a.v p.v b.v)) [
  | inl e ↦
      let row = row_of a.v p.v b.v e in
      let top : a.v ≤ℤ p.v = row.0 in
      let bottom : p.v <ℤ b.v = row.1 in
      (λ i. e i && le_not _ _ (left_of (b.h -ℤ a.h) (b.v -ℤ a.v) (p.h -ℤ a.h) (p.v -ℤ a.v) (omega (arith, ints)) (omega (arith, ints)) (omega (arith, ints)) (omega (arith, ints))) i)
  | inr e ↦ and_left (between a.v p.v b.v) _ e
]

-- in a row of the edge, what it turns by multiples of twice its height
pub passes_column : (a b : Point) (h v : ℤ) → a.v ≤ℤ v → v <ℤ b.v
    → int_le ((((pos 2 *ℤ (v -ℤ a.v)) +ℤ pos 1) *ℤ (b.h -ℤ a.h)) -ℤ (b.v -ℤ a.v)) ((pos 2 *ℤ (b.v -ℤ a.v)) *ℤ (h -ℤ a.h)) ≡ passes a b (record { h = h; v = v })
unfolding passes
passes_column a b h v top bottom =
    moved (((pos 2 *ℤ (v -ℤ a.v)) +ℤ pos 1) *ℤ (b.h -ℤ a.h)) (b.v -ℤ a.v) ((b.v -ℤ a.v) *ℤ (h -ℤ a.h)) _ _ (twice_times (b.v -ℤ a.v) (h -ℤ a.h)) (odd_times (h -ℤ a.h) (b.v -ℤ a.v))
    ∙ sym (ap (λ t. t && int_le (((pos 2 *ℤ (v -ℤ a.v)) +ℤ pos 1) *ℤ (b.h -ℤ a.h)) (((pos 2 *ℤ (h -ℤ a.h)) +ℤ pos 1) *ℤ (b.v -ℤ a.v))) (between-in a.v v b.v top bottom))
  where
    moved : (l k m n o : ℤ) → n ≡ pos 2 *ℤ m → o ≡ (pos 2 *ℤ m) +ℤ k → int_le (l -ℤ k) n ≡ int_le l o
    moved l k m n o e f = rw (e, f) (grind (arith, ints))

-- past both ends of an edge each pixel of its rows is turned
right_of : (w k x y : ℤ) → pos 0 ≤ℤ y → y <ℤ k → pos 0 ≤ℤ x → w ≤ℤ x
    → (((pos 2 *ℤ y) +ℤ pos 1) *ℤ w) ≤ℤ (((pos 2 *ℤ x) +ℤ pos 1) *ℤ k)
right_of w k x y top bottom right past = by_lt_z w (pos 0) falling rising
  where
    told : ((pos 2 *ℤ (w *ℤ y)) +ℤ w) ≤ℤ ((pos 2 *ℤ (k *ℤ x)) +ℤ k) → (((pos 2 *ℤ y) +ℤ pos 1) *ℤ w) ≤ℤ (((pos 2 *ℤ x) +ℤ pos 1) *ℤ k)
    told l = rw (odd_times x k, odd_times y w) l

    falling : w <ℤ pos 0 → (((pos 2 *ℤ y) +ℤ pos 1) *ℤ w) ≤ℤ (((pos 2 *ℤ x) +ℤ pos 1) *ℤ k)
    falling less =
        told (signs (k *ℤ x) (w *ℤ y) (neg_ℤ w *ℤ y) k w (times_natural k x (omega (arith, ints)) right) (times_natural (neg_ℤ w) y (omega (arith, ints)) top) (times_neg w y) (omega (arith, ints)) less)
      where
        signs : (m n o k w : ℤ) → pos 0 ≤ℤ m → pos 0 ≤ℤ o → o ≡ neg_ℤ n → pos 0 <ℤ k → w <ℤ pos 0 → ((pos 2 *ℤ n) +ℤ w) ≤ℤ ((pos 2 *ℤ m) +ℤ k)
        signs m n o k w p q e r s = omega (arith, ints)

    rising : pos 0 ≤ℤ w → (((pos 2 *ℤ y) +ℤ pos 1) *ℤ w) ≤ℤ (((pos 2 *ℤ x) +ℤ pos 1) *ℤ k)
    rising from =
        let first : (k *ℤ w) ≤ℤ (k *ℤ x) = times_le k w x (omega (arith, ints)) past in
        let second : (w *ℤ (y +ℤ pos 1)) ≤ℤ (w *ℤ k) = times_le w (y +ℤ pos 1) k from (omega (arith, ints)) in
        told (sums (k *ℤ x) (k *ℤ w) (w *ℤ y) (w *ℤ (y +ℤ pos 1)) (w *ℤ k) k w first second (times_next w y) (*ℤ_comm w k) (omega (arith, ints)) from)
      where
        sums : (m n a b c k w : ℤ) → n ≤ℤ m → b ≤ℤ c → b ≡ a +ℤ w → c ≡ n → pos 0 <ℤ k → pos 0 ≤ℤ w → ((pos 2 *ℤ a) +ℤ w) ≤ℤ ((pos 2 *ℤ m) +ℤ k)
        sums m n a b c k w p q e f r s = omega (arith, ints)

le_yes : (a b : ℤ) → a ≤ℤ b → int_le a b ≡ true
le_yes a b l = grind (arith, ints)

pub passes_right : (a b p : Point) → a.h ≤ℤ p.h → b.h ≤ℤ p.h → passes a b p ≡ between a.v p.v b.v
unfolding passes
passes_right a b p l m = elim (cases_Bool (between a.v p.v b.v)) [
  | inl e ↦
      let row = row_of a.v p.v b.v e in
      let top : a.v ≤ℤ p.v = row.0 in
      let bottom : p.v <ℤ b.v = row.1 in
      (λ i. e i && le_yes _ _ (right_of (b.h -ℤ a.h) (b.v -ℤ a.v) (p.h -ℤ a.h) (p.v -ℤ a.v) (omega (arith, ints)) (omega (arith, ints)) (omega (arith, ints)) (omega (arith, ints))) i) ∙ sym e
  | inr e ↦ and_left (between a.v p.v b.v) _ e ∙ sym e
]

-- ---- rows of bands

-- an edge that goes down does not go down from its lower end
pub one_way : (a b p : Point) (r : Bool) → a.v ≤ℤ b.v → (edge_turns a b p && r) ≡ (passes a b p && r)
one_way a b p r l = (λ i. (passes a b p || back i) && r) ∙ ap (λ t. t && r) (or_none (passes a b p))
  where
    back : passes b a p ≡ false
    back = by_lt_z p.v b.v (λ above. passes_above b a p (inl above)) (λ from. passes_above b a p (inr (omega (arith, ints))))

    or_none : (x : Bool) → (x || false) ≡ x
    or_none true = refl
    or_none false = refl

pub other_way : (a b p : Point) (r : Bool) → b.v <ℤ a.v → (edge_turns a b p && r) ≡ (passes b a p && r)
other_way a b p r l = λ i. (ahead i || passes b a p) && r
  where
    ahead : passes a b p ≡ false
    ahead = by_lt_z p.v a.v (λ above. passes_above a b p (inl above)) (λ from. passes_above a b p (inr (omega (arith, ints))))

lt_yes : (a b : ℤ) → a <ℤ b → int_lt a b ≡ true
lt_yes a b l = grind (arith, ints)

lt_not : (a b : ℤ) → b ≤ℤ a → int_lt a b ≡ false
lt_not a b l = grind (arith, ints)

-- left of both ends a band has no pixel
pub band_none : (a b p : Point) (right : ℤ) → right ≤ℤ int_min a.h b.h → (passes a b p && int_lt p.h right) ≡ false
band_none a b p right l = by_lt_z p.h right
    (λ less. and_left _ _ (passes_left a b p (omega (arith, ints, clamps)) (omega (arith, ints, clamps))))
    (λ from. and_right _ _ (lt_not p.h right from))

-- and from the first column that it turns it has all
pub band_row : (a b : Point) (left f right h v : ℤ) → left ≡ int_min a.h b.h
    → (left ≤ℤ h → h <ℤ right → int_le f h ≡ passes a b (record { h = h; v = v })) → left ≤ℤ f
    → between f h right ≡ (passes a b (record { h = h; v = v }) && int_lt h right)
band_row a b left f right h v is edge low =
    by_lt_z h left
    (λ less. between_before f h right (omega (arith, ints)) ∙ sym (and_left _ _ (passes_left a b (record { h = h; v = v }) (omega (arith, ints, clamps)) (omega (arith, ints, clamps)))))
    (λ from. by_lt_z h right
    (λ before. ap (λ t. t && int_lt h right) (edge from before))
    (λ past. between_past f h right past ∙ sym (and_right _ _ (lt_not h right past))))

-- the rectangle around a band
pub band_outside : (a b p : Point) (left top right bottom : ℤ) → left ≡ int_min a.h b.h → top ≡ int_min a.v b.v → bottom ≡ int_max a.v b.v
    → rect_holds (record { left = left; top = top; right = right; bottom = bottom }) p ≡ false → (edge_turns a b p && int_lt p.h right) ≡ false
band_outside a b p left top right bottom l t m out = false_from_ne_true _ (λ e.
    let two = and_parts (edge_turns a b p) (int_lt p.h right) e in
    let before = under p.h right two.1 in
    elim (or_cases (passes a b p) (passes b a p) two.0) [
      | inl g ↦ let held = within a b p left top right bottom l t m before g in absurd (cc)
      | inr g ↦ let held = within b a p left top right bottom (l ∙ min_turned a.h b.h) (t ∙ min_turned a.v b.v) (m ∙ max_turned a.v b.v) before g in absurd (cc)
    ])
  where
    under : (x y : ℤ) → int_lt x y ≡ true → x <ℤ y
    under x y e = grind (arith, ints)

    min_turned : (x y : ℤ) → int_min x y ≡ int_min y x
    min_turned x y = omega (arith, ints, clamps)

    max_turned : (x y : ℤ) → int_max x y ≡ int_max y x
    max_turned x y = omega (arith, ints, clamps)

    not_left : (a b p : Point) → passes a b p ≡ true → int_min a.h b.h ≤ℤ p.h
    not_left a b p g = by_lt_z p.h (int_min a.h b.h)
        (λ less. let none = passes_left a b p (omega (arith, ints, clamps)) (omega (arith, ints, clamps)) in absurd (cc))
        (λ from. from)

    within : (a b p : Point) (left top right bottom : ℤ) → left ≡ int_min a.h b.h → top ≡ int_min a.v b.v → bottom ≡ int_max a.v b.v
        → p.h <ℤ right → passes a b p ≡ true → rect_holds (record { left = left; top = top; right = right; bottom = bottom }) p ≡ true
    within a b p left top right bottom l t m before g =
        let row = passes_row a b p g in
        let first : a.v ≤ℤ p.v = row.0 in
        let last : p.v <ℤ b.v = row.1 in
        let beside = not_left a b p g in
        and_from _ _ (between-in left p.h right (omega (arith, ints)) before) (between-in top p.v bottom (omega (arith, ints, clamps)) (omega (arith, ints, clamps)))

-- ---- numbers of 64 bits

-- what is computed of an edge and a row
pub record AreSmall (u l : Point) (v : ℤ) : Type 0 where
  pub height : SFits w64 (l.v -ℤ u.v)
  pub width : SFits w64 (l.h -ℤ u.h)
  pub down : SFits w64 (v -ℤ u.v)
  pub step : SFits w64 (pos 2 *ℤ (l.v -ℤ u.v))
  pub twice : SFits w64 (pos 2 *ℤ (v -ℤ u.v))
  pub odd : SFits w64 ((pos 2 *ℤ (v -ℤ u.v)) +ℤ pos 1)
  pub across : SFits w64 (((pos 2 *ℤ (v -ℤ u.v)) +ℤ pos 1) *ℤ (l.h -ℤ u.h))
  pub least : SFits w64 ((((pos 2 *ℤ (v -ℤ u.v)) +ℤ pos 1) *ℤ (l.h -ℤ u.h)) -ℤ (l.v -ℤ u.v))
  pub least_in : unsigned_abs ((((pos 2 *ℤ (v -ℤ u.v)) +ℤ pos 1) *ℤ (l.h -ℤ u.h)) -ℤ (l.v -ℤ u.v)) < 2 ^ 62
  pub origin_in : unsigned_abs u.h < 2 ^ 16
  pub rising : pos 0 <ℤ (pos 2 *ℤ (l.v -ℤ u.v))
  pub small : unsigned_abs (pos 2 *ℤ (l.v -ℤ u.v)) < 2 ^ 32

pub are_small : (u l : Point) (v : ℤ) → IsPlace u → IsPlace l → u.v ≤ℤ v → v <ℤ l.v → AreSmall u l v
are_small u l v p q top bottom =
    let u_left = p.h_low in
    let u_right = p.h_high in
    let u_top = p.v_low in
    let u_bottom = p.v_high in
    let l_left = q.h_low in
    let l_right = q.h_high in
    let l_top = q.v_low in
    let l_bottom = q.v_high in
    let odd_in : IsWithin ((pos 2 *ℤ (v -ℤ u.v)) +ℤ pos 1) 131072 = record { low = omega (arith, ints); high = omega (arith, ints) } in
    let width_in : IsWithin (l.h -ℤ u.h) 65536 = record { low = omega (arith, ints); high = omega (arith, ints) } in
    let product = product_within ((pos 2 *ℤ (v -ℤ u.v)) +ℤ pos 1) (l.h -ℤ u.h) 131072 65536 odd_in width_in in
    let height_in : IsWithin (l.v -ℤ u.v) 65536 = record { low = omega (arith, ints); high = omega (arith, ints) } in
    let rest = less (((pos 2 *ℤ (v -ℤ u.v)) +ℤ pos 1) *ℤ (l.h -ℤ u.h)) (l.v -ℤ u.v) product height_in in
    record {
      height = search (arith, ints);
      width = search (arith, ints);
      down = search (arith, ints);
      step = search (arith, ints);
      twice = search (arith, ints);
      odd = search (arith, ints);
      across = product_fits ((pos 2 *ℤ (v -ℤ u.v)) +ℤ pos 1) (l.h -ℤ u.h) 131072 65536 odd_in width_in (lit< tt);
      least = rest.0;
      least_in = rest.1;
      origin_in = search (arith, ints);
      rising = omega (arith, ints);
      small = search (arith, ints);
    }
  where
    less : (a b : ℤ) → IsWithin a (131072 * 65536) → IsWithin b 65536 → SFits w64 (a -ℤ b) × (unsigned_abs (a -ℤ b) < 2 ^ 62)
    less a b p q =
        let a_low = p.low in
        let a_high = p.high in
        let b_low = q.low in
        let b_high = q.high in
        (search (arith, ints), search (arith, ints))
