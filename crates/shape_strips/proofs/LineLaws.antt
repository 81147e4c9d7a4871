-- What the definition of thin lines says.
use Rattle.std.proofs.Common.{◌≡◌, ◌&&◌, ◌||◌, not, Bool, true, false, ℤ, pos, neg_ℤ, ◌+ℤ◌, ◌-ℤ◌, ◌*ℤ◌, ◌≤ℤ◌, ◌<ℤ◌, inl, inr, refl, sym, ap, ◌∙◌, arith, unsigned_abs}
use Rattle.std.specs.Prelude.{int_le, int_lt, int_div, int_rem}
use Rattle.std.specs.Int.{int_min, int_max}
use Rattle.std.proofs.lemmas.Int.{ints, clamps, by_lt_z}
use Rattle.std.proofs.lemmas.Bool.{cases_Bool, cond-false, leb-true, le-leb, or_left, or_right, true≢false}
use Rattle.tb_geom.specs.declared.point.Point.{Point}
use Rattle.tb_geom.specs.Rects.{between}
use Rattle.tb_geom.proofs.RectLemmas.{between-in}
use Rattle.shape_strips.specs.Lines.{depth, is_nearest, rightward, turned, is_flat, thin_holds}
use Rattle.shape_strips.proofs.Products.{times_back, twice_times, from_abs}
use Rattle.shape_strips.proofs.ColumnLemmas.{quotient, least_even, least_odd}
use Rattle.shape_strips.proofs.LineLemmas.{flat_is, steep_is, near_is, past_is, or_none, lt_yes, lt_not, le_yes, le_not, lt_le, none_size, dot_right, right_ends}

-- the least number whose multiple is not below n
least_is : (s n : ℤ) → pos 0 <ℤ s → (q : ℤ) × ((x : ℤ) → int_le q x ≡ int_le n (s *ℤ x))
least_is s n rising =
    let is = quotient n s rising in
    by_lt_z (pos 0) (int_rem n s)
    (λ some. (int_div n s +ℤ pos 1, least_odd n s (int_div n s) (int_rem n s) rising is some))
    (λ none. (int_div n s, least_even n s (int_div n s) (int_rem n s) rising is none))

no_lt : (a b c d : ℤ) → (a ≤ℤ b → d <ℤ c) → (b <ℤ a → c ≤ℤ d) → int_le a b ≡ not (int_le c d)
no_lt a b c d f g = by_lt_z b a (λ l. le_not a b l ∙ sym (ap not (le_yes c d (g l)))) (λ l. le_yes a b l ∙ sym (ap not (le_not c d (f l))))

no_le : (a b c d : ℤ) → (a <ℤ b → d <ℤ c) → (b ≤ℤ a → c ≤ℤ d) → int_lt a b ≡ not (int_le c d)
no_le a b c d f g = by_lt_z a b (λ l. lt_yes a b l ∙ sym (ap not (le_not c d (f l)))) (λ l. lt_not a b l ∙ sym (ap not (le_yes c d (g l))))

-- one row is the nearest
nearest_one : (w n : ℤ) → pos 0 <ℤ w → (q : ℤ) × ((y : ℤ) → is_nearest w ((w *ℤ y) -ℤ n) ≡ between q y (q +ℤ pos 1))
nearest_one w n some =
    let least = least_is (pos 2 *ℤ w) (((pos 2 *ℤ n) -ℤ w) +ℤ pos 1) (omega (arith, ints)) in
    (least.0, λ y. told w n least.0 y (w *ℤ y) ((pos 2 *ℤ w) *ℤ y) ((pos 2 *ℤ w) *ℤ (y -ℤ pos 1)) (twice_times w y) (times_back (pos 2 *ℤ w) y) (least.1 y) (least.1 (y -ℤ pos 1)))
  where
    told : (w n q y m z b : ℤ) → z ≡ pos 2 *ℤ m → b ≡ z -ℤ (pos 2 *ℤ w) → int_le q y ≡ int_le (((pos 2 *ℤ n) -ℤ w) +ℤ pos 1) z
        → int_le q (y -ℤ pos 1) ≡ int_le (((pos 2 *ℤ n) -ℤ w) +ℤ pos 1) b → is_nearest w (m -ℤ n) ≡ between q y (q +ℤ pos 1)
    told w n q y m z b e f g h = λ i.
        (lt_le (neg_ℤ w) (pos 2 *ℤ (m -ℤ n)) (((pos 2 *ℤ n) -ℤ w) +ℤ pos 1) z (λ l. omega (arith, ints)) (λ l. omega (arith, ints)) ∙ sym g) i
        && (no_lt (pos 2 *ℤ (m -ℤ n)) w (((pos 2 *ℤ n) -ℤ w) +ℤ pos 1) b (λ l. omega (arith, ints)) (λ l. omega (arith, ints)) ∙ ap not (sym h) ∙ sym (no_le y (q +ℤ pos 1) q (y -ℤ pos 1) (λ l. omega (arith, ints)) (λ l. omega (arith, ints)))) i

moved_one : (q y o : ℤ) → between q (y -ℤ o) (q +ℤ pos 1) ≡ between (q +ℤ o) y ((q +ℤ o) +ℤ pos 1)
moved_one q y o = grind (arith, ints)

-- one pixel of a column of the way to the right
column_one : (a b : Point) (h : ℤ) → a.h <ℤ b.h → a.h ≤ℤ h → h ≤ℤ b.h
    → (q : ℤ) × ((v : ℤ) → rightward a b (record { h = h; v = v }) ≡ between q v (q +ℤ pos 1))
column_one a b h less low high =
    let one = nearest_one (b.h -ℤ a.h) ((b.v -ℤ a.v) *ℤ (h -ℤ a.h)) (omega (arith, ints)) in
    (one.0 +ℤ a.v, λ v. near_is a b (record { h = h; v = v }) less low high ∙ one.1 (v -ℤ a.v) ∙ moved_one one.0 v a.v)

dot_is : (a b p : Point) → a.h ≡ b.h → p.h ≡ a.h → rightward a b p ≡ between a.v p.v (a.v +ℤ pos 1)
unfolding rightward
dot_is a b p same here =
    λ i. between-in a.h p.h (b.h +ℤ pos 1) (omega (arith, ints)) (omega (arith, ints)) i
    && cond-false (int_lt a.h b.h) (is_nearest (b.h -ℤ a.h) (depth a b p)) (between a.v p.v (a.v +ℤ pos 1)) (lt_not a.h b.h (omega (arith, ints))) i

same_twice : (x : Bool) → (x || x) ≡ x
same_twice true = refl
same_twice false = refl

way_one : (a b : Point) (h : ℤ) → (a.h ≡ b.h → a.v ≡ b.v) → int_min a.h b.h ≤ℤ h → h ≤ℤ int_max a.h b.h
    → (q : ℤ) × ((v : ℤ) → (rightward a b (record { h = h; v = v }) || rightward b a (record { h = h; v = v })) ≡ between q v (q +ℤ pos 1))
way_one a b h dot low high = by_lt_z a.h b.h
    (λ less.
    let one = column_one a b h less (omega (arith, ints, clamps)) (omega (arith, ints, clamps)) in
    (one.0, λ v. (λ i. one.1 v i || past_is b a (record { h = h; v = v }) less i) ∙ or_none (between one.0 v (one.0 +ℤ pos 1))))
    (λ from. by_lt_z b.h a.h
    (λ more.
    let one = column_one b a h more (omega (arith, ints, clamps)) (omega (arith, ints, clamps)) in
    (one.0, λ v. λ i. past_is a b (record { h = h; v = v }) more i || one.1 v i))
    (λ to.
    let same : a.h ≡ b.h = omega (arith, ints) in
    let level = dot same in (
      a.v,
      λ v. (λ i. dot_is a b (record { h = h; v = v }) same (omega (arith, ints, clamps)) i || dot_is b a (record { h = h; v = v }) (sym same) (omega (arith, ints, clamps)) i)
          ∙ ap (λ z. between a.v v (a.v +ℤ pos 1) || between z v (z +ℤ pos 1)) (sym level)
          ∙ same_twice (between a.v v (a.v +ℤ pos 1)),
    )))

-- where a flat line has one column it has one row, and so the other way round
flat_dot : (a b : Point) → is_flat a b ≡ true → a.h ≡ b.h → a.v ≡ b.v
flat_dot a b e same =
    let size = leb-true (unsigned_abs (b.v -ℤ a.v)) (unsigned_abs (b.h -ℤ a.h)) e in
    let none = none_size (b.h -ℤ a.h) (omega (arith, ints)) in
    level a.v b.v (omega arith)
  where
    level : (x y : ℤ) → unsigned_abs (y -ℤ x) ≡ 0 → x ≡ y
    level x y e =
        let is = from_abs (y -ℤ x) 0 (omega arith) in
        let low = is.low in
        let high = is.high in
        omega (arith, ints)

steep_dot : (a b : Point) → is_flat a b ≡ false → a.v ≡ b.v → a.h ≡ b.h
steep_dot a b e same =
    let none = none_size (b.v -ℤ a.v) (omega (arith, ints)) in
    absurd (true≢false (sym (le-leb (unsigned_abs (b.v -ℤ a.v)) (unsigned_abs (b.h -ℤ a.h)) (omega arith)) ∙ e))

pub flat_one : (a b : Point) (h : ℤ) → is_flat a b ≡ true → int_min a.h b.h ≤ℤ h → h ≤ℤ int_max a.h b.h
    → (one : ℤ) × ((v : ℤ) → thin_holds a b (record { h = h; v = v }) ≡ between one v (one +ℤ pos 1))
flat_one a b h f low high =
    let one = way_one a b h (flat_dot a b f) low high in
    (one.0, λ v. flat_is a b (record { h = h; v = v }) f ∙ one.1 v)

pub steep_one : (a b : Point) (v : ℤ) → is_flat a b ≡ false → int_min a.v b.v ≤ℤ v → v ≤ℤ int_max a.v b.v
    → (one : ℤ) × ((h : ℤ) → thin_holds a b (record { h = h; v = v }) ≡ between one h (one +ℤ pos 1))
steep_one a b v f low high =
    let one = way_one (turned a) (turned b) v (steep_dot a b f) low high in
    (one.0, λ h. steep_is a b (record { h = h; v = v }) f ∙ one.1 h)

-- both ends
way_end : (a b : Point) → (a.h ≡ b.h → a.v ≡ b.v) → (rightward a b a || rightward b a a) ≡ true
way_end a b dot = by_lt_z a.h b.h
    (λ less. or_left (rightward a b a) (rightward b a a) ((right_ends a b less).0))
    (λ from. by_lt_z b.h a.h
    (λ more. or_right (rightward a b a) (rightward b a a) ((right_ends b a more).1))
    (λ to. let same : a.h ≡ b.h = omega (arith, ints) in or_left (rightward a b a) (rightward b a a) (dot_right a b a same refl refl)))

pub has_end : (a b : Point) → thin_holds a b a ≡ true
has_end a b = elim (cases_Bool (is_flat a b)) [
  | inl f ↦ flat_is a b a f ∙ way_end a b (flat_dot a b f)
  | inr f ↦ steep_is a b a f ∙ way_end (turned a) (turned b) (steep_dot a b f)
]
