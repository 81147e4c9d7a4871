-- Rows of thin lines joined, and what a pen covers.
use Rattle.std.proofs.Common.{◌≡◌, ◌&&◌, Bool, true, false, ℕ, zero, suc, ◌<◌, ℤ, pos, neg_ℤ, ◌+ℤ◌, ◌-ℤ◌, ◌*ℤ◌, ◌≤ℤ◌, ◌<ℤ◌, inl, inr, refl, sym, ap, ◌∙◌, arith}
use Rattle.std.specs.Int.{int_min, int_max}
use Rattle.std.proofs.lemmas.Int.{ints, clamps, by_lt_z}
use Rattle.std.proofs.lemmas.Bool.{and_parts, and_from, or_cases, or_left, or_right, cases_lt, false≢true, false_from_ne_true}
use Rattle.tb_geom.specs.declared.point.Point.{Point}
use Rattle.tb_geom.specs.Points.{PixelSet}
use Rattle.tb_geom.specs.Rects.{between}
use Rattle.tb_geom.proofs.RectLemmas.{between-in}
use Rattle.region_rows.specs.Counts.{count_to}
use Rattle.region_rows.proofs.Counts.{count-is}
use Rattle.shape_strips.specs.declared.run.Run.{Run}
use Rattle.shape_strips.specs.declared.pen.Pen.{Pen}
use Rattle.shape_strips.specs.Runs.{run_holds}
use Rattle.shape_strips.specs.Lines.{thin_holds, some_below, line_holds, AreJoined, IsReach}
use Rattle.shape_strips.proofs.RangeLemmas.{row_of}
use Rattle.shape_strips.proofs.Products.{times_le, times_next, times_neg}
use Rattle.shape_strips.proofs.LineLemmas.{IsAround, thin_in, row_is, level_has}

-- ---- rows that follow each other

-- the multiples of a row
abbrev pub reaches : ℤ → ℤ → ℤ → ℤ → ℤ → ℤ → Bool
reaches w o low high v z = between ((pos 2 *ℤ (w *ℤ (v -ℤ o))) +ℤ low) z ((pos 2 *ℤ (w *ℤ (v -ℤ o))) +ℤ high)

-- some row from f to n more has the multiple
abbrev IsReached : ℤ → ℤ → ℤ → ℤ → ℤ → ℤ → ℕ → Type 0
IsReached w o low high z f n = (v : ℤ) × (f ≤ℤ v) × (v ≤ℤ (f +ℤ pos n)) × (reaches w o low high v z ≡ true)

row_next : (w o f : ℤ) (n : ℕ) → w *ℤ ((f +ℤ pos (suc n)) -ℤ o) ≡ (w *ℤ ((f +ℤ pos n) -ℤ o)) +ℤ w
row_next w o f n =
    let same : (f +ℤ pos (suc n)) -ℤ o ≡ ((f +ℤ pos n) -ℤ o) +ℤ pos 1 = omega (arith, ints) in
    ap (λ y. w *ℤ y) same ∙ times_next w ((f +ℤ pos n) -ℤ o)

row_none : (f o : ℤ) → (f +ℤ pos 0) -ℤ o ≡ f -ℤ o
row_none f o = omega (arith, ints)

row_further : (v f : ℤ) (n : ℕ) → v ≤ℤ (f +ℤ pos n) → v ≤ℤ (f +ℤ pos (suc n))
row_further v f n l = omega (arith, ints)

same_end : (m n high z : ℤ) → n ≡ m → z <ℤ ((pos 2 *ℤ n) +ℤ high) → z <ℤ ((pos 2 *ℤ m) +ℤ high)
same_end m n high z e l = omega (arith, ints)

same_begin : (m n low z : ℤ) → n ≡ m → ((pos 2 *ℤ n) +ℤ low) ≤ℤ z → ((pos 2 *ℤ m) +ℤ low) ≤ℤ z
same_begin m n low z e l = omega (arith, ints)

next_begin : (m n w low high z : ℤ) → n ≡ m +ℤ w → (low +ℤ (pos 2 *ℤ w)) ≤ℤ high → ((pos 2 *ℤ m) +ℤ high) ≤ℤ z → ((pos 2 *ℤ n) +ℤ low) ≤ℤ z
next_begin m n w low high z e l k = omega (arith, ints)

next_end : (m n w low high z : ℤ) → n ≡ m +ℤ w → low ≤ℤ (high +ℤ (pos 2 *ℤ w)) → z <ℤ ((pos 2 *ℤ m) +ℤ low) → z <ℤ ((pos 2 *ℤ n) +ℤ high)
next_end m n w low high z e l k = omega (arith, ints)

-- where rows move to the right as they go down
rows_falling : (w o low high z f : ℤ) (n : ℕ) → (low +ℤ (pos 2 *ℤ w)) ≤ℤ high
    → ((pos 2 *ℤ (w *ℤ (f -ℤ o))) +ℤ low) ≤ℤ z → z <ℤ ((pos 2 *ℤ (w *ℤ ((f +ℤ pos n) -ℤ o))) +ℤ high)
    → IsReached w o low high z f n
rows_falling w o low high z f zero wide from to =
    (f, omega (arith, ints), omega (arith, ints), between-in _ z _ from (same_end (w *ℤ (f -ℤ o)) (w *ℤ ((f +ℤ pos 0) -ℤ o)) high z (ap (λ y. w *ℤ y) (row_none f o)) to))
rows_falling w o low high z f (suc n) wide from to =
    by_lt_z z ((pos 2 *ℤ (w *ℤ ((f +ℤ pos n) -ℤ o))) +ℤ high)
    (λ less.
    let r = rows_falling w o low high z f n wide from less in
    (r.0, r.1, row_further r.0 f n r.2, r.3))
    (λ past. (f +ℤ pos (suc n), omega (arith, ints), omega (arith, ints), between-in _ z _ (next_begin (w *ℤ ((f +ℤ pos n) -ℤ o)) (w *ℤ ((f +ℤ pos (suc n)) -ℤ o)) w low high z (row_next w o f n) wide past) to))

-- and where they move to the left
rows_rising : (w o low high z f : ℤ) (n : ℕ) → low ≤ℤ (high +ℤ (pos 2 *ℤ w))
    → ((pos 2 *ℤ (w *ℤ ((f +ℤ pos n) -ℤ o))) +ℤ low) ≤ℤ z → z <ℤ ((pos 2 *ℤ (w *ℤ (f -ℤ o))) +ℤ high)
    → IsReached w o low high z f n
rows_rising w o low high z f zero wide from to =
    (f, omega (arith, ints), omega (arith, ints), between-in _ z _ (same_begin (w *ℤ (f -ℤ o)) (w *ℤ ((f +ℤ pos 0) -ℤ o)) low z (ap (λ y. w *ℤ y) (row_none f o)) from) to)
rows_rising w o low high z f (suc n) wide from to =
    by_lt_z z ((pos 2 *ℤ (w *ℤ ((f +ℤ pos n) -ℤ o))) +ℤ low)
    (λ less. (f +ℤ pos (suc n), omega (arith, ints), omega (arith, ints), between-in _ z _ from (next_end (w *ℤ ((f +ℤ pos n) -ℤ o)) (w *ℤ ((f +ℤ pos (suc n)) -ℤ o)) w low high z (row_next w o f n) wide less)))
    (λ past.
    let r = rows_rising w o low high z f n wide past to in
    (r.0, r.1, row_further r.0 f n r.2, r.3))

-- ---- rows of a line that goes down

-- a row reaches as far as the next one begins, whichever way
wide_falling : (w k low high : ℤ) → pos 0 <ℤ k → IsReach w k low high → pos 0 ≤ℤ w → (low +ℤ (pos 2 *ℤ w)) ≤ℤ high
wide_falling w k low high some is right = by_lt_z w k
    (λ less. let its = is.steep less (omega (arith, ints)) in let a = its.0 in let b = its.1 in omega (arith, ints))
    (λ from. let its = is.falling from in let a = its.0 in let b = its.1 in omega (arith, ints))

wide_rising : (w k low high : ℤ) → pos 0 <ℤ k → IsReach w k low high → w <ℤ pos 0 → low ≤ℤ (high +ℤ (pos 2 *ℤ w))
wide_rising w k low high some is left = by_lt_z (neg_ℤ w) k
    (λ less. let its = is.steep (omega (arith, ints)) less in let a = its.0 in let b = its.1 in omega (arith, ints))
    (λ from. let its = is.rising from in let a = its.0 in let b = its.1 in omega (arith, ints))

rise_le : (w x y : ℤ) → w <ℤ pos 0 → x ≤ℤ y → (w *ℤ y) ≤ℤ (w *ℤ x)
rise_le w x y left l = back (w *ℤ x) (w *ℤ y) (neg_ℤ w *ℤ x) (neg_ℤ w *ℤ y) (times_neg w x) (times_neg w y) (times_le (neg_ℤ w) x y (omega (arith, ints)) l)
  where
    back : (a b c d : ℤ) → c ≡ neg_ℤ a → d ≡ neg_ℤ b → c ≤ℤ d → b ≤ℤ a
    back a b c d e f l = omega (arith, ints)

-- a column of the line's rectangle, in a row of the line
at_row : (u l : Point) (h v : ℤ) → u.v <ℤ l.v → between (int_min u.h l.h) h (int_max u.h l.h +ℤ pos 1) ≡ true → u.v ≤ℤ v → v ≤ℤ l.v
    → IsAround u l (record { h = h; v = v })
at_row u l h v slanted e top bottom =
    let columns = row_of (int_min u.h l.h) h (int_max u.h l.h +ℤ pos 1) e in
    let first : int_min u.h l.h ≤ℤ h = columns.0 in
    let last : h <ℤ (int_max u.h l.h +ℤ pos 1) = columns.1 in
    record { left = first; right = omega (arith, ints); top = omega (arith, ints, clamps); bottom = omega (arith, ints, clamps) }

columns_of : (u l : Point) (h v : ℤ) → IsAround u l (record { h = h; v = v }) → between (int_min u.h l.h) h (int_max u.h l.h +ℤ pos 1) ≡ true
columns_of u l h v is =
    let left : int_min u.h l.h ≤ℤ h = is.left in
    let right : h ≤ℤ int_max u.h l.h = is.right in
    between-in (int_min u.h l.h) h (int_max u.h l.h +ℤ pos 1) left (omega (arith, ints))

pub falling_joined : (u l : Point) (first last low high : ℤ) (run : Run) → u.v <ℤ l.v → u.v ≤ℤ first → first ≤ℤ last → last ≤ℤ l.v
    → IsReach (l.h -ℤ u.h) (l.v -ℤ u.v) low high → pos 0 ≤ℤ (l.h -ℤ u.h)
    → ((h : ℤ) → run_holds run h ≡ (between (int_min u.h l.h) h (int_max u.h l.h +ℤ pos 1)
    && between ((pos 2 *ℤ ((l.h -ℤ u.h) *ℤ (first -ℤ u.v))) +ℤ low) ((pos 2 *ℤ (l.v -ℤ u.v)) *ℤ (h -ℤ u.h)) ((pos 2 *ℤ ((l.h -ℤ u.h) *ℤ (last -ℤ u.v))) +ℤ high)))
    → AreJoined (thin_holds u l) first last run
falling_joined u l first last low high run slanted top order bottom reach right columns = record {
  has = λ h v from to e.
      let around = thin_in u l (record { h = h; v = v }) e in
      let at = row_of _ _ _ (sym (row_is u l (record { h = h; v = v }) low high slanted reach around) ∙ e) in
      let before = times_le (l.h -ℤ u.h) (first -ℤ u.v) (v -ℤ u.v) right (omega (arith, ints)) in
      let after = times_le (l.h -ℤ u.h) (v -ℤ u.v) (last -ℤ u.v) right (omega (arith, ints)) in
      columns h ∙ and_from _ _ (columns_of u l h v around)
      (between-in _ _ _ (lower _ _ low _ before at.0) (upper _ _ high _ after at.1));
  only = λ h e.
      let two = and_parts _ _ (sym (columns h) ∙ e) in
      let ends = row_of _ _ _ two.1 in
      let count = count-is first last order in
      let whole : first +ℤ pos (count_to first last) ≡ last = omega (arith, ints) in
      let r = rows_falling (l.h -ℤ u.h) u.v low high ((pos 2 *ℤ (l.v -ℤ u.v)) *ℤ (h -ℤ u.h)) first (count_to first last)
      (wide_falling (l.h -ℤ u.h) (l.v -ℤ u.v) low high (omega (arith, ints)) reach right) ends.0
      (moved ((pos 2 *ℤ (l.v -ℤ u.v)) *ℤ (h -ℤ u.h)) _ _ high (ap (λ b. (l.h -ℤ u.h) *ℤ (b -ℤ u.v)) whole) ends.1) in
      let from : first ≤ℤ r.0 = r.1 in
      let to : r.0 ≤ℤ last = up_to r.0 _ last whole r.2 in
      (r.0, from, to, row_is u l (record { h = h; v = r.0 }) low high slanted reach (at_row u l h r.0 slanted two.0 (omega (arith, ints)) (omega (arith, ints))) ∙ r.3);
}
  where
    lower : (a b c z : ℤ) → a ≤ℤ b → ((pos 2 *ℤ b) +ℤ c) ≤ℤ z → ((pos 2 *ℤ a) +ℤ c) ≤ℤ z
    lower a b c z l m = omega (arith, ints)

    upper : (a b c z : ℤ) → a ≤ℤ b → z <ℤ ((pos 2 *ℤ a) +ℤ c) → z <ℤ ((pos 2 *ℤ b) +ℤ c)
    upper a b c z l m = omega (arith, ints)

    moved : (z a b c : ℤ) → b ≡ a → z <ℤ ((pos 2 *ℤ a) +ℤ c) → z <ℤ ((pos 2 *ℤ b) +ℤ c)
    moved z a b c e l = omega (arith, ints)

    up_to : (v a b : ℤ) → a ≡ b → v ≤ℤ a → v ≤ℤ b
    up_to v a b e l = omega (arith, ints)

pub rising_joined : (u l : Point) (first last low high : ℤ) (run : Run) → u.v <ℤ l.v → u.v ≤ℤ first → first ≤ℤ last → last ≤ℤ l.v
    → IsReach (l.h -ℤ u.h) (l.v -ℤ u.v) low high → (l.h -ℤ u.h) <ℤ pos 0
    → ((h : ℤ) → run_holds run h ≡ (between (int_min u.h l.h) h (int_max u.h l.h +ℤ pos 1)
    && between ((pos 2 *ℤ ((l.h -ℤ u.h) *ℤ (last -ℤ u.v))) +ℤ low) ((pos 2 *ℤ (l.v -ℤ u.v)) *ℤ (h -ℤ u.h)) ((pos 2 *ℤ ((l.h -ℤ u.h) *ℤ (first -ℤ u.v))) +ℤ high)))
    → AreJoined (thin_holds u l) first last run
rising_joined u l first last low high run slanted top order bottom reach left columns = record {
  has = λ h v from to e.
      let around = thin_in u l (record { h = h; v = v }) e in
      let at = row_of _ _ _ (sym (row_is u l (record { h = h; v = v }) low high slanted reach around) ∙ e) in
      let before = rise_le (l.h -ℤ u.h) (v -ℤ u.v) (last -ℤ u.v) left (omega (arith, ints)) in
      let after = rise_le (l.h -ℤ u.h) (first -ℤ u.v) (v -ℤ u.v) left (omega (arith, ints)) in
      columns h ∙ and_from _ _ (columns_of u l h v around)
      (between-in _ _ _ (lower _ _ low _ before at.0) (upper _ _ high _ after at.1));
  only = λ h e.
      let two = and_parts _ _ (sym (columns h) ∙ e) in
      let ends = row_of _ _ _ two.1 in
      let count = count-is first last order in
      let whole : first +ℤ pos (count_to first last) ≡ last = omega (arith, ints) in
      let r = rows_rising (l.h -ℤ u.h) u.v low high ((pos 2 *ℤ (l.v -ℤ u.v)) *ℤ (h -ℤ u.h)) first (count_to first last)
      (wide_rising (l.h -ℤ u.h) (l.v -ℤ u.v) low high (omega (arith, ints)) reach left)
      (moved ((pos 2 *ℤ (l.v -ℤ u.v)) *ℤ (h -ℤ u.h)) _ _ low (ap (λ b. (l.h -ℤ u.h) *ℤ (b -ℤ u.v)) whole) ends.0) ends.1 in
      let from : first ≤ℤ r.0 = r.1 in
      let to : r.0 ≤ℤ last = up_to r.0 _ last whole r.2 in
      (r.0, from, to, row_is u l (record { h = h; v = r.0 }) low high slanted reach (at_row u l h r.0 slanted two.0 (omega (arith, ints)) (omega (arith, ints))) ∙ r.3);
}
  where
    lower : (a b c z : ℤ) → a ≤ℤ b → ((pos 2 *ℤ b) +ℤ c) ≤ℤ z → ((pos 2 *ℤ a) +ℤ c) ≤ℤ z
    lower a b c z l m = omega (arith, ints)

    upper : (a b c z : ℤ) → a ≤ℤ b → z <ℤ ((pos 2 *ℤ a) +ℤ c) → z <ℤ ((pos 2 *ℤ b) +ℤ c)
    upper a b c z l m = omega (arith, ints)

    moved : (z a b c : ℤ) → b ≡ a → ((pos 2 *ℤ a) +ℤ c) ≤ℤ z → ((pos 2 *ℤ b) +ℤ c) ≤ℤ z
    moved z a b c e l = omega (arith, ints)

    up_to : (v a b : ℤ) → a ≡ b → v ≤ℤ a → v ≤ℤ b
    up_to v a b e l = omega (arith, ints)

-- a level line
pub level_joined : (u l : Point) (first last left right : ℤ) → u.v ≡ l.v → u.v ≤ℤ first → first ≤ℤ last → last ≤ℤ l.v
    → left ≡ int_min u.h l.h → right ≡ int_max u.h l.h +ℤ pos 1 → AreJoined (thin_holds u l) first last (record { left = left; right = right })
level_joined u l first last left right level top order bottom e f = record {
  has = λ h v from to g.
      let around = thin_in u l (record { h = h; v = v }) g in
      let low : int_min u.h l.h ≤ℤ h = around.left in
      let high : h ≤ℤ int_max u.h l.h = around.right in
      between-in left h right (omega (arith, ints)) (omega (arith, ints));
  only = λ h g.
      let columns = row_of left h right g in
      let low : left ≤ℤ h = columns.0 in
      let high : h <ℤ right = columns.1 in
      (first, omega (arith, ints), order, level_has u l (record { h = h; v = first }) level (omega (arith, ints)) (omega (arith, ints)) (omega (arith, ints)));
}

-- ---- pens

pub some_at : (n : ℕ) (test : ℕ → Bool) (i : ℕ) → i < n → test i ≡ true → some_below n test ≡ true
unfolding some_below
some_at zero test i l e = absurd (omega arith)
some_at (suc n) test i l e = elim (cases_lt i n) [
  | inl less ↦ or_right (test n) (some_below n test) (some_at n test i less e)
  | inr from ↦ let same : n ≡ i = omega arith in or_left (test n) (some_below n test) (ap test same ∙ e)
]

pub some_of : (n : ℕ) (test : ℕ → Bool) → some_below n test ≡ true → (i : ℕ) × (i < n) × (test i ≡ true)
unfolding some_below
some_of zero test e = absurd (false≢true e)
some_of (suc n) test e = elim (or_cases (test n) (some_below n test) e) [
  | inl f ↦ (n, omega arith, f)
  | inr f ↦ let r = some_of n test f in let l : r.0 < n = r.1 in (r.0, omega arith, r.2)
]

pub same_if : (a b : Bool) → (a ≡ true → b ≡ true) → (b ≡ true → a ≡ true) → a ≡ b
same_if true b f g = sym (f refl)
same_if false true f g = g refl
same_if false false f g = refl

-- the columns of a pen whose first one is in a run
pub widened : (l r h : ℤ) (m : ℕ) → l <ℤ r → 0 < m → between l h (r +ℤ (pos m -ℤ pos 1)) ≡ some_below m (λ i. between l (h -ℤ pos i) r)
widened l r h m some pen = same_if (between l h (r +ℤ (pos m -ℤ pos 1))) (some_below m (λ i. between l (h -ℤ pos i) r))
    (λ e.
    let ends = row_of l h (r +ℤ (pos m -ℤ pos 1)) e in
    let low : l ≤ℤ h = ends.0 in
    let high : h <ℤ (r +ℤ (pos m -ℤ pos 1)) = ends.1 in
    by_lt_z h r
    (λ less. some_at m (λ i. between l (h -ℤ pos i) r) 0 pen (between-in l (h -ℤ pos 0) r (omega (arith, ints)) (omega (arith, ints))))
    (λ past.
    let far = count-is (r -ℤ pos 1) h (omega (arith, ints)) in
    some_at m (λ i. between l (h -ℤ pos i) r) (count_to (r -ℤ pos 1) h) (omega (arith, ints)) (between-in l (h -ℤ pos (count_to (r -ℤ pos 1) h)) r (omega (arith, ints)) (omega (arith, ints)))))
    (λ e.
    let at = some_of m (λ i. between l (h -ℤ pos i) r) e in
    let less : at.0 < m = at.1 in
    let ends = row_of l (h -ℤ pos at.0) r at.2 in
    let low : l ≤ℤ (h -ℤ pos at.0) = ends.0 in
    let high : (h -ℤ pos at.0) <ℤ r = ends.1 in
    between-in l h (r +ℤ (pos m -ℤ pos 1)) (omega (arith, ints)) (omega (arith, ints)))

pub none_widened : (l r h : ℤ) (m : ℕ) → r ≤ℤ l → some_below m (λ i. between l (h -ℤ pos i) r) ≡ false
none_widened l r h m none = false_from_ne_true _ (λ e.
    let at = some_of m (λ i. between l (h -ℤ pos i) r) e in
    let ends = row_of l (h -ℤ pos at.0) r at.2 in
    let low : l ≤ℤ (h -ℤ pos at.0) = ends.0 in
    let high : (h -ℤ pos at.0) <ℤ r = ends.1 in
    absurd (omega (arith, ints)))

-- the rows of a pen that has its first one in a line's rows
pub rows_joined : (s : PixelSet) (top bottom first last v h : ℤ) (m : ℕ) (run : Run) → AreJoined s first last run
    → first ≡ int_max top ((v -ℤ pos m) +ℤ pos 1) → last ≡ int_min bottom v
    → ((p : Point) → s p ≡ true → (top ≤ℤ p.v) × (p.v ≤ℤ bottom))
    → run_holds run h ≡ some_below m (λ j. s (record { h = h; v = v -ℤ pos j }))
rows_joined s top bottom first last v h m run joined f g rows = same_if (run_holds run h) (some_below m (λ j. s (record { h = h; v = v -ℤ pos j })))
    (λ e.
    let r = joined.only h e in
    let from : first ≤ℤ r.0 = r.1 in
    let to : r.0 ≤ℤ last = r.2 in
    let far = count-is r.0 v (omega (arith, ints, clamps)) in
    let same : v -ℤ pos (count_to r.0 v) ≡ r.0 = omega (arith, ints) in
    some_at m (λ j. s (record { h = h; v = v -ℤ pos j })) (count_to r.0 v) (omega (arith, ints, clamps)) (ap (λ w. s (record { h = h; v = w })) same ∙ r.3))
    (λ e.
    let at = some_of m (λ j. s (record { h = h; v = v -ℤ pos j })) e in
    let less : at.0 < m = at.1 in
    let in_rows = rows (record { h = h; v = v -ℤ pos at.0 }) at.2 in
    let low : top ≤ℤ (v -ℤ pos at.0) = in_rows.0 in
    let high : (v -ℤ pos at.0) ≤ℤ bottom = in_rows.1 in
    joined.has h (v -ℤ pos at.0) (omega (arith, ints, clamps)) (omega (arith, ints, clamps)) at.2)

-- the rectangle of a line
pub record IsCovered (a b p : Point) (pen : Pen) : Type 0 where
  pub left : int_min a.h b.h ≤ℤ p.h
  pub right : p.h <ℤ (int_max a.h b.h +ℤ pos pen.width)
  pub top : int_min a.v b.v ≤ℤ p.v
  pub bottom : p.v <ℤ (int_max a.v b.v +ℤ pos pen.height)

pub line_in : (a b : Point) (pen : Pen) (p : Point) → line_holds a b pen p ≡ true → IsCovered a b p pen
unfolding line_holds
line_in a b pen p e =
    let across = some_of pen.width (λ i. some_below pen.height (λ j. thin_holds a b (record { h = p.h -ℤ pos i; v = p.v -ℤ pos j }))) e in
    let down = some_of pen.height (λ j. thin_holds a b (record { h = p.h -ℤ pos across.0; v = p.v -ℤ pos j })) across.2 in
    let i : across.0 < pen.width = across.1 in
    let j : down.0 < pen.height = down.1 in
    let around = thin_in a b (record { h = p.h -ℤ pos across.0; v = p.v -ℤ pos down.0 }) down.2 in
    let left : int_min a.h b.h ≤ℤ (p.h -ℤ pos across.0) = around.left in
    let right : (p.h -ℤ pos across.0) ≤ℤ int_max a.h b.h = around.right in
    let top : int_min a.v b.v ≤ℤ (p.v -ℤ pos down.0) = around.top in
    let bottom : (p.v -ℤ pos down.0) ≤ℤ int_max a.v b.v = around.bottom in
    record { left = omega (arith, ints); right = omega (arith, ints); top = omega (arith, ints); bottom = omega (arith, ints) }
