-- The runs of a set, column by column.
use Rattle.std.proofs.Common.{◌≡◌, ℕ, zero, suc, ◌+◌, ◌<◌, Bool, true, false, cond, [], ◌∷◌, ◌++◌, Option, Some, None, ℤ, pos, ◌+ℤ◌, ◌≤ℤ◌, ◌<ℤ◌, refl, sym, ap, ◌∙◌, arith}
use Rattle.std.proofs.lemmas.Int.{ints}
use Rattle.tb_geom.specs.Points.{PixelSet}
use Rattle.region_rows.specs.Counts.{count_to}
use Rattle.scan_region.specs.Walks.{runs_on, row_runs, rows_runs}
use Rattle.region_rows.proofs.Counts.{count-is, count-none}

-- ---- columns that count alike

next_of : (h : ℤ) (k : ℕ) → (h +ℤ pos 1) +ℤ pos k ≡ h +ℤ pos (suc k)
next_of h k = omega (arith, ints)

-- columns that do not count have no run
gap : (f : ℤ → Bool) (v h : ℤ) (k n m : ℕ) → m ≡ k + n → ((x : ℤ) → h ≤ℤ x → x <ℤ (h +ℤ pos k) → f x ≡ false) → runs_on f v None h m ≡ runs_on f v None (h +ℤ pos k) n
unfolding runs_on
gap f v h zero n m e none =
    let same : m ≡ n = omega (arith, e) in
    let here : h ≡ h +ℤ pos 0 = omega (arith, ints) in
    λ i. runs_on f v None (here i) (same i)
gap f v h (suc k) n m e none =
    let more : m ≡ suc (k + n) = omega (arith, e) in
    ap (runs_on f v None h) more
    ∙ (λ i. cond (none h (omega (arith, ints)) (omega (arith, ints)) i) (runs_on f v (Some h) (h +ℤ pos 1) (k + n)) (runs_on f v None (h +ℤ pos 1) (k + n)))
    ∙ gap f v (h +ℤ pos 1) k n (k + n) refl (λ x a b. none x (omega (arith, ints)) (omega (arith, ints)))
    ∙ ap (λ x. runs_on f v None x n) (next_of h k)

-- columns that count lengthen a run
grow : (f : ℤ → Bool) (v from h : ℤ) (k n m : ℕ) → m ≡ k + n → ((x : ℤ) → h ≤ℤ x → x <ℤ (h +ℤ pos k) → f x ≡ true) → runs_on f v (Some from) h m ≡ runs_on f v (Some from) (h +ℤ pos k) n
unfolding runs_on
grow f v from h zero n m e all =
    let same : m ≡ n = omega (arith, e) in
    let here : h ≡ h +ℤ pos 0 = omega (arith, ints) in
    λ i. runs_on f v (Some from) (here i) (same i)
grow f v from h (suc k) n m e all =
    let more : m ≡ suc (k + n) = omega (arith, e) in
    ap (runs_on f v (Some from) h) more
    ∙ (λ i. cond (all h (omega (arith, ints)) (omega (arith, ints)) i) (runs_on f v (Some from) (h +ℤ pos 1) (k + n)) (record { v = v; left = from; right = h } ∷ runs_on f v None (h +ℤ pos 1) (k + n)))
    ∙ grow f v from (h +ℤ pos 1) k n (k + n) refl (λ x a b. all x (omega (arith, ints)) (omega (arith, ints)))
    ∙ ap (λ x. runs_on f v (Some from) x n) (next_of h k)

-- a run ends before a column that does not count, and at the last
close : (f : ℤ → Bool) (v from h : ℤ) (n : ℕ) → (0 < n → f h ≡ false) → runs_on f v (Some from) h n ≡ record { v = v; left = from; right = h } ∷ runs_on f v None h n
unfolding runs_on
close f v from h zero out = refl
close f v from h (suc n) out =
    let e = out (omega arith) in
    (λ i. cond (e i) (runs_on f v (Some from) (h +ℤ pos 1) n) (record { v = v; left = from; right = h } ∷ runs_on f v None (h +ℤ pos 1) n))
    ∙ sym (λ i. record { v = v; left = from; right = h } ∷ cond (e i) (runs_on f v (Some h) (h +ℤ pos 1) n) (runs_on f v None (h +ℤ pos 1) n))

run : (f : ℤ → Bool) (v h : ℤ) (k n m : ℕ) → m ≡ suc k + n → ((x : ℤ) → h ≤ℤ x → x <ℤ (h +ℤ pos (suc k)) → f x ≡ true) → (0 < n → f (h +ℤ pos (suc k)) ≡ false)
    → runs_on f v None h m ≡ record { v = v; left = h; right = h +ℤ pos (suc k) } ∷ runs_on f v None (h +ℤ pos (suc k)) n
unfolding runs_on
run f v h k n m e all out =
    let more : m ≡ suc (k + n) = omega (arith, e) in
    ap (runs_on f v None h) more
    ∙ (λ i. cond (all h (omega (arith, ints)) (omega (arith, ints)) i) (runs_on f v (Some h) (h +ℤ pos 1) (k + n)) (runs_on f v None (h +ℤ pos 1) (k + n)))
    ∙ grow f v h (h +ℤ pos 1) k n (k + n) refl (λ x a b. all x (omega (arith, ints)) (omega (arith, ints)))
    ∙ ap (λ x. runs_on f v (Some h) x n) (next_of h k)
    ∙ close f v h (h +ℤ pos (suc k)) n out

-- ---- the same from column to column

same_nat : (m n : ℕ) → pos m ≡ pos n → m ≡ n
same_nat m n e = omega (arith, ints, e)

parted : (h to right : ℤ) → h ≤ℤ to → to ≤ℤ right → count_to h right ≡ count_to h to + count_to to right
parted h to right a b =
    let x = count-is h to a in
    let y = count-is to right b in
    let z = count-is h right (omega (arith, ints)) in
    omega (arith, ints)

to_end : (h to : ℤ) → h ≤ℤ to → (h +ℤ pos (count_to h to)) ≡ to
to_end h to a = let x = count-is h to a in omega (arith, ints)

pub gap-to : (f : ℤ → Bool) (v h to right : ℤ) → h ≤ℤ to → to ≤ℤ right → ((x : ℤ) → h ≤ℤ x → x <ℤ to → f x ≡ false) → runs_on f v None h (count_to h right) ≡ runs_on f v None to (count_to to right)
gap-to f v h to right a b none =
    gap f v h (count_to h to) (count_to to right) (count_to h right) (parted h to right a b) (λ x l m. let e = to_end h to a in none x l (omega (arith, ints)))
    ∙ ap (λ x. runs_on f v None x (count_to to right)) (to_end h to a)

pub run-to : (f : ℤ → Bool) (v h to right : ℤ) → h <ℤ to → to ≤ℤ right → ((x : ℤ) → h ≤ℤ x → x <ℤ to → f x ≡ true) → (to <ℤ right → f to ≡ false)
    → runs_on f v None h (count_to h right) ≡ record { v = v; left = h; right = to } ∷ runs_on f v None to (count_to to right)
run-to f v h to right a b all out = by_count (count_to h to) refl
  where
    ends : (h +ℤ pos (count_to h to)) ≡ to
    ends = to_end h to (omega (arith, ints))

    by_count : (k : ℕ) → count_to h to ≡ k → runs_on f v None h (count_to h right) ≡ record { v = v; left = h; right = to } ∷ runs_on f v None to (count_to to right)
    by_count zero e = let x = count-is h to (omega (arith, ints)) in absurd (omega (arith, ints, e))
    by_count (suc k) e =
        let at : (h +ℤ pos (suc k)) ≡ to = ap (λ n. h +ℤ pos n) (sym e) ∙ ends in
        run f v h k (count_to to right) (count_to h right) (parted h to right (omega (arith, ints)) b ∙ ap (λ n. n + count_to to right) e) (λ x l m. all x l (omega (arith, ints, at))) (λ some. ap f at ∙ out (let y = count-is to right b in omega (arith, ints)))
        ∙ (λ i. record { v = v; left = h; right = at i } ∷ runs_on f v None (at i) (count_to to right))

-- at the last column there is no run left
pub runs-end : (f : ℤ → Bool) (v h right : ℤ) → right ≤ℤ h → runs_on f v None h (count_to h right) ≡ []
unfolding runs_on
runs-end f v h right l = ap (runs_on f v None h) (count-none h right l)

-- the same columns have the same runs
pub same-runs : (f g : ℤ → Bool) (v : ℤ) (o : Option ℤ) (h : ℤ) (n : ℕ) → ((x : ℤ) → h ≤ℤ x → f x ≡ g x) → runs_on f v o h n ≡ runs_on g v o h n
unfolding runs_on
same-runs f g v None h zero e = refl
same-runs f g v (Some from) h zero e = refl
same-runs f g v None h (suc n) e = λ i.
    cond (e h (omega (arith, ints)) i) (same-runs f g v (Some h) (h +ℤ pos 1) n (λ x l. e x (omega (arith, ints))) i) (same-runs f g v None (h +ℤ pos 1) n (λ x l. e x (omega (arith, ints))) i)
same-runs f g v (Some from) h (suc n) e = λ i.
    cond (e h (omega (arith, ints)) i) (same-runs f g v (Some from) (h +ℤ pos 1) n (λ x l. e x (omega (arith, ints))) i) (record { v = v; left = from; right = h } ∷ same-runs f g v None (h +ℤ pos 1) n (λ x l. e x (omega (arith, ints))) i)

-- one row, and the rows below it
pub rows-more : (s : PixelSet) (v left right bottom : ℤ) → v <ℤ bottom → rows_runs s v left right (count_to v bottom) ≡ row_runs s v left right ++ rows_runs s (v +ℤ pos 1) left right (count_to (v +ℤ pos 1) bottom)
unfolding rows_runs
rows-more s v left right bottom l = by_count (count_to v bottom) refl
  where
    by_count : (k : ℕ) → count_to v bottom ≡ k → rows_runs s v left right (count_to v bottom) ≡ row_runs s v left right ++ rows_runs s (v +ℤ pos 1) left right (count_to (v +ℤ pos 1) bottom)
    by_count zero e = let x = count-is v bottom (omega (arith, ints)) in absurd (omega (arith, ints, e))
    by_count (suc k) e =
        let x = count-is v bottom (omega (arith, ints)) in
        let y = count-is (v +ℤ pos 1) bottom (omega (arith, ints)) in
        let rest : k ≡ count_to (v +ℤ pos 1) bottom = omega (arith, ints, e) in
        ap (rows_runs s v left right) e ∙ ap (λ n. row_runs s v left right ++ rows_runs s (v +ℤ pos 1) left right n) rest

-- below the last row there is none
pub rows-end : (s : PixelSet) (v left right bottom : ℤ) → bottom ≤ℤ v → rows_runs s v left right (count_to v bottom) ≡ []
unfolding rows_runs
rows-end s v left right bottom l = ap (rows_runs s v left right) (count-none v bottom l)

-- rows without runs add none
pub rows-past : (s : PixelSet) (v w left right bottom : ℤ) → v ≤ℤ w → w ≤ℤ bottom → ((u : ℤ) → v ≤ℤ u → u <ℤ w → row_runs s u left right ≡ []) → rows_runs s v left right (count_to v bottom) ≡ rows_runs s w left right (count_to w bottom)
rows-past s v w left right bottom l m none = by_count (count_to v w) v refl l none
  where
    by_count : (k : ℕ) (v : ℤ) → count_to v w ≡ k → v ≤ℤ w → ((u : ℤ) → v ≤ℤ u → u <ℤ w → row_runs s u left right ≡ []) → rows_runs s v left right (count_to v bottom) ≡ rows_runs s w left right (count_to w bottom)
    by_count zero v e l none =
        let x = count-is v w l in
        let here : v ≡ w = omega (arith, ints, e) in
        ap (λ u. rows_runs s u left right (count_to u bottom)) here
    by_count (suc k) v e l none =
        let x = count-is v w l in
        let y = count-is (v +ℤ pos 1) w (omega (arith, ints, e)) in
        rows-more s v left right bottom (omega (arith, ints, e))
        ∙ (λ i. none v (omega (arith, ints)) (omega (arith, ints, e)) i ++ rows_runs s (v +ℤ pos 1) left right (count_to (v +ℤ pos 1) bottom))
        ∙ by_count k (v +ℤ pos 1) (omega (arith, ints, e)) (omega (arith, ints, e)) (λ u a b. none u (omega (arith, ints)) b)

-- past a row there are fewer
pub rows-less : (v bottom : ℤ) → v <ℤ bottom → count_to (v +ℤ pos 1) bottom < count_to v bottom
rows-less v bottom l =
    let a = count-is v bottom (omega (arith, ints)) in
    let b = count-is (v +ℤ pos 1) bottom (omega (arith, ints)) in
    omega (arith, ints)
