-- Rows leave no column below the last exactly where each column stands an even number of times.
use Rattle.std.proofs.Common.{◌≡◌, ℕ, zero, suc, ◌+◌, ◌-◌, ◌<◌, Bool, true, false, not, ◌&&◌, cond, List, [], ◌∷◌, ◌++◌, ℤ, pos, negsuc, ◌+ℤ◌, ◌-ℤ◌, ◌≤ℤ◌, refl, sym, ap, ◌∙◌, arith, rules, All, SFits, subst}
use Rattle.std.specs.Prelude.{int_le}
use Rattle.std.specs.List.{flat_map}
use Rattle.std.specs.Ordering.{int_eq}
use Rattle.std.specs.Int.{cast_signed, cast_unsigned, w16}
use Rattle.std.proofs.lemmas.Int.{ints, by_lt_z, to_z-of_z}
use Rattle.std.proofs.lemmas.List.Elements.{All-head, All-tail, All-nil, All-cons, All-append}
use Rattle.region_bytes.specs.Edges.{differ, inside}
use Rattle.region_bytes.proofs.Edges.{inside_left}
use Rattle.tb_geom.specs.declared.point.Point.{Point}
use Rattle.region_bytes.specs.Points.{PointRow, in_rows, inverted, points_of}
use Rattle.region_bytes.proofs.Edges.{int_le-true, int_le-false}
use Rattle.region_bytes.proofs.Tests.{int_eq-same, int_eq-apart}
use Rattle.region_bytes.specs.Words.{data_words}
use Rattle.region_bytes.specs.Bytes.{IsWord, IsWithoutEnd}
use Rattle.region_bytes.specs.Scan.{columns_in, odd_at}
use Rattle.region_bytes.proofs.Rows.{inverted-points_of}
use Rattle.region_bytes.proofs.Found.{regroup, IsFormRow}

pub columns_of : List PointRow → List ℤ
columns_of rows = flat_map (λ (row : PointRow). row.1) rows

differ_assoc : (a b c : Bool) → differ (differ a b) c ≡ differ a (differ b c)
differ_assoc true true true = refl
differ_assoc true true false = refl
differ_assoc true false c = refl
differ_assoc false b c = refl

inside-append : (xs ys : List ℤ) (h : ℤ) → inside (xs ++ ys) h ≡ differ (inside xs h) (inside ys h)
unfolding inside
inside-append [] ys h = refl
inside-append (x ∷ xs) ys h = ap (differ (int_le x h)) (inside-append xs ys h) ∙ sym (differ_assoc (int_le x h) (inside xs h) (inside ys h))

-- the row is at v or above it
abbrev IsUpTo : ℤ → PointRow → Type 0
IsUpTo v row = row.0 ≤ℤ v

pub inside-all : (rows : List PointRow) (h v : ℤ) → All (λ (row : PointRow). row.0 ≤ℤ v) rows → in_rows rows h v ≡ inside (columns_of rows) h
unfolding columns_of in_rows inside
inside-all [] h v l = refl
inside-all (row ∷ rows) h v l =
    (λ i. differ (int_le-true row.0 v (All-head (IsUpTo v) row rows l) i && inside row.1 h) (inside-all rows h v (All-tail (IsUpTo v) row rows l) i))
    ∙ sym (inside-append row.1 (columns_of rows) h)

all_above : (rows : List PointRow) → All IsFormRow rows → All (λ (row : PointRow). row.0 ≤ℤ pos 32767) rows
all_above [] f = All-nil (IsUpTo (pos 32767))
all_above (row ∷ rows) f = All-cons (IsUpTo (pos 32767)) row rows (All-head IsFormRow row rows f).top.1 (all_above rows (All-tail IsFormRow row rows f))

four : (a b c d : Bool) → differ (differ a b) (differ c d) ≡ differ (differ a c) (differ b d)
four true true true d = refl
four true true false true = refl
four true true false false = refl
four true false true true = refl
four true false true false = refl
four true false false d = refl
four false true true d = refl
four false true false d = refl
four false false c d = refl

one_column : (c x : ℤ) → int_eq c x ≡ differ (int_le c x) (int_le c (x -ℤ pos 1))
one_column c x = by_lt_z c x
    (λ l. int_eq-apart c x (λ e. omega (arith, ints)) ∙ sym (λ i. differ (int_le-true c x (omega (arith, ints)) i) (int_le-true c (x -ℤ pos 1) (omega (arith, ints)) i)))
    (λ l. by_lt_z x c
    (λ m. int_eq-apart c x (λ e. omega (arith, ints)) ∙ sym (λ i. differ (int_le-false c x m i) (int_le-false c (x -ℤ pos 1) (omega (arith, ints)) i)))
    (λ m. let e : c ≡ x = omega (arith, ints) in ap (λ z. int_eq c z) (sym e) ∙ int_eq-same c ∙ sym (λ i. differ (int_le-true c x m i) (int_le-false c (x -ℤ pos 1) (omega (arith, ints)) i))))

-- a column stands an odd number of times where the row turns at it
pub odd_turns : (x : ℤ) (cs : List ℤ) → odd_at x cs ≡ differ (inside cs x) (inside cs (x -ℤ pos 1))
unfolding odd_at inside
odd_turns x [] = refl
odd_turns x (c ∷ cs) = (λ i. differ (one_column c x i) (odd_turns x cs i)) ∙ four (int_le c x) (int_le c (x -ℤ pos 1)) (inside cs x) (inside cs (x -ℤ pos 1))

left_of : (cs : List ℤ) (h : ℤ) → All IsWord cs → h ≤ℤ negsuc 32768 → inside cs h ≡ false
left_of cs h f l = inside_left cs h (λ k m. let w = f k (pos 0) m in omega (arith, ints, w.0))

from_differ : (a b : Bool) → differ a b ≡ false → b ≡ false → a ≡ false
from_differ true true e f = f
from_differ true false e f = e
from_differ false b e f = refl

by_steps : (cs : List ℤ) → All IsWord cs → ((x : ℤ) → odd_at x cs ≡ false) → (n : ℕ) → inside cs (negsuc 32768 +ℤ pos n) ≡ false
by_steps cs f odd zero = left_of cs _ f (omega (arith, ints))
by_steps cs f odd (suc n) =
    let x : ℤ = negsuc 32768 +ℤ pos (suc n) in
    let back : negsuc 32768 +ℤ pos n ≡ x -ℤ pos 1 = omega (arith, ints) in
    from_differ (inside cs x) (inside cs (x -ℤ pos 1)) (sym (odd_turns x cs) ∙ odd x) (ap (inside cs) (sym back) ∙ by_steps cs f odd n)

nowhere : (cs : List ℤ) (h : ℤ) → All IsWord cs → ((x : ℤ) → odd_at x cs ≡ false) → inside cs h ≡ false
nowhere cs (pos k) f odd = let e : pos k ≡ negsuc 32768 +ℤ pos (k + 32769) = omega (arith, ints) in ap (inside cs) e ∙ by_steps cs f odd (k + 32769)
nowhere cs (negsuc k) f odd = by_lt_z (negsuc 32768) (negsuc k)
    (λ l. let e : negsuc k ≡ negsuc 32768 +ℤ pos (32768 - k) = omega (arith, ints) in ap (inside cs) e ∙ by_steps cs f odd (32768 - k))
    (λ l. left_of cs (negsuc k) f l)

no_other : (x : ℤ) (cs : List ℤ) → All IsWord cs → (IsWord x → ⊥) → odd_at x cs ≡ false
unfolding odd_at
no_other x [] f n = refl
no_other x (c ∷ cs) f n = (λ i. differ (int_eq-apart c x (λ e. n (subst IsWord e (All-head IsWord c cs f))) i) (no_other x cs (All-tail IsWord c cs f) n i))

pub fits_word : (x : ℤ) → IsWord x → SFits w16 x
fits_word x w = search (arith, ints)

pub bits_below : (x : ℤ) → IsWord x → cast_unsigned w16 x < 65536
bits_below (pos k) w = let b = w.1 in omega (arith, ints)
bits_below (negsuc k) w = let b = w.0 in omega (arith, ints)

every : (cs : List ℤ) → All IsWord cs → ((n : ℕ) → n < 65536 → odd_at (cast_signed w16 n) cs ≡ false) → (x : ℤ) → odd_at x cs ≡ false
every cs f odd x =
    by_lt_z x (negsuc 32767) (λ l. no_other x cs f (λ w. omega (arith, ints, w.0))) (λ l.
    by_lt_z (pos 32767) x (λ m. no_other x cs f (λ w. omega (arith, ints, w.1))) (λ m.
    ap (λ z. odd_at z cs) (sym (to_z-of_z w16 x (fits_word x (l, m)))) ∙ odd (cast_unsigned w16 x) (bits_below x (l, m))))

all_words : (rows : List PointRow) → All IsFormRow rows → All IsWord (columns_of rows)
unfolding columns_of
all_words [] f = All-nil IsWord
all_words (row ∷ rows) f = All-append IsWord row.1 (columns_of rows) (All-head IsFormRow row rows f).columns (all_words rows (All-tail IsFormRow row rows f))

within_row : (xs rest : List ℤ) → All (λ x. x ≡ pos 32767 → ⊥) xs → columns_in true (xs ++ (pos 32767 ∷ rest)) ≡ xs ++ columns_in false rest
unfolding columns_in
within_row [] rest n = (λ i. cond (not (int_eq-same (pos 32767) i)) (pos 32767 ∷ columns_in (not (int_eq-same (pos 32767) i)) rest) (columns_in (not (int_eq-same (pos 32767) i)) rest))
within_row (x ∷ xs) rest n =
    let e = int_eq-apart x (pos 32767) (All-head (λ x. x ≡ pos 32767 → ⊥) x xs n) in
    (λ i. cond (not (e i)) (x ∷ columns_in (not (e i)) (xs ++ (pos 32767 ∷ rest))) (columns_in (not (e i)) (xs ++ (pos 32767 ∷ rest))))
    ∙ ap (λ l. x ∷ l) (within_row xs rest (All-tail (λ x. x ≡ pos 32767 → ⊥) x xs n))

pub columns_in-data : (rows : List PointRow) → All IsWithoutEnd rows → columns_in false (data_words rows) ≡ columns_of rows
unfolding columns_in columns_of
columns_in-data [] t = refl
columns_in-data (row ∷ rows) t =
    ap (columns_in false) (regroup row rows)
    ∙ within_row row.1 (data_words rows) (All-head IsWithoutEnd row rows t).1
    ∙ ap (λ l. row.1 ++ l) (columns_in-data rows (All-tail IsWithoutEnd row rows t))

-- the test of the flags is the test of the form
pub closed_from : (rows : List PointRow) → All IsFormRow rows → All IsWithoutEnd rows → ((n : ℕ) → n < 65536 → odd_at (cast_signed w16 n) (columns_in false (data_words rows)) ≡ false) → (p : Point) → All (λ (row : PointRow). row.0 ≤ℤ p.v) rows → inverted (points_of rows) p ≡ false
closed_from rows f t odd p l =
    inverted-points_of rows p ∙ inside-all rows p.h p.v l
    ∙ nowhere (columns_of rows) p.h (all_words rows f) (every (columns_of rows) (all_words rows f) (λ n m. ap (odd_at (cast_signed w16 n)) (sym (columns_in-data rows t)) ∙ odd n m))

pub closed_to : (rows : List PointRow) → All IsFormRow rows → All IsWithoutEnd rows → ((p : Point) → All (λ (row : PointRow). row.0 ≤ℤ p.v) rows → inverted (points_of rows) p ≡ false) → (n : ℕ) → n < 65536 → odd_at (cast_signed w16 n) (columns_in false (data_words rows)) ≡ false
closed_to rows f t closed n m =
    let x : ℤ = cast_signed w16 n in
    let all = all_above rows f in
    let out : (h : ℤ) → inside (columns_of rows) h ≡ false =
    λ h. sym (inside-all rows h (pos 32767) all) ∙ sym (inverted-points_of rows (record { h = h; v = pos 32767 })) ∙ closed (record { h = h; v = pos 32767 }) all in
    ap (odd_at x) (columns_in-data rows t) ∙ odd_turns x (columns_of rows) ∙ (λ i. differ (out x i) (out (x -ℤ pos 1) i))

pub IsWord-word : (n : ℕ) → n < 65536 → IsWord (cast_signed w16 n)
IsWord-word n l = (search (rules, ints), search (rules, ints))
