-- The runs of a set in rows of columns are its maximal runs there, each once.
use Rattle.std.proofs.Common.{◌≡◌, ℕ, zero, suc, Bool, true, false, ◌&&◌, ◌||◌, cond, List, [], ◌∷◌, ◌++◌, Option, Some, None, ℤ, pos, negsuc, ◌+ℤ◌, ◌≤ℤ◌, ◌<ℤ◌, refl, sym, ap, ◌∙◌, subst, inl, inr, arith}
use Rattle.std.specs.List.{list_any, All, AllPairs}
use Rattle.std.specs.Ordering.{int_eq}
use Rattle.std.proofs.Math.Bool.{and-false}
use Rattle.std.specs.Int.{int_min}
use Rattle.std.proofs.lemmas.Int.{ints, clamps, by_lt_z}
use Rattle.std.proofs.lemmas.Bool.Decides.{Decides-int_eq}
use Rattle.std.proofs.lemmas.List.Folds.{list_any-append}
use Rattle.std.proofs.lemmas.List.Elements.{All-nil, All-cons, All-append, All-weaker}
use Rattle.std.proofs.lemmas.List.Kept.{AllPairs-cons}
use Rattle.tb_geom.specs.declared.point.Point.{Point}
use Rattle.tb_geom.specs.declared.rect.Rect.{Rect}
use Rattle.tb_geom.specs.Points.{PixelSet}
use Rattle.tb_geom.specs.Rects.{between, rect_holds}
use Rattle.scan_region.specs.Scan.{span_holds, IsScanOf, IsRun, Precedes}
use Rattle.region_rows.specs.Counts.{count_to}
use Rattle.scan_region.specs.Walks.{runs_on, row_runs, rows_runs}
use Rattle.scan_region.specs.declared.spans.Span.{Span}
use Rattle.region_rows.proofs.Counts.{count-is, count-none}

-- the run lies in the row w, right of the column x
abbrev IsRunAfter : ℤ → ℤ → Span → Type 0
IsRunAfter w x s = (s.left <ℤ s.right) × (s.v ≡ w) × (x <ℤ s.left)

-- ---- the pixels

-- whether the column x lies in the run that is open at h
abbrev in_open : Option ℤ → ℤ → ℤ → Bool
in_open None h x = false
in_open (Some from) h x = between from x h

-- the open run, if there is one, began left of h
abbrev IsOpen : Option ℤ → ℤ → Type 0
IsOpen None h = Unit
IsOpen (Some from) h = from <ℤ h

and_or : (t a z : Bool) → ((t && a) || (t && z)) ≡ (t && (a || z))
and_or true a z = refl
and_or false a z = refl

and_last : (t : Bool) (a : Bool) → ((t && a) || false) ≡ (t && (a || false))
and_last true a = refl
and_last false a = refl

-- of the columns from h on, the first and those after it
first-counts : (h x : ℤ) (n : ℕ) (e : Bool) → (x ≡ h → e ≡ true) → (between h x (h +ℤ pos 1) || (between (h +ℤ pos 1) x ((h +ℤ pos 1) +ℤ pos n) && e)) ≡ (false || (between h x (h +ℤ pos (suc n)) && e))
first-counts h x n e here = by_lt_z x h (λ l. grind (arith, ints)) (λ l. by_lt_z h x (λ m. grind (arith, ints)) (λ m. let t = here (omega (arith, ints)) in grind (arith, ints)))

first-out : (h x : ℤ) (n : ℕ) (e : Bool) → (x ≡ h → e ≡ false) → (false || (between (h +ℤ pos 1) x ((h +ℤ pos 1) +ℤ pos n) && e)) ≡ (false || (between h x (h +ℤ pos (suc n)) && e))
first-out h x n e here = by_lt_z x h (λ l. grind (arith, ints)) (λ l. by_lt_z h x (λ m. grind (arith, ints)) (λ m. let t = here (omega (arith, ints)) in grind (arith, ints)))

open-counts : (from h x : ℤ) (n : ℕ) (e : Bool) → from <ℤ h → (x ≡ h → e ≡ true) → (between from x (h +ℤ pos 1) || (between (h +ℤ pos 1) x ((h +ℤ pos 1) +ℤ pos n) && e)) ≡ (between from x h || (between h x (h +ℤ pos (suc n)) && e))
open-counts from h x n e o here = by_lt_z x h (λ l. grind (arith, ints)) (λ l. by_lt_z h x (λ m. grind (arith, ints)) (λ m. let t = here (omega (arith, ints)) in grind (arith, ints)))

-- what both lists say, the chosen one says
either : (t : Bool) (a b : List Span) (p : Point) (x : Bool) → (t ≡ true → list_any (λ s. span_holds s p) a ≡ x) → (t ≡ false → list_any (λ s. span_holds s p) b ≡ x) → list_any (λ s. span_holds s p) (cond t a b) ≡ x
either true a b p x f g = f refl
either false a b p x f g = g refl

pub any-runs_on : (f : ℤ → Bool) (v : ℤ) (o : Option ℤ) (h : ℤ) (n : ℕ) (p : Point) → IsOpen o h
    → list_any (λ s. span_holds s p) (runs_on f v o h n) ≡ (int_eq v p.v && (in_open o h p.h || (between h p.h (h +ℤ pos n) && f p.h)))
unfolding runs_on
any-runs_on f v None h zero p o =
    let none : between h p.h (h +ℤ pos 0) ≡ false = grind (arith, ints) in
    sym ((λ i. int_eq v p.v && (false || (none i && f p.h))) ∙ and-false (int_eq v p.v))
any-runs_on f v (Some from) h zero p o =
    let none : between h p.h (h +ℤ pos 0) ≡ false = grind (arith, ints) in
    and_last (int_eq v p.v) (between from p.h h) ∙ sym (λ i. int_eq v p.v && (between from p.h h || (none i && f p.h)))
any-runs_on f v None h (suc n) p o =
    either (f h) (runs_on f v (Some h) (h +ℤ pos 1) n) (runs_on f v None (h +ℤ pos 1) n) p (int_eq v p.v && (false || (between h p.h (h +ℤ pos (suc n)) && f p.h)))
    (λ e. any-runs_on f v (Some h) (h +ℤ pos 1) n p (omega (arith, ints)) ∙ ap (λ b. int_eq v p.v && b) (first-counts h p.h n (f p.h) (λ same. ap f same ∙ e)))
    (λ e. any-runs_on f v None (h +ℤ pos 1) n p tt ∙ ap (λ b. int_eq v p.v && b) (first-out h p.h n (f p.h) (λ same. ap f same ∙ e)))
any-runs_on f v (Some from) h (suc n) p o =
    either (f h) (runs_on f v (Some from) (h +ℤ pos 1) n) (record { v = v; left = from; right = h } ∷ runs_on f v None (h +ℤ pos 1) n) p (int_eq v p.v && (between from p.h h || (between h p.h (h +ℤ pos (suc n)) && f p.h)))
    (λ e. any-runs_on f v (Some from) (h +ℤ pos 1) n p (omega (arith, ints, o)) ∙ ap (λ b. int_eq v p.v && b) (open-counts from h p.h n (f p.h) o (λ same. ap f same ∙ e)))
    (λ e. ap (λ b. (int_eq v p.v && between from p.h h) || b) (any-runs_on f v None (h +ℤ pos 1) n p tt)
    ∙ and_or (int_eq v p.v) (between from p.h h) (false || (between (h +ℤ pos 1) p.h ((h +ℤ pos 1) +ℤ pos n) && f p.h))
    ∙ ap (λ b. int_eq v p.v && (between from p.h h || b)) (first-out h p.h n (f p.h) (λ same. ap f same ∙ e)))

-- ---- their order

-- no run of the row, nor the open one, begins at the column x or left of it
abbrev IsRightOf : Option ℤ → ℤ → ℤ → Type 0
IsRightOf None h x = x <ℤ h
IsRightOf (Some from) h x = (x <ℤ from) × (from <ℤ h)

all-either : (P : Span → Type 0) (t : Bool) (a b : List Span) → All P a → All P b → All P (cond t a b)
all-either P true a b x y = x
all-either P false a b x y = y

after-runs_on : (f : ℤ → Bool) (v : ℤ) (o : Option ℤ) (h x : ℤ) (n : ℕ) → IsRightOf o h x → All (IsRunAfter v x) (runs_on f v o h n)
unfolding runs_on
after-runs_on f v None h x zero r = All-nil (IsRunAfter v x)
after-runs_on f v (Some from) h x zero r = All-cons (IsRunAfter v x) (record { v = v; left = from; right = h }) [] (r.1, refl, r.0) (All-nil (IsRunAfter v x))
after-runs_on f v None h x (suc n) r =
    all-either (IsRunAfter v x) (f h) _ _ (after-runs_on f v (Some h) (h +ℤ pos 1) x n (r, omega (arith, ints))) (after-runs_on f v None (h +ℤ pos 1) x n (omega (arith, ints, r)))
after-runs_on f v (Some from) h x (suc n) r =
    let low = r.0 in
    let high = r.1 in
    all-either (IsRunAfter v x) (f h) _ _ (after-runs_on f v (Some from) (h +ℤ pos 1) x n (low, omega (arith, ints)))
    (All-cons (IsRunAfter v x) (record { v = v; left = from; right = h }) (runs_on f v None (h +ℤ pos 1) n) (high, refl, low) (after-runs_on f v None (h +ℤ pos 1) x n (omega (arith, ints))))

-- a run that ends at h precedes those right of h in its row, and those of the rows below
before-all : (span : Span) (here rest : List Span) → All (IsRunAfter span.v span.right) here → All (λ s. span.v <ℤ s.v) rest → All (Precedes span) (here ++ rest)
before-all span here rest a b =
    All-append (Precedes span) here rest
    (All-weaker (IsRunAfter span.v span.right) (Precedes span) (λ s m. inr (sym m.1, m.2)) here a)
    (All-weaker (λ s. span.v <ℤ s.v) (Precedes span) (λ s m. inl m) rest b)

order-either : (t : Bool) (a b rest : List Span) → AllPairs Precedes (a ++ rest) → AllPairs Precedes (b ++ rest) → AllPairs Precedes (cond t a b ++ rest)
order-either true a b rest x y = x
order-either false a b rest x y = y

order-runs_on : (f : ℤ → Bool) (v : ℤ) (o : Option ℤ) (h : ℤ) (n : ℕ) (rest : List Span) → All (λ s. v <ℤ s.v) rest → AllPairs Precedes rest → AllPairs Precedes (runs_on f v o h n ++ rest)
unfolding runs_on
order-runs_on f v None h zero rest below order = order
order-runs_on f v (Some from) h zero rest below order =
    AllPairs-cons Precedes (record { v = v; left = from; right = h }) rest (before-all (record { v = v; left = from; right = h }) [] rest (All-nil (IsRunAfter v h)) below) order
order-runs_on f v None h (suc n) rest below order =
    order-either (f h) (runs_on f v (Some h) (h +ℤ pos 1) n) (runs_on f v None (h +ℤ pos 1) n) rest (order-runs_on f v (Some h) (h +ℤ pos 1) n rest below order) (order-runs_on f v None (h +ℤ pos 1) n rest below order)
order-runs_on f v (Some from) h (suc n) rest below order =
    order-either (f h) (runs_on f v (Some from) (h +ℤ pos 1) n) (record { v = v; left = from; right = h } ∷ runs_on f v None (h +ℤ pos 1) n) rest
    (order-runs_on f v (Some from) (h +ℤ pos 1) n rest below order)
    (AllPairs-cons Precedes (record { v = v; left = from; right = h }) (runs_on f v None (h +ℤ pos 1) n ++ rest)
    (before-all (record { v = v; left = from; right = h }) (runs_on f v None (h +ℤ pos 1) n) rest (after-runs_on f v None (h +ℤ pos 1) h n (omega (arith, ints))) below)
    (order-runs_on f v None (h +ℤ pos 1) n rest below order))

-- ---- rows after rows

row-counts : (s : PixelSet) (v h : ℤ) (n : ℕ) (p : Point) → (int_eq v p.v && (false || (between h p.h (h +ℤ pos n) && s (record { h = p.h; v = v })))) ≡ ((int_eq v p.v && between h p.h (h +ℤ pos n)) && s p)
row-counts s v h n p = by_row (int_eq v p.v) refl
  where
    by_row : (t : Bool) → int_eq v p.v ≡ t → (t && (false || (between h p.h (h +ℤ pos n) && s (record { h = p.h; v = v })))) ≡ ((t && between h p.h (h +ℤ pos n)) && s p)
    by_row true e = ap (λ w. between h p.h (h +ℤ pos n) && s (record { h = p.h; v = w })) ((Decides-int_eq v p.v).0 e)
    by_row false e = refl

first-row : (v y : ℤ) (n : ℕ) (c e : Bool) → (((int_eq v y && c) && e) || ((between (v +ℤ pos 1) y ((v +ℤ pos 1) +ℤ pos n) && c) && e)) ≡ ((between v y (v +ℤ pos (suc n)) && c) && e)
first-row v y n c e = by_lt_z y v (λ l. grind (arith, ints)) (λ l. by_lt_z v y (λ m. grind (arith, ints)) (λ m. grind (arith, ints)))

any-rows_runs : (s : PixelSet) (v left right : ℤ) (n : ℕ) (p : Point)
    → list_any (λ span. span_holds span p) (rows_runs s v left right n) ≡ ((between v p.v (v +ℤ pos n) && between left p.h (left +ℤ pos (count_to left right))) && s p)
unfolding rows_runs
any-rows_runs s v left right zero p =
    let none : between v p.v (v +ℤ pos 0) ≡ false = grind (arith, ints) in
    sym (λ i. (none i && between left p.h (left +ℤ pos (count_to left right))) && s p)
any-rows_runs s v left right (suc n) p =
    list_any-append (λ span. span_holds span p) (row_runs s v left right) (rows_runs s (v +ℤ pos 1) left right n)
    ∙ (λ i. (any-runs_on (λ h. s (record { h = h; v = v })) v None left (count_to left right) p tt ∙ row-counts s v left (count_to left right) p) i || any-rows_runs s (v +ℤ pos 1) left right n p i)
    ∙ first-row v p.v n (between left p.h (left +ℤ pos (count_to left right))) (s p)

-- the runs of rows below a row lie below it
below-rows_runs : (s : PixelSet) (w v left right : ℤ) (n : ℕ) → w <ℤ v → All (λ span. w <ℤ span.v) (rows_runs s v left right n)
unfolding rows_runs
below-rows_runs s w v left right zero l = All-nil (λ span. w <ℤ span.v)
below-rows_runs s w v left right (suc n) l =
    All-append (λ span. w <ℤ span.v) _ _
    (All-weaker (IsRunAfter v (left +ℤ negsuc 0)) (λ span. w <ℤ span.v) (λ span m. let same = m.1 in omega (arith, ints)) _ (after-runs_on (λ h. s (record { h = h; v = v })) v None left (left +ℤ negsuc 0) (count_to left right) (omega (arith, ints))))
    (below-rows_runs s w (v +ℤ pos 1) left right n (omega (arith, ints)))

runs-rows_runs : (s : PixelSet) (v left right : ℤ) (n : ℕ) → All IsRun (rows_runs s v left right n)
unfolding rows_runs
runs-rows_runs s v left right zero = All-nil IsRun
runs-rows_runs s v left right (suc n) =
    All-append IsRun _ _
    (All-weaker (IsRunAfter v (left +ℤ negsuc 0)) IsRun (λ span m. m.0) _ (after-runs_on (λ h. s (record { h = h; v = v })) v None left (left +ℤ negsuc 0) (count_to left right) (omega (arith, ints))))
    (runs-rows_runs s (v +ℤ pos 1) left right n)

order-rows_runs : (s : PixelSet) (v left right : ℤ) (n : ℕ) → AllPairs Precedes (rows_runs s v left right n)
unfolding rows_runs
order-rows_runs s v left right zero = λ i j d m n. absurd (omega arith)
order-rows_runs s v left right (suc n) =
    order-runs_on (λ h. s (record { h = h; v = v })) v None left (count_to left right) (rows_runs s (v +ℤ pos 1) left right n) (below-rows_runs s v (v +ℤ pos 1) left right n (omega (arith, ints))) (order-rows_runs s (v +ℤ pos 1) left right n)

-- so many numbers from one on are those up to the other
counted : (low high x : ℤ) → between low x (low +ℤ pos (count_to low high)) ≡ between low x high
counted low high x = by_lt_z low high
    (λ l. let e = count-is low high (omega (arith, ints)) in ap (between low x) (omega (arith, ints)))
    (λ l. let e = count-none low high l in
    let none : between low x (low +ℤ pos 0) ≡ false = grind (arith, ints) in
    let also : between low x high ≡ false = grind (arith, ints) in
    ap (λ n. between low x (low +ℤ pos n)) e ∙ none ∙ sym also)

swap : (a b c : Bool) → ((a && b) && c) ≡ ((b && a) && c)
swap true true c = refl
swap true false c = refl
swap false true c = refl
swap false false c = refl

-- the runs of rows of columns are those of the rectangle's pixels that the set has
pub IsScanOf-rows_runs : (s : PixelSet) (left top right bottom : ℤ) → IsScanOf (rows_runs s top left right (count_to top bottom)) (λ p. (between left p.h right && between top p.v bottom) && s p)
IsScanOf-rows_runs s left top right bottom = record {
  pixels = λ p. swap (between left p.h right) (between top p.v bottom) (s p) ∙ sym (any-rows_runs s top left right (count_to top bottom) p ∙ (λ i. (counted top bottom p.v i && counted left right p.h i) && s p));
  runs = runs-rows_runs s top left right (count_to top bottom);
  order = order-rows_runs s top left right (count_to top bottom);
}

-- spans of the same pixels by another test
pub IsScanOf-same : (spans : List Span) (s t : PixelSet) → ((p : Point) → t p ≡ s p) → IsScanOf spans s → IsScanOf spans t
IsScanOf-same spans s t e scan = record { pixels = λ p. e p ∙ scan.pixels p; runs = scan.runs; order = scan.order }

-- a walk begins before its first row; where no column lies in the rectangle, it has no row
pub walk-scan : (s : PixelSet) (area : Rect) (first : List Span) (next : ℤ) → first ≡ [] → (area.left <ℤ area.right → next ≡ area.top) → (area.right ≤ℤ area.left → next ≡ area.bottom)
    → IsScanOf (first ++ rows_runs s next area.left area.right (count_to next area.bottom)) (λ p. rect_holds area p && s p)
walk-scan s area first next none some empty =
    by_lt_z area.left area.right
    (λ l. rw (none, some l) (IsScanOf-rows_runs s area.left area.top area.right area.bottom))
    (λ l. rw (none, empty l) (IsScanOf-same _ (λ p. (between area.left p.h area.right && between area.bottom p.v area.bottom) && s p) (λ p. rect_holds area p && s p) (λ p. apart p l) (IsScanOf-rows_runs s area.left area.bottom area.right area.bottom)))
  where
    apart : (p : Point) → area.right ≤ℤ area.left → (rect_holds area p && s p) ≡ ((between area.left p.h area.right && between area.bottom p.v area.bottom) && s p)
    apart p l =
        let out : between area.left p.h area.right ≡ false = grind (arith, ints) in
        (λ i. (out i && between area.top p.v area.bottom) && s p) ∙ sym (λ i. (out i && between area.bottom p.v area.bottom) && s p)

-- a walk between sides that do not lie crosswise
pub seen-scan : (s : PixelSet) (area : Rect) (first : List Span) (next left right bottom : ℤ) → first ≡ [] → left ≡ int_min area.left area.right → right ≡ area.right → bottom ≡ area.bottom
    → (area.left <ℤ area.right → next ≡ area.top) → (area.right ≤ℤ area.left → next ≡ area.bottom)
    → IsScanOf (first ++ rows_runs s next left right (count_to next bottom)) (λ p. rect_holds area p && s p)
seen-scan s area first next left right bottom none el er eb some empty =
    let scan = walk-scan s sides first next none (λ l. some (omega (arith, ints, clamps))) (λ l. empty (omega (arith, ints, clamps))) in
    subst (λ spans. IsScanOf spans (λ p. rect_holds area p && s p)) (λ i. first ++ rows_runs s next (sym el i) (sym er i) (count_to next (sym eb i)))
    (IsScanOf-same _ (λ p. rect_holds sides p && s p) (λ p. rect_holds area p && s p) (λ p. ap (λ b. (b && between area.top p.v area.bottom) && s p) (alike p)) scan)
  where
    sides : Rect
    sides = record { left = int_min area.left area.right; top = area.top; right = area.right; bottom = area.bottom }

    alike : (p : Point) → between area.left p.h area.right ≡ between (int_min area.left area.right) p.h area.right
    alike p = by_lt_z area.left area.right
        (λ l. let e : int_min area.left area.right ≡ area.left = omega (arith, ints, clamps) in ap (λ x. between x p.h area.right) (sym e))
        (λ l.
        let e : int_min area.left area.right ≡ area.right = omega (arith, ints, clamps) in
        let a : between area.left p.h area.right ≡ false = grind (arith, ints) in
        let b : between area.right p.h area.right ≡ false = grind (arith, ints) in
        a ∙ sym b ∙ ap (λ x. between x p.h area.right) (sym e))
