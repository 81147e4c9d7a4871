-- The runs of a row that are kept for the rows below it.
use Rattle.std.proofs.Common.{◌≡◌, ℕ, zero, suc, ◌+◌, ◌<◌, ◌≤◌, Bool, true, false, cond, List, [], ◌∷◌, ◌++◌, Option, Some, None, length, get_or, map, drop, ℤ, pos, ◌+ℤ◌, ◌<ℤ◌, ◌≤ℤ◌, refl, sym, ap, ◌∙◌, subst, arith}
use Rattle.std.proofs.lemmas.Int.{ints}
use Rattle.std.specs.Option.{IfSome, IfNone}
use Rattle.tb_geom.specs.Points.{PixelSet}
use Rattle.scan_region.specs.Descents.{AreKept, IsDescent, span_of, spans_of, spans_left}
use Rattle.scan_region.specs.Parts.{HasSides, IsWalk, runs_left}
use Rattle.region_rows.specs.Counts.{count_to}
use Rattle.scan_region.specs.Walks.{runs_on, row_runs, rows_runs}
use Rattle.scan_region.specs.declared.descent.Descent.{Descent}
use Rattle.scan_region.specs.declared.descent.Run.{Run}
use Rattle.scan_region.specs.declared.spans.Span.{Span}
use Rattle.scan_region.specs.declared.walk.Walk.{Walk}
use Rattle.scan_region.proofs.WalkRuns.{rows-more, rows-end, rows-past}

-- a span in another row
abbrev in_row : ℤ → Span → Span
in_row w s = record { v = w; left = s.left; right = s.right }

mapped : (w : ℤ) (t : Bool) (a b : List Span) → map (in_row w) (cond t a b) ≡ cond t (map (in_row w) a) (map (in_row w) b)
mapped w true a b = refl
mapped w false a b = refl

-- a row of the same columns has the same runs
row_moved : (f g : ℤ → Bool) (v w : ℤ) (o : Option ℤ) (h : ℤ) (n : ℕ) → ((x : ℤ) → g x ≡ f x) → runs_on g w o h n ≡ map (in_row w) (runs_on f v o h n)
unfolding runs_on
row_moved f g v w None h zero e = refl
row_moved f g v w (Some from) h zero e = refl
row_moved f g v w None h (suc n) e =
    (λ i. cond (e h i) (row_moved f g v w (Some h) (h +ℤ pos 1) n e i) (row_moved f g v w None (h +ℤ pos 1) n e i))
    ∙ sym (mapped w (f h) (runs_on f v (Some h) (h +ℤ pos 1) n) (runs_on f v None (h +ℤ pos 1) n))
row_moved f g v w (Some from) h (suc n) e =
    (λ i. cond (e h i) (row_moved f g v w (Some from) (h +ℤ pos 1) n e i) (record { v = w; left = from; right = h } ∷ row_moved f g v w None (h +ℤ pos 1) n e i))
    ∙ sym (mapped w (f h) (runs_on f v (Some from) (h +ℤ pos 1) n) (record { v = v; left = from; right = h } ∷ runs_on f v None (h +ℤ pos 1) n))

spans_moved : (v w : ℤ) (runs : List Run) → map (in_row w) (spans_of v runs) ≡ spans_of w runs
spans_moved v w [] = refl
spans_moved v w (run ∷ runs) = ap (λ rest. span_of w run ∷ rest) (spans_moved v w runs)

append-nil : (xs ys : List Span) → ys ≡ [] → xs ++ ys ≡ xs
append-nil [] ys e = e
append-nil (x ∷ xs) ys e = ap (λ rest. x ∷ rest) (append-nil xs ys e)

-- where no run of a row is left, rows of the same pixels have just those that are kept
pub are_kept : (s : PixelSet) (v left right until : ℤ) (runs : List Run) (left_over : List Span) → row_runs s v left right ≡ spans_of v runs ++ left_over → left_over ≡ []
    → ((h w : ℤ) → v ≤ℤ w → w <ℤ until → s (record { h = h; v = w }) ≡ s (record { h = h; v = v })) → AreKept s left right runs v until
are_kept s v left right until runs left_over e none same w a b =
    row_moved (λ h. s (record { h = h; v = v })) (λ h. s (record { h = h; v = w })) v w None left (count_to left right) (λ x. same x w a b)
    ∙ ap (map (in_row w)) (e ∙ append-nil (spans_of v runs) left_over none) ∙ spans_moved v w runs

-- one more run is kept
pub kept_more : (v : ℤ) (runs : List Run) (run : Run) (span : Span) (all left after : List Span) → all ≡ spans_of v runs ++ left → left ≡ span ∷ after → span.v ≡ v → run.left ≡ span.left → run.right ≡ span.right → all ≡ spans_of v (runs ++ run ∷ []) ++ after
kept_more v runs run span all left after e f row l r = e ∙ ap (λ rest. spans_of v runs ++ rest) f ∙ joined runs
  where
    same : span ≡ span_of v run
    same = λ i. record { v = row i; left = sym l i; right = sym r i }

    joined : (xs : List Run) → spans_of v xs ++ (span ∷ after) ≡ spans_of v (xs ++ run ∷ []) ++ after
    joined [] = ap (λ s. s ∷ after) same
    joined (x ∷ xs) = ap (λ rest. span_of v x ∷ rest) (joined xs)

-- the first rows of those that are left
pub first_kept : (s : PixelSet) (left right next until bottom : ℤ) (runs : List Run) (here : List Span) → next <ℤ bottom → next <ℤ until → AreKept s left right runs next until → here ≡ []
    → spans_of next runs ++ (here ++ rows_runs s (next +ℤ pos 1) left right (count_to (next +ℤ pos 1) bottom)) ≡ rows_runs s next left right (count_to next bottom)
first_kept s left right next until bottom runs here low same kept none =
    (λ i. sym (kept next (omega (arith, ints)) same) i ++ (none i ++ rows_runs s (next +ℤ pos 1) left right (count_to (next +ℤ pos 1) bottom)))
    ∙ sym (rows-more s next left right bottom low)

append-append : (xs ys zs : List Span) → xs ++ (ys ++ zs) ≡ (xs ++ ys) ++ zs
append-append [] ys zs = refl
append-append (x ∷ xs) ys zs = ap (λ rest. x ∷ rest) (append-append xs ys zs)

pub first_read : (s : PixelSet) (left right next bottom : ℤ) (runs : List Run) (here : List Span) → next <ℤ bottom → row_runs s next left right ≡ spans_of next runs ++ here
    → spans_of next runs ++ (here ++ rows_runs s (next +ℤ pos 1) left right (count_to (next +ℤ pos 1) bottom)) ≡ rows_runs s next left right (count_to next bottom)
first_read s left right next bottom runs here low e =
    append-append (spans_of next runs) here (rows_runs s (next +ℤ pos 1) left right (count_to (next +ℤ pos 1) bottom))
    ∙ ap (λ row. row ++ rows_runs s (next +ℤ pos 1) left right (count_to (next +ℤ pos 1) bottom)) (sym e)
    ∙ sym (rows-more s next left right bottom low)

-- ---- how many were told

pub one_told : (v : ℤ) (runs : List Run) (n : ℕ) (run : Run) (d : Run) → n < length runs → run ≡ get_or runs n d → spans_of v (drop n runs) ≡ span_of v run ∷ spans_of v (drop (n + 1) runs)
one_told v [] n run d l e = absurd (omega arith)
one_told v (x ∷ runs) zero run d l e = ap (λ r. span_of v r ∷ spans_of v runs) (sym e)
one_told v (x ∷ runs) (suc n) run d l e =
    let more : suc (n + 1) ≡ suc n + 1 = omega arith in
    one_told v runs n run d (omega arith) e ∙ ap (λ k. span_of v run ∷ spans_of v (drop k (x ∷ runs))) more

pub all_told : (v : ℤ) (runs : List Run) (n : ℕ) → length runs ≤ n → spans_of v (drop n runs) ≡ []
all_told v [] zero l = refl
all_told v [] (suc n) l = refl
all_told v (x ∷ runs) zero l = absurd (omega arith)
all_told v (x ∷ runs) (suc n) l = all_told v runs n (omega arith)

-- ---- a row that is read anew

-- rows are the same as the row at hand
pub until_same : (n : Walk) (s : PixelSet) (v until : ℤ) → n.v ≡ v → ((h w : ℤ) → n.v ≤ℤ w → w <ℤ until → s (record { h = h; v = w }) ≡ s (record { h = h; v = n.v })) → (h w : ℤ) → v ≤ℤ w → w <ℤ until → s (record { h = h; v = w }) ≡ s (record { h = h; v = v })
until_same n s v until e f h w a b = f h w (subst (λ z. z ≤ℤ w) (sym e) a) b ∙ ap (λ z. s (record { h = h; v = z })) e

-- after the walk `low` stood before the first run of the next row, and its first runs were kept
module _ (s : PixelSet) (d : Descent) (low n : Walk) (kept : List Run) (until : ℤ) (at_row : low.v ≡ d.next) (at_left : low.at ≡ d.left) (sides : HasSides low d.left d.walk.right) (after : HasSides n d.left low.right)
    (runs : runs_left low s ≡ spans_of low.v kept ++ runs_left n s) (same : AreKept s low.at low.right kept low.v until) (below : d.next <ℤ d.bottom) where
  pub read_sides : HasSides n d.left n.right
  read_sides = subst (HasSides n d.left) (sym after.end) after

  pub read_same : AreKept s d.left n.right kept (d.next +ℤ pos 1) until
  read_same w a b = (λ i. row_runs s w (sym at_left i) (after.end i)) ∙ same w (omega (arith, ints)) b

  pub read_spans : spans_of d.next kept ++ (runs_left n s ++ rows_runs s (d.next +ℤ pos 1) d.left n.right (count_to (d.next +ℤ pos 1) d.bottom)) ≡ rows_runs s d.next d.left d.walk.right (count_to d.next d.bottom)
  read_spans =
      (λ i. spans_of d.next kept ++ (runs_left n s ++ rows_runs s (d.next +ℤ pos 1) d.left ((after.end ∙ sides.end) i) (count_to (d.next +ℤ pos 1) d.bottom)))
      ∙ first_read s d.left d.walk.right d.next d.bottom kept (runs_left n s) below (sym (λ i. row_runs s (at_row i) (at_left i) (sides.end i)) ∙ runs ∙ ap (λ v. spans_of v kept ++ runs_left n s) at_row)

-- ---- a run is told

pub descent_told : (d : Descent) (s : PixelSet) (n : ℕ) → IsDescent d s → IsDescent (record d { told = n }) s
descent_told d s n r = record { walk = r.walk; sides = r.sides; order = r.order; column = r.column; same = r.same; whole = r.whole }

pub descent_walked : (d : Descent) (s : PixelSet) (n : Walk) → IsWalk n s → HasSides n d.left d.walk.right → n.v ≡ d.walk.v → (d.v <ℤ d.until → runs_left n s ≡ []) → IsDescent d s → IsDescent (record d { walk = n }) s
descent_walked d s n w sides v whole r = record {
  walk = w;
  sides = subst (HasSides n d.left) (sym sides.end) sides;
  order = subst (λ z. z ≤ℤ d.next) (sym v) r.order;
  column = r.column;
  same = subst (λ z. AreKept s d.left z d.kept.items d.next d.until) (sym sides.end) r.same;
  whole = whole;
}

pub spans_told : (d : Descent) (s : PixelSet) (run d0 : Run) → d.told < length d.kept.items → run ≡ get_or d.kept.items d.told d0 → spans_left d s ≡ span_of d.v run ∷ spans_left (record d { told = d.told + 1 }) s
spans_told d s run d0 l e = ap (λ first. first ++ (runs_left d.walk s ++ rows_runs s d.next d.left d.walk.right (count_to d.next d.bottom))) (one_told d.v d.kept.items d.told run d0 l e)

pub spans_walked : (d : Descent) (s : PixelSet) (n : Walk) (here : List Span) → length d.kept.items ≤ d.told → runs_left d.walk s ≡ here ++ runs_left n s → n.right ≡ d.walk.right → spans_left d s ≡ here ++ spans_left (record d { walk = n }) s
spans_walked d s n here l e end =
    ap (λ first. first ++ (runs_left d.walk s ++ rows_runs s d.next d.left d.walk.right (count_to d.next d.bottom))) (all_told d.v d.kept.items d.told l)
    ∙ (λ i. e i ++ rows_runs s d.next d.left (sym end i) (count_to d.next d.bottom))
    ∙ sym (append-append here (runs_left n s) (rows_runs s d.next d.left n.right (count_to d.next d.bottom)))
    ∙ ap (λ first. here ++ (first ++ (runs_left n s ++ rows_runs s d.next d.left n.right (count_to d.next d.bottom)))) (sym (all_told d.v d.kept.items d.told l))

pub spans_ended : (d : Descent) (s : PixelSet) → length d.kept.items ≤ d.told → runs_left d.walk s ≡ [] → d.bottom ≤ℤ d.next → spans_left d s ≡ []
spans_ended d s l e low = λ i. all_told d.v d.kept.items d.told l i ++ (e i ++ rows-end s d.next d.left d.walk.right d.bottom low i)

pub spans_below : (d : Descent) (s : PixelSet) → length d.kept.items ≤ d.told → runs_left d.walk s ≡ [] → spans_left d s ≡ rows_runs s d.next d.left d.walk.right (count_to d.next d.bottom)
spans_below d s l e = λ i. all_told d.v d.kept.items d.told l i ++ (e i ++ rows_runs s d.next d.left d.walk.right (count_to d.next d.bottom))

-- ---- rows without runs

pub descent_past : (d : Descent) (s : PixelSet) (w : ℤ) → d.next ≤ℤ w → IsDescent d s → IsDescent (record d { next = w }) s
descent_past d s w l r =
    let order = r.order in
    record { walk = r.walk; sides = r.sides; order = omega (arith, ints); column = r.column; same = λ u a b. r.same u (omega (arith, ints)) b; whole = r.whole }

pub spans_past : (d : Descent) (s : PixelSet) (w : ℤ) → d.kept.items ≡ [] → d.next ≤ℤ w → w ≤ℤ d.until → w ≤ℤ d.bottom → IsDescent d s → spans_left (record d { next = w }) s ≡ spans_left d s
spans_past d s w none l m n r =
    let empty : (u : ℤ) → d.next ≤ℤ u → u <ℤ w → row_runs s u d.left d.walk.right ≡ [] = λ u a b. r.same u a (omega (arith, ints)) ∙ ap (spans_of u) none in
    ap (λ rest. spans_of d.v (drop d.told d.kept.items) ++ (runs_left d.walk s ++ rest)) (sym (rows-past s d.next w d.left d.walk.right d.bottom l n empty))

-- ---- what is told of an answer

pub some_weaker : (o : Option Span) (P Q : Span → Type 0) → ((x : Span) → P x → Q x) → IfSome o P → IfSome o Q
some_weaker None P Q f i = i
some_weaker (Some x) P Q f i = f x i

pub none_both : (o : Option Span) (A B C : Type 0) → (A → B → C) → IfNone o A → IfNone o B → IfNone o C
none_both None A B C f a b = f a b
none_both (Some x) A B C f a b = a
