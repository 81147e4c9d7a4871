-- The box of points lies in a range exactly where the points do.
use Rattle.std.proofs.Common.{◌<◌, List, [], ◌∷◌, ◌++◌, length, ℤ, ◌≤ℤ◌, arith, All}
use Rattle.std.specs.Prelude.{Option, Some, None}
use Rattle.std.specs.List.{fold}
use Rattle.std.proofs.lemmas.Int.{ints, clamps}
use Rattle.std.proofs.lemmas.List.Elements.{All-head, All-tail, All-nil, All-cons, All-append, All-map, All-weaker}
use Rattle.tb_geom.specs.declared.point.Point.{Point}
use Rattle.tb_geom.specs.declared.rect.Rect.{Rect}
use Rattle.region_bytes.specs.Points.{PointRow, row_points, points_of, IsPointRow}
use Rattle.region_bytes.specs.Words.{grown}

-- the number lies from the one to the other
abbrev pub IsIn : ℤ → ℤ → ℤ → Type 0
IsIn low high z = (low ≤ℤ z) × (z ≤ℤ high)

-- the rectangle of all points from the one to the other
abbrev pub square : ℤ → ℤ → Rect
square low high = record { left = low; top = low; right = high; bottom = high }

-- the point lies in the rectangle, its last row and column too
abbrev pub IsPointIn : Rect → Point → Type 0
IsPointIn w p = IsIn w.left w.right p.h × IsIn w.top w.bottom p.v

abbrev pub IsRowIn : Rect → PointRow → Type 0
IsRowIn w row = IsIn w.top w.bottom row.0 × All (IsIn w.left w.right) row.1

pub record IsRectIn (w r : Rect) : Type 0 where
  pub left_in : IsIn w.left w.right r.left
  pub top_in : IsIn w.top w.bottom r.top
  pub right_in : IsIn w.left w.right r.right
  pub bottom_in : IsIn w.top w.bottom r.bottom

abbrev pub IsBoxIn : Rect → Option Rect → Type 0
IsBoxIn w None = Unit {0}
IsBoxIn w (Some r) = IsRectIn w r

-- ---- from the points to the box

grown_in : (w : Rect) (b : Option Rect) (p : Point) → IsBoxIn w b → IsPointIn w p → IsBoxIn w (grown b p)
grown_in w None p i r = record { left_in = r.0; top_in = r.1; right_in = r.0; bottom_in = r.1 }
grown_in w (Some s) p i r =
    let t0 = i.top_in.0 in let t1 = i.top_in.1 in let l0 = i.left_in.0 in let l1 = i.left_in.1 in
    let b0 = i.bottom_in.0 in let b1 = i.bottom_in.1 in let r0 = i.right_in.0 in let r1 = i.right_in.1 in
    let h0 = r.0.0 in let h1 = r.0.1 in let v0 = r.1.0 in let v1 = r.1.1 in
    record {
      left_in = (omega (arith, ints, clamps), omega (arith, ints, clamps));
      top_in = (omega (arith, ints, clamps), omega (arith, ints, clamps));
      right_in = (omega (arith, ints, clamps), omega (arith, ints, clamps));
      bottom_in = (omega (arith, ints, clamps), omega (arith, ints, clamps));
    }

pub box_in : (w : Rect) (b : Option Rect) (ps : List Point) → IsBoxIn w b → All (IsPointIn w) ps → IsBoxIn w (fold grown b ps)
box_in w b [] i a = i
box_in w b (p ∷ ps) i a = box_in w (grown b p) ps (grown_in w b p i (All-head (IsPointIn w) p ps a)) (All-tail (IsPointIn w) p ps a)

pub points_in_range : (w : Rect) (rows : List PointRow) → All (IsRowIn w) rows → All (IsPointIn w) (points_of rows)
unfolding points_of
points_in_range w [] a = All-nil (IsPointIn w)
points_in_range w (row ∷ rows) a =
    let one = All-head (IsRowIn w) row rows a in
    All-append (IsPointIn w) (row_points row) (points_of rows)
    (All-map (IsPointIn w) (λ (x : ℤ). record { h = x; v = row.0 }) row.1 (All-weaker (IsIn w.left w.right) (λ (x : ℤ). IsPointIn w (record { h = x; v = row.0 })) (λ x f. (f, one.0)) row.1 one.1))
    (points_in_range w rows (All-tail (IsRowIn w) row rows a))

-- ---- and back

-- its outer sides are
abbrev pub IsBoxKept : Rect → Option Rect → Type 0
IsBoxKept w None = Unit {0}
IsBoxKept w (Some r) = (w.top ≤ℤ r.top) × (w.left ≤ℤ r.left) × (r.bottom ≤ℤ w.bottom) × (r.right ≤ℤ w.right)

kept_from : (w : Rect) (b : Option Rect) (p : Point) → IsBoxKept w (grown b p) → IsBoxKept w b × IsPointIn w p
kept_from w None p k = (tt, ((k.1, k.3), (k.0, k.2)))
kept_from w (Some s) p k =
    let t = k.0 in let l = k.1 in let b = k.2 in let r = k.3 in (
      (omega (arith, ints, clamps), omega (arith, ints, clamps), omega (arith, ints, clamps), omega (arith, ints, clamps)),
      ((omega (arith, ints, clamps), omega (arith, ints, clamps)), (omega (arith, ints, clamps), omega (arith, ints, clamps))),
    )

pub points_in_box : (w : Rect) (b : Option Rect) (ps : List Point) → IsBoxKept w (fold grown b ps) → IsBoxKept w b × All (IsPointIn w) ps
points_in_box w b [] k = (k, All-nil (IsPointIn w))
points_in_box w b (p ∷ ps) k =
    let rest = points_in_box w (grown b p) ps k in
    let one = kept_from w b p rest.0 in
    (one.0, All-cons (IsPointIn w) p ps one.1 rest.1)

head_points : (w : Rect) (xs : List Point) (ys : List Point) → All (IsPointIn w) (xs ++ ys) → All (IsPointIn w) xs × All (IsPointIn w) ys
head_points w [] ys a = (All-nil (IsPointIn w), a)
head_points w (x ∷ xs) ys a =
    let rest = head_points w xs ys (All-tail (IsPointIn w) x (xs ++ ys) a) in
    (All-cons (IsPointIn w) x xs (All-head (IsPointIn w) x (xs ++ ys) a) rest.0, rest.1)

columns_in_range : (w : Rect) (v : ℤ) (xs : List ℤ) → All (IsPointIn w) (row_points (v, xs)) → All (IsIn w.left w.right) xs
columns_in_range w v [] a = All-nil (IsIn w.left w.right)
columns_in_range w v (x ∷ xs) a =
    All-cons (IsIn w.left w.right) x xs (All-head (IsPointIn w) (record { h = x; v = v }) (row_points (v, xs)) a).0
    (columns_in_range w v xs (All-tail (IsPointIn w) (record { h = x; v = v }) (row_points (v, xs)) a))

top_in_range : (w : Rect) (v : ℤ) (xs : List ℤ) → 0 < length xs → All (IsPointIn w) (row_points (v, xs)) → IsIn w.top w.bottom v
top_in_range w v [] l a = absurd (omega arith)
top_in_range w v (x ∷ xs) l a = (All-head (IsPointIn w) (record { h = x; v = v }) (row_points (v, xs)) a).1

pub rows_in_range : (w : Rect) (rows : List PointRow) → All IsPointRow rows → All (IsPointIn w) (points_of rows) → All (IsRowIn w) rows
unfolding points_of
rows_in_range w [] g a = All-nil (IsRowIn w)
rows_in_range w (row ∷ rows) g a =
    let both = head_points w (row_points row) (points_of rows) a in
    All-cons (IsRowIn w) row rows
    (top_in_range w row.0 row.1 (All-head IsPointRow row rows g).some both.0, columns_in_range w row.0 row.1 both.0)
    (rows_in_range w rows (All-tail IsPointRow row rows g) both.1)
