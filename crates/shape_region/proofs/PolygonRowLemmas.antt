-- Polygons and their frames row by row: where edges turn a row, the lines that are put in, and the rectangles around both.
use Rattle.std.proofs.Common.{◌≡◌, ◌&&◌, ◌||◌, Bool, true, false, inl, inr, ◌-◌, ◌≤◌, length, take, drop, slice_index_or, List, [], ◌∷◌, ℤ, pos, negsuc, ◌-ℤ◌, ◌*ℤ◌, ◌≤ℤ◌, ◌<ℤ◌, refl, sym, ap, ◌∙◌, arith}
use Rattle.std.specs.Prelude.{int_le, int_lt}
use Rattle.std.specs.List.{list_all}
use Rattle.std.specs.Ordering.{int_eq}
use Rattle.std.proofs.lemmas.Bool.{and_parts, or_cases, false≢true}
use Rattle.std.proofs.lemmas.Int.{ints, by_lt_z, clamps}
use Rattle.std.proofs.lemmas.List.{take_rest}
use Rattle.tb_geom.specs.declared.point.Point.{Point}
use Rattle.tb_geom.specs.declared.rect.Rect.{Rect}
use Rattle.tb_geom.specs.Points.{PixelSet}
use Rattle.tb_geom.specs.Rects.{between, in_plane, is_coordinate, is_in_range, rect_around, rect_holds, IsBoxOf, is_empty_rect, empty_rect}
use Rattle.tb_geom.proofs.RectLemmas.{between-in, holds_in, or_left, or_right}
use Rattle.region_bytes.proofs.Tests.{int_eq-same, int_eq-apart}
use Rattle.region_rows.specs.Edges.{differ, IsCoordinate}
use Rattle.shape_strips.specs.declared.pen.Pen.{Pen}
use Rattle.shape_strips.specs.declared.run.Run.{Run}
use Rattle.shape_strips.specs.Bands.{band_holds, edge_turns, passes}
use Rattle.shape_strips.specs.Lines.{line_holds}
use Rattle.shape_strips.specs.Runs.{run_holds}
use Rattle.shape_strips.proofs.BandLemmas.{passes_above, passes_column, passes_left, passes_row}
use Rattle.shape_strips.proofs.Products.{times_le}
use Rattle.shape_strips.proofs.RangeLemmas.{coordinate_high, coordinate_low, in_range_from, sides_in}
use Rattle.shape_strips.proofs.RunLemmas.{between_before, between_past}
use Rattle.pixel_rows.specs.declared.columns.Columns.{Columns}
use Rattle.pixel_rows.specs.declared.combination.Combination.TheVariants.{Union}
use Rattle.pixel_rows.specs.Columns.{has_column, is_edge}
use Rattle.shape_region.specs.Polygons.{odd_edges, polygon_holds, single_point, some_line}
use Rattle.pixel_rows.specs.Bounds.{AreBounds}
use Rattle.pixel_rows.proofs.BoxLemmas.{both_bounds}
use Rattle.pixel_rows.proofs.ColumnLemmas.{over}
use Rattle.shape_region.proofs.PolygonLemmas.{edge_past, edges_by, AreAll}

-- ---- where an edge turns a row

le_yes : (a b : ℤ) → a ≤ℤ b → int_le a b ≡ true
le_yes a b l = grind (arith, ints)

from_le : (a b : ℤ) → int_le a b ≡ true → a ≤ℤ b
from_le a b e = grind (arith, ints)

lt_yes : (a b : ℤ) → a <ℤ b → int_lt a b ≡ true
lt_yes a b l = grind (arith, ints)

-- right of a pixel that an edge passes it passes all
passes_on : (a b : Point) (h x v : ℤ) → h ≤ℤ x → passes a b (record { h = h; v = v }) ≡ true → passes a b (record { h = x; v = v }) ≡ true
passes_on a b h x v l e =
    let row = passes_row a b (record { h = h; v = v }) e in
    let top : a.v ≤ℤ v = row.0 in
    let bottom : v <ℤ b.v = row.1 in
    let here = from_le _ _ (passes_column a b h v top bottom ∙ e) in
    let more = times_le (pos 2 *ℤ (b.v -ℤ a.v)) (h -ℤ a.h) (x -ℤ a.h) (omega (arith, ints)) (omega (arith, ints)) in
    sym (passes_column a b x v top bottom) ∙ le_yes _ _ (through _ _ _ here more)
  where
    through : (k m n : ℤ) → k ≤ℤ m → m ≤ℤ n → k ≤ℤ n
    through k m n p q = omega (arith, ints)

turns_on : (a b : Point) (h x v : ℤ) → h ≤ℤ x → edge_turns a b (record { h = h; v = v }) ≡ true → edge_turns a b (record { h = x; v = v }) ≡ true
turns_on a b h x v l e = elim (or_cases (passes a b (record { h = h; v = v })) (passes b a (record { h = h; v = v })) e) [
  | inl f ↦ or_left _ _ (passes_on a b h x v l f)
  | inr f ↦ or_right _ _ (passes_on b a h x v l f)
]

-- the run of a row of the band of an edge, up to the last column
module _ (a b : Point) (run : Run) (v : ℤ) (told : (h : ℤ) → run_holds run h ≡ band_holds a b (pos 16383) (record { h = h; v = v })) where
  turned_before : (h : ℤ) → h <ℤ pos 16383 → edge_turns a b (record { h = h; v = v }) ≡ between run.left h run.right
  turned_before h l = sym (told h ∙ all (edge_turns a b (record { h = h; v = v })) (int_lt h (pos 16383)) (lt_yes h (pos 16383) l))
    where
      all : (x y : Bool) → y ≡ true → (x && y) ≡ x
      all true y e = e
      all false y e = refl

  reaches_last : run.left <ℤ run.right → pos 16383 ≤ℤ run.right
  reaches_last some = by_lt_z run.right (pos 16383) (λ l. absurd (short l)) (λ m. m)
    where
      short : run.right <ℤ pos 16383 → ⊥
      short l =
          let last : ℤ = run.right -ℤ pos 1 in
          let turned = turned_before last (omega (arith, ints)) ∙ between-in run.left last run.right (omega (arith, ints)) (omega (arith, ints)) in
          false≢true (sym (turned_before run.right l ∙ between_past run.left run.right run.right (omega (arith, ints))) ∙ turns_on a b last run.right v (omega (arith, ints)) turned)

  -- right of its first column the edge turns each pixel
  pub turned_from : run.left <ℤ run.right → (h : ℤ) → h <ℤ pos 16383 → edge_turns a b (record { h = h; v = v }) ≡ int_le run.left h
  turned_from some h l = turned_before h l ∙ up_to run.left h run.right (omega (arith, ints, reaches_last some))
    where
      up_to : (left h right : ℤ) → h <ℤ right → between left h right ≡ int_le left h
      up_to left h right l = grind (arith, ints)

  pub turned_none : run.right ≤ℤ run.left → (h : ℤ) → h <ℤ pos 16383 → edge_turns a b (record { h = h; v = v }) ≡ false
  turned_none none h l = turned_before h l ∙ no_column h
    where
      no_column : (x : ℤ) → between run.left x run.right ≡ false
      no_column x = grind (arith, ints)

  -- the first column is one of a pixel, and no further left than the edge
  pub first_high : run.left <ℤ run.right → run.left ≤ℤ pos 16382
  first_high some = by_lt_z run.left (pos 16383) (λ l. omega (arith, ints)) (λ m. absurd (false≢true (sym (past m) ∙ here)))
    where
      here : band_holds a b (pos 16383) (record { h = run.left; v = v }) ≡ true
      here = sym (told run.left) ∙ between-in run.left run.left run.right (omega (arith, ints)) some

      past : pos 16383 ≤ℤ run.left → band_holds a b (pos 16383) (record { h = run.left; v = v }) ≡ false
      past m = none (edge_turns a b (record { h = run.left; v = v })) (int_lt run.left (pos 16383)) (not_less run.left m)
        where
          not_less : (h : ℤ) → pos 16383 ≤ℤ h → int_lt h (pos 16383) ≡ false
          not_less h m = grind (arith, ints)

          none : (x y : Bool) → y ≡ false → (x && y) ≡ false
          none true y e = e
          none false y e = refl

  pub first_low : in_plane a ≡ true → in_plane b ≡ true → run.left <ℤ run.right → negsuc 16384 <ℤ run.left
  first_low e f some = by_lt_z run.left (negsuc 16383) (λ l. absurd (false≢true (sym (nothing l) ∙ here))) (λ m. omega (arith, ints))
    where
      q : Point
      q = record { h = run.left; v = v }

      a_low : negsuc 16383 ≤ℤ a.h
      a_low = coordinate_low a.h (and_parts (is_coordinate a.h) (is_coordinate a.v) e).0

      b_low : negsuc 16383 ≤ℤ b.h
      b_low = coordinate_low b.h (and_parts (is_coordinate b.h) (is_coordinate b.v) f).0

      nothing : run.left <ℤ negsuc 16383 → edge_turns a b q ≡ false
      nothing l =
          let one : run.left <ℤ a.h = omega (arith, ints, a_low) in
          let two : run.left <ℤ b.h = omega (arith, ints, b_low) in
          λ i. passes_left a b q one two i || passes_left b a q two one i

      here : edge_turns a b q ≡ true
      here = (and_parts (edge_turns a b q) (int_lt run.left (pos 16383)) (sym (told run.left) ∙ between-in run.left run.left run.right (omega (arith, ints)) some)).0

  pub turn_here : run.left <ℤ run.right → (h : ℤ) → h <ℤ pos 16383 → int_eq run.left h ≡ is_edge (edge_turns a b) h v
  turn_here some h l = sym ((λ i. differ (turned_before h l i) (turned_before (h -ℤ pos 1) (omega (arith, ints)) i)) ∙ first run.left run.right h (omega (arith, ints, reaches_last some)))
    where
      first : (left right h : ℤ) → h <ℤ right → differ (between left h right) (between left (h -ℤ pos 1) right) ≡ int_eq left h
      first left right h l = by_lt_z h left
          (λ m. (λ i. differ (between_before left h right m i) (between_before left (h -ℤ pos 1) right (omega (arith, ints)) i)) ∙ sym (int_eq-apart left h (λ e. omega (arith, ints))))
          (λ m. by_lt_z left h
          (λ n. (λ i. differ (between-in left h right m l i) (between-in left (h -ℤ pos 1) right (omega (arith, ints)) (omega (arith, ints)) i)) ∙ sym (int_eq-apart left h (λ e. omega (arith, ints))))
          (λ n. let e : left ≡ h = omega (arith, ints) in
          (λ i. differ (between-in left h right m l i) (between_before left (h -ℤ pos 1) right (omega (arith, ints)) i)) ∙ sym (ap (λ z. int_eq z h) e ∙ int_eq-same h)))

  pub turn_nowhere : run.right ≤ℤ run.left → (h : ℤ) → h <ℤ pos 16383 → is_edge (edge_turns a b) h v ≡ false
  turn_nowhere none h l = λ i. differ ((turned_before h l ∙ no_column h) i) ((turned_before (h -ℤ pos 1) (omega (arith, ints)) ∙ no_column (h -ℤ pos 1)) i)
    where
      no_column : (x : ℤ) → between run.left x run.right ≡ false
      no_column x = grind (arith, ints)

-- ---- the edges of a way

paired : (a b i j : Bool) → differ (differ a i) (differ b j) ≡ differ (differ a b) (differ i j)
paired true true true j = refl
paired true true false true = refl
paired true true false false = refl
paired true false true true = refl
paired true false true false = refl
paired true false false j = refl
paired false true true true = refl
paired false true true false = refl
paired false true false j = refl
paired false false i j = refl

-- the edges that are left, with the columns so far, turn what all turn with those at first
pub record AreFlipped (old : Columns) (from : Point) (xs : List Point) (to : Point) (v : ℤ) (last : Point) (rest : List Point) (columns : Columns) : Type 0 where
  pub each : (h : ℤ) → IsCoordinate h → h <ℤ pos 16383
      → differ (is_edge (odd_edges last rest to) h v) (has_column columns h) ≡ differ (is_edge (odd_edges from xs to) h v) (has_column old h)

pub none_flipped : (columns : Columns) (from : Point) (xs : List Point) (to : Point) (v : ℤ) → AreFlipped columns from xs to v from xs columns
none_flipped columns from xs to v = record { each = λ h m l. refl }

module _ (first : Columns) (from : Point) (xs : List Point) (to : Point) (v : ℤ) (last : Point) (rest : List Point) (old new : Columns) (so_far : AreFlipped first from xs to v last rest old) where
  pub one_flipped : (x : Point) (after : List Point) → rest ≡ x ∷ after
      → ((h : ℤ) → IsCoordinate h → h <ℤ pos 16383 → has_column new h ≡ differ (is_edge (edge_turns last x) h v) (has_column old h))
      → AreFlipped first from xs to v x after new
  one_flipped x after e flip = record {
    each = λ h m l.
        let p : Point = record { h = h; v = v } in
        let q : Point = record { h = h -ℤ pos 1; v = v } in
        ap (differ (is_edge (odd_edges x after to) h v)) (flip h m l)
        ∙ sym (over (is_edge (edge_turns last x) h v) (is_edge (odd_edges x after to) h v) (has_column old h))
        ∙ sym (ap (λ t. differ t (has_column old h)) (paired (edge_turns last x p) (edge_turns last x q) (odd_edges x after to p) (odd_edges x after to q)))
        ∙ sym (ap (λ ys. differ (is_edge (odd_edges last ys to) h v) (has_column old h)) e)
        ∙ so_far.each h m l;
  }

  pub all_flipped : rest ≡ []
      → ((h : ℤ) → IsCoordinate h → h <ℤ pos 16383 → has_column new h ≡ differ (is_edge (edge_turns last to) h v) (has_column old h))
      → (h : ℤ) → IsCoordinate h → h <ℤ pos 16383 → has_column new h ≡ differ (is_edge (odd_edges from xs to) h v) (has_column first h)
  all_flipped e flip h m l = flip h m l ∙ sym (ap (λ ys. differ (is_edge (odd_edges last ys to) h v) (has_column old h)) e) ∙ so_far.each h m l

-- ---- the rectangle around points

-- the rectangle that reaches to more points
abbrev pub reaching : Rect → List Point → Rect
reaching r [] = r
reaching r (x ∷ xs) = reaching (rect_around r (single_point x)) xs

-- a point within a rectangle, or on its sides
record IsReached (r : Rect) (p : Point) : Type 0 where
  left : r.left ≤ℤ p.h
  right : p.h ≤ℤ r.right
  top : r.top ≤ℤ p.v
  bottom : p.v ≤ℤ r.bottom

still_reached : (r : Rect) (xs : List Point) (p : Point) → IsReached r p → IsReached (reaching r xs) p
still_reached r [] p s = s
still_reached r (x ∷ xs) p s =
    let left = s.left in
    let right = s.right in
    let top = s.top in
    let bottom = s.bottom in
    still_reached (rect_around r (single_point x)) xs p
    (record { left = omega (arith, ints, clamps); right = omega (arith, ints, clamps); top = omega (arith, ints, clamps); bottom = omega (arith, ints, clamps) })

all_reached : (r : Rect) (xs : List Point) → AreAll (IsReached (reaching r xs)) xs
all_reached r [] = tt
all_reached r (x ∷ xs) = (
  still_reached (rect_around r (single_point x)) xs x
      (record { left = omega (arith, ints, clamps); right = omega (arith, ints, clamps); top = omega (arith, ints, clamps); bottom = omega (arith, ints, clamps) }),
  all_reached (rect_around r (single_point x)) xs,
)

reaching_in_range : (r : Rect) (xs : List Point) → is_in_range r ≡ true → list_all in_plane xs ≡ true → is_in_range (reaching r xs) ≡ true
reaching_in_range r [] e f = e
reaching_in_range r (x ∷ xs) e f =
    let both = and_parts (in_plane x) (list_all in_plane xs) f in
    let one = and_parts (is_coordinate x.h) (is_coordinate x.v) both.0 in
    let s = sides_in r e in
    let a = s.left_low in
    let b = s.left_high in
    let c = s.top_low in
    let d = s.top_high in
    let g = s.right_low in
    let h = s.right_high in
    let i = s.bottom_low in
    let j = s.bottom_high in
    let k = coordinate_low x.h one.0 in
    let l = coordinate_high x.h one.0 in
    let m = coordinate_low x.v one.1 in
    let n = coordinate_high x.v one.1 in
    reaching_in_range (rect_around r (single_point x)) xs
    (in_range_from (rect_around r (single_point x)) (record {
      left_low = omega (arith, ints, clamps);
      left_high = omega (arith, ints, clamps);
      top_low = omega (arith, ints, clamps);
      top_high = omega (arith, ints, clamps);
      right_low = omega (arith, ints, clamps);
      right_high = omega (arith, ints, clamps);
      bottom_low = omega (arith, ints, clamps);
      bottom_high = omega (arith, ints, clamps);
    })) both.1

-- ---- beside the points of a polygon

module _ (r : Rect) (q : Point) where
  edge_left : (a b : Point) → IsReached r a → IsReached r b → q.h <ℤ r.left → edge_turns a b q ≡ differ false false
  edge_left a b s t l =
      let m = s.left in
      let n = t.left in
      λ i. passes_left a b q (omega (arith, ints)) (omega (arith, ints)) i || passes_left b a q (omega (arith, ints)) (omega (arith, ints)) i

  edge_above : (a b : Point) → IsReached r a → IsReached r b → q.v <ℤ r.top → edge_turns a b q ≡ differ false false
  edge_above a b s t l =
      let m = s.top in
      let n = t.top in
      λ i. passes_above a b q (inl (omega (arith, ints))) i || passes_above b a q (inl (omega (arith, ints))) i

  edge_below : (a b : Point) → IsReached r a → IsReached r b → r.bottom ≤ℤ q.v → edge_turns a b q ≡ differ false false
  edge_below a b s t l =
      let m = s.bottom in
      let n = t.bottom in
      λ i. passes_above a b q (inr (omega (arith, ints))) i || passes_above b a q (inr (omega (arith, ints))) i

  edge_right : (a b : Point) → IsReached r a → IsReached r b → r.right ≤ℤ q.h → edge_turns a b q ≡ differ (int_le a.v q.v) (int_le b.v q.v)
  edge_right a b s t l =
      let m = s.right in
      let n = t.right in
      edge_past a b q (omega (arith, ints)) (omega (arith, ints))

-- an edge whose ends both lie in a row or above it, or both below, turns no pixel there
pub edge_beside : (a b p : Point) → differ (int_le a.v p.v) (int_le b.v p.v) ≡ false → edge_turns a b p ≡ false
edge_beside a b p e = by_lt_z p.v a.v
    (λ l. by_lt_z p.v b.v
    (λ m. λ i. passes_above a b p (inl l) i || passes_above b a p (inl m) i)
    (λ m. absurd (false≢true (sym e ∙ (λ i. differ (le_no a.v p.v l i) (le_yes b.v p.v m i))))))
    (λ l. by_lt_z p.v b.v
    (λ m. absurd (false≢true (sym e ∙ (λ i. differ (le_yes a.v p.v l i) (le_no b.v p.v m i)))))
    (λ m. λ i. passes_above a b p (inr m) i || passes_above b a p (inr l) i))
  where
    le_no : (x y : ℤ) → y <ℤ x → int_le x y ≡ false
    le_no x y l = grind (arith, ints)

even : (a : Bool) → differ a a ≡ false
even true = refl
even false = refl

none_beside : (r : Rect) (x : Point) (xs : List Point) (q : Point) → IsReached r x → AreAll (IsReached r) xs → rect_holds r q ≡ false → odd_edges x xs x q ≡ false
none_beside r x xs q s t out =
    by_lt_z q.h r.left (λ l. edges_by (IsReached r) (λ _. false) q (λ a b m n. edge_left r q a b m n l) x xs x s t s)
    (λ l. by_lt_z q.v r.top (λ m. edges_by (IsReached r) (λ _. false) q (λ a b n o. edge_above r q a b n o m) x xs x s t s)
    (λ m. by_lt_z q.h r.right
    (λ n. by_lt_z q.v r.bottom (λ o. absurd (false≢true (sym out ∙ holds_in r q l n m o))) (λ o. edges_by (IsReached r) (λ _. false) q (λ a b u w. edge_below r q a b u w o) x xs x s t s))
    (λ n. edges_by (IsReached r) (λ a. int_le a.v q.v) q (λ a b u w. edge_right r q a b u w n) x xs x s t s ∙ even (int_le x.v q.v))))

pub polygon_beside : (x : Point) (xs : List Point) → in_plane x ≡ true → list_all in_plane xs ≡ true → AreBounds (odd_edges x xs x) (reaching (single_point x) xs)
polygon_beside x xs e f =
    let one = and_parts (is_coordinate x.h) (is_coordinate x.v) e in
    record {
      in_range = reaching_in_range (single_point x) xs (λ i. one.0 i && (one.1 i && (one.0 i && one.1 i))) f;
      around = λ q out. none_beside (reaching (single_point x) xs) x xs q
          (still_reached (single_point x) xs x (record { left = omega (arith, ints); right = omega (arith, ints); top = omega (arith, ints); bottom = omega (arith, ints) }))
          (all_reached (single_point x) xs) out;
    }

-- ---- the lines of a frame

-- the lines that are left, with the columns so far, have what all have with those at first
pub record AreLined (old : Columns) (from : Point) (xs : List Point) (to : Point) (pen : Pen) (v : ℤ) (last : Point) (rest : List Point) (columns : Columns) : Type 0 where
  pub each : (h : ℤ) → (some_line last rest to pen (record { h = h; v = v }) || has_column columns h) ≡ (some_line from xs to pen (record { h = h; v = v }) || has_column old h)

pub none_lined : (columns : Columns) (from : Point) (xs : List Point) (to : Point) (pen : Pen) (v : ℤ) → AreLined columns from xs to pen v from xs columns
none_lined columns from xs to pen v = record { each = λ h. refl }

swapped : (a b c : Bool) → (a || (b || c)) ≡ ((b || a) || c)
swapped true true c = refl
swapped true false c = refl
swapped false true c = refl
swapped false false c = refl

module _ (first : Columns) (from : Point) (xs : List Point) (to : Point) (pen : Pen) (v : ℤ) (last : Point) (rest : List Point) (old new : Columns) (so_far : AreLined first from xs to pen v last rest old) where
  pub one_lined : (x : Point) (after : List Point) → rest ≡ x ∷ after → ((h : ℤ) → has_column new h ≡ (line_holds last x pen (record { h = h; v = v }) || has_column old h))
      → AreLined first from xs to pen v x after new
  one_lined x after e put = record {
    each = λ h.
        let p : Point = record { h = h; v = v } in
        ap (λ t. some_line x after to pen p || t) (put h)
        ∙ swapped (some_line x after to pen p) (line_holds last x pen p) (has_column old h)
        ∙ sym (ap (λ ys. some_line last ys to pen p || has_column old h) e)
        ∙ so_far.each h;
  }

  pub all_lined : rest ≡ [] → ((h : ℤ) → has_column new h ≡ (line_holds last to pen (record { h = h; v = v }) || has_column old h))
      → (h : ℤ) → has_column new h ≡ (some_line from xs to pen (record { h = h; v = v }) || has_column first h)
  all_lined e put h = put h ∙ sym (ap (λ ys. some_line last ys to pen (record { h = h; v = v }) || has_column old h) e) ∙ so_far.each h

-- ---- the rectangle around a frame

-- beside the rectangle a set has only the lines that are left
pub record AreBoundsBut (s : PixelSet) (last : Point) (rest : List Point) (to : Point) (pen : Pen) (r : Rect) : Type 0 where
  pub in_range : is_in_range r ≡ true
  pub around : (p : Point) → rect_holds r p ≡ false → s p ≡ some_line last rest to pen p

pub no_lines : (from : Point) (xs : List Point) (to : Point) (pen : Pen) → AreBoundsBut (some_line from xs to pen) from xs to pen empty_rect
no_lines from xs to pen = record { in_range = refl; around = λ p out. refl }

neither : (a b : Bool) → (a || b) ≡ false → (a ≡ false) × (b ≡ false)
neither true b e = absurd (false≢true (sym e))
neither false b e = (refl, e)

module _ (s : PixelSet) (last : Point) (rest : List Point) (to : Point) (pen : Pen) (a b r : Rect) (so_far : AreBoundsBut s last rest to pen a)
    (box : IsBoxOf r (λ p. rect_holds a p || rect_holds b p)) (none : is_empty_rect r ≡ true → r ≡ empty_rect) where
  both : is_in_range b ≡ true → AreBounds (λ p. rect_holds a p || rect_holds b p) r
  both e = both_bounds Union (rect_holds a) (rect_holds b) a b r
      (record { in_range = so_far.in_range; around = λ p out. out }) (record { in_range = e; around = λ p out. out }) box none

  pub one_line : (x : Point) (after : List Point) → rest ≡ x ∷ after → AreBounds (line_holds last x pen) b → AreBoundsBut s x after to pen r
  one_line x after e line =
      let u = both line.in_range in
      record {
        in_range = u.in_range;
        around = λ p out.
            let n = neither (rect_holds a p) (rect_holds b p) (u.around p out) in
            so_far.around p n.0 ∙ ap (λ ys. some_line last ys to pen p) e ∙ ap (λ t. t || some_line x after to pen p) (line.around p n.1);
      }

  pub all_lines : rest ≡ [] → AreBounds (line_holds last to pen) b → AreBounds s r
  all_lines e line =
      let u = both line.in_range in
      record {
        in_range = u.in_range;
        around = λ p out.
            let n = neither (rect_holds a p) (rect_holds b p) (u.around p out) in
            so_far.around p n.0 ∙ ap (λ ys. some_line last ys to pen p) e ∙ line.around p n.1;
      }

-- a polygon by its first point and the others
pub closed_by : (xs : List Point) (d : Point) → 1 ≤ length xs → (p : Point)
    → odd_edges (slice_index_or xs 0 d) (take (length xs - 1) (drop 1 xs)) (slice_index_or xs 0 d) p ≡ polygon_holds xs p
closed_by [] d l p = absurd (omega arith)
closed_by (x ∷ xs) d l p = ap (λ ys. odd_edges x ys x p) (take_rest (x ∷ xs) 1)
