-- How far two regions have been merged, and what one more row changes.
use Rattle.std.proofs.Common.{◌≡◌, ℕ, ◌+◌, ◌<◌, ◌≤◌, Bool, true, false, ◌&&◌, List, [], ◌∷◌, ◌++◌, length, get_or, take, map, ℤ, pos, negsuc, ◌-ℤ◌, ◌<ℤ◌, ◌≤ℤ◌, refl, sym, ap, ◌∙◌, subst, arith}
use Rattle.std.specs.Prelude.{int_le}
use Rattle.std.specs.List.{All}
use Rattle.std.specs.Int.{int_min, int_max}
use Rattle.std.specs.Ordering.{int_eq}
use Rattle.std.proofs.Math.Bool.{and-false}
use Rattle.std.proofs.lemmas.Bool.{false_from_ne_true}
use Rattle.std.proofs.lemmas.Bool.Decides.{Decides-int_eq}
use Rattle.std.proofs.lemmas.Int.{ints, clamps, by_lt_z}
use Rattle.std.proofs.lemmas.List.{take_more, take_all, get_or_default, get_or-map, length-map, map_push}
use Rattle.std.proofs.lemmas.List.Elements.{All-push, All-nil}
use Rattle.region_bytes.specs.Points.{IsPointRow, ArePointRows, IsInRange, in_rows, top_of}
use Rattle.region_bytes.proofs.Edges.{inside-nil, IsRow-nil, int_le-true, int_le-false}
use Rattle.region_bytes.proofs.Rows.{nil_has, in_rows-push, past_rows, inverted-points_of}
use Rattle.region_bytes.proofs.Written.{closed_rows}
use Rattle.region_bytes.proofs.Short.{none_canonical}
use Rattle.region_rows.specs.declared.operator.Operator.{Operator}
use Rattle.region_rows.specs.Edges.{applied, by_first, by_second, kept, differ, inside, IsRising, IsRow, IsEdges, IsCoordinate}
use Rattle.region_rows.specs.Rows.{EdgeRow, with_row, AreRows}
use Rattle.region_rows.specs.RowsAt.{IsRead, RowsAt}
use Rattle.region_rows.proofs.Edges.{applied-none, turned}
use Rattle.region_rows.proofs.Climbs.{edges_of, row_of, inside_above}
use Rattle.region_rows.proofs.Pushes.{IsRising-push, each_push}

-- ---- numbers

-- a number equals itself
pub int_eq-same : (x : ℤ) → int_eq x x ≡ true
int_eq-same x = (Decides-int_eq x x).1 refl

-- and no other
pub int_eq-apart : (x y : ℤ) → (x ≡ y → ⊥) → int_eq x y ≡ false
int_eq-apart x y n = false_from_ne_true _ (λ e. n ((Decides-int_eq x y).0 e))

-- ---- the rows of a region

-- the points of a row of a region are edges
pub row_edges : (rows : List EdgeRow) (k : ℕ) (d : EdgeRow) → AreRows rows → k < length rows → IsRow (get_or rows k d).1
row_edges rows k d r l =
    let good : IsPointRow (get_or rows k d) = r.canonical.are_rows.each k d l in
    let range : IsInRange (get_or rows k d) = r.in_range k d l in
    record { rising = good.rising; even = good.even; in_range = λ n m. range.1 n (pos 0) m }

-- one row more turns the columns from its points on
pub in_rows-more : (rows : List EdgeRow) (next : ℕ) (row : EdgeRow) (h w : ℤ) → next < length rows → row ≡ get_or rows next row → in_rows (take (next + 1) rows) h w ≡ differ (int_le row.0 w && inside row.1 h) (in_rows (take next rows) h w)
in_rows-more rows next row h w n e =
    ap (λ l. in_rows l h w) (take_more rows next row n ∙ ap (λ r. take next rows ++ r ∷ []) (sym e)) ∙ in_rows-push (take next rows) row h w

-- a row without points turns none
pub none_turned : (b : Bool) (v w h : ℤ) → b ≡ differ (int_le v w && inside [] h) b
none_turned b v w h = sym ((λ i. differ (int_le v w && inside-nil h i) b) ∙ ap (λ c. differ c b) (and-false (int_le v w)))

-- the place that a read of a row gives
pub top_read : (rows : List EdgeRow) (i : ℕ) (row : EdgeRow) → i < length rows → row ≡ get_or rows i row → get_or (map top_of rows) i (pos 0) ≡ row.0
top_read rows i row l e = get_or-map top_of rows i row (pos 0) l ∙ ap top_of (sym e)

-- where the next row is further down, the row v is read
pub RowsAt-miss : (rows : List EdgeRow) (next : ℕ) (x v : ℤ) → RowsAt rows next x → x <ℤ v → (next < length rows → v <ℤ get_or (map top_of rows) next (pos 0)) → RowsAt rows next v
RowsAt-miss rows next x v s l a = record { within = s.within; ahead = a }

-- where it is the next row, it is read with that row
pub RowsAt-hit : (rows : List EdgeRow) (next : ℕ) (row : EdgeRow) (v : ℤ) → IsRising (map top_of rows) → next < length rows → row ≡ get_or rows next row → row.0 ≡ v → RowsAt rows (next + 1) v
RowsAt-hit rows next row v r n e is =
    record {
      within = omega arith;
      ahead = λ m.
          let top : get_or (map top_of rows) next (pos 0) ≡ v = top_read rows next row n e ∙ is in
          let len : length (map top_of rows) ≡ length rows = length-map rows top_of in
          let up = r.rises next (next + 1) (omega arith) (omega arith) in
          omega (arith, ints);
    }

-- a row is read, or none
pub read_hit : (rows : List EdgeRow) (next : ℕ) (row : EdgeRow) (v : ℤ) (points : List ℤ) → AreRows rows → next < length rows → row ≡ get_or rows next row → v ≡ row.0 → points ≡ row.1 → IsRead rows next (next + 1) v points
read_hit rows next row v points r n e is same =
    record {
      row = subst IsRow (sym (same ∙ ap (λ (r : EdgeRow). r.1) e)) (row_edges rows next row r n);
      pixels = λ h w. in_rows-more rows next row h w n e ∙ (λ i. differ (int_le (sym is i) w && inside (sym same i) h) (in_rows (take next rows) h w));
      at = λ x s l. RowsAt-hit rows next row v r.canonical.are_rows.rising n e (sym is);
    }

pub read_miss : (rows : List EdgeRow) (next : ℕ) (v : ℤ) → (next < length rows → v <ℤ get_or (map top_of rows) next (pos 0)) → IsRead rows next next v []
read_miss rows next v a = record { row = IsRow-nil; pixels = λ h w. none_turned _ _ w h; at = λ x s l. RowsAt-miss rows next x v s l a }

-- no rows are those of a region
pub AreRows-nil : AreRows []
AreRows-nil = record { canonical = none_canonical; in_range = All-nil IsInRange }

-- a row that is turned by another one is a row
pub row_turned : (p q f : List ℤ) → IsRow p → IsRow q → IsEdges f → ((h : ℤ) → inside f h ≡ differ (inside p h) (inside q h)) → IsRow f
row_turned p q f rp rq ef e =
    let last : (xs : List ℤ) → IsRow xs → inside xs (pos 16383) ≡ false = λ xs r. inside_above (negsuc 16384) xs (pos 16383) (pos 16383) (edges_of xs r) (omega (arith, ints)) ∙ r.even in
    row_of f ef (sym (inside_above (negsuc 16384) f (pos 16383) (pos 16383) ef (omega (arith, ints))) ∙ e (pos 16383) ∙ (λ i. differ (last p rp i) (last q rq i)))

-- ---- the rows that are merged

-- the rows up to `upto` are merged, and d and e are the edges that those of both sides leave
pub record Merged (a b rows : List EdgeRow) (o : Operator) (i j : ℕ) (d e : List ℤ) : Type 0 where
  pub upto : ℤ
  pub a_at : RowsAt a i upto
  pub b_at : RowsAt b j upto
  pub a_left : (h v : ℤ) → upto ≤ℤ v → in_rows (take i a) h v ≡ inside d h
  pub b_left : (h v : ℤ) → upto ≤ℤ v → in_rows (take j b) h v ≡ inside e h
  pub a_row : IsEdges d
  pub b_row : IsEdges e
  pub so_far : (h v : ℤ) → in_rows rows h v ≡ applied o (in_rows (take i a) h v) (in_rows (take j b) h v)
  pub below : (k : ℕ) → k < length (map top_of rows) → get_or (map top_of rows) k (pos 0) ≤ℤ upto
  pub rows_ok : ArePointRows rows
  pub in_range : All IsInRange rows

-- both sides are read past the row v, where their points are p and q and they leave d2 and e2, and the combination has the points f
pub record Reads (a b : List EdgeRow) (o : Operator) (i j i2 j2 : ℕ) (v : ℤ) (p q d e d2 e2 f : List ℤ) : Type 0 where
  pub a_at : RowsAt a i2 v
  pub b_at : RowsAt b j2 v
  pub a_pixels : (h w : ℤ) → in_rows (take i2 a) h w ≡ differ (int_le v w && inside p h) (in_rows (take i a) h w)
  pub b_pixels : (h w : ℤ) → in_rows (take j2 b) h w ≡ differ (int_le v w && inside q h) (in_rows (take j b) h w)
  pub a_left : (h : ℤ) → inside d2 h ≡ differ (inside d h) (inside p h)
  pub b_left : (h : ℤ) → inside e2 h ≡ differ (inside e h) (inside q h)
  pub a_row : IsEdges d2
  pub b_row : IsEdges e2
  pub points : (h : ℤ) → inside f h ≡ differ (kept (by_first o) (inside p h) (inside e h)) (kept (by_second o) (inside q h) (differ (inside d h) (inside p h)))
  pub row : IsRow f

differ_comm : (a b : Bool) → differ a b ≡ differ b a
differ_comm true true = refl
differ_comm true false = refl
differ_comm false true = refl
differ_comm false false = refl

module _ (a b rows : List EdgeRow) (o : Operator) (i j i2 j2 : ℕ) (v : ℤ) (p q d e d2 e2 f : List ℤ) (s : Merged a b rows o i j d e) (next : s.upto <ℤ v) (t : Reads a b o i j i2 j2 v p q d e d2 e2 f) where
  above : (h w : ℤ) → w <ℤ v → differ (int_le v w && inside f h) (in_rows rows h w) ≡ applied o (in_rows (take i2 a) h w) (in_rows (take j2 b) h w)
  above h w l =
      let out : int_le v w ≡ false = int_le-false v w l in
      (λ k. differ (out k && inside f h) (in_rows rows h w)) ∙ s.so_far h w
      ∙ sym (λ k. applied o ((t.a_pixels h w ∙ (λ n. differ (out n && inside p h) (in_rows (take i a) h w))) k) ((t.b_pixels h w ∙ (λ n. differ (out n && inside q h) (in_rows (take j b) h w))) k))

  from_here : (h w : ℤ) → v ≤ℤ w → differ (int_le v w && inside f h) (in_rows rows h w) ≡ applied o (in_rows (take i2 a) h w) (in_rows (take j2 b) h w)
  from_here h w l =
      let here : int_le v w ≡ true = int_le-true v w l in
      let of_a = s.a_left h w (omega (arith, ints)) in
      let of_b = s.b_left h w (omega (arith, ints)) in
      (λ k. differ (here k && inside f h) (s.so_far h w k))
      ∙ (λ k. differ (t.points h k) (applied o (of_a k) (of_b k)))
      ∙ turned o (inside p h) (inside q h) (inside d h) (inside e h)
      ∙ sym (λ k. applied o ((t.a_pixels h w ∙ (λ n. differ (here n && inside p h) (of_a n))) k) ((t.b_pixels h w ∙ (λ n. differ (here n && inside q h) (of_b n))) k))

  merged_pixel : (h w : ℤ) → differ (int_le v w && inside f h) (in_rows rows h w) ≡ applied o (in_rows (take i2 a) h w) (in_rows (take j2 b) h w)
  merged_pixel h w = by_lt_z w v (above h w) (from_here h w)

  a_leaves : (h w : ℤ) → v ≤ℤ w → in_rows (take i2 a) h w ≡ inside d2 h
  a_leaves h w l = t.a_pixels h w ∙ (λ k. differ (int_le-true v w l k && inside p h) (s.a_left h w (omega (arith, ints)) k)) ∙ differ_comm (inside p h) (inside d h) ∙ sym (t.a_left h)

  b_leaves : (h w : ℤ) → v ≤ℤ w → in_rows (take j2 b) h w ≡ inside e2 h
  b_leaves h w l = t.b_pixels h w ∙ (λ k. differ (int_le-true v w l k && inside q h) (s.b_left h w (omega (arith, ints)) k)) ∙ differ_comm (inside q h) (inside e h) ∙ sym (t.b_left h)

-- a row in which nothing turns leaves the rows as they are
Merged-same : (a b rows : List EdgeRow) (o : Operator) (i j i2 j2 : ℕ) (v : ℤ) (p q d e d2 e2 : List ℤ) (s : Merged a b rows o i j d e) → s.upto <ℤ v → Reads a b o i j i2 j2 v p q d e d2 e2 [] → Merged a b rows o i2 j2 d2 e2
Merged-same a b rows o i j i2 j2 v p q d e d2 e2 s l t =
    record {
      upto = v;
      a_at = t.a_at;
      b_at = t.b_at;
      a_left = a_leaves a b rows o i j i2 j2 v p q d e d2 e2 [] s l t;
      b_left = b_leaves a b rows o i j i2 j2 v p q d e d2 e2 [] s l t;
      a_row = t.a_row;
      b_row = t.b_row;
      so_far = λ h w. none_turned _ v w h ∙ merged_pixel a b rows o i j i2 j2 v p q d e d2 e2 [] s l t h w;
      below = λ k m. let b = s.below k m in omega (arith, ints);
      rows_ok = s.rows_ok;
      in_range = s.in_range;
    }

-- any other comes after them
Merged-push : (a b rows : List EdgeRow) (o : Operator) (i j i2 j2 : ℕ) (v : ℤ) (p q d e d2 e2 f : List ℤ) (s : Merged a b rows o i j d e) → s.upto <ℤ v → Reads a b o i j i2 j2 v p q d e d2 e2 f → IsCoordinate v → 0 < length f → Merged a b (rows ++ (v, f) ∷ []) o i2 j2 d2 e2
Merged-push a b rows o i j i2 j2 v p q d e d2 e2 f s l t top some =
    record {
      upto = v;
      a_at = t.a_at;
      b_at = t.b_at;
      a_left = a_leaves a b rows o i j i2 j2 v p q d e d2 e2 f s l t;
      b_left = b_leaves a b rows o i j i2 j2 v p q d e d2 e2 f s l t;
      a_row = t.a_row;
      b_row = t.b_row;
      so_far = λ h w. in_rows-push rows (v, f) h w ∙ merged_pixel a b rows o i j i2 j2 v p q d e d2 e2 f s l t h w;
      below = rw (map_push top_of rows (v, f)) (each_push (λ z. z ≤ℤ v) (map top_of rows) v (λ k m. let b = s.below k m in omega (arith, ints)) (omega (arith, ints)));
      rows_ok = record {
        rising = rw (map_push top_of rows (v, f)) (IsRising-push (map top_of rows) s.upto v s.rows_ok.rising s.below l);
        each = All-push IsPointRow rows (v, f) s.rows_ok.each (record { rising = t.row.rising; even = t.row.even; some = some });
      };
      in_range = All-push IsInRange rows (v, f) s.in_range (top, λ k d m. subst IsCoordinate (get_or_default f k (pos 0) d m) (t.row.in_range k m));
    }

-- one more row is merged
pub Merged-with_row : (a b rows : List EdgeRow) (o : Operator) (i j i2 j2 : ℕ) (v : ℤ) (p q d e d2 e2 f : List ℤ) (s : Merged a b rows o i j d e) → s.upto <ℤ v → Reads a b o i j i2 j2 v p q d e d2 e2 f → IsCoordinate v → Merged a b (with_row rows v f) o i2 j2 d2 e2
Merged-with_row a b rows o i j i2 j2 v p q d e d2 e2 [] s l t top = Merged-same a b rows o i j i2 j2 v p q d e d2 e2 s l t
Merged-with_row a b rows o i j i2 j2 v p q d e d2 e2 (x ∷ xs) s l t top = Merged-push a b rows o i j i2 j2 v p q d e d2 e2 (x ∷ xs) s l t top (omega arith)

-- a row above the first of either region
top_before : List EdgeRow → List EdgeRow → ℤ
top_before a b = int_min (get_or (map top_of a) 0 (pos 0)) (get_or (map top_of b) 0 (pos 0)) -ℤ pos 1

-- before any row is read, none is merged
pub Merged-none : (a b : List EdgeRow) (o : Operator) → Merged a b [] o 0 0 [] []
unfolding top_before
Merged-none a b o =
    record {
      upto = top_before a b;
      a_at = record { within = omega arith; ahead = λ _. omega (arith, ints, clamps) };
      b_at = record { within = omega arith; ahead = λ _. omega (arith, ints, clamps) };
      a_left = λ h v l. nil_has h v ∙ sym (inside-nil h);
      b_left = λ h v l. nil_has h v ∙ sym (inside-nil h);
      a_row = edges_of [] IsRow-nil;
      b_row = edges_of [] IsRow-nil;
      so_far = λ h v. nil_has h v ∙ sym ((λ k. applied o (nil_has h v k) (nil_has h v k)) ∙ applied-none o);
      below = λ k m. absurd (omega arith);
      rows_ok = none_canonical.are_rows;
      in_range = All-nil IsInRange;
    }

-- ---- the whole merge

-- below the range of coordinates a region has no pixel
pub past_range : (rows : List EdgeRow) (h v : ℤ) → AreRows rows → pos 16383 ≤ℤ v → in_rows rows h v ≡ false
past_range rows h v r l = closed_rows rows r.canonical h v (λ k d m. let c = (r.in_range k d m).0.1 in omega (arith, ints))

all_read : (a : List EdgeRow) (i : ℕ) (h v : ℤ) → length a ≤ i → in_rows (take i a) h v ≡ in_rows a h v
all_read a i h v l = ap (λ rows. in_rows rows h v) (take_all i a l)

pub merged_pixels : (a b rows : List EdgeRow) (o : Operator) (i j : ℕ) (d e : List ℤ) → Merged a b rows o i j d e → length a ≤ i → length b ≤ j → (h v : ℤ) → in_rows rows h v ≡ applied o (in_rows a h v) (in_rows b h v)
merged_pixels a b rows o i j d e s l m h v = s.so_far h v ∙ (λ k. applied o (all_read a i h v l k) (all_read b j h v m k))

-- the rows that are merged are those of a region
pub merged_rows : (a b rows : List EdgeRow) (o : Operator) (i j : ℕ) (d e : List ℤ) → AreRows a → AreRows b → Merged a b rows o i j d e → length a ≤ i → length b ≤ j → AreRows rows
merged_rows a b rows o i j d e ra rb s l m =
    record {
      canonical = record {
        are_rows = s.rows_ok;
        closed = λ p above.
            let low : ℤ = int_max p.v (pos 16383) in
            let on : p.v ≤ℤ low = omega (arith, ints, clamps) in
            let out : pos 16383 ≤ℤ low = omega (arith, ints, clamps) in
            inverted-points_of rows p ∙ past_rows rows p.h p.v low above on
            ∙ merged_pixels a b rows o i j d e s l m p.h low
            ∙ (λ k. applied o (past_range a p.h low ra out k) (past_range b p.h low rb out k)) ∙ applied-none o;
      };
      in_range = s.in_range;
    }
