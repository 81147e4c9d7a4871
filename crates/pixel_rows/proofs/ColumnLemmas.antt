-- The columns of a row: their bits, how far they are kept, and how they are found by the edges of the row.
use Rattle.std.proofs.Common.{◌≡◌, ◌&&◌, Bool, true, false, inl, inr, ℕ, zero, suc, ◌/◌, ◌%◌, eqb, get_or, List, [], ◌∷◌, ℤ, pos, negsuc, ◌-ℤ◌, ◌+ℤ◌, ◌≤ℤ◌, ◌<ℤ◌, refl, sym, ap, ◌∙◌, subst, arith, SFits, w32}
use Rattle.std.specs.Prelude.{int_le}
use Rattle.std.specs.Int.{bit_at}
use Rattle.std.specs.Ordering.{int_eq}
use Rattle.std.proofs.Math.ListN.{replicate}
use Rattle.std.proofs.lemmas.Bool.{and_left, and_right, cases_Bool, false≢true, ne_eqb}
use Rattle.std.proofs.lemmas.Int.{ints, by_lt_z}
use Rattle.std.proofs.lemmas.Nat.Bits.{bit_at-zero}
use Rattle.tb_geom.specs.declared.point.Point.{Point}
use Rattle.tb_geom.specs.declared.rect.Rect.{Rect}
use Rattle.tb_geom.specs.Points.{PixelSet}
use Rattle.tb_geom.specs.Rects.{between, is_coordinate, is_in_range}
use Rattle.tb_geom.proofs.RectLemmas.{between-in}
use Rattle.region_bytes.specs.Bytes.{IsWord}
use Rattle.region_bytes.specs.Points.{inverted}
use Rattle.region_bytes.proofs.Edges.{int_le-true, int_le-false}
use Rattle.region_bytes.proofs.Rows.{differ-false}
use Rattle.region_bytes.proofs.Tests.{int_eq-same, int_eq-apart}
use Rattle.region_rows.specs.Bits.{has_bit}
use Rattle.region_rows.specs.Counts.{count_to}
use Rattle.region_rows.specs.Edges.{differ, IsCoordinate}
use Rattle.region_rows.proofs.BitPlaces.{same_eqb}
use Rattle.region_rows.proofs.Counts.{count-is}
use Rattle.shape_strips.proofs.RangeLemmas.{coordinate_from, coordinate_high, coordinate_low, row_of, sides_in}
use Rattle.shape_strips.proofs.RunLemmas.{between_past}
use Rattle.pixel_rows.specs.declared.columns.Columns.{Columns}
use Rattle.pixel_rows.specs.Columns.{has_column, is_edge, row_turns, IsSteady}
use Rattle.pixel_rows.specs.Combined.{moved}
use Rattle.pixel_rows.specs.Bounds.{AreBounds}
use Rattle.pixel_rows.proofs.RowLemmas.{between_same}

-- ---- bits

abbrev none_set : ℕ → List ℕ
none_set n = replicate n 0

zeros : (n i : ℕ) → get_or (none_set n) i 0 ≡ 0
zeros zero i = refl
zeros (suc n) zero = refl
zeros (suc n) (suc i) = zeros n i

pub no_bit : (n k : ℕ) → has_bit (none_set n) k ≡ false
unfolding has_bit
no_bit n k = ap (λ w. eqb (bit_at w (k % 64)) 1) (zeros n (k / 64)) ∙ ap (λ b. eqb b 1) (bit_at-zero (k % 64))

-- a column has a place of its own
same_place : (x h : ℤ) → IsCoordinate x → IsCoordinate h → eqb (count_to (negsuc 16383) x) (count_to (negsuc 16383) h) ≡ int_eq h x
same_place x h a b =
    let p = count-is (negsuc 16383) x a.0 in
    let q = count-is (negsuc 16383) h b.0 in
    by_lt_z x h
    (λ l. ne_eqb (count_to (negsuc 16383) x) (count_to (negsuc 16383) h) (λ e. omega (arith, ints, e)) ∙ sym (int_eq-apart h x (λ e. omega (arith, ints))))
    (λ l. by_lt_z h x
    (λ m. ne_eqb (count_to (negsuc 16383) x) (count_to (negsuc 16383) h) (λ e. omega (arith, ints, e)) ∙ sym (int_eq-apart h x (λ e. omega (arith, ints))))
    (λ m. let e : h ≡ x = omega (arith, ints) in ap (λ z. eqb (count_to (negsuc 16383) x) (count_to (negsuc 16383) z)) e ∙ same_eqb (count_to (negsuc 16383) x) ∙ sym (ap (λ z. int_eq z x) e ∙ int_eq-same x)))

-- one bit is turned
pub bit_turned : (old new : List ℕ) (h x : ℤ) → IsCoordinate h → ((k : ℕ) → has_bit new k ≡ differ (eqb k (count_to (negsuc 16383) h)) (has_bit old k))
    → (is_coordinate x && has_bit new (count_to (negsuc 16383) x)) ≡ differ (is_coordinate x && int_eq h x) (is_coordinate x && has_bit old (count_to (negsuc 16383) x))
bit_turned old new h x b bits = by (is_coordinate x) refl
  where
    by : (t : Bool) → is_coordinate x ≡ t → (t && has_bit new (count_to (negsuc 16383) x)) ≡ differ (t && int_eq h x) (t && has_bit old (count_to (negsuc 16383) x))
    by true e = bits (count_to (negsuc 16383) x) ∙ ap (λ t. differ t (has_bit old (count_to (negsuc 16383) x))) (same_place x h (coordinate_low x e, coordinate_high x e) b)
    by false e = refl

-- a column out of range has none
pub none_turned : (h x : ℤ) (b : Bool) → is_coordinate h ≡ false → b ≡ differ (is_coordinate x && int_eq h x) b
none_turned h x b out = sym (ap (λ t. differ t b) (by (is_coordinate x) refl))
  where
    by : (t : Bool) → is_coordinate x ≡ t → (t && int_eq h x) ≡ false
    by true e = int_eq-apart h x (λ same. false≢true (sym out ∙ ap is_coordinate same ∙ e))
    by false e = refl

-- ---- columns that are kept from the left on

-- of the columns from `left` up to h these are kept
pub record AreKept (f : ℤ → Bool) (left h : ℤ) (row : Columns) : Type 0 where
  pub each : (x : ℤ) → has_column row x ≡ (between left x h && f x)

pub none_kept : (f : ℤ → Bool) (left : ℤ) (row : Columns) → ((x : ℤ) → has_column row x ≡ false) → AreKept f left left row
none_kept f left row none = record { each = λ x. none x ∙ sym (and_left (between left x left) (f x) (between_same left x left refl)) }

between_next : (left x h : ℤ) → x <ℤ h → between left x h ≡ between left x (h +ℤ pos 1)
between_next left x h l = grind (arith, ints)

-- the column h is kept too
pub one_kept : (f : ℤ → Bool) (left h : ℤ) (old new : Columns) → AreKept f left h old → left ≤ℤ h → IsCoordinate h → f h ≡ true
    → ((x : ℤ) → has_column new x ≡ differ (is_coordinate x && int_eq h x) (has_column old x)) → AreKept f left (h +ℤ pos 1) new
one_kept f left h old new kept low in_range here flip =
    record {
      each = λ x. by_lt_z x h
          (λ l. other x (λ e. omega (arith, ints)) ∙ kept.each x ∙ (λ i. between_next left x h l i && f x))
          (λ m. by_lt_z h x
          (λ l. other x (λ e. omega (arith, ints)) ∙ kept.each x ∙ (λ i. between_past left x h m i && f x) ∙ sym (λ i. between_past left x (h +ℤ pos 1) (omega (arith, ints)) i && f x))
          (λ l. let e : h ≡ x = omega (arith, ints) in subst (λ z. has_column new z ≡ (between left z (h +ℤ pos 1) && f z)) e at_it));
    }
  where
    other : (x : ℤ) → (h ≡ x → ⊥) → has_column new x ≡ has_column old x
    other x n = flip x ∙ ap (λ t. differ t (has_column old x)) (and_right (is_coordinate x) (int_eq h x) (int_eq-apart h x n))

    at_it : has_column new h ≡ (between left h (h +ℤ pos 1) && f h)
    at_it =
        flip h
        ∙ (λ i. differ (coordinate_from h in_range.0 in_range.1 i && int_eq-same h i) ((kept.each h ∙ and_left (between left h h) (f h) (between_past left h h (omega (arith, ints)))) i))
        ∙ sym (λ i. between-in left h (h +ℤ pos 1) low (omega (arith, ints)) i && here i)

-- or not
pub one_passed : (f : ℤ → Bool) (left h : ℤ) (row : Columns) → AreKept f left h row → f h ≡ false → AreKept f left (h +ℤ pos 1) row
one_passed f left h row kept here =
    record {
      each = λ x. kept.each x ∙ by_lt_z x h
          (λ l. (λ i. between_next left x h l i && f x))
          (λ m. and_left (between left x h) (f x) (between_past left x h m) ∙ sym (by_lt_z h x
          (λ l. and_left (between left x (h +ℤ pos 1)) (f x) (between_past left x (h +ℤ pos 1) (omega (arith, ints))))
          (λ l. let e : h ≡ x = omega (arith, ints) in and_right (between left x (h +ℤ pos 1)) (f x) (ap f (sym e) ∙ here))));
    }

-- in the end all of them are
pub all_kept : (f : ℤ → Bool) (left right h : ℤ) (row : Columns) → AreKept f left h row → right ≤ℤ h → ((x : ℤ) → between left x right ≡ false → f x ≡ false)
    → (x : ℤ) → has_column row x ≡ f x
all_kept f left right h row kept end outside x = kept.each x ∙ by (f x) refl
  where
    by : (t : Bool) → f x ≡ t → (between left x h && t) ≡ t
    by true e = elim (cases_Bool (between left x right)) [
      | inl s ↦ let sides = row_of left x right s in let last = sides.1 in ap (λ t. t && true) (between-in left x h sides.0 (omega (arith, ints)))
      | inr s ↦ absurd (false≢true (sym (outside x s) ∙ e))
    ]
    by false e = and_right (between left x h) false refl

-- outside its bounds a set has no column
pub beside_bounds : (s : PixelSet) (r : Rect) (v h : ℤ) → AreBounds s r → between r.left h r.right ≡ false → s (record { h = h; v = v }) ≡ false
beside_bounds s r v h b out = b.around (record { h = h; v = v }) (and_left (between r.left h r.right) (between r.top v r.bottom) out)

-- a column between the sides of a rectangle in range
pub column_in : (r : Rect) (h : ℤ) → is_in_range r ≡ true → r.left ≤ℤ h → h <ℤ r.right → IsCoordinate h
column_in r h e l m = let s = sides_in r e in let low = s.left_low in let high = s.right_high in (omega (arith, ints), omega (arith, ints))

-- ---- the edges of a row

four : (a b i j : Bool) → differ (differ (a && true) i) (differ (b && true) j) ≡ differ (differ a b) (differ i j)
four true true true j = refl
four true true false true = refl
four true true false false = refl
four true false true true = refl
four true false true false = refl
four true false false j = refl
four false true true true = refl
four false true true false = refl
four false true false j = refl
four false false i j = refl

neither : (a b i j : Bool) → differ (differ (a && false) i) (differ (b && false) j) ≡ differ i j
neither true true i j = refl
neither true false i j = refl
neither false true i j = refl
neither false false i j = refl

one_column : (c x : ℤ) → differ (int_le c x) (int_le c (x -ℤ pos 1)) ≡ int_eq c x
one_column c x = by_lt_z c x
    (λ l. (λ i. differ (int_le-true c x (omega (arith, ints)) i) (int_le-true c (x -ℤ pos 1) (omega (arith, ints)) i)) ∙ sym (int_eq-apart c x (λ e. omega (arith, ints))))
    (λ l. by_lt_z x c
    (λ m. (λ i. differ (int_le-false c x m i) (int_le-false c (x -ℤ pos 1) (omega (arith, ints)) i)) ∙ sym (int_eq-apart c x (λ e. omega (arith, ints))))
    (λ m. let e : c ≡ x = omega (arith, ints) in (λ i. differ (int_le-true c x m i) (int_le-false c (x -ℤ pos 1) (omega (arith, ints)) i)) ∙ sym (ap (λ z. int_eq z x) e ∙ int_eq-same x)))

pub over : (e o a : Bool) → differ (differ e o) a ≡ differ o (differ e a)
over true true true = refl
over true true false = refl
over true false a = refl
over false o a = refl

point_edge : (p : Point) (after : List Point) (x v : ℤ) → p.v ≤ℤ v → is_edge (inverted (p ∷ after)) x v ≡ differ (int_eq p.h x) (is_edge (inverted after) x v)
unfolding inverted
point_edge p after x v l =
    (λ i. differ
    (differ (int_le p.h x && int_le-true p.v v l i) (inverted after (record { h = x; v = v })))
    (differ (int_le p.h (x -ℤ pos 1) && int_le-true p.v v l i) (inverted after (record { h = x -ℤ pos 1; v = v }))))
    ∙ four (int_le p.h x) (int_le p.h (x -ℤ pos 1)) (inverted after (record { h = x; v = v })) (inverted after (record { h = x -ℤ pos 1; v = v }))
    ∙ ap (λ t. differ t (is_edge (inverted after) x v)) (one_column p.h x)

point_below : (p : Point) (after : List Point) (x v : ℤ) → v <ℤ p.v → is_edge (inverted (p ∷ after)) x v ≡ is_edge (inverted after) x v
unfolding inverted
point_below p after x v l =
    (λ i. differ
    (differ (int_le p.h x && int_le-false p.v v l i) (inverted after (record { h = x; v = v })))
    (differ (int_le p.h (x -ℤ pos 1) && int_le-false p.v v l i) (inverted after (record { h = x -ℤ pos 1; v = v }))))
    ∙ neither (int_le p.h x) (int_le p.h (x -ℤ pos 1)) (inverted after (record { h = x; v = v })) (inverted after (record { h = x -ℤ pos 1; v = v }))

-- the edges so far, and those of the points that are left, are those of the set
pub record AreEdgesWith (edges : Columns) (rest : List Point) (s : PixelSet) (v : ℤ) : Type 0 where
  pub each : (x : ℤ) → IsCoordinate x → differ (has_column edges x) (is_edge (inverted rest) x v) ≡ is_edge s x v

pub no_edges : (edges : Columns) (rest : List Point) (s : PixelSet) (v : ℤ) → ((x : ℤ) → has_column edges x ≡ false) → ((p : Point) → inverted rest p ≡ s p) → AreEdgesWith edges rest s v
no_edges edges rest s v none same =
    record { each = λ x m. (λ i. differ (none x i) (differ (same (record { h = x; v = v }) i) (same (record { h = x -ℤ pos 1; v = v }) i))) }

pub edges_turned : (old new : Columns) (p : Point) (rest after : List Point) (s : PixelSet) (v : ℤ) → rest ≡ p ∷ after → p.v ≤ℤ v
    → ((x : ℤ) → has_column new x ≡ differ (is_coordinate x && int_eq p.h x) (has_column old x)) → AreEdgesWith old rest s v → AreEdgesWith new after s v
edges_turned old new p rest after s v e l flip so_far =
    record {
      each = λ x m.
          ap (λ t. differ t (is_edge (inverted after) x v)) (flip x ∙ ap (λ t. differ (t && int_eq p.h x) (has_column old x)) (coordinate_from x m.0 m.1))
          ∙ over (int_eq p.h x) (has_column old x) (is_edge (inverted after) x v)
          ∙ ap (differ (has_column old x)) (sym (point_edge p after x v l))
          ∙ ap (λ ps. differ (has_column old x) (is_edge (inverted ps) x v)) (sym e)
          ∙ so_far.each x m;
    }

pub edges_passed : (edges : Columns) (p : Point) (rest after : List Point) (s : PixelSet) (v : ℤ) → rest ≡ p ∷ after → v <ℤ p.v → AreEdgesWith edges rest s v → AreEdgesWith edges after s v
edges_passed edges p rest after s v e l so_far =
    record {
      each = λ x m.
          ap (differ (has_column edges x)) (sym (point_below p after x v l))
          ∙ ap (λ ps. differ (has_column edges x) (is_edge (inverted ps) x v)) (sym e)
          ∙ so_far.each x m;
    }

pub all_edges : (edges : Columns) (rest : List Point) (s : PixelSet) (v : ℤ) → rest ≡ [] → AreEdgesWith edges rest s v → (x : ℤ) → IsCoordinate x → has_column edges x ≡ is_edge s x v
unfolding inverted
all_edges edges rest s v e so_far x m =
    sym (differ-false (has_column edges x)) ∙ ap (λ ps. differ (has_column edges x) (is_edge (inverted ps) x v)) (sym e) ∙ so_far.each x m

-- past an edge the row is turned
pub turned_there : (a b : Bool) → differ a (differ b a) ≡ b
turned_there true true = refl
turned_there true false = refl
turned_there false true = refl
turned_there false false = refl

-- ---- rows without points

-- what the points that are left turn in the row v is what the set turns there
pub record AreTurnsWith (rest : List Point) (s : PixelSet) (v : ℤ) : Type 0 where
  pub each : (h : ℤ) → row_turns (inverted rest) v h ≡ row_turns s v h

pub no_turns : (rest : List Point) (s : PixelSet) (v : ℤ) → ((p : Point) → inverted rest p ≡ s p) → AreTurnsWith rest s v
no_turns rest s v same = record { each = λ h. (λ i. differ (same (record { h = h; v = v -ℤ pos 1 }) i) (same (record { h = h; v = v }) i)) }

same_turned : (x i j : Bool) → differ (differ x i) (differ x j) ≡ differ i j
same_turned true true true = refl
same_turned true true false = refl
same_turned true false true = refl
same_turned true false false = refl
same_turned false i j = refl

point_elsewhere : (p : Point) (after : List Point) (v h : ℤ) → (p.v ≡ v → ⊥) → row_turns (inverted (p ∷ after)) v h ≡ row_turns (inverted after) v h
unfolding inverted
point_elsewhere p after v h other =
    (λ i. differ
    (differ (int_le p.h h && above i) (inverted after (record { h = h; v = v -ℤ pos 1 })))
    (differ (int_le p.h h && int_le p.v v) (inverted after (record { h = h; v = v }))))
    ∙ same_turned (int_le p.h h && int_le p.v v) (inverted after (record { h = h; v = v -ℤ pos 1 })) (inverted after (record { h = h; v = v }))
  where
    above : int_le p.v (v -ℤ pos 1) ≡ int_le p.v v
    above = by_lt_z v p.v
        (λ l. int_le-false p.v (v -ℤ pos 1) (omega (arith, ints)) ∙ sym (int_le-false p.v v l))
        (λ l. by_lt_z p.v v
        (λ m. int_le-true p.v (v -ℤ pos 1) (omega (arith, ints)) ∙ sym (int_le-true p.v v l))
        (λ m. absurd (other (omega (arith, ints)))))

pub turns_passed : (p : Point) (rest after : List Point) (s : PixelSet) (v : ℤ) → rest ≡ p ∷ after → (p.v ≡ v → ⊥) → AreTurnsWith rest s v → AreTurnsWith after s v
turns_passed p rest after s v e other so_far =
    record { each = λ h. sym (point_elsewhere p after v h other) ∙ ap (λ ps. row_turns (inverted ps) v h) (sym e) ∙ so_far.each h }

pub none_turn : (rest : List Point) (s : PixelSet) (v : ℤ) → rest ≡ [] → AreTurnsWith rest s v → IsSteady s v
unfolding inverted
none_turn rest s v e so_far h =
    alike (s (record { h = h; v = v -ℤ pos 1 })) (s (record { h = h; v = v })) (sym (so_far.each h) ∙ ap (λ ps. row_turns (inverted ps) v h) e)
  where
    alike : (a b : Bool) → differ a b ≡ false → b ≡ a
    alike true true d = refl
    alike true false d = sym d
    alike false true d = d
    alike false false d = refl

-- a row that is moved down is steady where it was
pub steady_moved : (s : PixelSet) (dh dv v : ℤ) → IsSteady s (v -ℤ dv) → IsSteady (moved s (record { h = dh; v = dv })) v
steady_moved s dh dv v steady h = steady (h -ℤ dh) ∙ ap (λ w. s (record { h = h -ℤ dh; v = w })) (one_up v dv)
  where
    one_up : (v dv : ℤ) → (v -ℤ dv) -ℤ pos 1 ≡ (v -ℤ pos 1) -ℤ dv
    one_up v dv = omega (arith, ints)

-- ---- numbers of 32 bits

pub word_apart : (x d : ℤ) → IsCoordinate x → IsWord d → SFits w32 (x -ℤ d)
word_apart x d a b =
    let low = a.0 in
    let high = a.1 in
    let from = b.0 in
    let to = b.1 in
    search (arith, ints)
