-- Where one row of pixels turns into the next, and how far the rows of a set are written.
use Rattle.std.proofs.Common.{◌≡◌, ◌&&◌, ◌++◌, not, Bool, true, false, List, [], ◌∷◌, length, ◌<◌, ℤ, pos, negsuc, ◌-ℤ◌, ◌+ℤ◌, ◌≤ℤ◌, ◌<ℤ◌, refl, sym, ap, ◌∙◌, subst, arith}
use Rattle.std.proofs.lemmas.Bool.{and_right, false≢true, true≢false}
use Rattle.std.proofs.lemmas.Int.{ints, by_lt_z}
use Rattle.std.proofs.lemmas.List.{append_assoc, map_push}
use Rattle.tb_geom.specs.declared.point.Point.{Point}
use Rattle.tb_geom.specs.declared.rect.Rect.{Rect}
use Rattle.tb_geom.specs.Points.{PixelSet}
use Rattle.tb_geom.specs.Rects.{between}
use Rattle.region_bytes.specs.declared.writing.RegionWriter.{RegionWriter}
use Rattle.region_bytes.specs.Points.{in_rows, row_points}
use Rattle.region_bytes.specs.Writing.{AreWritten, IsWritten}
use Rattle.region_bytes.proofs.Edges.{inside-nil, IsRow-nil, inside-push_after, inside-push_before, int_le-true}
use Rattle.region_bytes.proofs.Rows.{nil_has}
use Rattle.region_rows.specs.Edges.{differ, inside, IsClimb, IsCoordinate, IsRow}
use Rattle.region_rows.specs.Pairs.{AreStacked}
use Rattle.region_rows.specs.Rows.{EdgeRow, AreRows, IsPushed}
use Rattle.region_rows.proofs.Climbs.{climb_append, higher, inside_above, lower, row_of}
use Rattle.region_rows.proofs.PairRows.{none_stacked, pushed_as, pushed_pixel, pushed_some, stacked, stacked_rows}
use Rattle.region_rows.proofs.WrittenColumns.{columns_none}
use Rattle.shape_strips.proofs.RangeLemmas.{sides_in}
use Rattle.shape_strips.proofs.RunLemmas.{between_before, between_past}
use Rattle.pixel_rows.specs.declared.columns.Columns.{Columns}
use Rattle.pixel_rows.specs.Columns.{changes, has_column, row_turns, AreWithin, IsSteady}
use Rattle.pixel_rows.specs.Bounds.{AreBounds}
use Rattle.pixel_rows.specs.Written.{AreWrittenChanges}
use Rattle.pixel_rows.proofs.ColumnLemmas.{beside_bounds}
use Rattle.pixel_rows.proofs.RowLemmas.{below_none, differ_back, unturned}

-- ---- the points of a row

-- they are found up to the column h
pub record AreFound (left h : ℤ) (t : ℤ → Bool) (columns : List ℤ) (turned : Bool) : Type 0 where
  pub climbs : IsClimb (left -ℤ pos 1) columns (h -ℤ pos 1)
  pub pixels : (x : ℤ) → x <ℤ h → inside columns x ≡ t x
  pub last : turned ≡ t (h -ℤ pos 1)

none_found : (left right : ℤ) (t : ℤ → Bool) → ((x : ℤ) → between left x right ≡ false → t x ≡ false) → AreFound left left t [] false
none_found left right t outside = record {
  climbs = omega (arith, ints);
  pixels = λ x l. inside-nil x ∙ sym (outside x (between_before left x right l));
  last = sym (outside (left -ℤ pos 1) (between_before left (left -ℤ pos 1) right (omega (arith, ints))));
}

pub here_again : (h : ℤ) → h ≡ (h +ℤ pos 1) -ℤ pos 1
here_again h = omega (arith, ints)

-- up to the next one the row is as it was at the column before
as_before : (left h : ℤ) (t : ℤ → Bool) (columns : List ℤ) (turned : Bool) → AreFound left h t columns turned → inside columns h ≡ turned
as_before left h t columns turned f =
    inside_above (left -ℤ pos 1) columns (h -ℤ pos 1) h f.climbs (omega (arith, ints))
    ∙ sym (inside_above (left -ℤ pos 1) columns (h -ℤ pos 1) (h -ℤ pos 1) f.climbs (omega (arith, ints)))
    ∙ f.pixels (h -ℤ pos 1) (omega (arith, ints)) ∙ sym f.last

found_none : (left h : ℤ) (t : ℤ → Bool) (columns : List ℤ) (turned : Bool) → AreFound left h t columns turned → t h ≡ turned → AreFound left (h +ℤ pos 1) t columns turned
found_none left h t columns turned f same = record {
  climbs = higher (left -ℤ pos 1) columns (h -ℤ pos 1) ((h +ℤ pos 1) -ℤ pos 1) (omega (arith, ints)) f.climbs;
  pixels = λ x l. by_lt_z x h (f.pixels x)
      (λ m. let e : h ≡ x = omega (arith, ints) in subst (λ z. inside columns z ≡ t z) e (as_before left h t columns turned f ∙ sym same));
  last = sym same ∙ ap t (here_again h);
}

found_one : (left h : ℤ) (t : ℤ → Bool) (columns : List ℤ) (turned : Bool) → AreFound left h t columns turned → left ≤ℤ h → t h ≡ not turned → AreFound left (h +ℤ pos 1) t (columns ++ h ∷ []) (not turned)
found_one left h t columns turned f low here = record {
  climbs = climb_append (left -ℤ pos 1) columns (h -ℤ pos 1) (h ∷ []) ((h +ℤ pos 1) -ℤ pos 1) f.climbs (omega (arith, ints), omega (arith, ints));
  pixels = λ x l. by_lt_z x h
      (λ m. inside-push_before columns h x m ∙ f.pixels x m)
      (λ m. let e : h ≡ x = omega (arith, ints) in
      subst (λ z. inside (columns ++ h ∷ []) z ≡ t z) e (inside-push_after columns h h (omega (arith, ints)) ∙ ap not (as_before left h t columns turned f) ∙ sym here));
  last = sym here ∙ ap t (here_again h);
}

-- in the end all are found
module _ (left right h : ℤ) (t : ℤ → Bool) (columns : List ℤ) (turned : Bool) (f : AreFound left h t columns turned) (end : right <ℤ h) (outside : (x : ℤ) → between left x right ≡ false → t x ≡ false) where
  out_here : t (h -ℤ pos 1) ≡ false
  out_here = outside (h -ℤ pos 1) (between_past left (h -ℤ pos 1) right (omega (arith, ints)))

  all_found : (x : ℤ) → inside columns x ≡ t x
  all_found x = by_lt_z x h (f.pixels x) (λ l.
      inside_above (left -ℤ pos 1) columns (h -ℤ pos 1) x f.climbs (omega (arith, ints))
      ∙ sym (inside_above (left -ℤ pos 1) columns (h -ℤ pos 1) (h -ℤ pos 1) f.climbs (omega (arith, ints)))
      ∙ f.pixels (h -ℤ pos 1) (omega (arith, ints)) ∙ out_here ∙ sym (outside x (between_past left x right (omega (arith, ints)))))

  found_row : IsCoordinate left → h ≤ℤ pos 16384 → IsRow columns
  found_row in_range high =
      let low = in_range.0 in
      row_of columns
      (lower (left -ℤ pos 1) (negsuc 16384) columns (pos 16383) (omega (arith, ints)) (higher (left -ℤ pos 1) columns (h -ℤ pos 1) (pos 16383) (omega (arith, ints)) f.climbs))
      (sym (inside_above (left -ℤ pos 1) columns (h -ℤ pos 1) (h -ℤ pos 1) f.climbs (omega (arith, ints))) ∙ f.pixels (h -ℤ pos 1) (omega (arith, ints)) ∙ out_here)

-- ---- they are written as they are found

pub record AreWrittenTo (left h : ℤ) (t : ℤ → Bool) (turned : Bool) (v : ℤ) (words : List ℤ) (points : List Point) (out : RegionWriter) : Type 0 where
  pub columns : List ℤ
  pub found : AreFound left h t columns turned
  pub written : IsWritten out (words ++ columns) (points ++ row_points (v, columns))

pub none_written : (left right : ℤ) (t : ℤ → Bool) (v : ℤ) (words : List ℤ) (points : List Point) (out : RegionWriter) → ((x : ℤ) → between left x right ≡ false → t x ≡ false)
    → IsWritten out words points → AreWrittenTo left left t false v words points out
none_written left right t v words points out outside s = record { columns = []; found = none_found left right t outside; written = columns_none out words points s }

other_than : (a b : Bool) → differ a b ≡ true → a ≡ not b
other_than true true e = absurd (false≢true e)
other_than true false e = refl
other_than false true e = refl
other_than false false e = absurd (false≢true e)

pub same_as : (a b : Bool) → differ a b ≡ false → a ≡ b
same_as true true e = refl
same_as true false e = absurd (true≢false e)
same_as false true e = absurd (true≢false e)
same_as false false e = refl

pub written_none : (left h : ℤ) (t : ℤ → Bool) (turned : Bool) (v : ℤ) (words : List ℤ) (points : List Point) (out : RegionWriter)
    → AreWrittenTo left h t turned v words points out → differ (t h) turned ≡ false → AreWrittenTo left (h +ℤ pos 1) t turned v words points out
written_none left h t turned v words points out s same = record { columns = s.columns; found = found_none left h t s.columns turned s.found (same_as (t h) turned same); written = s.written }

pub written_one : (left h : ℤ) (t : ℤ → Bool) (turned : Bool) (v : ℤ) (words : List ℤ) (points : List Point) (old new : RegionWriter)
    → AreWrittenTo left h t turned v words points old → left ≤ℤ h → differ (t h) turned ≡ true
    → ((ws : List ℤ) (ps : List Point) → IsWritten old ws ps → IsWritten new (ws ++ h ∷ []) (ps ++ record { h = h; v = v } ∷ []))
    → AreWrittenTo left (h +ℤ pos 1) t (not turned) v words points new
written_one left h t turned v words points old new s low other more =
    let one : Point = record { h = h; v = v } in
    let same_words : (words ++ s.columns) ++ h ∷ [] ≡ words ++ (s.columns ++ h ∷ []) = append_assoc words s.columns (h ∷ []) in
    let same_points : (points ++ row_points (v, s.columns)) ++ record { h = h; v = v } ∷ [] ≡ points ++ row_points (v, s.columns ++ h ∷ []) =
    append_assoc points (row_points (v, s.columns)) (one ∷ []) ∙ ap (λ ps. points ++ ps) (sym (map_push (λ x. record { h = x; v = v }) s.columns h)) in
    record {
      columns = s.columns ++ h ∷ [];
      found = found_one left h t s.columns turned s.found low (other_than (t h) turned other);
      written = subst (λ ws. IsWritten new ws (points ++ row_points (v, s.columns ++ h ∷ []))) same_words (subst (IsWritten new ((words ++ s.columns) ++ h ∷ [])) same_points (more _ _ s.written));
    }

pub all_written : (left right h : ℤ) (t : ℤ → Bool) (turned : Bool) (v : ℤ) (words : List ℤ) (points : List Point) (out : RegionWriter)
    → AreWrittenTo left h t turned v words points out → right <ℤ h → h ≤ℤ pos 16384 → IsCoordinate left → ((x : ℤ) → between left x right ≡ false → t x ≡ false)
    → AreWrittenChanges out v t words points
all_written left right h t turned v words points out s end high in_range outside = record {
  columns = s.columns;
  pixels = all_found left right h t s.columns turned s.found end outside;
  row = found_row left right h t s.columns turned s.found end outside in_range high;
  written = s.written;
}

-- ---- rows that differ

-- no column differs outside the bounds of both rows
pub alike_beside : (left right : ℤ) (above row : Columns) → AreWithin left right above → AreWithin left right row → (x : ℤ) → between left x right ≡ false → changes above row x ≡ false
alike_beside left right above row a b x out = λ i. differ (a x out i) (b x out i)

-- where one differs, there are points, and so a row of them
some_points : (columns : List ℤ) (t : ℤ → Bool) (h : ℤ) → ((x : ℤ) → inside columns x ≡ t x) → t h ≡ true → 0 < length columns
some_points [] t h pixels here = absurd (false≢true (sym (inside-nil h) ∙ pixels h ∙ here))
some_points (x ∷ xs) t h pixels here = omega arith

pub points_pushed : (rows : List EdgeRow) (v : ℤ) (t : ℤ → Bool) (h : ℤ) (out : RegionWriter) (words : List ℤ) (points : List Point) → t h ≡ true
    → (w : AreWrittenChanges out v t words points) → IsPushed rows (rows ++ (v, w.columns) ∷ []) v t
points_pushed rows v t h out words points here w = record {
  points = w.columns;
  pixels = w.pixels;
  row = w.row;
  pushed = pushed_some rows (rows ++ (v, w.columns) ∷ []) v w.columns (some_points w.columns t h w.pixels here) refl;
}

-- and where none does, none
pub no_points : (rows : List EdgeRow) (v : ℤ) (t : ℤ → Bool) → ((h : ℤ) → t h ≡ false) → IsPushed rows rows v t
no_points rows v t none = record { points = []; pixels = λ h. inside-nil h ∙ sym (none h); row = IsRow-nil; pushed = refl }

-- ---- row by row

-- the rows of a set above the row v are made, and go on below as the last of them
pub record AreMadeTo (s : PixelSet) (rows : List EdgeRow) (v : ℤ) : Type 0 where
  pub are_stacked : AreStacked rows (v -ℤ pos 1)
  pub passed : (h w : ℤ) → w <ℤ v → in_rows rows h w ≡ s (record { h = h; v = w })
  pub ahead : (h w : ℤ) → v ≤ℤ w → in_rows rows h w ≡ s (record { h = h; v = v -ℤ pos 1 })

-- and these are written
pub record AreRowsTo (s : PixelSet) (out : RegionWriter) (v : ℤ) : Type 0 where
  pub rows : List EdgeRow
  pub made : AreMadeTo s rows v
  pub written : AreWritten out rows

above_bounds : (s : PixelSet) (r : Rect) → AreBounds s r → (h w : ℤ) → w <ℤ r.top → s (record { h = h; v = w }) ≡ false
above_bounds s r b h w l = b.around (record { h = h; v = w }) (and_right (between r.left h r.right) (between r.top w r.bottom) (between_before r.top w r.bottom l))

-- the row above has no column
pub none_above : (s : PixelSet) (r : Rect) (above : Columns) → AreBounds s r → ((h : ℤ) → has_column above h ≡ false) → (h : ℤ) → has_column above h ≡ s (record { h = h; v = r.top -ℤ pos 1 })
none_above s r above b none h = none h ∙ sym (above_bounds s r b h (r.top -ℤ pos 1) (omega (arith, ints)))

pub none_made : (s : PixelSet) (r : Rect) → AreBounds s r → AreMadeTo s [] r.top
none_made s r b = record {
  are_stacked = none_stacked (r.top -ℤ pos 1);
  passed = λ h w l. nil_has h w ∙ sym (above_bounds s r b h w l);
  ahead = λ h w l. nil_has h w ∙ sym (above_bounds s r b h (r.top -ℤ pos 1) (omega (arith, ints)));
}

pub one_made : (s : PixelSet) (old new : List EdgeRow) (v : ℤ) → AreMadeTo s old v → IsCoordinate v → IsPushed old new v (row_turns s v) → AreMadeTo s new (v +ℤ pos 1)
one_made s old new v made top p = record {
  are_stacked = rw (sym (here_again v)) (stacked old new (v -ℤ pos 1) v (row_turns s v) made.are_stacked (omega (arith, ints)) top p);
  passed = λ h w l. by_lt_z w v
      (λ less. unturned old new v (row_turns s v) p h w less ∙ made.passed h w less)
      (λ from. let here : v ≡ w = omega (arith, ints) in turned h w from ∙ ap (λ z. s (record { h = h; v = z })) here);
  ahead = λ h w l. turned h w (omega (arith, ints)) ∙ ap (λ z. s (record { h = h; v = z })) (here_again v);
}
  where
    turned : (h w : ℤ) → v ≤ℤ w → in_rows new h w ≡ s (record { h = h; v = v })
    turned h w l =
        pushed_pixel old new v (row_turns s v) p h w
        ∙ (λ i. differ (int_le-true v w l i && row_turns s v h) (made.ahead h w l i))
        ∙ differ_back (s (record { h = h; v = v -ℤ pos 1 })) (s (record { h = h; v = v }))

-- all rows are made
module _ (s : PixelSet) (r : Rect) (rows : List EdgeRow) (v : ℤ) (b : AreBounds s r) (made : AreMadeTo s rows v) (end : r.bottom <ℤ v) where
  pub all_pixels : (h w : ℤ) → in_rows rows h w ≡ s (record { h = h; v = w })
  all_pixels h w = by_lt_z w v (made.passed h w)
      (λ l. made.ahead h w l ∙ below_none s r b h (v -ℤ pos 1) (omega (arith, ints)) ∙ sym (below_none s r b h w (omega (arith, ints))))

  pub all_rows : AreRows rows
  all_rows =
      let sides = sides_in r b.in_range in
      let high : r.bottom ≤ℤ pos 16383 = sides.bottom_high in
      stacked_rows rows (v -ℤ pos 1) (λ h w. s (record { h = h; v = w })) made.are_stacked all_pixels (λ h w l. below_none s r b h w (omega (arith, ints)))

-- a row of columns that the set has, and the one above
pub set_turns : (s : PixelSet) (above row : Columns) (old new : List EdgeRow) (v : ℤ) → ((h : ℤ) → has_column above h ≡ s (record { h = h; v = v -ℤ pos 1 }))
    → ((h : ℤ) → has_column row h ≡ s (record { h = h; v = v })) → IsPushed old new v (changes above row) → IsPushed old new v (row_turns s v)
set_turns s above row old new v a b p = pushed_as old new v (changes above row) (row_turns s v) p (λ h i. differ (a h i) (b h i))

-- they lie within its bounds
pub set_within : (s : PixelSet) (r : Rect) (v : ℤ) (row : Columns) → AreBounds s r → ((h : ℤ) → has_column row h ≡ s (record { h = h; v = v })) → AreWithin r.left r.right row
set_within s r v row b pixels h out = pixels h ∙ beside_bounds s r v h b out

-- a row that is steady has no points
pub steady_points : (s : PixelSet) (rows : List EdgeRow) (v : ℤ) → IsSteady s v → IsPushed rows rows v (row_turns s v)
steady_points s rows v steady = no_points rows v (row_turns s v) (λ h. ap (differ (s (record { h = h; v = v -ℤ pos 1 }))) (steady h) ∙ alike (s (record { h = h; v = v -ℤ pos 1 })))
  where
    alike : (a : Bool) → differ a a ≡ false
    alike true = refl
    alike false = refl
