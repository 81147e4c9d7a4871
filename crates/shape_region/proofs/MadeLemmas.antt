-- How far the rows of a shape are made.
use Rattle.std.proofs.Common.{◌≡◌, ◌&&◌, true, false, inl, inr, List, [], ℤ, pos, ◌-ℤ◌, ◌+ℤ◌, ◌≤ℤ◌, ◌<ℤ◌, sym, ap, ◌∙◌, arith}
use Rattle.std.proofs.lemmas.Int.{ints, by_lt_z}
use Rattle.std.proofs.lemmas.Bool.{and_parts, and_right, cases_Bool}
use Rattle.tb_geom.specs.declared.point.Point.{Point}
use Rattle.tb_geom.specs.declared.rect.Rect.{Rect}
use Rattle.tb_geom.specs.Points.{PixelSet}
use Rattle.tb_geom.specs.Rects.{between, is_in_range, is_empty_rect, rect_holds}
use Rattle.tb_geom.proofs.RectLemmas.{between-in, holds_none}
use Rattle.region_bytes.specs.Points.{in_rows}
use Rattle.region_bytes.proofs.Edges.{int_le-true, inside-nil, IsRow-nil}
use Rattle.region_bytes.proofs.Rows.{nil_has}
use Rattle.region_rows.specs.Edges.{differ, inside, IsCoordinate, IsRow}
use Rattle.region_rows.specs.Pairs.{AreStacked}
use Rattle.region_rows.specs.Rows.{EdgeRow, AreRows, IsPushed}
use Rattle.region_rows.proofs.PairRows.{none_stacked, pushed_pixel, stacked, stacked_rows}
use Rattle.shape_strips.specs.declared.run.Run.{Run}
use Rattle.shape_strips.specs.Runs.{run_holds}
use Rattle.shape_strips.proofs.RangeLemmas.{row_of, sides_in}
use Rattle.shape_strips.proofs.RunLemmas.{between_before}
use Rattle.pixel_rows.proofs.RowLemmas.{below_none, differ_back, unturned}
use Rattle.shape_region.specs.Rows.{turns}
use Rattle.pixel_rows.specs.Bounds.{AreBounds, IsPlaced}

-- the rows of a set above the row v are made, and the last of them, with these edges, goes on below
pub record AreMade (s : PixelSet) (rows : List EdgeRow) (above : List ℤ) (v : ℤ) : Type 0 where
  pub are_stacked : AreStacked rows (v -ℤ pos 1)
  pub row : IsRow above
  pub passed : (h w : ℤ) → w <ℤ v → in_rows rows h w ≡ s (record { h = h; v = w })
  pub ahead : (h w : ℤ) → v ≤ℤ w → in_rows rows h w ≡ inside above h

turned : (old new : List EdgeRow) (v : ℤ) (above row : List ℤ) → IsPushed old new v (turns above row) → (h w : ℤ) → v ≤ℤ w
    → in_rows old h w ≡ inside above h → in_rows new h w ≡ inside row h
turned old new v above row p h w l e =
    pushed_pixel old new v (turns above row) p h w
    ∙ (λ i. differ (int_le-true v w l i && turns above row h) (e i))
    ∙ differ_back (inside above h) (inside row h)

-- ---- runs within bounds

-- a run without columns, at the left side of a rectangle
abbrev pub no_run : Rect → Run
no_run r = record { left = r.left; right = r.left }

pub no_run_placed : (r : Rect) → is_in_range r ≡ true → IsPlaced (no_run r)
no_run_placed r e =
    let s = sides_in r e in
    record { left_in = (s.left_low, s.left_high); right_in = (s.left_low, s.left_high); order = omega (arith, ints) }

pub no_columns : (r : Rect) (h : ℤ) → run_holds (no_run r) h ≡ false
no_columns r h = grind (arith, ints)

in_bounds : (s : PixelSet) (r : Rect) → AreBounds s r → (p : Point) → s p ≡ true → rect_holds r p ≡ true
in_bounds s r b p e = elim (cases_Bool (rect_holds r p)) [
  | inl t ↦ t
  | inr f ↦ let out = b.around p f in absurd (cc)
]

in_columns : (s : PixelSet) (r : Rect) (run : Run) (v h : ℤ) → AreBounds s r → ((h : ℤ) → run_holds run h ≡ s (record { h = h; v = v }))
    → run.left ≤ℤ h → h <ℤ run.right → (r.left ≤ℤ h) × (h <ℤ r.right)
in_columns s r run v h b row l m =
    let in_it = in_bounds s r b (record { h = h; v = v }) (sym (row h) ∙ between-in run.left h run.right l m) in
    row_of r.left h r.right (and_parts (between r.left h r.right) (between r.top v r.bottom) in_it).0

-- a run of a set with columns has its ends within the set's bounds
pub run_placed : (s : PixelSet) (r : Rect) (run : Run) (v : ℤ) → AreBounds s r → ((h : ℤ) → run_holds run h ≡ s (record { h = h; v = v }))
    → run.left <ℤ run.right → IsPlaced run
run_placed s r run v b row some =
    let sides = sides_in r b.in_range in
    let left_low = sides.left_low in
    let right_high = sides.right_high in
    let first = in_columns s r run v run.left b row (omega (arith, ints)) some in
    let last = in_columns s r run v (run.right -ℤ pos 1) b row (omega (arith, ints)) (omega (arith, ints)) in
    let from : r.left ≤ℤ run.left = first.0 in
    let to : (run.right -ℤ pos 1) <ℤ r.right = last.1 in
    record {
      left_in = (omega (arith, ints), omega (arith, ints));
      right_in = (omega (arith, ints), omega (arith, ints));
      order = omega (arith, ints);
    }

pub empty_row : (s : PixelSet) (r : Rect) (run : Run) (v : ℤ) → ((h : ℤ) → run_holds run h ≡ s (record { h = h; v = v })) → run.right ≤ℤ run.left
    → (h : ℤ) → run_holds (no_run r) h ≡ s (record { h = h; v = v })
empty_row s r run v row none h = no_columns r h ∙ sym (nothing run h none) ∙ row h
  where
    nothing : (run : Run) (h : ℤ) → run.right ≤ℤ run.left → run_holds run h ≡ false
    nothing run h l = grind (arith, ints)

-- bounds that enclose nothing are those of no pixel, and so is any other such rectangle in range
pub none_bounds : (s : PixelSet) (r other : Rect) → AreBounds s r → is_empty_rect r ≡ true → is_in_range other ≡ true → AreBounds s other
none_bounds s r other b none e = record { in_range = e; around = λ p out. b.around p (holds_none r none p) }

-- ---- row by row

-- before the first row none is made
pub none_made : (s : PixelSet) (r : Rect) → AreBounds s r → AreMade s [] [] r.top
none_made s r b =
    record {
      are_stacked = none_stacked (r.top -ℤ pos 1);
      row = IsRow-nil;
      passed = λ h w l. nil_has h w ∙ sym (b.around (record { h = h; v = w }) (and_right (between r.left h r.right) _ (between_before r.top w r.bottom l)));
      ahead = λ h w l. nil_has h w ∙ sym (inside-nil h);
    }

-- one more row is made
pub one_made : (s : PixelSet) (old new : List EdgeRow) (above row : List ℤ) (v : ℤ) → AreMade s old above v → IsCoordinate v → IsRow row
    → ((h : ℤ) → inside row h ≡ s (record { h = h; v = v })) → IsPushed old new v (turns above row) → AreMade s new row (v +ℤ pos 1)
one_made s old new above row v made top is_row pixels p =
    record {
      are_stacked = stacked_on;
      row = is_row;
      passed = λ h w l. by_lt_z w v
          (λ less. unturned old new v (turns above row) p h w less ∙ made.passed h w less)
          (λ from.
          let here : v ≡ w = omega (arith, ints) in
          turned old new v above row p h w from (made.ahead h w from) ∙ pixels h ∙ ap (λ z. s (record { h = h; v = z })) here);
      ahead = λ h w l. turned old new v above row p h w (omega (arith, ints)) (made.ahead h w (omega (arith, ints)));
    }
  where
    one_less : (v +ℤ pos 1) -ℤ pos 1 ≡ v
    one_less = omega (arith, ints)

    stacked_on : AreStacked new ((v +ℤ pos 1) -ℤ pos 1)
    stacked_on = rw one_less (stacked old new (v -ℤ pos 1) v (turns above row) made.are_stacked (omega (arith, ints)) top p)

-- all rows are made, and the one below them
module _ (s : PixelSet) (r : Rect) (old new : List EdgeRow) (above : List ℤ) (b : AreBounds s r) (made : AreMade s old above r.bottom)
    (p : IsPushed old new r.bottom (turns above [])) where
  all_made : AreMade s new [] (r.bottom +ℤ pos 1)
  all_made =
      let sides = sides_in r b.in_range in
      one_made s old new above [] r.bottom made (sides.bottom_low, sides.bottom_high) IsRow-nil
      (λ h. inside-nil h ∙ sym (below_none s r b h r.bottom (omega (arith, ints)))) p

  -- they have the pixels of the set
  pub made_pixels : (h w : ℤ) → in_rows new h w ≡ s (record { h = h; v = w })
  made_pixels h w =
      by_lt_z w (r.bottom +ℤ pos 1) (all_made.passed h w)
      (λ from. all_made.ahead h w from ∙ inside-nil h ∙ sym (below_none s r b h w (omega (arith, ints))))

  -- and are those of a region
  pub made_rows : AreRows new
  made_rows =
      let sides = sides_in r b.in_range in
      let high : r.bottom ≤ℤ pos 16383 = sides.bottom_high in
      stacked_rows new ((r.bottom +ℤ pos 1) -ℤ pos 1) (λ h w. s (record { h = h; v = w })) all_made.are_stacked made_pixels
      (λ h w l. below_none s r b h w (omega (arith, ints)))
