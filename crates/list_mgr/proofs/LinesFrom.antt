-- A view cut where a row or a column begins, and lists whose cells before it are the same.
use Rattle.std.proofs.Common.{◌≡◌, ℕ, ◌+◌, ◌-◌, ◌*◌, ◌<◌, ◌≤◌, ◌&&◌, Bool, true, false, if◌then◌else◌, List, ℤ, pos, negsuc, ◌-ℤ◌, ◌≤ℤ◌, ◌<ℤ◌, None, Some, [], ◌∷◌, not, refl, sym, ap, ◌∙◌, arith, subst}
use Rattle.std.specs.Prelude.{◌*ℤ◌, int_le, int_lt, nat_abs}
use Rattle.std.specs.Int.{int_max}
use Rattle.std.specs.Option.{option_map_or}
use Rattle.std.proofs.lemmas.Bool.{and_parts, false≢true, not-false}
use Rattle.std.proofs.lemmas.Int.{ints, clamps, by_lt_z}
use Rattle.tb_geom.specs.declared.point.Point.{Point}
use Rattle.tb_geom.specs.declared.rect.Rect.{Rect}
use Rattle.tb_geom.specs.declared.refusal.Refusal.TheVariants.{NoSuchCell, OutOfRange}
use Rattle.tb_geom.specs.Refusals.{first_refusal}
use Rattle.tb_geom.specs.Rects.{rect_holds}
use Rattle.tb_geom.proofs.RectLemmas.{holds_in, sides_of}
use Rattle.def_iface.specs.ListMeaning.{ListDefinition, cell_bit}
use Rattle.list_cells.specs.declared.cell.Cell.{Cell}
use Rattle.list_cells.specs.Contents.{Content}
use Rattle.list_cells.specs.Grids.{Grid, IsGrid, columns_added, columns_deleted, content_of, rows_added, rows_deleted}
use Rattle.list_cells.specs.Runs.{add_refusals, count_to_delete, delete_refusals, is_count, place_to_add}
use Rattle.list_cells.proofs.LawLemmas.{column_left_kept, column_left_stays, row_above_kept, row_above_stays}
use Rattle.list_view.specs.declared.axis.Axis.{Axis}
use Rattle.list_view.specs.Axes.{IsAxis, line_at, line_start}
use Rattle.list_view.specs.Views.{IsView, View, any_cell_at, cell_at, cell_corner, is_before, view_rect}
use Rattle.list_view.proofs.LineLemmas.{lies_in_line, line_at_counted, mul_le}
use Rattle.list_view.specs.Shown.{cell_shown, in_cell, list_shown}
use Rattle.desk_call.specs.declared.list.ListLines.{ListLines}
use Rattle.control_mgr.proofs.Steps.{none_hold}
use Rattle.list_mgr.specs.Changing.{IsSameOrNot}
use Rattle.list_mgr.specs.LinesFrom.{AreLinesFrom}
use Rattle.list_mgr.specs.ListDesks.{KeptList}
use Rattle.list_mgr.specs.ListSteps.{with_grid}
use Rattle.list_mgr.specs.declared.line_edit.LineAxis.{LineAxis}
use Rattle.list_mgr.specs.declared.line_edit.LineAxis.TheVariants.{Columns, Rows}
use Rattle.list_mgr.specs.declared.line_edit.LineChange.{LineChange}
use Rattle.list_mgr.specs.declared.line_edit.LineChange.TheVariants.{Add, Delete}
use Rattle.list_mgr.specs.declared.line_edit.LineEdit.{LineEdit}
use Rattle.list_mgr.specs.LineEdits.{changed_by, edit_refusals, edited, first_changed, first_line, line_of, refusals_of, scrolled_after, with_edit}
use Rattle.list_mgr.specs.WholeLists.{IsSettledList}
use Rattle.list_mgr.specs.Within.{IsSameOutside}
use Rattle.list_mgr.proofs.Cells.{number_in}
use Rattle.list_mgr.proofs.LinesChanged.{may_add, may_delete}
use Rattle.list_mgr.proofs.Outside.{nothing_outside, view_outside}

-- ---- where a line begins

-- a place before where a line begins lies in a line before it
before_line : (a : Axis) (first line place : ℤ) → IsAxis a → a.start ≤ℤ place → place <ℤ line_start a first line → line_at a first place <ℤ line
before_line a first line place axis from less =
    by_lt_z (line_at a first place) line (λ before. before) (λ behind.
    let after = (lies_in_line a first place axis from).after in
    let some = axis.cell_some in
    let grows : ((line -ℤ first) *ℤ a.cell) ≤ℤ ((line_at a first place -ℤ first) *ℤ a.cell) = mul_le (line -ℤ first) (line_at a first place -ℤ first) a.cell (omega (arith, ints)) (omega (arith, ints)) in
    absurd (omega (arith, ints)))

not_over : (a b x : ℤ) → a ≤ℤ x → b ≤ℤ x → int_max a b ≤ℤ x
not_over a b x l k = grind (arith, ints, clamps)

cut_rows : (v : View) (row top : ℤ) → IsView v → top ≡ line_start v.down v.first.row row → AreLinesFrom Rows false v row (record (view_rect v) { top = int_max v.down.start top })
cut_rows v row top is at p has out =
    let sides = sides_of (view_rect v) p has in
    let before : p.v <ℤ top =
    by_lt_z p.v top (λ l. l) (λ from. absurd (false≢true (sym out
    ∙ holds_in (record (view_rect v) { top = int_max v.down.start top }) p sides.left sides.right (not_over v.down.start top p.v sides.top from) sides.bottom))) in
    before_line v.down v.first.row row p.v is.down sides.top (subst (λ z. p.v <ℤ z) at before)

cut_columns : (v : View) (column left : ℤ) → IsView v → left ≡ line_start v.across v.first.column column → AreLinesFrom Columns false v column (record (view_rect v) { left = int_max v.across.start left })
cut_columns v column left is at p has out =
    let sides = sides_of (view_rect v) p has in
    let before : p.h <ℤ left =
    by_lt_z p.h left (λ l. l) (λ from. absurd (false≢true (sym out
    ∙ holds_in (record (view_rect v) { left = int_max v.across.start left }) p (not_over v.across.start left p.h sides.left from) sides.right sides.top sides.bottom))) in
    before_line v.across v.first.column column p.h is.across sides.left (subst (λ z. p.h <ℤ z) at before)

-- so it is of the rectangle of the view whose upper, or left, side is moved there
pub rows_cut : (v : View) (row : ℤ) (scrolled : Bool) (r : Rect) (corner : Point) (c : Cell) (top : ℤ) → IsView v → scrolled ≡ false → r ≡ view_rect v → corner ≡ cell_corner v c → c.row ≡ row
    → top ≡ int_max r.top corner.v → AreLinesFrom Rows scrolled v row (record r { top = top })
rows_cut v row scrolled r corner c top is off sides place its value =
    let e : top ≡ int_max v.down.start corner.v = value ∙ ap (λ (q : Rect). int_max q.top corner.v) sides in
    let begins : corner.v ≡ line_start v.down v.first.row row = ap (λ (p : Point). p.v) place ∙ ap (λ k. line_start v.down v.first.row k) its in
    subst (λ b. AreLinesFrom Rows b v row (record r { top = top })) (sym off)
    (subst (AreLinesFrom Rows false v row) (λ i. record (sym sides i) { top = sym e i }) (cut_rows v row corner.v is begins))

pub columns_cut : (v : View) (column : ℤ) (scrolled : Bool) (r : Rect) (corner : Point) (c : Cell) (left : ℤ) → IsView v → scrolled ≡ false → r ≡ view_rect v → corner ≡ cell_corner v c → c.column ≡ column
    → left ≡ int_max r.left corner.h → AreLinesFrom Columns scrolled v column (record r { left = left })
columns_cut v column scrolled r corner c left is off sides place its value =
    let e : left ≡ int_max v.across.start corner.h = value ∙ ap (λ (q : Rect). int_max q.left corner.h) sides in
    let begins : corner.h ≡ line_start v.across v.first.column column = ap (λ (p : Point). p.h) place ∙ ap (λ k. line_start v.across v.first.column k) its in
    subst (λ b. AreLinesFrom Columns b v column (record r { left = left })) (sym off)
    (subst (AreLinesFrom Columns false v column) (λ i. record (sym sides i) { left = sym e i }) (cut_columns v column corner.h is begins))

-- ---- what lists show whose cell at a point is the same

-- of both the cell is one, or of neither, and it holds the same in both
record IsSameCell (g h : Grid) (c : Cell) : Type 0 where
  pub there : is_before h.columns h.rows c ≡ is_before g.columns g.rows c
  pub content : is_before g.columns g.rows c ≡ true → content_of h c ≡ content_of g c

shown_at : (font : List ℕ) (d : ListDefinition) (v : View) (g : Grid) (p : Point) (b : Bool) → rect_holds (view_rect v) p ≡ true → is_before g.columns g.rows (any_cell_at v p) ≡ b
    → list_shown font d v g p ≡ (b && cell_shown font d v g (any_cell_at v p) p)
unfolding cell_at
shown_at font d v g p true inside e = λ i. option_map_or (λ c. cell_shown font d v g c p) (if inside i && e i then Some (any_cell_at v p) else None) false
shown_at font d v g p false inside e = λ i. option_map_or (λ c. cell_shown font d v g c p) (if inside i && e i then Some (any_cell_at v p) else None) false

shown_alike : (font : List ℕ) (d : ListDefinition) (v : View) (g h : Grid) (p : Point) → rect_holds (view_rect v) p ≡ true → IsSameCell g h (any_cell_at v p) → list_shown font d v h p ≡ list_shown font d v g p
shown_alike font d v g h p inside same = by_test (is_before g.columns g.rows (any_cell_at v p)) refl
  where
    by_test : (b : Bool) → is_before g.columns g.rows (any_cell_at v p) ≡ b → list_shown font d v h p ≡ list_shown font d v g p
    by_test false e = shown_at font d v h p false inside (same.there ∙ e) ∙ sym (shown_at font d v g p false inside e)
    by_test true e =
        shown_at font d v h p true inside (same.there ∙ e)
        ∙ ap (λ (x : Content). cell_bit d x.selected font x.bytes (in_cell v (any_cell_at v p) p)) (same.content e)
        ∙ sym (shown_at font d v g p true inside e)

-- a list that was given other cells shows what it showed where its cell is the same at each point of the view
cells_outside : (within : Rect) (x : KeptList) (g : Grid → Grid)
    → ((p : Point) → rect_holds (view_rect x.kept.view) p ≡ true → rect_holds within p ≡ false → IsSameCell x.kept.cells (g x.kept.cells) (any_cell_at x.kept.view p))
    → IsSameOutside within x (with_grid g x)
cells_outside within x g same font p out = by_view (rect_holds (view_rect x.kept.view) p) refl
  where
    by_view : (b : Bool) → rect_holds (view_rect x.kept.view) p ≡ b → list_shown font x.kept.definition.definition x.kept.view (g x.kept.cells) p ≡ list_shown font x.kept.definition.definition x.kept.view x.kept.cells p
    by_view false e = nothing_outside font x.kept.definition.definition x.kept.view (g x.kept.cells) p e ∙ sym (nothing_outside font x.kept.definition.definition x.kept.view x.kept.cells p e)
    by_view true e = shown_alike font x.kept.definition.definition x.kept.view x.kept.cells (g x.kept.cells) p e (same p e out)

-- ---- the cells before lines that were added or deleted

less_than : (z : ℤ) (n m : ℕ) → z <ℤ pos n → n ≤ m → int_lt z (pos m) ≡ true
less_than z n m l k = grind (arith, ints)

lies_below : (z : ℤ) (n : ℕ) → int_lt z (pos n) ≡ true → z <ℤ pos n
lies_below z n e = grind (arith, ints, e)

number_below : (z : ℤ) (n : ℕ) → pos 0 ≤ℤ z → z <ℤ pos n → nat_abs z < n
number_below (pos m) n s l = omega (arith, ints)
number_below (negsuc m) n s l = absurd (omega (arith, ints))

-- a cell in the quarter where there are cells
record IsCounted (c : Cell) : Type 0 where
  pub column : pos 0 ≤ℤ c.column
  pub row : pos 0 ≤ℤ c.row

counted_at : (v : View) (p : Point) → IsView v → rect_holds (view_rect v) p ≡ true → IsCounted (any_cell_at v p)
counted_at v p is has =
    let sides = sides_of (view_rect v) p has in
    record {
      column = line_at_counted v.across v.first.column p.h is.across sides.left is.first.column;
      row = line_at_counted v.down v.first.row p.v is.down sides.top is.first.row;
    }

row_added_below : (g : Grid) (at n : ℕ) (c : Cell) → IsGrid g → at ≤ g.rows → IsCounted c → c.row <ℤ pos at → IsSameCell g (rows_added at n g) c
row_added_below g at n c is low counted above = record {
  there = λ i. int_lt c.column (pos g.columns) && (less_than c.row at (g.rows + n) above (omega arith) ∙ sym (less_than c.row at g.rows above low)) i;
  content = λ e.
      let both = and_parts (int_lt c.column (pos g.columns)) (int_lt c.row (pos g.rows)) e in
      row_above_kept g at n (nat_abs c.row) (nat_abs c.column) is low (number_below c.row at counted.row above)
      (number_below c.column g.columns counted.column (lies_below c.column g.columns both.0));
}

row_deleted_below : (g : Grid) (at n : ℕ) (c : Cell) → IsGrid g → at + n ≤ g.rows → IsCounted c → c.row <ℤ pos at → IsSameCell g (rows_deleted at n g) c
row_deleted_below g at n c is low counted above = record {
  there = λ i. int_lt c.column (pos g.columns) && (less_than c.row at (g.rows - n) above (omega arith) ∙ sym (less_than c.row at g.rows above (omega arith))) i;
  content = λ e.
      let both = and_parts (int_lt c.column (pos g.columns)) (int_lt c.row (pos g.rows)) e in
      row_above_stays g at n (nat_abs c.row) (nat_abs c.column) is (omega arith) (number_below c.row at counted.row above)
      (number_below c.column g.columns counted.column (lies_below c.column g.columns both.0));
}

column_added_right : (g : Grid) (at n : ℕ) (c : Cell) → IsGrid g → at ≤ g.columns → IsCounted c → c.column <ℤ pos at → IsSameCell g (columns_added at n g) c
column_added_right g at n c is low counted left = record {
  there = λ i. (less_than c.column at (g.columns + n) left (omega arith) ∙ sym (less_than c.column at g.columns left low)) i && int_lt c.row (pos g.rows);
  content = λ e.
      let both = and_parts (int_lt c.column (pos g.columns)) (int_lt c.row (pos g.rows)) e in
      column_left_kept g at n (nat_abs c.row) (nat_abs c.column) is low (number_below c.row g.rows counted.row (lies_below c.row g.rows both.1))
      (number_below c.column at counted.column left);
}

column_deleted_right : (g : Grid) (at n : ℕ) (c : Cell) → IsGrid g → at + n ≤ g.columns → IsCounted c → c.column <ℤ pos at → IsSameCell g (columns_deleted at n g) c
column_deleted_right g at n c is low counted left = record {
  there = λ i. (less_than c.column at (g.columns - n) left (omega arith) ∙ sym (less_than c.column at g.columns left (omega arith))) i && int_lt c.row (pos g.rows);
  content = λ e.
      let both = and_parts (int_lt c.column (pos g.columns)) (int_lt c.row (pos g.rows)) e in
      column_left_stays g at n (nat_abs c.row) (nat_abs c.column) is low (number_below c.row g.rows counted.row (lies_below c.row g.rows both.1))
      (number_below c.column at counted.column left);
}

-- ---- which line is the first that changes

-- there is no line of a higher number than 4095 before which lines may be added
added_low : (lines across : ℕ) (n before : ℤ) → first_refusal (add_refusals lines across n before) ≡ None → place_to_add lines before ≤ 4095
added_low lines across n before none = let may = may_add lines across n before none in omega (arith, may.some, may.lines_within)

-- lines are deleted from one on that there is
record IsOne (lines : ℕ) (first : ℤ) : Type 0 where
  pub number : first ≡ pos (nat_abs first)
  pub few : nat_abs first < lines

as_number : (z : ℤ) → int_le (pos 0) z ≡ true → z ≡ pos (nat_abs z)
as_number (pos n) e = refl
as_number (negsuc n) e = absurd (grind (arith, ints, e))

deleted_from : (lines : ℕ) (n first : ℤ) → first_refusal (delete_refusals lines n first) ≡ None → IsOne lines first
unfolding delete_refusals
deleted_from lines n first none =
    let place = none_hold (not (int_le (pos 0) first && int_lt first (pos lines))) NoSuchCell ((not (is_count n), OutOfRange) ∷ []) none in
    let both = not-false (int_le (pos 0) first && int_lt first (pos lines)) place.0 in
    record { number = as_number first (and_parts (int_le (pos 0) first) (int_lt first (pos lines)) both).0; few = number_in first lines both }

-- its number is at least 0, and at most 4095
pub deleted_least : (lines : ℕ) (n first : ℤ) → first_refusal (delete_refusals lines n first) ≡ None → pos 0 ≤ℤ first
deleted_least lines n first none = let one = deleted_from lines n first none in let number = one.number in omega (arith, ints, number)

deleted_low : (lines : ℕ) (n first : ℤ) → lines ≤ 4096 → first_refusal (delete_refusals lines n first) ≡ None → nat_abs first ≤ 4095
deleted_low lines n first l none = let one = deleted_from lines n first none in omega (arith, l, one.few)

pub edit_low : (change : LineChange) (axis : LineAxis) (n : ListLines) (g : Grid) → IsGrid g → first_refusal (refusals_of change axis n g) ≡ None → first_changed change axis n g ≤ 4095
edit_low Add Rows n g is none = added_low g.rows g.columns n.count n.at none
edit_low Add Columns n g is none = added_low g.columns g.rows n.count n.at none
edit_low Delete Rows n g is none = deleted_low g.rows n.count n.at is.rows_within none
edit_low Delete Columns n g is none = deleted_low g.columns n.count n.at is.columns_within none

-- ---- what an edit leaves of what the list showed

edit_before : (change : LineChange) (axis : LineAxis) (n : ListLines) (g : Grid) (c : Cell) → IsGrid g → first_refusal (refusals_of change axis n g) ≡ None → IsCounted c
    → line_of axis c <ℤ pos (first_changed change axis n g) → IsSameCell g (changed_by change axis n g) c
edit_before Add Rows n g c is none counted before = row_added_below g (place_to_add g.rows n.at) (nat_abs n.count) c is (omega arith) counted before
edit_before Add Columns n g c is none counted before = column_added_right g (place_to_add g.columns n.at) (nat_abs n.count) c is (omega arith) counted before
edit_before Delete Rows n g c is none counted before = row_deleted_below g (nat_abs n.at) (count_to_delete g.rows n.count n.at) c is (may_delete g.rows n.count n.at none).within counted before
edit_before Delete Columns n g c is none counted before = column_deleted_right g (nat_abs n.at) (count_to_delete g.columns n.count n.at) c is (may_delete g.columns n.count n.at none).within counted before

-- where a list is scrolled back its view lies where it lay
back_inside : (change : LineChange) (x : KeptList) → view_rect (scrolled_after change x).kept.view ≡ view_rect x.kept.view
back_inside Add x = refl
back_inside Delete x = refl

pub edit_outside : (e : LineEdit) (within : Rect) (x : KeptList) (scrolled : Bool) → IsSettledList x → first_refusal (edit_refusals e x.kept.cells) ≡ None
    → AreLinesFrom e.axis scrolled x.kept.view (pos (first_line e x.kept.cells)) within → IsSameOrNot scrolled (with_edit e x) (with_grid (edited e) x) → IsSameOutside within x (with_edit e x)
edit_outside e within x true its none from other = view_outside within x (with_edit e x) from (back_inside e.change (with_grid (edited e) x))
edit_outside e within x false its none from same =
    subst (IsSameOutside within x) (sym same)
    (cells_outside within x (edited e)
    (λ p has out. edit_before e.change e.axis e.lines x.kept.cells (any_cell_at x.kept.view p) its.grid none (counted_at x.kept.view p its.view has) (from p has out)))
