-- Lemmas behind the laws.
use Rattle.std.proofs.Common.{◌≡◌, ◌↔◌, Bool, true, false, ◌&&◌, ℕ, ◌≤◌, ℤ, pos, ◌≤ℤ◌, refl, sym, ap, ◌∙◌, arith, if◌then◌else◌, Some, None}
use Rattle.std.proofs.lemmas.Bool.{true≢false, and_parts}
use Rattle.std.specs.Prelude.{int_le, int_lt, Option, is_some, unwrap_or}
use Rattle.std.proofs.lemmas.Int.{ints}
use Rattle.tb_geom.specs.declared.point.Point.{Point}
use Rattle.tb_geom.specs.declared.rect.Rect.{Rect}
use Rattle.tb_geom.specs.Rects.{rect_holds, is_empty_rect, empty_rect, shared_rect}
use Rattle.tb_geom.proofs.RectLemmas.{holds_none, holds_in, sides_of, holds-shared}
use Rattle.list_cells.specs.declared.cell.Cell.{Cell}
use Rattle.list_cells.specs.Grids.{Grid, IsGrid, is_cell}
use Rattle.list_view.specs.Axes.{IsLine}
use Rattle.list_view.specs.Views.{View, IsView, IsCell, view_rect, whole_cell, common_rect, cell_rect, any_cell_at, is_before, cell_at}
use Rattle.list_view.proofs.LineLemmas.{line_is, lies_in_line, line_at_counted}

-- ---- rectangles

-- what two rectangles share has the pixels of both
pub common_holds : (r s : Rect) (p : Point) → rect_holds (common_rect r s) p ≡ (rect_holds r p && rect_holds s p)
unfolding common_rect
common_holds r s p = by_value (is_empty_rect (shared_rect r s)) refl
  where
    by_value : (b : Bool) → is_empty_rect (shared_rect r s) ≡ b → rect_holds (if b then empty_rect else shared_rect r s) p ≡ (rect_holds r p && rect_holds s p)
    by_value true e = holds_none empty_rect refl p ∙ sym (holds_none (shared_rect r s) e p) ∙ holds-shared r s p
    by_value false e = holds-shared r s p

-- a point lies in the view and in a cell
pub record IsIn (v : View) (c : Cell) (p : Point) : Type 0 where
  pub view : rect_holds (view_rect v) p ≡ true
  pub cell : rect_holds (whole_cell v c) p ≡ true

pub is_in : (v : View) (c : Cell) (p : Point) → rect_holds (cell_rect v c) p ≡ true → IsIn v c p
is_in v c p e =
    let both = and_parts (rect_holds (view_rect v) p) (rect_holds (whole_cell v c) p) (sym (common_holds (view_rect v) (whole_cell v c) p) ∙ e) in
    record { view = both.0; cell = both.1 }

-- ---- cells and points

same_cell : (c d : Cell) → c.column ≡ d.column → c.row ≡ d.row → c ≡ d
same_cell c d column row = λ i. record { column = column i; row = row i }

-- the cell at a point is the one that holds it
pub holder_is : (v : View) (c : Cell) (p : Point) → IsView v → rect_holds (cell_rect v c) p ≡ true → c ≡ any_cell_at v p
holder_is v c p h e =
    let inside = is_in v c p e in
    let view = sides_of (view_rect v) p inside.view in
    let cell = sides_of (whole_cell v c) p inside.cell in
    same_cell c (any_cell_at v p)
    (line_is v.across v.first.column c.column p.h h.across view.left (record { after = cell.left; before = cell.right }))
    (line_is v.down v.first.row c.row p.v h.down view.top (record { after = cell.top; before = cell.bottom }))

-- and it holds it
any_cell_holds : (v : View) (p : Point) → IsView v → rect_holds (view_rect v) p ≡ true → rect_holds (cell_rect v (any_cell_at v p)) p ≡ true
any_cell_holds v p h e =
    let view = sides_of (view_rect v) p e in
    let across = lies_in_line v.across v.first.column p.h h.across view.left in
    let down = lies_in_line v.down v.first.row p.v h.down view.top in
    common_holds (view_rect v) (whole_cell v (any_cell_at v p)) p
    ∙ (λ i. e i && holds_in (whole_cell v (any_cell_at v p)) p across.after across.before down.after down.before i)

pub one_holder : (v : View) (c d : Cell) (p : Point) → IsView v → rect_holds (cell_rect v c) p ≡ true → rect_holds (cell_rect v d) p ≡ true → c ≡ d
one_holder v c d p h e f = holder_is v c p h e ∙ sym (holder_is v d p h f)

-- what a point finds lies in the view, before the last column and the last row, and is the cell at the point
record IsFound (columns rows : ℕ) (v : View) (p : Point) (c : Cell) : Type 0 where
  pub view : rect_holds (view_rect v) p ≡ true
  pub before : is_before columns rows (any_cell_at v p) ≡ true
  pub place : any_cell_at v p ≡ c

found : (columns rows : ℕ) (v : View) (p : Point) (c : Cell) → cell_at columns rows v p ≡ Some c → IsFound columns rows v p c
unfolding cell_at
found columns rows v p c e = by_value (rect_holds (view_rect v) p && is_before columns rows (any_cell_at v p)) refl e
  where
    by_value : (b : Bool) → (rect_holds (view_rect v) p && is_before columns rows (any_cell_at v p)) ≡ b → (if b then Some (any_cell_at v p) else None) ≡ Some c → IsFound columns rows v p c
    by_value true f g =
        let both = and_parts (rect_holds (view_rect v) p) (is_before columns rows (any_cell_at v p)) f in
        record { view = both.0; before = both.1; place = ap (λ (o : Option Cell). unwrap_or o c) g }
    by_value false f g = absurd (true≢false (sym (ap (λ (o : Option Cell). is_some o) g)))

finds : (columns rows : ℕ) (v : View) (p : Point) (c : Cell) → rect_holds (view_rect v) p ≡ true → is_before columns rows c ≡ true → c ≡ any_cell_at v p → cell_at columns rows v p ≡ Some c
unfolding cell_at
finds columns rows v p c view before place =
    let before_any : is_before columns rows (any_cell_at v p) ≡ true = ap (is_before columns rows) (sym place) ∙ before in
    (λ i. if view i && before_any i then Some (any_cell_at v p) else None) ∙ ap (λ (d : Cell). Some d) (sym place)

-- the numbers of a cell of a list
record IsListed (list : Grid) (c : Cell) : Type 0 where
  pub column : int_le (pos 0) c.column ≡ true
  pub before_column : int_lt c.column (pos list.columns) ≡ true
  pub row : int_le (pos 0) c.row ≡ true
  pub before_row : int_lt c.row (pos list.rows) ≡ true

is_listed : (list : Grid) (c : Cell) → is_cell list c ≡ true → IsListed list c
is_listed list c e =
    let both = and_parts (int_le (pos 0) c.column && int_lt c.column (pos list.columns)) (int_le (pos 0) c.row && int_lt c.row (pos list.rows)) e in
    let column = and_parts (int_le (pos 0) c.column) (int_lt c.column (pos list.columns)) both.0 in
    let row = and_parts (int_le (pos 0) c.row) (int_lt c.row (pos list.rows)) both.1 in
    record { column = column.0; before_column = column.1; row = row.0; before_row = row.1 }

line_of : (z : ℤ) (n : ℕ) → n ≤ 4096 → int_le (pos 0) z ≡ true → int_lt z (pos n) ≡ true → IsLine z
line_of z n few l m = record { least = grind (arith, ints); most = grind (arith, ints) }

pub cell_of_list : (list : Grid) (c : Cell) → IsGrid list → is_cell list c ≡ true → IsCell c
cell_of_list list c grid e =
    let is = is_listed list c e in
    record {
      column = line_of c.column list.columns grid.columns_within is.column is.before_column;
      row = line_of c.row list.rows grid.rows_within is.row is.before_row;
    }

pub holder_is_found : (v : View) (list : Grid) (c : Cell) (p : Point) → IsView v → is_cell list c ≡ true
    → (cell_at list.columns list.rows v p ≡ Some c) ↔ (rect_holds (cell_rect v c) p ≡ true)
holder_is_found v list c p h cell = (
  λ e.
      let is = found list.columns list.rows v p c e in
      ap (λ (d : Cell). rect_holds (cell_rect v d) p) (sym is.place) ∙ any_cell_holds v p h is.view,
  λ e.
      let inside = is_in v c p e in
      let is = is_listed list c cell in
      finds list.columns list.rows v p c inside.view (λ i. is.before_column i && is.before_row i) (holder_is v c p h e),
)

counted : (z : ℤ) → pos 0 ≤ℤ z → int_le (pos 0) z ≡ true
counted z l = grind (arith, ints)

pub found_is_cell : (v : View) (list : Grid) (c : Cell) (p : Point) → IsView v → cell_at list.columns list.rows v p ≡ Some c → is_cell list c ≡ true
found_is_cell v list c p h e =
    let is = found list.columns list.rows v p c e in
    let view = sides_of (view_rect v) p is.view in
    let column = line_at_counted v.across v.first.column p.h h.across view.left h.first.column in
    let row = line_at_counted v.down v.first.row p.v h.down view.top h.first.row in
    let before = and_parts (int_lt (any_cell_at v p).column (pos list.columns)) (int_lt (any_cell_at v p).row (pos list.rows)) is.before in
    ap (is_cell list) (sym is.place)
    ∙ (λ i. (counted (any_cell_at v p).column column i && before.0 i) && (counted (any_cell_at v p).row row i && before.1 i))
