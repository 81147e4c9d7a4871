-- A view of a list, and the cells in it.
use Rattle.std.specs.Prelude.{ℕ, ℤ, pos, Bool, ◌&&◌, int_lt, if◌then◌else◌, Option, Some, None}
use Rattle.tb_geom.specs.declared.point.Point.{Point}
use Rattle.tb_geom.specs.declared.rect.Rect.{Rect}
use Rattle.tb_geom.specs.Rects.{rect_holds, is_empty_rect, empty_rect, shared_rect}
use Rattle.list_cells.specs.declared.cell.Cell.{Cell}
use Rattle.list_view.specs.declared.axis.Axis.{Axis}
use Rattle.list_view.specs.Axes.{IsAxis, IsLine, end_of, scrolled_line, line_start, line_end, line_at, lines_end}

-- the view across and down, and the cell in its top left corner
pub record View : Type 0 where
  pub across : Axis
  pub down : Axis
  pub first : Cell

-- a cell that a list may have
pub record IsCell (c : Cell) : Type 0 where
  pub column : IsLine c.column
  pub row : IsLine c.row

pub record IsView (v : View) : Type 0 where
  pub across : IsAxis v.across
  pub down : IsAxis v.down
  pub first : IsCell v.first

-- the view before it is scrolled
abbrev pub new_view : Axis → Axis → View
new_view across down = record { across = across; down = down; first = record { column = pos 0; row = pos 0 } }

-- the view of so many columns and rows, scrolled by some columns and rows
abbrev pub scrolled : ℕ → ℕ → ℤ → ℤ → View → View
scrolled columns rows across down v = record v {
  first = record {
    column = scrolled_line v.across columns v.first.column across;
    row = scrolled_line v.down rows v.first.row down;
  };
}

-- its rectangle
abbrev pub view_rect : View → Rect
view_rect v = record { left = v.across.start; top = v.down.start; right = end_of v.across; bottom = end_of v.down }

-- the top left corner of a cell, also where it lies outside of the view
abbrev pub cell_corner : View → Cell → Point
cell_corner v c = record { h = line_start v.across v.first.column c.column; v = line_start v.down v.first.row c.row }

-- the rectangle of a cell, also where it lies outside of the view
abbrev pub whole_cell : View → Cell → Rect
whole_cell v c = record {
  left = line_start v.across v.first.column c.column;
  top = line_start v.down v.first.row c.row;
  right = line_end v.across v.first.column c.column;
  bottom = line_end v.down v.first.row c.row;
}

-- what two rectangles share; 0 0 0 0 where that is nothing
unfoldable pub common_rect : Rect → Rect → Rect
common_rect r s = if is_empty_rect (shared_rect r s) then empty_rect else shared_rect r s

-- the rectangle of a cell, cut to the view
abbrev pub cell_rect : View → Cell → Rect
cell_rect v c = common_rect (view_rect v) (whole_cell v c)

-- the cell at a point of the view, whether or not the list has one there
abbrev pub any_cell_at : View → Point → Cell
any_cell_at v p = record { column = line_at v.across v.first.column p.h; row = line_at v.down v.first.row p.v }

-- whether a cell lies before so many columns and rows
abbrev pub is_before : ℕ → ℕ → Cell → Bool
is_before columns rows c = int_lt c.column (pos columns) && int_lt c.row (pos rows)

-- the cell of so many columns and rows that shows at a point
unfoldable pub cell_at : ℕ → ℕ → View → Point → Option Cell
cell_at columns rows v p = if rect_holds (view_rect v) p && is_before columns rows (any_cell_at v p) then Some (any_cell_at v p) else None

-- the first of so many columns, and of so many rows, past those that show at least in part
abbrev pub columns_end : ℕ → View → ℕ
columns_end columns v = lines_end v.across columns v.first.column

abbrev pub rows_end : ℕ → View → ℕ
rows_end rows v = lines_end v.down rows v.first.row
