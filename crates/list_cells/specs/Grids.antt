-- The cells of a list, by rows.
use Rattle.std.specs.Prelude.{◌≡◌, ◌≤◌, ℕ, ◌+◌, ◌*◌, ◌-◌, pos, nat_abs, Bool, ◌&&◌, ◌||◌, not, nat_lt, int_le, int_lt, slice_set, drop, Option, Some, None, true, false, if◌then◌else◌, ◌/◌, ◌%◌, ◌∷◌, [], List, length, replicate, slice_index_or}
use Rattle.std.specs.List.{position_from}
use Rattle.std.specs.Option.{option_map, option_or}
use Rattle.list_cells.specs.Contents.{Content, empty_content, bytes_held, deselected_contents, opened, closed, in_rows}
use Rattle.tb_geom.specs.declared.refusal.Refusal.{Refusal}
use Rattle.tb_geom.specs.declared.refusal.Refusal.TheVariants.{NoSuchCell, TooLong}
use Rattle.list_cells.specs.Cells.{right_of, below, next_row}
use Rattle.list_cells.specs.declared.cell.Cell.{Cell}

-- how many columns and rows there are, and what the cells hold: first those of row 0, from column 0 on
pub record Grid : Type 0 where
  pub columns : ℕ
  pub rows : ℕ
  pub contents : List Content

-- there is a cell for each column and row, there are no more than may be, and together they hold no more bytes than they may
pub record IsGrid (g : Grid) : Type 0 where
  pub shape : length g.contents ≡ g.rows * g.columns
  pub columns_within : g.columns ≤ 4096
  pub rows_within : g.rows ≤ 4096
  pub cells_within : length g.contents ≤ 4096
  pub bytes_within : bytes_held g.contents ≤ 32000

-- whether a cell is one of the list's
abbrev pub is_cell : Grid → Cell → Bool
is_cell g c = (int_le (pos 0) c.column && int_lt c.column (pos g.columns)) && (int_le (pos 0) c.row && int_lt c.row (pos g.rows))

-- the place of a cell
abbrev pub place_of : Grid → Cell → ℕ
place_of g c = nat_abs c.row * g.columns + nat_abs c.column

-- what a cell holds
abbrev pub content_of : Grid → Cell → Content
content_of g c = slice_index_or g.contents (place_of g c) empty_content

-- n empty rows more, before the row at a place
abbrev pub rows_added : ℕ → ℕ → Grid → Grid
rows_added at n g = record g { rows = g.rows + n; contents = opened (at * g.columns) (n * g.columns) g.contents }

-- without the n rows from one on
abbrev pub rows_deleted : ℕ → ℕ → Grid → Grid
rows_deleted at n g = record g { rows = g.rows - n; contents = closed (at * g.columns) (n * g.columns) g.contents }

-- n empty columns more, before the column at a place: each row is widened
abbrev pub columns_added : ℕ → ℕ → Grid → Grid
columns_added at n g = record g { columns = g.columns + n; contents = in_rows g.columns (opened at n) g.rows g.contents }

-- without the n columns from one on: each row is narrowed
abbrev pub columns_deleted : ℕ → ℕ → Grid → Grid
columns_deleted at n g = record g { columns = g.columns - n; contents = in_rows g.columns (closed at n) g.rows g.contents }

-- empty cells in so many columns and rows
abbrev pub empty_grid : ℕ → ℕ → Grid
empty_grid columns rows = record { columns = columns; rows = rows; contents = replicate (rows * columns) empty_content }

-- with another content in a cell
abbrev pub with_content : Grid → Cell → Content → Grid
with_content g c content = record g { contents = slice_set g.contents (place_of g c) content }

-- with other data in a cell
abbrev pub with_bytes : Grid → Cell → List ℕ → Grid
with_bytes g c bytes = with_content g c (record (content_of g c) { bytes = bytes })

-- with a cell selected or not
abbrev pub with_selection : Grid → Cell → Bool → Grid
with_selection g c selected = with_content g c (record (content_of g c) { selected = selected })

-- whether a text is too long for a cell whose data it follows, once so much of that is gone: texts have at most 255 bytes,
-- and all cells together 32000
abbrev pub is_too_long : Grid → ℕ → ℕ → Bool
is_too_long g gone n = nat_lt 255 n || nat_lt 32000 (bytes_held g.contents - gone + n)

-- why a cell is not given n bytes, in the written order, once so many of its own are gone
unfoldable pub data_refusals : Grid → Cell → ℕ → ℕ → List (Bool × Refusal)
data_refusals g c gone n = (not (is_cell g c), NoSuchCell) ∷ (is_too_long g gone n, TooLong) ∷ []

-- no cell selected
abbrev pub deselected : Grid → Grid
deselected g = record g { contents = deselected_contents g.contents }

-- the cell at a place
abbrev pub cell_of : Grid → ℕ → Cell
cell_of g place = record { column = pos (place % g.columns); row = pos (place / g.columns) }

-- the first cell of which a test holds, from one on, by rows
abbrev pub first_from : (Content → Bool) → Grid → Cell → Option Cell
first_from test g c = option_map (λ far. cell_of g (place_of g c + far)) (position_from test 0 (drop (place_of g c) g.contents))

-- why a text of n bytes is not searched from a cell on, in the written order
unfoldable pub search_refusals : Grid → Cell → ℕ → List (Bool × Refusal)
search_refusals g c n = (not (is_cell g c), NoSuchCell) ∷ (nat_lt 255 n, TooLong) ∷ []

-- a cell, where the list has it
abbrev pub present : Grid → Cell → Option Cell
present g c = if is_cell g c then Some c else None

-- the cell that follows one: by rows, in its row, in its column, or none
abbrev pub next_cell : Grid → Bool → Bool → Cell → Option Cell
next_cell g true true c = option_or (present g (right_of c)) (present g (next_row c))
next_cell g true false c = present g (right_of c)
next_cell g false true c = present g (below c)
next_cell g false false c = None
