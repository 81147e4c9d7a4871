-- Cells beside a cell.
use Rattle.std.specs.Prelude.{pos, ◌+ℤ◌}
use Rattle.list_cells.specs.declared.cell.Cell.{Cell}

-- the cell to the right of one, the one below, and the first of the row below
abbrev pub right_of : Cell → Cell
right_of c = record c { column = c.column +ℤ pos 1 }

abbrev pub below : Cell → Cell
below c = record c { row = c.row +ℤ pos 1 }

abbrev pub next_row : Cell → Cell
next_row c = record { column = pos 0; row = c.row +ℤ pos 1 }
