-- Blocks of cells, and what a click does to the selection of all cells.
use Rattle.std.specs.Prelude.{◌≡◌, ◌<◌, ◌≤◌, ℕ, ◌/◌, ◌%◌, Bool, true, false, not, ◌&&◌, nat_le, min, max, List, length, map, slice_index_or, slice_set}
use Rattle.std.specs.List.{filter, fold, range_with_len}
use Rattle.list_cells.specs.Contents.{Content, empty_content, deselected_contents}
use Rattle.list_cells.specs.declared.block.Block.{Block}
use Rattle.list_cells.specs.declared.click.Click.{Click}
use Rattle.list_cells.specs.declared.click.Click.TheVariants.{SelectsAlone, Toggles, Deselects, Extends}
use Rattle.list_cells.specs.declared.cell.Cell.{Cell}
use Rattle.list_cells.specs.declared.click.ClickKeys.{ClickKeys}
use Rattle.list_cells.specs.declared.click.SelectionFlags.{SelectionFlags}
use Rattle.list_cells.specs.Clicks.{click_of}
use Rattle.list_cells.specs.Grids.{Grid, content_of, place_of}

-- what the cell at a place holds, and whether it is selected
abbrev pub content_at : List Content → ℕ → Content
content_at cells place = slice_index_or cells place empty_content

-- the block of the cell at a place, where there are so many columns
abbrev pub block_at : ℕ → ℕ → Block
block_at columns place = record { first_column = place % columns; last_column = place % columns; first_row = place / columns; last_row = place / columns }

-- the smallest block that holds a block and the cell at a place
abbrev pub with_place : ℕ → Block → ℕ → Block
with_place columns b place = record {
  first_column = min b.first_column (place % columns);
  last_column = max b.last_column (place % columns);
  first_row = min b.first_row (place / columns);
  last_row = max b.last_row (place / columns);
}

-- whether a block holds the cell at a place
abbrev pub is_in : ℕ → Block → ℕ → Bool
is_in columns b place = (nat_le b.first_column (place % columns) && nat_le (place % columns) b.last_column) && (nat_le b.first_row (place / columns) && nat_le (place / columns) b.last_row)

-- the places of the selected cells
abbrev pub selected_places : List Content → List ℕ
selected_places cells = filter (λ k. (content_at cells k).selected) (range_with_len 0 (length cells))

-- the smallest block that holds the cell at a place and all selected ones
unfoldable pub smallest : ℕ → List Content → ℕ → Block
smallest columns cells place = fold (with_place columns) (block_at columns place) (selected_places cells)

-- with the cells of a block selected, and no others
unfoldable pub with_block : ℕ → Block → List Content → List Content
with_block columns b cells = map (λ k. record (content_at cells k) { selected = is_in columns b k }) (range_with_len 0 (length cells))

-- with the cell at a place selected or not, and the others as they are
abbrev pub with_selected : ℕ → Bool → List Content → List Content
with_selected place selected cells = slice_set cells place (record (content_at cells place) { selected = selected })

-- what a click on the cell at a place makes of cells in so many columns
unfoldable pub clicked : Click → ℕ → ℕ → List Content → List Content
clicked SelectsAlone columns place cells = with_selected place true (deselected_contents cells)
clicked Toggles columns place cells = with_selected place (not (content_at cells place).selected) cells
clicked Deselects columns place cells = with_selected place false cells
clicked Extends columns place cells = with_block columns (smallest columns cells place) cells

-- what a click with some keys on a cell makes of a list
abbrev pub clicked_cell : SelectionFlags → ClickKeys → Cell → Grid → Grid
clicked_cell flags keys c g = record g { contents = clicked (click_of flags keys (content_of g c).selected) g.columns (place_of g c) g.contents }

-- the cell at a place passes a test, and none does that lies before it, from a place on
pub record IsFirst (test : Content → Bool) (g : Grid) (from found : ℕ) : Type 0 where
  pub passes : test (content_at g.contents found) ≡ true
  pub behind : from ≤ found
  pub none_before : (k : ℕ) → from ≤ k → k < found → test (content_at g.contents k) ≡ false
