-- What a list shows in its window.
use Rattle.std.specs.Prelude.{ℕ, false, ◌&&◌, List}
use Rattle.std.specs.Option.{option_map_or}
use Rattle.tb_geom.specs.declared.point.Point.{Point}
use Rattle.tb_geom.specs.Points.{PixelSet, minus}
use Rattle.def_iface.specs.ListMeaning.{ListDefinition, no_list_news, cell_bit}
use Rattle.list_cells.specs.declared.cell.Cell.{Cell}
use Rattle.list_cells.specs.Grids.{Grid, content_of}
use Rattle.list_cells.specs.Selections.{is_toggled}
use Rattle.list_view.specs.Views.{View, cell_corner, cell_at}

-- the point of the window in a cell's own coordinates
abbrev pub in_cell : View → Cell → Point → Point
in_cell v c p = minus p (cell_corner v c)

-- what a cell shows at a point of the window
abbrev pub cell_shown : List ℕ → ListDefinition → View → Grid → Cell → PixelSet
cell_shown font d v g c p = cell_bit d (content_of g c).selected font (content_of g c).bytes (in_cell v c p)

-- what the list shows at a point of the window: what the cell shows that lies there, and white where none does
abbrev pub list_shown : List ℕ → ListDefinition → View → Grid → PixelSet
list_shown font d v g p = option_map_or (λ c. cell_shown font d v g c p) (cell_at g.columns g.rows v p) false

-- whether a call turns what the list shows at a point of the window: the cell that lies there is selected before it or after
-- it, and not both, and the highlight of the cell's bytes has the point
abbrev pub is_turned : List ℕ → ListDefinition → View → Grid → Grid → PixelSet
is_turned font d v before after p =
    option_map_or (λ c. is_toggled before after c && d.highlight no_list_news font (content_of before c).bytes (in_cell v c p)) (cell_at before.columns before.rows v p) false
