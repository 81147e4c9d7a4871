-- Cells, drawn one after another.
use Rattle.std.specs.Prelude.{◌≡◌, ℕ, pos, Bool, true, false, ◌&&◌, List, length, map}
use Rattle.std.specs.List.{range_with_len}
use Rattle.std.specs.Option.{option_map_or}
use Rattle.std.specs.Ordering.{int_eq}
use Rattle.tb_geom.specs.declared.point.Point.{Point}
use Rattle.tb_geom.specs.Points.{PixelSet}
use Rattle.bit_map.specs.Bits.{Bits}
use Rattle.bit_blit.specs.Draws.{Draws}
use Rattle.draw_port.specs.declared.canvas.Canvas.{Canvas}
use Rattle.draw_port.specs.Canvases.{canvas_holds, canvas_point}
use Rattle.def_iface.specs.declared.window_def.Stage.TheVariants.{Live}
use Rattle.def_iface.specs.ControlMeaning.{is_control_size}
use Rattle.def_iface.specs.ListMeaning.{ListDefinition}
use Rattle.list_cells.specs.declared.cell.Cell.{Cell}
use Rattle.list_cells.specs.declared.selecting.Selecting.{Selecting}
use Rattle.list_cells.specs.Blocks.{content_at}
use Rattle.list_cells.specs.Grids.{Grid}
use Rattle.list_cells.specs.Selections.{content_after}
use Rattle.list_view.specs.Views.{View, cell_at}
use Rattle.list_view.specs.Shown.{in_cell}

-- a definition can draw cells: it is live, and was told a size that a cell may have
pub record IsReady (d : ListDefinition) : Type 0 where
  pub live : d.stage ≡ Live
  pub told : is_control_size d.size ≡ true

-- the list after a call that makes this of the selection
abbrev pub selected_as : Selecting → Grid → Grid
selected_as s g = record g { contents = map (λ k. content_after g.columns s k (content_at g.contents k)) (range_with_len 0 (length g.contents)) }

-- what is made of the bit d at a point of a cell, in the cell's own coordinates
abbrev pub CellValue : Type 0
CellValue = Cell → Point → Bool → Bool

-- what of it is made at a point of the window, where the cell is the one that shows there
abbrev pub shown_value : CellValue → View → Grid → Point → Bool → Bool
shown_value value v g p d = option_map_or (λ c. value c (in_cell v c p) d) (cell_at g.columns g.rows v p) d

-- whether a cell of a kind shows at a point of the window
abbrev pub shows_some : (Cell → Bool) → View → Grid → PixelSet
shows_some is v g p = option_map_or is (cell_at g.columns g.rows v p) false

-- whether a cell is in a row
abbrev pub is_in_row : ℕ → Cell → Bool
is_in_row row c = int_eq c.row (pos row)

-- on a canvas of the window, the cells of a kind were drawn, each where it shows, and nothing else
abbrev pub AreDrawn : Canvas → (List ℕ → CellValue) → View → Grid → (Cell → Bool) → Bits → Bits → Type 0
AreDrawn c value v g is old new =
    Draws (λ p. canvas_holds c p && shows_some is v g (canvas_point c p)) (λ p d. shown_value (value c.font.now) v g (canvas_point c p) d) old new
