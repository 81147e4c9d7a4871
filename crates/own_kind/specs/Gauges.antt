-- The gauge as plain data: a kind of list each of whose cells shows a bar. How wide it is, the first byte of the cell says. Where
-- the cell is selected, a frame stands around the bar. Rectangles are box left top right bottom, local to the cell.
use Rattle.std.specs.Prelude.{ℕ, ◌%◌, Bool, true, ◌&&◌, List, [], ◌∷◌, pos, ◌+ℤ◌, ◌-ℤ◌}
use Rattle.std.specs.Option.{unwrap_or}
use Rattle.tb_geom.specs.declared.rect.Rect.{Rect}
use Rattle.tb_geom.specs.Points.{PixelSet}
use Rattle.tb_geom.specs.Rects.{rect_holds}
use Rattle.draw_port.specs.Ops.{frame_holds}
use Rattle.looks.specs.declared.step.Mark.TheVariants.{Frame}
use Rattle.looks.specs.declared.step.Step.{Step}
use Rattle.looks.specs.Letters.{lettering}
use Rattle.looks.specs.Marks.{black_fill, box, cut_to, look_bit, turned, when}
use Rattle.def_iface.specs.declared.size.Size.{Size}
use Rattle.def_iface.specs.ListMeaning.{ListDefinition}
use Rattle.def_iface.specs.Sizes.{rect_of}
use Rattle.own_kind.specs.declared.gauge_list.GaugeList.{GaugeList}

-- how many columns the bar has: as many as the first byte leaves, divided by 16, and none where the cell is empty
abbrev pub bar_columns : List ℕ → ℕ
bar_columns [] = 0
bar_columns (b ∷ bs) = b % 16

-- the bar begins at column 3, with 3 rows above it and 3 below
abbrev pub bar : Size → List ℕ → Rect
bar s bytes = box (pos 3) (pos 3) (pos 3 +ℤ pos (bar_columns bytes)) (s.height -ℤ pos 3)

-- the rectangle around it, with a column or a row between the two
abbrev pub around : Size → List ℕ → Rect
around s bytes = box (pos 1) (pos 1) (pos 5 +ℤ pos (bar_columns bytes)) (s.height -ℤ pos 1)

-- the bar in black, cut to the cell
abbrev pub bar_step : Size → List ℕ → Step
bar_step s bytes = cut_to (rect_of s) (black_fill (bar s bytes))

-- the outermost pixels of the rectangle around it turned, cut to the cell
abbrev pub frame_step : Size → List ℕ → Step
frame_step s bytes = record { on = true; cut = rect_of s; mark = Frame (around s bytes) turned }

-- what a cell looks like, selected or not
abbrev pub gauge_look : Size → List ℕ → Bool → List Step
gauge_look s bytes selected = bar_step s bytes ∷ when selected (frame_step s bytes) ∷ []

-- the picture of a cell that is not selected: the bar on white
unfoldable pub gauge_picture : Size → List ℕ → List ℕ → PixelSet
gauge_picture s font bytes p = look_bit (lettering font []) (bar_step s bytes ∷ []) p

-- its highlight: the frame
abbrev pub gauge_highlight : Size → List ℕ → PixelSet
gauge_highlight s bytes p = rect_holds (rect_of s) p && frame_holds (around s bytes) p

-- of the size of its cells it goes by what it is told last. Empty cells are highlighted like others, whatever it is told
abbrev pub gauge_meaning : GaugeList → ListDefinition
gauge_meaning g = record {
  stage = g.stage;
  size = g.size;
  picture = λ n font bytes. gauge_picture (unwrap_or n.size g.size) font bytes;
  highlight = λ n font bytes. gauge_highlight (unwrap_or n.size g.size) bytes;
}
