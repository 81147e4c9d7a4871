-- The cells of a list.
use Rattle.std.specs.Prelude.{ℕ, Bool, not, ◌&&◌, ◌||◌, ◌==◌, if◌then◌else◌, List, [], ◌∷◌, length, pos, nat_abs}
use Rattle.tb_geom.specs.declared.rect.Rect.{Rect}
use Rattle.tb_geom.specs.Points.{PixelSet}
use Rattle.tb_geom.specs.Rects.{rect_holds}
use Rattle.looks.specs.declared.pen.Baseline.TheVariants.{Middle}
use Rattle.looks.specs.declared.step.Step.{Step}
use Rattle.looks.specs.Letters.{lettering}
use Rattle.looks.specs.Marks.{box, look_bit, text_at, inverted, when}
use Rattle.def_iface.specs.declared.size.Size.{Size}

-- the rectangle of a cell
abbrev pub cell_box : Size → Rect
cell_box size = box (pos 0) (pos 0) size.width size.height

-- its text: from column 2 on, in the middle of its rows
abbrev pub cell_text : Size → Step
cell_text size = text_at (cell_box size) (pos 2) (Middle (nat_abs size.height))

-- the steps of a cell that is inverted or not
abbrev pub cell_steps : Size → Bool → List Step
cell_steps size turned = cell_text size ∷ when turned (inverted (cell_box size)) ∷ []

-- whether a cell of these bytes is highlighted where it is selected: one that holds none is only where empty ones are
abbrev pub is_hilited : Bool → List ℕ → Bool
is_hilited empty_too bytes = empty_too || not (length bytes == 0)

-- the picture of a cell that is not selected: the text on white
unfoldable pub cell_picture : Size → List ℕ → List ℕ → PixelSet
cell_picture size font bytes p = look_bit (lettering font bytes) (cell_text size ∷ []) p

-- the highlight of a cell: all of it, or nothing
abbrev pub cell_highlight : Size → Bool → List ℕ → PixelSet
cell_highlight size empty_too bytes p = is_hilited empty_too bytes && rect_holds (cell_box size) p

-- what a cell shows that is inverted or not
abbrev pub drawn_cell : Size → Bool → List ℕ → List ℕ → PixelSet
drawn_cell size turned font bytes p = if turned && rect_holds (cell_box size) p then not (cell_picture size font bytes p) else cell_picture size font bytes p
