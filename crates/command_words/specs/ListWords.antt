-- The words of the commands for lists.
use Rattle.std.specs.Prelude.{ℕ, List, Option, Ok, if◌then◌else◌}
use Rattle.def_iface.specs.declared.size.Size.{Size}
use Rattle.list_cells.specs.declared.cell.Cell.{Cell}
use Rattle.desk_call.specs.declared.list.CellOf.{CellOf}
use Rattle.desk_call.specs.declared.list.CellText.{CellText}
use Rattle.desk_call.specs.declared.list.ListCall.{ListCall}
use Rattle.desk_call.specs.declared.list.ListCall.TheVariants as calls
use Rattle.desk_call.specs.declared.list.ListLines.{ListLines}
use Rattle.desk_call.specs.declared.list.ListOf.{ListOf}
use Rattle.line_words.specs.Words.{◌>>=◌, Field, number_at, serial_at}
use Rattle.line_words.specs.Shapes.{Shape, says, number, flag, name, text, serial, point, mapped}
use Rattle.command_words.specs.declared.lists.ListVerb.{ListVerb}
use Rattle.command_words.specs.declared.lists.ListVerb.TheVariants as verbs
use Rattle.command_words.specs.Sizes.{size}

-- two words that are a window and a list
abbrev pub list_at : Option (List ℕ) → Field ListOf
list_at rest =
    serial_at rest >>= λ window. serial_at window.1 >>= λ list. Ok (record { window = window.0; list = list.0 }, list.1)

-- two words that are a width and a height
abbrev pub size_at : Option (List ℕ) → Field Size
size_at rest =
    number_at rest >>= λ width. number_at width.1 >>= λ height. Ok (record { width = width.0; height = height.0 }, height.1)

-- two words that are a column and a row
abbrev pub cell_at : Option (List ℕ) → Field Cell
cell_at rest =
    number_at rest >>= λ column. number_at column.1 >>= λ row. Ok (record { column = column.0; row = row.0 }, row.1)

-- W L
abbrev pub of_list : {A : Type 0} → (ListOf → Shape A) → Shape A
of_list next = serial (λ window. serial (λ list. next (record { window = window; list = list })))

-- column row, a cell of a list
abbrev pub cell : {A : Type 0} → ListOf → (CellOf → Shape A) → Shape A
cell list next = number (λ column. number (λ row. next (record { list = list; cell = record { column = column; row = row } })))

-- W KIND left top width height, width and height of a cell, rows columns VBAR HBAR flags
abbrev pub new_shape : Shape ListCall
new_shape = serial (λ window. name (λ kind. point (λ place. size (λ view. size (λ cell_size. number (λ rows. number (λ columns.
    flag (λ vertical. flag (λ horizontal. number (λ flags. says (calls.New (record {
      window = window;
      kind = kind;
      place = place;
      size = view;
      cell_size = cell_size;
      columns = columns;
      rows = rows;
      vertical_bar = vertical;
      horizontal_bar = horizontal;
      flags = flags;
    }))))))))))))

-- W L, and no more
abbrev pub alone_shape : Shape ListOf
alone_shape = of_list (λ list. says list)

-- W L n, and a row or a column
abbrev pub lines_shape : Shape ListLines
lines_shape = of_list (λ list. number (λ count. number (λ at. says (record { list = list; count = count; at = at }))))

-- W L column row
abbrev pub cell_shape : Shape CellOf
cell_shape = of_list (λ list. cell list (λ one. says one))

-- W L column row "t"
abbrev pub text_shape : Shape CellText
text_shape = of_list (λ list. cell list (λ one. text (λ t. says (record { cell = one; text = t }))))

-- W L SELECTED column row
abbrev pub select_shape : Shape ListCall
select_shape = of_list (λ list. flag (λ selected. cell list (λ one.
    says (calls.Select (record { cell = one; selected = selected })))))

-- W L h v modifiers
abbrev pub click_shape : Shape ListCall
click_shape = of_list (λ list. point (λ place. number (λ modifiers.
    says (calls.Click (record { list = list; point = place; modifiers = modifiers })))))

-- W L columns rows, how far
abbrev pub scroll_shape : Shape ListCall
scroll_shape = of_list (λ list. number (λ columns. number (λ rows.
    says (calls.Scroll (record { list = list; columns = columns; rows = rows })))))

-- W L DRAWING
abbrev pub drawing_shape : Shape ListCall
drawing_shape = of_list (λ list. flag (λ drawing. says (calls.SetDrawing (record { list = list; drawing = drawing }))))

-- W L NEXT column row: the first selected cell from one on, or whether that one is selected
abbrev pub selection_shape : Shape ListCall
selection_shape = of_list (λ list. flag (λ next. cell list (λ one.
    says (if next then calls.FirstSelected one else calls.IsSelected one))))

-- W L ACROSS DOWN column row
abbrev pub next_shape : Shape ListCall
next_shape = of_list (λ list. flag (λ across. flag (λ down. cell list (λ one.
    says (calls.NextCell (record { cell = one; across = across; down = down }))))))

-- the words that follow a first word, and what they ask
unfoldable pub list_shape : ListVerb → Shape ListCall
list_shape verbs.New = new_shape
list_shape verbs.Dispose = mapped calls.Dispose alone_shape
list_shape verbs.AddRows = mapped calls.AddRows lines_shape
list_shape verbs.AddColumns = mapped calls.AddColumns lines_shape
list_shape verbs.DeleteRows = mapped calls.DeleteRows lines_shape
list_shape verbs.DeleteColumns = mapped calls.DeleteColumns lines_shape
list_shape verbs.SetCell = mapped calls.SetCell text_shape
list_shape verbs.AddToCell = mapped calls.AddToCell text_shape
list_shape verbs.ClearCell = mapped calls.ClearCell cell_shape
list_shape verbs.GetCell = mapped calls.GetCell cell_shape
list_shape verbs.Select = select_shape
list_shape verbs.Click = click_shape
list_shape verbs.Scroll = scroll_shape
list_shape verbs.SetDrawing = drawing_shape
list_shape verbs.GetSelection = selection_shape
list_shape verbs.NextCell = next_shape
list_shape verbs.Search = mapped calls.Search text_shape
