-- Whether a list is as it was: in its cells, their selection, and its scroll place.
use Rattle.std.specs.Prelude.{◌==◌, Bool, ◌&&◌}
use Rattle.std.proofs.Math.Bool.{beq}
use Rattle.std.specs.Ordering.{int_eq}
use Rattle.std.specs.Str.{bytes_eq}
use lib.Pointwise.{pointwise}
use Rattle.list_cells.specs.Contents.{Content}
use Rattle.list_cells.specs.Grids.{Grid}
use Rattle.list_view.specs.Views.{View}
use Rattle.list_mgr.specs.ListDesks.{KeptList}

-- two cells hold the same, and are selected alike
abbrev pub same_content : Content → Content → Bool
same_content a b = bytes_eq a.bytes b.bytes && beq a.selected b.selected

-- two lists have as many columns and rows, and their cells are the same
abbrev pub same_cells : Grid → Grid → Bool
same_cells a b = (a.columns == b.columns && a.rows == b.rows) && pointwise same_content a.contents b.contents

-- two views are scrolled alike
abbrev pub same_scroll : View → View → Bool
same_scroll a b = int_eq a.first.column b.first.column && int_eq a.first.row b.first.row

-- the list has the cells, the selection and the scroll place that it had
abbrev pub is_as_it_was : KeptList → KeptList → Bool
is_as_it_was was is = same_cells was.kept.cells is.kept.cells && same_scroll was.kept.view is.kept.view
