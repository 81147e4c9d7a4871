-- Edits of the lines of a list: the calls that make them, why cells refuse them, and what they make of cells and of a list.
use Rattle.std.specs.Prelude.{◌≡◌, ℕ, ℤ, pos, nat_abs, Bool, List, None, Some, Result, Ok, Err}
use Rattle.tb_geom.specs.declared.refusal.Refusal.{Refusal}
use Rattle.tb_geom.specs.Refusals.{first_refusal}
use Rattle.list_cells.specs.declared.cell.Cell.{Cell}
use Rattle.list_cells.specs.Grids.{Grid, columns_added, columns_deleted, rows_added, rows_deleted}
use Rattle.list_cells.specs.Runs.{add_refusals, count_to_delete, delete_refusals, place_to_add, told}
use Rattle.desk_call.specs.declared.list.ListCall.{ListCall}
use Rattle.desk_call.specs.declared.list.ListCall.TheVariants as asks
use Rattle.desk_call.specs.declared.list.ListLines.{ListLines}
use Rattle.desk_call.specs.declared.list.ListReply.{ListReply}
use Rattle.desk_call.specs.declared.list.ListReply.TheVariants as reply
use Rattle.list_mgr.specs.declared.line_edit.LineAxis.{LineAxis}
use Rattle.list_mgr.specs.declared.line_edit.LineAxis.TheVariants.{Rows, Columns}
use Rattle.list_mgr.specs.declared.line_edit.LineChange.{LineChange}
use Rattle.list_mgr.specs.declared.line_edit.LineChange.TheVariants.{Add, Delete}
use Rattle.list_mgr.specs.declared.line_edit.LineEdit.{LineEdit}
use Rattle.list_mgr.specs.ListDesks.{KeptList}
use Rattle.list_mgr.specs.ListSteps.{with_grid, with_scroll}

-- ---- rows or columns

-- how many lines there are, and how many cells each of them has
abbrev pub lines_of : LineAxis → Grid → ℕ
lines_of Rows g = g.rows
lines_of Columns g = g.columns

abbrev pub across_of : LineAxis → Grid → ℕ
across_of Rows g = g.columns
across_of Columns g = g.rows

-- the line that a cell lies in
abbrev pub line_of : LineAxis → Cell → ℤ
line_of Rows c = c.row
line_of Columns c = c.column

-- the cells with so many empty lines before one, and without so many from one on
abbrev pub lines_added : LineAxis → ℕ → ℕ → Grid → Grid
lines_added Rows at n g = rows_added at n g
lines_added Columns at n g = columns_added at n g

abbrev pub lines_deleted : LineAxis → ℕ → ℕ → Grid → Grid
lines_deleted Rows at n g = rows_deleted at n g
lines_deleted Columns at n g = columns_deleted at n g

-- ---- edits

-- the call that makes an edit
abbrev pub called : LineChange → LineAxis → ListLines → ListCall
called Add Rows n = asks.AddRows n
called Add Columns n = asks.AddColumns n
called Delete Rows n = asks.DeleteRows n
called Delete Columns n = asks.DeleteColumns n

abbrev pub call_of : LineEdit → ListCall
call_of e = called e.change e.axis e.lines

-- why cells refuse an edit, in the written order
abbrev pub refusals_of : LineChange → LineAxis → ListLines → Grid → List (Bool × Refusal)
refusals_of Add axis n g = add_refusals (lines_of axis g) (across_of axis g) n.count n.at
refusals_of Delete axis n g = delete_refusals (lines_of axis g) n.count n.at

abbrev pub edit_refusals : LineEdit → Grid → List (Bool × Refusal)
edit_refusals e g = refusals_of e.change e.axis e.lines g

-- the first line that is added or deleted
abbrev pub first_changed : LineChange → LineAxis → ListLines → Grid → ℕ
first_changed Add axis n g = place_to_add (lines_of axis g) n.at
first_changed Delete axis n g = nat_abs n.at

abbrev pub first_line : LineEdit → Grid → ℕ
first_line e g = first_changed e.change e.axis e.lines g

-- what an edit makes of cells
abbrev pub changed_by : LineChange → LineAxis → ListLines → Grid → Grid
changed_by Add axis n g = lines_added axis (place_to_add (lines_of axis g) n.at) (nat_abs n.count) g
changed_by Delete axis n g = lines_deleted axis (nat_abs n.at) (count_to_delete (lines_of axis g) n.count n.at) g

abbrev pub edited : LineEdit → Grid → Grid
edited e g = changed_by e.change e.axis e.lines g

-- why an edit fails: only to add lines takes memory
abbrev pub IsEditError : LineChange → List (Bool × Refusal) → Refusal → Type 0
IsEditError Add refusals e = e ≡ told refusals
IsEditError Delete refusals e = first_refusal refusals ≡ Some e

-- the edit was made, and told its first line, or it failed and changed nothing
abbrev pub IsEdited : LineEdit → Result ℕ Refusal → Grid → Grid → Type 0
IsEdited e (Ok first) before after =
    (first ≡ first_line e before) × (after ≡ edited e before) × (first_refusal (edit_refusals e before) ≡ None)
IsEdited e (Err why) before after = IsEditError e.change (edit_refusals e before) why × (after ≡ before)

-- a list of which lines were deleted is scrolled back to where there are cells
abbrev pub scrolled_after : LineChange → KeptList → KeptList
scrolled_after Add = λ l. l
scrolled_after Delete = with_scroll (pos 0) (pos 0)

-- the list with the edit made
abbrev pub with_edit : LineEdit → KeptList → KeptList
with_edit e l = scrolled_after e.change (with_grid (edited e) l)

-- what is answered to an edit of which this is the first line
abbrev pub reply_of : LineChange → ℕ → ListReply
reply_of Add first = reply.Added first
reply_of Delete first = reply.Done
