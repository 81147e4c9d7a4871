-- The line of what is answered about lists.
use Rattle.std.specs.Prelude.{ℕ, List, ◌++◌, Option, None, Some, codes}
use Rattle.std.specs.Fmt.{signed_decimal}
use Rattle.list_cells.specs.declared.cell.Cell.{Cell}
use Rattle.desk_call.specs.declared.list.ListReply.{ListReply}
use Rattle.desk_call.specs.declared.list.ListReply.TheVariants as replies
use Rattle.line_words.specs.Replies.{done_text, number_text, flag_number}

-- the data of a cell, between two quotes
abbrev pub data_text : List ℕ → List ℕ
data_text bytes = codes "ok \"" ++ (bytes ++ codes "\"\n")

-- a cell, by its column and its row
abbrev pub cell_text : Cell → List ℕ
cell_text cell = codes "ok 1 " ++ (signed_decimal cell.column ++ (codes " " ++ (signed_decimal cell.row ++ codes "\n")))

-- the cell that was asked for, and none by 0 alone
abbrev pub found_text : Option Cell → List ℕ
found_text None = codes "ok 0\n"
found_text (Some cell) = cell_text cell

-- what was answered: 1 of a cell that is selected or was clicked on, and else 0
abbrev pub list_reply_text : ListReply → List ℕ
list_reply_text replies.Done = done_text
list_reply_text (replies.Made list) = number_text list
list_reply_text (replies.Added first) = number_text first
list_reply_text (replies.Data bytes) = data_text bytes.items
list_reply_text (replies.Selected selected) = number_text (flag_number selected)
list_reply_text (replies.Cell cell) = found_text cell
list_reply_text (replies.Clicked on_cell) = number_text (flag_number on_cell)
