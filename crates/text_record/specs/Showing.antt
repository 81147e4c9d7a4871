-- Moving a text so that its selection shows.
use Rattle.std.specs.Prelude.{if◌then◌else◌, ℤ, pos, ◌+ℤ◌, ◌-ℤ◌, int_lt, int_le}
use Rattle.std.specs.Int.{int_min}
use Rattle.text_record.specs.Texts.{Record}
use Rattle.text_record.specs.Places.{row_of, line_top, column_of}

-- how far right a column moves that is to lie from `first` up to `end`, where no column lies
abbrev pub across_into : ℤ → ℤ → ℤ → ℤ
across_into column first end =
    if int_lt column first then first -ℤ column else (if int_le end column then pos 0 -ℤ ((column -ℤ end) +ℤ pos 1) else pos 0)

-- how far down a line moves that goes from `top` up to `bottom` and is to lie from `first` up to `end`: above, its top comes
-- to `first`; below, its bottom comes to `end`, but its top no further than to `first`
abbrev pub down_into : ℤ → ℤ → ℤ → ℤ → ℤ
down_into top bottom first end =
    if int_lt top first then first -ℤ top
    else (if int_lt end bottom then pos 0 -ℤ int_min (bottom -ℤ end) (top -ℤ first) else pos 0)

-- how far right the text moves, so that the column before the selection's end shows
abbrev pub right_by : Record → ℤ
right_by r = across_into (column_of r r.end -ℤ pos 1) r.view.left r.view.right

-- how far down the text moves, so that the line of the selection's end shows
abbrev pub down_by : Record → ℤ
down_by r = let top = line_top r (row_of r r.end) in down_into top (top +ℤ pos r.height) r.view.top r.view.bottom

-- with the end of the selection shown
abbrev pub selection_shown : Record → Record
selection_shown r = record r { left = r.left +ℤ right_by r; top = r.top +ℤ down_by r }
