-- A view along one axis. Lines, which are the columns or the rows of a list, lie side by side in it, as long as a cell each.
use Rattle.std.specs.Prelude.{ℕ, min, ℤ, pos, negsuc, nat_abs, ◌+ℤ◌, ◌-ℤ◌, ◌*ℤ◌, int_div, Bool, ◌&&◌, int_le, ◌≤ℤ◌}
use Rattle.std.specs.Int.{int_max}
use Rattle.tb_geom.specs.Rects.{is_coordinate}
use Rattle.control_values.specs.Settings.{nearest}
use Rattle.list_view.specs.declared.axis.Axis.{Axis}

-- where the view ends
abbrev pub end_of : Axis → ℤ
end_of a = a.start +ℤ a.length

-- how long a view or a cell may be
abbrev pub is_side : ℤ → Bool
is_side n = int_le (pos 1) n && int_le n (pos 1024)

-- whether a view may lie so
abbrev pub is_axis : Axis → Bool
is_axis a = is_side a.length && (is_side a.cell && (is_coordinate a.start && is_coordinate (end_of a)))

-- a view lies so
pub record IsAxis (a : Axis) : Type 0 where
  pub some : pos 1 ≤ℤ a.length
  pub short : a.length ≤ℤ pos 1024
  pub cell_some : pos 1 ≤ℤ a.cell
  pub cell_short : a.cell ≤ℤ pos 1024
  pub start_in_range : negsuc 16383 ≤ℤ a.start
  pub end_in_range : end_of a ≤ℤ pos 16383

-- the number of a line that a list may have
pub record IsLine (line : ℤ) : Type 0 where
  pub least : pos 0 ≤ℤ line
  pub most : line ≤ℤ pos 4095

-- how many lines the view shows whole, and one where it shows none whole
abbrev pub shown : Axis → ℤ
shown a = int_max (pos 1) (int_div a.length a.cell)

-- how far the view of so many lines is scrolled at most
abbrev pub bound : Axis → ℕ → ℤ
bound a count = int_max (pos 0) (pos count -ℤ shown a)

-- the line at the start, where it was `first` and the view is scrolled by some lines; past an end it is the one at that end
abbrev pub scrolled_line : Axis → ℕ → ℤ → ℤ → ℤ
scrolled_line a count first lines = nearest (pos 0) (bound a count) (first +ℤ lines)

-- where a line begins, and where it ends, with `first` at the start
abbrev pub line_start : Axis → ℤ → ℤ → ℤ
line_start a first line = a.start +ℤ ((line -ℤ first) *ℤ a.cell)

abbrev pub line_end : Axis → ℤ → ℤ → ℤ
line_end a first line = line_start a first line +ℤ a.cell

-- where lines that a list may have begin: not far from the view
pub record IsNear (place : ℤ) : Type 0 where
  pub least : negsuc 4209663 ≤ℤ place
  pub most : place ≤ℤ pos 4209663

-- the line at a place of the view
abbrev pub line_at : Axis → ℤ → ℤ → ℤ
line_at a first place = first +ℤ int_div (place -ℤ a.start) a.cell

-- the first of so many lines past those that show at least in part, with `first` at the start: the one after the line at the
-- view's last pixel, but no more than there are
abbrev pub lines_end : Axis → ℕ → ℤ → ℕ
lines_end a count first = min count (nat_abs (line_at a first (end_of a -ℤ pos 1) +ℤ pos 1))
