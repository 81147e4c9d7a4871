-- The lines of a text.
use Rattle.std.specs.Prelude.{◌≡◌, ℕ, suc, zero, ◌+◌, ◌-◌, ◌<◌, ◌≤◌, Bool, ◌&&◌, ◌||◌, if◌then◌else◌, List, [], ◌∷◌, Option, length, drop, nat_lt, nat_le, slice_index, slice_index_or, count_by}
use Rattle.text_lines.specs.declared.line.TextLine.{TextLine}
use Rattle.text_lines.specs.Ends.{is_return, line_length}

-- whether another line follows one of so many bytes, where a text goes on so from its beginning: there is a byte
-- behind the line, or it ends with a return
abbrev pub goes_on : ℕ → List ℕ → Bool
goes_on bytes rest = nat_lt bytes (length rest) || (nat_lt 0 bytes && is_return (slice_index rest (bytes - 1)))

-- at most so many lines, from the offset `start` on, where the text goes on so from there
unfoldable pub lines_from : ℕ → List ℕ → Option ℕ → ℕ → List ℕ → List TextLine
lines_from zero widths room start rest = []
lines_from (suc more) widths room start rest =
    let bytes = line_length widths room rest in
    let next = if goes_on bytes rest then lines_from more widths room (start + bytes) (drop bytes rest) else [] in
    record { start = start; end = start + bytes } ∷ next

-- the lines of a text: no more than its bytes, and one
unfoldable pub text_lines : List ℕ → Option ℕ → List ℕ → List TextLine
text_lines widths room text = lines_from (suc (length text)) widths room 0 text

-- a line without bytes at the beginning
abbrev pub no_line : TextLine
no_line = record { start = 0; end = 0 }

-- a line by its number, from 0 on
abbrev pub line_at : List TextLine → ℕ → TextLine
line_at lines j = slice_index_or lines j no_line

-- lines that follow each other: there is one; the first begins at 0, each other where the one before ends, the last
-- ends at the text's end; and each but the last has a byte
pub record Follow (n : ℕ) (lines : List TextLine) : Type 0 where
  pub some : 0 < length lines
  pub first : (line_at lines 0).start ≡ 0
  pub last : (line_at lines (length lines - 1)).end ≡ n
  pub next : (j : ℕ) → j + 1 < length lines → (line_at lines (j + 1)).start ≡ (line_at lines j).end
  pub filled : (j : ℕ) → j + 1 < length lines → (line_at lines j).start < (line_at lines j).end

-- whether a line begins at an offset or before
abbrev pub begins_by : ℕ → TextLine → Bool
begins_by offset line = nat_le line.start offset

-- the number of the last line that begins at an offset or before, where there is one
unfoldable pub line_of : List TextLine → ℕ → ℕ
line_of lines offset = count_by (begins_by offset) lines - 1

-- an offset lies on a line: the line begins there or before, and ends behind it, or is the last
pub record LiesOn (lines : List TextLine) (offset j : ℕ) : Type 0 where
  pub there : j < length lines
  pub begun : (line_at lines j).start ≤ offset
  pub ahead : j + 1 < length lines → offset < (line_at lines j).end
