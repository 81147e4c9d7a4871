-- Where the lines and the bytes of a text lie.
use Rattle.std.specs.Prelude.{ℕ, ◌+◌, ◌-◌, ◌*◌, ◌/◌, min, Bool, if◌then◌else◌, List, [], ◌∷◌, length, take, drop, slice_range, slice_index_or, nat_lt, nat_abs, ℤ, pos, ◌+ℤ◌, ◌-ℤ◌, int_le, int_lt}
use Rattle.std.specs.Int.{int_div_euclid}
use Rattle.std.specs.List.{list_all, prefix_len, suffix_len}
use Rattle.tb_geom.specs.declared.point.Point.{Point}
use Rattle.text_lines.specs.declared.line.TextLine.{TextLine}
use Rattle.text_lines.specs.Ends.{is_return, is_blank}
use Rattle.text_lines.specs.Widths.{byte_width, bytes_width}
use Rattle.text_lines.specs.Lines.{line_at, line_of}
use Rattle.text_record.specs.declared.placing.Justification.{Justification}
use Rattle.text_record.specs.declared.placing.Justification.TheVariants.{Left, Middle, Right}
use Rattle.text_record.specs.Texts.{Lined, lines_of, Record}

-- bytes without a return at their end
abbrev pub without_return : List ℕ → List ℕ
without_return bytes = if is_return (slice_index_or bytes (length bytes - 1) 0) then take (length bytes - 1) bytes else bytes

-- the drawn bytes of a line: its bytes, without the return that ends it
abbrev pub drawn_bytes : List ℕ → TextLine → List ℕ
drawn_bytes bytes l = without_return (slice_range bytes l.start l.end)

-- bytes without the blanks at their end
abbrev pub inked_bytes : List ℕ → List ℕ
inked_bytes [] = []
inked_bytes (c ∷ cs) = if list_all is_blank (c ∷ cs) then [] else c ∷ inked_bytes cs

-- how wide the inked bytes of a line are: its drawn bytes, without the blanks at their end
abbrev pub inked_width : Lined → TextLine → ℕ
inked_width t l = bytes_width t.widths (inked_bytes (drawn_bytes t.bytes l))

-- how far a line begins right of its destination, where so much of that is left
abbrev pub indent : Justification → ℤ → ℤ
indent Left spare = pos 0
indent Middle spare = int_div_euclid spare (pos 2)
indent Right spare = spare

-- how much of the destination a line leaves, less 1; below 0 where it has not room
abbrev pub spare_of : Lined → TextLine → ℤ
spare_of t l = (pos t.width -ℤ pos 1) -ℤ pos (inked_width t l)

-- the column at which the first byte of a line begins
abbrev pub pen_of : Record → TextLine → ℤ
pen_of r l = (r.left +ℤ pos 1) +ℤ indent r.justification (spare_of r.text l)

-- the top row of a line, by its number
abbrev pub line_top : Record → ℕ → ℤ
line_top r j = r.top +ℤ pos (j * r.height)

-- the number of the line that an offset lies on
abbrev pub row_of : Record → ℕ → ℕ
row_of r o = line_of (lines_of r.text) o

-- a line by its number
abbrev pub line_in : Record → ℕ → TextLine
line_in r j = line_at (lines_of r.text) j

-- the column of an offset on a line
abbrev pub column_on : Record → TextLine → ℕ → ℤ
column_on r l o = pen_of r l +ℤ pos (bytes_width r.text.widths (slice_range r.text.bytes l.start o))

-- the column of an offset: where the byte there begins; past the last byte, where that ends
abbrev pub column_of : Record → ℕ → ℤ
column_of r o = column_on r (line_in r (row_of r o)) o

-- the place of an offset: its column, and the top row of its line
abbrev pub place_of : Record → ℕ → Point
place_of r o = record { h = column_of r o; v = line_top r (row_of r o) }

-- the number of the line at a row: the first above all, the last below all
abbrev pub line_at_row : Record → ℤ → ℕ
line_at_row r v = if int_lt v r.top then 0 else min (nat_abs (v -ℤ r.top) / r.height) (length (lines_of r.text) - 1)

-- how many bytes a point passes that lies `ahead` columns right of where the first begins: a byte is passed where no more
-- than half of it lies right of the point
abbrev pub passed_bytes : List ℕ → ℤ → List ℕ → ℕ
passed_bytes widths ahead [] = 0
passed_bytes widths ahead (c ∷ cs) =
    if int_le (pos (byte_width widths c)) (ahead +ℤ ahead) then 1 + passed_bytes widths (ahead -ℤ pos (byte_width widths c)) cs else 0

-- how far the offset at a point of a line goes at most: before the line's last byte, and in the last line behind it
abbrev pub last_offset : Record → ℕ → ℕ
last_offset r j = if nat_lt (j + 1) (length (lines_of r.text)) then (line_in r j).end - 1 else (line_in r j).end

-- the offset on a line at a column
abbrev pub offset_on : Record → ℕ → ℤ → ℕ
offset_on r j h =
    let l = line_in r j in
    l.start + passed_bytes r.text.widths (h -ℤ pen_of r l) (slice_range r.text.bytes l.start (last_offset r j))

-- the offset at a point
abbrev pub offset_at : Record → Point → ℕ
offset_at r p = offset_on r (line_at_row r p.v) p.h

-- a byte of a word: one greater than 32
abbrev pub is_in_word : ℕ → Bool
is_in_word c = nat_lt 32 c

-- where the word at an offset begins, and where it ends; an offset behind the text counts as its end
abbrev pub word_start : List ℕ → ℕ → ℕ
word_start bytes o = min o (length bytes) - suffix_len is_in_word (take o bytes)

abbrev pub word_end : List ℕ → ℕ → ℕ
word_end bytes o = min o (length bytes) + prefix_len is_in_word (drop o bytes)

-- none of the bytes has the width 0
abbrev pub have_widths : List ℕ → List ℕ → Bool
have_widths widths bytes = list_all (λ c. nat_lt 0 (byte_width widths c)) bytes
