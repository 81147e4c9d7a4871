-- What a text record shows.
use Rattle.std.specs.Prelude.{ℕ, zero, suc, ◌+◌, max, min, nat_lt, Bool, false, not, ◌&&◌, ◌||◌, if◌then◌else◌, List, length, ℤ, pos, ◌+ℤ◌, ◌-ℤ◌}
use Rattle.tb_geom.specs.declared.point.Point.{Point}
use Rattle.tb_geom.specs.declared.rect.Rect.{Rect}
use Rattle.tb_geom.specs.Points.{PixelSet}
use Rattle.tb_geom.specs.Rects.{rect_holds}
use Rattle.strike_font.specs.Text.{text_holds}
use Rattle.text_record.specs.Placings.{box_of}
use Rattle.text_record.specs.Texts.{Record, lines_of}
use Rattle.text_record.specs.Places.{drawn_bytes, pen_of, line_top, line_in, row_of, column_of}

-- how many lines there are
abbrev pub line_count : Record → ℕ
line_count r = length (lines_of r.text)

-- whether one of the first lines is so, by its number
abbrev pub some_line : ℕ → (ℕ → Bool) → Bool
some_line zero is_so = false
some_line (suc j) is_so = is_so j || some_line j is_so

-- ---- the lines

-- where the pen of a line starts, on its baseline
abbrev pub line_pen : Record → ℕ → Point
line_pen r j = record { h = pen_of r (line_in r j); v = line_top r j +ℤ pos r.ascent }

-- whether the drawn bytes of a line have the pixel
abbrev pub line_holds : List ℕ → Record → ℕ → PixelSet
line_holds font r j p = text_holds font (drawn_bytes r.text.bytes (line_in r j)) (line_pen r j) p

-- the bit of a pixel, once the lines are drawn in black: those of any line, since glyphs may be higher than lines
abbrev pub with_lines : List ℕ → Record → Point → Bool → Bool
with_lines font r p d = some_line (line_count r) (λ j. line_holds font r j p) || d

-- ---- the selection

-- the rows of a line between two columns
abbrev pub rows_between : Record → ℕ → ℤ → ℤ → Rect
rows_between r j left right = record { left = left; top = line_top r j; right = right; bottom = line_top r j +ℤ pos r.height }

-- whether the highlight has a part on a line: the line has a selected byte
abbrev pub has_part : Record → ℕ → Bool
has_part r j = nat_lt (max r.start (line_in r j).start) (min r.end (line_in r j).end)

-- where that begins: at the selection, or where the selection began before the line at its first column
abbrev pub part_left : Record → ℕ → ℤ
part_left r j = if nat_lt r.start (line_in r j).start then r.left +ℤ pos 1 else column_of r r.start

-- where that ends: at the selection's end, or where the selection goes on behind the line at the end of the destination
abbrev pub part_right : Record → ℕ → ℤ
part_right r j = if nat_lt r.end (line_in r j).end || not (nat_lt (j + 1) (line_count r)) then column_of r r.end else r.left +ℤ pos r.text.width

-- whether the part of the highlight on a line has the pixel
abbrev pub part_holds : Record → ℕ → PixelSet
part_holds r j p = has_part r j && rect_holds (rows_between r j (part_left r j) (part_right r j)) p

-- the pixels of the caret: the column before the point, on the rows of its line
abbrev pub caret_rect : Record → Rect
caret_rect r = rows_between r (row_of r r.start) (column_of r r.start -ℤ pos 1) (column_of r r.start)

-- whether the pixel is inverted: where the record is active, the highlight is, or where the selection is a point the caret
-- that is on
abbrev pub is_inverted : Record → PixelSet
is_inverted r p =
    r.active && (if nat_lt r.start r.end then some_line (line_count r) (λ j. part_holds r j p) else r.caret && rect_holds (caret_rect r) p)

-- the bit of a pixel, once the selection is inverted
abbrev pub with_selection : Record → Point → Bool → Bool
with_selection r p d = if is_inverted r p then not d else d

-- ---- all of it

-- what a record shows at a pixel of its view: from white, the lines, and the selection
abbrev pub view_bit : List ℕ → Record → PixelSet
view_bit font r p = with_selection r p (with_lines font r p false)

-- a rectangle without its outermost pixels
abbrev pub inset : Rect → Rect
inset s = record { left = s.left +ℤ pos 1; top = s.top +ℤ pos 1; right = s.right -ℤ pos 1; bottom = s.bottom -ℤ pos 1 }

-- whether a frame has the pixel: where the view has one, the outermost pixels of the box
abbrev pub frame_holds : Record → PixelSet
frame_holds r p = let box = box_of r.framed r.view in r.framed && (rect_holds box p && not (rect_holds (inset box) p))

-- what a record shows at a pixel: in its view the text, and elsewhere white but for the frame
abbrev pub text_shown : List ℕ → Record → PixelSet
text_shown font r p = if rect_holds r.view p then view_bit font r p else frame_holds r p
