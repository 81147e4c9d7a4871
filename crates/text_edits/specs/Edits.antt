-- What edits make of a record.
use Rattle.std.specs.Prelude.{ℕ, ◌+◌, ◌-◌, ◌/◌, ◌%◌, ◌==◌, min, Bool, true, false, ◌&&◌, ◌||◌, not, nat_lt, nat_eq, if◌then◌else◌, List, [], ◌∷◌, length, slice_range, ℤ, pos, negsuc, nat_abs, int_le, ◌+ℤ◌}
use Rattle.tb_geom.specs.declared.refusal.Refusal.{Refusal}
use Rattle.tb_geom.specs.declared.refusal.Refusal.TheVariants.{NoMemory, TooLong}
use Rattle.text_record.specs.Texts.{Record, lines_of}
use Rattle.text_record.specs.Places.{row_of, column_of, offset_on}
use Rattle.text_record.specs.Changes.{put, chosen, blinked}

-- the selected bytes
abbrev pub selected_bytes : Record → List ℕ
selected_bytes r = slice_range r.text.bytes r.start r.end

-- other text: all bytes are replaced
abbrev pub with_text : List ℕ → Record → Record
with_text text r = put 0 (length r.text.bytes) text r

-- with bytes before the selection, which stays on the same bytes
abbrev pub inserted : List ℕ → Record → Record
inserted text r = chosen (r.start + length text) (r.end + length text) (put r.start r.start text r)

-- without the selected bytes
abbrev pub deleted : Record → Record
deleted r = put r.start r.end [] r

-- with bytes in the place of the selected ones
abbrev pub pasted : List ℕ → Record → Record
pasted scrap r = put r.start r.end scrap r

-- whether the numbers of a selection are in range
abbrev pub is_selection : ℤ → ℤ → Bool
is_selection start end = int_le (pos 0) start && (int_le start end && int_le end (pos 32767))

-- with another selection, as far as the text goes
abbrev pub selected : ℕ → ℕ → Record → Record
selected start end r = chosen (min start (length r.text.bytes)) (min end (length r.text.bytes)) r

-- with a point as selection
abbrev pub pointed : ℕ → Record → Record
pointed o r = chosen o o r

-- whether nothing is selected
abbrev pub is_point : Record → Bool
is_point r = r.start == r.end

-- where the arrow keys go
abbrev pub left_of : Record → ℕ
left_of r = if is_point r then r.start - 1 else r.start

abbrev pub right_of : Record → ℕ
right_of r = if is_point r then min (r.end + 1) (length r.text.bytes) else r.end

abbrev pub above : Record → ℕ
above r = if row_of r r.start == 0 then 0 else offset_on r (row_of r r.start - 1) (column_of r r.start)

abbrev pub below : Record → ℕ
below r = if nat_lt (row_of r r.end + 1) (length (lines_of r.text)) then offset_on r (row_of r r.end + 1) (column_of r r.end) else length r.text.bytes

-- backspace: the selection goes, or where it is a point the byte before it
abbrev pub backspaced : Record → Record
backspaced r = if is_point r then put (r.start - 1) r.start [] r else deleted r

-- whether a key puts its byte: not backspace and the arrows
abbrev pub is_typed : ℕ → Bool
is_typed key = not (key == 8) && (nat_lt key 28 || nat_lt 31 key)

-- what a key does
abbrev pub keyed : ℕ → Record → Record
keyed key r =
    if key == 8 then backspaced r
    else (if key == 28 then pointed (left_of r) r
    else (if key == 29 then pointed (right_of r) r
    else (if key == 30 then pointed (above r) r
    else (if key == 31 then pointed (below r) r
    else pasted (key ∷ []) r))))

-- whether the caret is on at a time in ticks: 32 on, and 32 off
abbrev pub is_on_at : ℕ → Bool
is_on_at ticks = (ticks / 32) % 2 == 0
