-- The words of a region's bytes: 16 bits each, the high byte first, from -32768 to 32767.
use Rattle.std.specs.Prelude.{ℕ, ◌+◌, ◌*◌, Bool, true, false, ◌==◌, cond, List, [], ◌∷◌, ◌++◌, length, ℤ, pos, Option, Some, None}
use Rattle.std.specs.List.{flat_map, fold}
use Rattle.std.specs.Int.{to_be_bytes, from_be_bytes, cast_unsigned, cast_signed, w16, int_min, int_max}
use Rattle.tb_geom.specs.declared.point.Point.{Point}
use Rattle.tb_geom.specs.declared.rect.Rect.{Rect}
use Rattle.region_bytes.specs.Points.{PointRow, points_of}

-- the bytes of a word
abbrev pub word_bytes : ℤ → List ℕ
word_bytes z = to_be_bytes w16 (cast_unsigned w16 z)

-- the words of bytes; a last single byte is left out
unfoldable pub words_in : List ℕ → List ℤ
words_in [] = []
words_in (a ∷ []) = []
words_in (a ∷ b ∷ bytes) = cast_signed w16 (from_be_bytes w16 (a ∷ b ∷ [])) ∷ words_in bytes

-- a row's v, its columns, and the end of the row
abbrev pub row_words : PointRow → List ℤ
row_words row = row.0 ∷ (row.1 ++ pos 32767 ∷ [])

-- the rows, and the end of the data
abbrev pub data_words : List PointRow → List ℤ
data_words rows = flat_map row_words rows ++ pos 32767 ∷ []

-- the least box of some points and one more
abbrev pub grown : Option Rect → Point → Option Rect
grown None p = Some (record { left = p.h; top = p.v; right = p.h; bottom = p.v })
grown (Some r) p = Some (record { left = int_min r.left p.h; top = int_min r.top p.v; right = int_max r.right p.h; bottom = int_max r.bottom p.v })

-- the exact box of the points of the rows
unfoldable pub box_of : List PointRow → Option Rect
box_of rows = fold grown None (points_of rows)

-- top, left, bottom and right, all 0 where there is no point
abbrev pub box_words : Option Rect → List ℤ
box_words None = pos 0 ∷ pos 0 ∷ pos 0 ∷ pos 0 ∷ []
box_words (Some r) = r.top ∷ r.left ∷ r.bottom ∷ r.right ∷ []

-- whether the rows are those of no pixel or of a rectangle, whose box says all
abbrev pub is_short : List PointRow → Bool
is_short [] = true
is_short (row ∷ []) = false
is_short (row ∷ below ∷ []) = length row.1 == 2
is_short (row ∷ below ∷ next ∷ rows) = false

-- the words after the size
unfoldable pub words_of : List PointRow → List ℤ
words_of rows = box_words (box_of rows) ++ cond (is_short rows) [] (data_words rows)

-- the size in bytes, itself counted, and the words
unfoldable pub bytes_of : List PointRow → List ℕ
bytes_of rows = flat_map word_bytes (pos (2 + 2 * length (words_of rows)) ∷ words_of rows)
