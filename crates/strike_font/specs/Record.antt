-- FONT records, read out of their bytes. Words are big-endian; word i lies at byte 2 i. The head has 13: 0 fontType,
-- 1 firstChar, 2 lastChar, 3 widMax, 4 kernMax, 5 nDescent, 6 fRectWidth, 7 fRectHeight, 8 owTLoc, 9 ascent,
-- 10 descent, 11 leading, 12 rowWords. The bit image follows, and then a word for each symbol's location; the table of
-- offsets and widths begins owTLoc words after that field. Symbols are the characters from firstChar to lastChar, then
-- the missing symbol, and then one more place, which ends both tables.
use Rattle.std.specs.Prelude.{ℕ, zero, suc, ◌+◌, ◌*◌, ◌<◌, ◌≤◌, ℤ, pos, negsuc, ◌-ℤ◌, ◌≤ℤ◌, ◌<ℤ◌, Bool, true, not, cond, ◌&&◌, ◌||◌, nat_le, nat_lt, nat_eq, int_le, List, length, slice_index}
use Rattle.tb_geom.specs.Rects.{between}

-- word i, unsigned
unfoldable pub word : List ℕ → ℕ → ℕ
word bs i = slice_index bs (2 * i) * 256 + slice_index bs (2 * i + 1)

-- a word as a signed number
abbrev pub signed : ℕ → ℤ
signed n = cond (nat_lt n 32768) (pos n) (pos n -ℤ pos 65536)

-- how far the second number lies above the first, or 0
abbrev pub above : ℤ → ℕ
above (pos n) = n
above (negsuc n) = 0

abbrev pub gap : ℤ → ℤ → ℕ
gap low high = above (high -ℤ low)

unfoldable pub first_char : List ℕ → ℤ
first_char bs = signed (word bs 1)

unfoldable pub last_char : List ℕ → ℤ
last_char bs = signed (word bs 2)

-- kernMax
abbrev pub kern : List ℕ → ℤ
kern bs = signed (word bs 4)

-- fRectHeight: the rows of the bit image, and so of each glyph
abbrev pub height : List ℕ → ℕ
height bs = word bs 7

abbrev pub ascent : List ℕ → ℕ
ascent bs = word bs 9

abbrev pub descent : List ℕ → ℕ
descent bs = word bs 10

-- leading, none where the word is no number of so few rows
abbrev pub leading : List ℕ → ℕ
leading bs = cond (nat_lt (word bs 11) 128) (word bs 11) 0

abbrev pub words_of_row : List ℕ → ℕ
words_of_row bs = word bs 12

-- the missing symbol, which comes after that of the last character
unfoldable pub last_symbol : List ℕ → ℕ
last_symbol bs = gap (first_char bs) (last_char bs) + 1

-- the words before the location table: the 13 of the head, and the bit image
unfoldable pub strike_words : List ℕ → ℕ
strike_words bs = 13 + words_of_row bs * height bs

-- where a symbol's columns begin in the bit image, and so where those of the one before end
unfoldable pub location : List ℕ → ℕ → ℕ
location bs symbol = word bs (strike_words bs + symbol)

-- a symbol's offset and width, as one word: offset * 256 + width
unfoldable pub entry : List ℕ → ℕ → ℕ
entry bs symbol = word bs (8 + word bs 8 + symbol)

-- the bytes hold the head
abbrev pub has_head : List ℕ → Bool
has_head bs = nat_le 26 (length bs)

-- 0x9000 .. 0x9003 or 0xB000 .. 0xB003
abbrev pub is_font_type : ℕ → Bool
is_font_type n = (nat_le 0x9000 n && nat_le n 0x9003) || (nat_le 0xB000 n && nat_le n 0xB003)

-- firstChar and lastChar
abbrev pub good_chars : List ℕ → Bool
good_chars bs = int_le (first_char bs) (last_char bs) && int_le (last_char bs) (pos 255)

-- low <= n <= high
abbrev pub is_within : ℕ → ℕ → ℕ → Bool
is_within low n high = nat_le low n && nat_le n high

-- fRectHeight 1 .. 127, ascent and descent 0 .. 127, kernMax -128 .. 127, rowWords 0 .. 2047, owTLoc above 0. A word
-- that is negative is unsigned a number above 32767, and so in none of these ranges but that of kernMax
unfoldable pub good_fields : List ℕ → Bool
good_fields bs =
    is_within 1 (height bs) 127
    && (is_within 0 (ascent bs) 127
    && (is_within 0 (descent bs) 127
    && (between (negsuc 127) (kern bs) (pos 128)
    && (is_within 0 (words_of_row bs) 2047 && is_within 1 (word bs 8) 32767))))

-- all fields of the head that count
unfoldable pub good_head : List ℕ → Bool
good_head bs = is_font_type (word bs 0) && (good_chars bs && good_fields bs)

-- the bytes hold the image with the locations behind it, and the table of offsets and widths, wherever it lies
unfoldable pub has_tables : List ℕ → Bool
has_tables bs =
    nat_le (2 * (strike_words bs + (last_symbol bs + 2))) (length bs)
    && nat_le (2 * (8 + word bs 8 + (last_symbol bs + 2))) (length bs)

-- so many bytes hold all parts of any record: the head, an image of 127 rows of 2047 words, and 33026 locations
abbrev pub longest_record : ℕ
longest_record = 2 * (13 + 2047 * 127 + 33026)

-- the tables as a fact
pub record HasTables (bs : List ℕ) : Type 0 where
  pub locations_in : 2 * (strike_words bs + (last_symbol bs + 2)) ≤ length bs
  pub entries_in : 2 * (8 + word bs 8 + (last_symbol bs + 2)) ≤ length bs

-- each of the first n locations is at most the next one
abbrev pub rising : List ℕ → ℕ → Bool
rising bs zero = true
rising bs (suc n) = rising bs n && nat_le (location bs n) (location bs (suc n))

-- no location is smaller than the one before; the last and so each is at most a row of the image; and the missing
-- symbol is not itself missing
unfoldable pub good_tables : List ℕ → Bool
good_tables bs =
    rising bs (last_symbol bs + 1)
    && (nat_le (location bs (last_symbol bs + 1)) (16 * words_of_row bs) && not (nat_eq (entry bs (last_symbol bs)) 65535))

-- whether bytes are a FONT record; those after its parts do not count
unfoldable pub is_font : List ℕ → Bool
is_font bs = has_head bs && (good_head bs && (has_tables bs && good_tables bs))

-- what the tests say of a font, as facts; readers rest on them
pub record IsFont (bs : List ℕ) : Type 0 where
  pub head : 26 ≤ length bs
  pub tables : HasTables bs
  pub rising : (s : ℕ) → s ≤ last_symbol bs → location bs s ≤ location bs (s + 1)
  pub ends : (s : ℕ) → s ≤ last_symbol bs + 1 → location bs s ≤ 16 * words_of_row bs
  pub height_low : 0 < height bs
  pub height_high : height bs < 128
  pub ascent_high : ascent bs < 128
  pub descent_high : descent bs < 128
  pub kern_low : negsuc 127 ≤ℤ kern bs
  pub kern_high : kern bs <ℤ pos 128
  pub row_high : words_of_row bs < 2048
