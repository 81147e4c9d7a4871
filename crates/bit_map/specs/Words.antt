-- Rows of bits in words of 64 bits, the high bit left.
use Rattle.std.specs.Prelude.{◌≡◌, ◌≢◌, ℕ, ◌+◌, ◌-◌, ◌*◌, ◌/◌, ◌%◌, ◌^◌, ◌<◌, ◌≤◌, Bool, List, length, map, nat_eq, slice_index, if◌then◌else◌}
use Rattle.std.specs.List.{range_with_len}

-- the bit of a word at a place, place 0 being the high bit
unfoldable pub bit_in : ℕ → ℕ → Bool
bit_in word place = nat_eq (word / 2 ^ (63 - place) % 2) 1

-- the bit at a place of a list of words, the places counted on from word to word
unfoldable pub place_bit : List ℕ → ℕ → Bool
place_bit words n = bit_in (slice_index words (n / 64)) (n % 64)

-- how many words a row of so many columns takes
abbrev pub words_across : ℕ → ℕ
words_across width = (width + 63) / 64

-- the bits of the pixels row by row, where each row begins with a new word; no pixel has the bits past its last column
unfoldable pub black_of : ℕ → ℕ → List ℕ → List Bool
black_of width height words = map (λ i. place_bit words (i / width * (64 * words_across width) + i % width)) (range_with_len 0 (height * width))

-- there are words for each row, and no side is longer than 32767
pub record IsWholeMap (width height : ℕ) (words : List ℕ) : Type 0 where
  pub all : length words ≡ height * words_across width
  pub across : width ≤ 32767
  pub down : height ≤ 32767

-- the bits of a part of the words, `count` of them from `place` on, are the old ones from `source` on, and no other changed
pub record IsMoved (place source count : ℕ) (old new : List ℕ) : Type 0 where
  pub all : length new ≡ length old
  pub run : (k : ℕ) → k < count → place_bit new (place + k) ≡ place_bit old (source + k)
  pub before : (i : ℕ) → i < place → place_bit new i ≡ place_bit old i
  pub after : (i : ℕ) → place + count ≤ i → place_bit new i ≡ place_bit old i

-- a word got the bits `word` where the mask is white, and no other bit changed
pub record IsRestored (at word mask : ℕ) (old new : List ℕ) : Type 0 where
  pub all : length new ≡ length old
  pub here : (n : ℕ) → n / 64 ≡ at → place_bit new n ≡ (if bit_in mask (n % 64) then place_bit old n else bit_in word (n % 64))
  pub other : (n : ℕ) → n / 64 ≢ at → place_bit new n ≡ place_bit old n
