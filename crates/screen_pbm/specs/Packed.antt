-- Bytes of the bits of words, and characters of those of bytes.
use Rattle.std.specs.Prelude.{◌≡◌, ℕ, ◌+◌, ◌*◌, ◌/◌, ◌%◌, ◌<◌, ◌≤◌, Bool, List, length, slice_index}
use Rattle.bit_map.specs.Patterns.{bit_of}
use Rattle.bit_map.specs.Words.{bit_in, place_bit}
use Rattle.screen_pbm.specs.Pbm.{digit_of}

-- the bytes have the bits of the first `count` of some words
abbrev pub HasBits : List ℕ → List ℕ → ℕ → Type 0
HasBits bytes words count = (n : ℕ) → n < 64 * count → bit_of (slice_index bytes (n / 8)) (n % 8) ≡ place_bit words n

-- the bytes have the bits of a word at its place, and before it those that they had
pub record IsPut (place word : ℕ) (old new : List ℕ) : Type 0 where
  pub all : length new ≡ length old
  pub own : (k : ℕ) → k < 64 → bit_of (slice_index new (8 * place + k / 8)) (k % 8) ≡ bit_in word k
  pub before : (i : ℕ) → i < 8 * place → slice_index new i ≡ slice_index old i

-- the text has the characters of `count` bits at their place, and before it those that it had
pub record AreDigitsPut (count place : ℕ) (bits : ℕ → Bool) (old new : List ℕ) : Type 0 where
  pub all : length new ≡ length old
  pub own : (k : ℕ) → k < count → slice_index new (count * place + k) ≡ digit_of (bits k)
  pub before : (i : ℕ) → i < count * place → slice_index new i ≡ slice_index old i

-- the text begins with the characters of the bits of the first `count` words
abbrev pub HasDigits : List ℕ → List ℕ → ℕ → Type 0
HasDigits text words count = (n : ℕ) → n < 64 * count → slice_index text n ≡ digit_of (place_bit words n)
