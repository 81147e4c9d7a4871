-- Bytes written as hex digits.
use Rattle.std.specs.Prelude.{ℕ, ◌+◌, ◌-◌, ◌*◌, ◌/◌, ◌%◌, Bool, ◌&&◌, List, [], ◌∷◌, length, Option, Some, None, nat_le, nat_lt, ◌==◌, if◌then◌else◌}
use Rattle.std.specs.Char.{is_ascii_hexdigit}
use Rattle.std.specs.List.{list_all}

-- what a hex digit stands for: `0` to `9`, and `A` to `F` or `a` to `f` for 10 to 15; another byte for 0
abbrev pub hex_digit_value : ℕ → ℕ
hex_digit_value b =
    if nat_le 48 b && nat_le b 57 then b - 48
    else (if nat_le 65 b && nat_le b 70 then b - 65 + 10
    else (if nat_le 97 b && nat_le b 102 then b - 97 + 10 else 0))

-- an even count of hex digits, at least two
abbrev pub is_hex_text : List ℕ → Bool
is_hex_text word = nat_le 2 (length word) && (length word % 2 == 0 && list_all is_ascii_hexdigit word)

-- the bytes that hex digits stand for, two digits each, the high one first
abbrev pub hex_value : List ℕ → List ℕ
hex_value [] = []
hex_value (digit ∷ []) = []
hex_value (high ∷ low ∷ digits) = (hex_digit_value high * 16 + hex_digit_value low) ∷ hex_value digits

-- the bytes that a word stands for
abbrev pub hex_of : List ℕ → Option (List ℕ)
hex_of word = if is_hex_text word then Some (hex_value word) else None

-- the digit of a number below 16, where the letter `a` stands for 10: `A` (65) or `a` (97)
abbrev pub hex_digit : ℕ → ℕ → ℕ
hex_digit a n = if nat_lt n 10 then 48 + n else a + (n - 10)

-- bytes written as hex digits, by the same letter
abbrev pub hex_text : ℕ → List ℕ → List ℕ
hex_text a [] = []
hex_text a (b ∷ bytes) = hex_digit a (b / 16) ∷ hex_digit a (b % 16) ∷ hex_text a bytes
