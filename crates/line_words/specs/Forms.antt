-- Which words have which form, and what they stand for, apart from how they are read.
use Rattle.std.specs.Prelude.{◌≡◌, ℕ, ℤ, pos, neg_ℤ, Bool, true, ◌⊎◌, List, [], ◌∷◌, ◌++◌, Option, Some, None, if◌then◌else◌}
use Rattle.std.specs.Char.{is_ascii_alphabetic, is_ascii_alphanumeric}
use Rattle.std.specs.List.{list_all}
use Rattle.line_words.specs.Hex.{is_hex_text, hex_value}
use Rattle.line_words.specs.Words.{is_number_text, digits_value, is_plain}

-- what follows a word: a space and more, or the end
abbrev pub follows : Option (List ℕ) → List ℕ
follows None = []
follows (Some more) = 32 ∷ more

-- no byte is the mark
abbrev pub HasNo : ℕ → List ℕ → Type 0
HasNo mark [] = Unit {0}
HasNo mark (b ∷ bs) = (b ≡ mark → ⊥) × HasNo mark bs

-- 1 to 9 digits that stand for n
abbrev pub IsDigits : List ℕ → ℕ → Type 0
IsDigits digits n = (is_number_text digits ≡ true) × (n ≡ digits_value digits)

-- digits, or a minus sign and digits
abbrev pub IsNumber : List ℕ → ℤ → Type 0
IsNumber [] z = ⊥
IsNumber (b ∷ bs) z = ((b ≡ 45) × (n : ℕ) × IsDigits bs n × (z ≡ neg_ℤ (pos n))) ⊎ ((n : ℕ) × IsDigits (b ∷ bs) n × (z ≡ pos n))

-- `1` for true, `0` for false
abbrev pub IsFlag : List ℕ → Bool → Type 0
IsFlag word b = word ≡ (if b then 49 else 48) ∷ []

-- letters and digits, a letter first
abbrev pub IsName : List ℕ → Type 0
IsName [] = ⊥
IsName (b ∷ bs) = (is_ascii_alphabetic b ≡ true) × (list_all is_ascii_alphanumeric bs ≡ true)

-- bytes that a line may have, and no quote among them
abbrev pub IsPlainText : List ℕ → Type 0
IsPlainText t = (list_all is_plain t ≡ true) × HasNo 34 t

-- an even count of hex digits, at least two, that stand for the bytes
abbrev pub IsHex : List ℕ → List ℕ → Type 0
IsHex word bytes = (is_hex_text word ≡ true) × (bytes ≡ hex_value word)

-- a text between two quotes, or hex digits that stand for the bytes
abbrev pub IsBytes : List ℕ → List ℕ → Type 0
IsBytes word bytes = ((word ≡ 34 ∷ (bytes ++ 34 ∷ [])) × IsPlainText bytes) ⊎ IsHex word bytes
