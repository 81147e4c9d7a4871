-- What the replies of all managers are made of.
use Rattle.std.specs.Prelude.{ℕ, Bool, not, ◌&&◌, ◌==◌, List, ◌++◌, Option, None, Some, codes, decimal, if◌then◌else◌}
use Rattle.std.specs.List.{list_all}
use Rattle.line_words.specs.Hex.{hex_text}
use Rattle.line_words.specs.Words.{is_plain}

-- a call that was done and has no value
abbrev pub done_text : List ℕ
done_text = codes "ok\n"

-- a number
abbrev pub number_text : ℕ → List ℕ
number_text number = codes "ok " ++ (decimal number ++ codes "\n")

-- a thing by its number, and none by 0
abbrev pub number_or_none : Option ℕ → ℕ
number_or_none None = 0
number_or_none (Some number) = number

-- a region, as its bytes: each is two digits, with the letters `A` to `F`
abbrev pub region_text : List ℕ → List ℕ
region_text bytes = codes "ok " ++ (hex_text 65 bytes ++ codes "\n")

-- `1` for true, `0` for false
abbrev pub flag_text : Bool → List ℕ
flag_text flag = if flag then codes "1" else codes "0"

-- 1 for true, 0 for false
abbrev pub flag_number : Bool → ℕ
flag_number flag = if flag then 1 else 0

-- the bytes that a text between two quotes may have
abbrev pub is_text_byte : ℕ → Bool
is_text_byte b = is_plain b && not (b == 34)

-- bytes between two quotes
abbrev pub quoted_text : List ℕ → List ℕ
quoted_text bytes = codes "ok \"" ++ (bytes ++ codes "\"\n")

-- bytes as a text, where each may stand in one, and else as hex digits, as those of a region
abbrev pub bytes_text : List ℕ → List ℕ
bytes_text bytes = if list_all is_text_byte bytes then quoted_text bytes else region_text bytes
