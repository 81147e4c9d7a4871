-- How the words of a line are read from left to right. What is left of a line is None at its end.
use Rattle.std.specs.Prelude.{ℕ, ◌+◌, ◌-◌, ◌*◌, ℤ, pos, neg_ℤ, nat_abs, Bool, true, false, ◌&&◌, List, [], ◌∷◌, length, fold, Option, Some, None, option_map, Result, Ok, Err, nat_le, ◌==◌, if◌then◌else◌}
use Rattle.std.specs.Char.{is_ascii_alphabetic, is_ascii_alphanumeric}
use Rattle.std.specs.Int.{int_max}
use Rattle.std.specs.List.{list_all}
use Rattle.tb_geom.specs.declared.point.Point.{Point}
use Rattle.tb_geom.specs.declared.rect.Rect.{Rect}
use Rattle.tb_geom.specs.declared.refusal.Refusal.{Refusal}
use Rattle.tb_geom.specs.declared.refusal.Refusal.TheVariants.{BadSyntax}
use Rattle.line_words.specs.Hex.{hex_of}

infixl 10 ◌>>=◌
-- what comes of a value, or the refusal that stands in its place
abbrev pub ◌>>=◌ : {A B : Type 0} → Result A Refusal → (A → Result B Refusal) → Result B Refusal
(Ok x) >>= f = f x
(Err e) >>= f = Err e

-- a word's value, and what is left of the line after it
abbrev pub Field : Type 0 → Type 0
Field A = Result (A × Option (List ℕ)) Refusal

-- the bytes before and after the first mark
abbrev pub split_at : ℕ → List ℕ → Option (List ℕ × List ℕ)
split_at mark [] = None
split_at mark (b ∷ bs) = if b == mark then Some ([], bs) else option_map (λ p. (b ∷ p.0, p.1)) (split_at mark bs)

-- the first byte and the others
abbrev pub first_of : List ℕ → Option (ℕ × List ℕ)
first_of [] = None
first_of (b ∷ bs) = Some (b, bs)

-- the parts around a mark, or the whole and nothing after it
abbrev pub parts : List ℕ → Option (List ℕ × List ℕ) → List ℕ × Option (List ℕ)
parts whole None = (whole, None)
parts whole (Some p) = (p.0, Some p.1)

-- the bytes up to the first space, and those after it
unfoldable pub word_at : Option (List ℕ) → Field (List ℕ)
word_at None = Err BadSyntax
word_at (Some xs) = Ok (parts xs (split_at 32 xs))

-- what a word stands for, if for anything, and what is left after it
abbrev pub with_rest : {A : Type 0} → Option A → Option (List ℕ) → Field A
with_rest None more = Err BadSyntax
with_rest (Some x) more = Ok (x, more)

-- `0` to `9`
abbrev pub is_digit : ℕ → Bool
is_digit b = nat_le 48 b && nat_le b 57

-- 1 to 9 digits
abbrev pub is_number_text : List ℕ → Bool
is_number_text digits = nat_le 1 (length digits) && (nat_le (length digits) 9 && list_all is_digit digits)

-- what digits stand for
abbrev pub digits_value : List ℕ → ℕ
digits_value digits = fold (λ n b. n * 10 + (b - 48)) 0 digits

-- what 1 to 9 digits stand for
abbrev pub digits_of : List ℕ → Option ℤ
digits_of bs = if is_number_text bs then Some (pos (digits_value bs)) else None

-- what a minus sign or none, and 1 to 9 digits stand for
unfoldable pub number_said : List ℕ → Option ℤ
number_said [] = None
number_said (b ∷ bs) = if b == 45 then option_map neg_ℤ (digits_of bs) else digits_of (b ∷ bs)

-- a word that is a number
unfoldable pub number_at : Option (List ℕ) → Field ℤ
number_at rest = word_at rest >>= λ word. with_rest (number_said word.0) word.1

-- the number by which something is asked for, as a window; a number below 1 is nothing's, as 0 is
abbrev pub serial_of : ℤ → ℕ
serial_of number = nat_abs (int_max number (pos 0))

-- a word that is the number of something
abbrev pub serial_at : Option (List ℕ) → Field ℕ
serial_at rest = number_at rest >>= λ number. Ok (serial_of number.0, number.1)

-- a point: its column and its row
abbrev pub point_at : Option (List ℕ) → Field Point
point_at rest = number_at rest >>= λ h. number_at h.1 >>= λ v. Ok (record { h = h.0; v = v.0 }, v.1)

-- a rectangle: its left, top, right and bottom side
abbrev pub rect_at : Option (List ℕ) → Field Rect
rect_at rest =
    number_at rest >>= λ left. number_at left.1 >>= λ top. number_at top.1 >>= λ right. number_at right.1 >>= λ bottom.
    Ok (record { left = left.0; top = top.0; right = right.0; bottom = bottom.0 }, bottom.1)

-- `0` is false, and `1` is true
abbrev pub flag_of : List ℕ → Option Bool
flag_of [] = None
flag_of (b ∷ []) = if b == 48 then Some false else (if b == 49 then Some true else None)
flag_of (b ∷ c ∷ bs) = None

-- a word that is a flag
unfoldable pub flag_at : Option (List ℕ) → Field Bool
flag_at rest = word_at rest >>= λ word. with_rest (flag_of word.0) word.1

-- letters and digits, a letter first
abbrev pub is_name : List ℕ → Bool
is_name [] = false
is_name (b ∷ bs) = is_ascii_alphabetic b && list_all is_ascii_alphanumeric bs

-- a word that is a name
unfoldable pub name_at : Option (List ℕ) → Field (List ℕ)
name_at rest = word_at rest >>= λ word. if is_name word.0 then Ok (word.0, word.1) else Err BadSyntax

-- a word of hex digits
unfoldable pub hex_at : Option (List ℕ) → Field (List ℕ)
hex_at rest = word_at rest >>= λ word. with_rest (hex_of word.0) word.1

-- the bytes that a line may have: 0x20 to 0x7E
abbrev pub is_plain : ℕ → Bool
is_plain b = nat_le 32 b && nat_le b 126

-- what follows a closing quote: a space and more, or the end
abbrev pub after_quote : List ℕ → List ℕ → Field (List ℕ)
after_quote text [] = Ok (text, None)
after_quote text (b ∷ rest) = if b == 32 then Ok (text, Some rest) else Err BadSyntax

-- the parts around a closing quote
abbrev pub quoted_parts : Option (List ℕ × List ℕ) → Field (List ℕ)
quoted_parts None = Err BadSyntax
quoted_parts (Some p) = if list_all is_plain p.0 then after_quote p.0 p.1 else Err BadSyntax

-- the text up to the next quote
unfoldable pub quoted_at : List ℕ → Field (List ℕ)
quoted_at xs = quoted_parts (split_at 34 xs)

-- a text between two quotes
unfoldable pub text_at : Option (List ℕ) → Field (List ℕ)
text_at None = Err BadSyntax
text_at (Some []) = Err BadSyntax
text_at (Some (b ∷ xs)) = if b == 34 then quoted_at xs else Err BadSyntax

-- a quote comes next
abbrev pub begins_text : Option (List ℕ) → Bool
begins_text None = false
begins_text (Some []) = false
begins_text (Some (b ∷ xs)) = b == 34

-- a word of bytes: a text between two quotes, or hex digits
unfoldable pub bytes_at : Option (List ℕ) → Field (List ℕ)
bytes_at rest = if begins_text rest then text_at rest else hex_at rest

-- the end of a line
abbrev pub end_at : Option (List ℕ) → Result (Unit {0}) Refusal
end_at None = Ok tt
end_at (Some rest) = Err BadSyntax

-- what is read at the end of a line: nothing is left after it
abbrev pub last : {A : Type 0} → Field A → Result A Refusal
last field = field >>= λ x. end_at x.1 >>= λ _. Ok x.0
