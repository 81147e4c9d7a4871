-- Bytes that are written as hex digits are read back.
use Rattle.std.proofs.Common.{◌≡◌, ◌⊎◌, inl, inr, ℕ, ◌+◌, ◌*◌, ◌/◌, ◌%◌, ◌<◌, true, List, [], ◌∷◌, length, Some, refl, ap, ◌∙◌, arith}
use Rattle.std.specs.Char.{is_ascii_hexdigit}
use Rattle.std.specs.List.{AllByRecursion, list_all}
use Rattle.std.proofs.lemmas.Bool.Decides.{nat_tests}
use Rattle.line_words.specs.Hex.{hex_digit_value, hex_value, is_hex_text, hex_of, hex_digit, hex_text}

-- the two letters that stand for 10
abbrev IsTen : ℕ → Type 0
IsTen a = (a ≡ 65) ⊎ (a ≡ 97)

digit_read : (a n : ℕ) → IsTen a → n < 16 → hex_digit_value (hex_digit a n) ≡ n
digit_read a n (inl e) h = rw e (grind (arith, nat_tests))
digit_read a n (inr e) h = rw e (grind (arith, nat_tests))

digit_is : (a n : ℕ) → IsTen a → n < 16 → is_ascii_hexdigit (hex_digit a n) ≡ true
digit_is a n (inl e) h = rw e (grind (arith, nat_tests))
digit_is a n (inr e) h = rw e (grind (arith, nat_tests))

-- whatever the digit, the other one follows
byte_read : (a b : ℕ) → IsTen a → b < 256 → hex_digit_value (hex_digit a (b / 16)) * 16 + hex_digit_value (hex_digit a (b % 16)) ≡ b
byte_read a b ten h =
    let high = digit_read a (b / 16) ten (omega (arith, h)) in
    let low = digit_read a (b % 16) ten (omega arith) in
    (λ i. high i * 16 + low i) ∙ omega arith

value_read : (a : ℕ) → IsTen a → (bytes : List ℕ) → AllByRecursion (λ b. b < 256) bytes → hex_value (hex_text a bytes) ≡ bytes
value_read a ten [] h = refl
value_read a ten (b ∷ bs) h = λ i. byte_read a b ten h.0 i ∷ value_read a ten bs h.1 i

digits_are : (a : ℕ) → IsTen a → (bytes : List ℕ) → AllByRecursion (λ b. b < 256) bytes → list_all is_ascii_hexdigit (hex_text a bytes) ≡ true
digits_are a ten [] h = refl
digits_are a ten (b ∷ bs) h = rw (digit_is a (b / 16) ten (omega (arith, h.0)), digit_is a (b % 16) ten (omega arith)) (digits_are a ten bs h.1)

length-hex_text : (a : ℕ) (bytes : List ℕ) → length (hex_text a bytes) ≡ 2 * length bytes
length-hex_text a [] = refl
length-hex_text a (b ∷ bs) = omega (arith, length-hex_text a bs)

is_text : (digits : List ℕ) (n : ℕ) → length digits ≡ 2 * (n + 1) → list_all is_ascii_hexdigit digits ≡ true → is_hex_text digits ≡ true
is_text digits n e h = rw h (grind (arith, nat_tests))

pub hex_is_read : (a : ℕ) → (a ≡ 65) ⊎ (a ≡ 97) → (b : ℕ) (bytes : List ℕ) → AllByRecursion (λ x. x < 256) (b ∷ bytes) → hex_of (hex_text a (b ∷ bytes)) ≡ Some (b ∷ bytes)
hex_is_read a ten b bytes h =
    let text : is_hex_text (hex_text a (b ∷ bytes)) ≡ true = is_text (hex_text a (b ∷ bytes)) (length bytes) (omega (arith, length-hex_text a (b ∷ bytes))) (digits_are a ten (b ∷ bytes) h) in
    rw text (ap Some (value_read a ten (b ∷ bytes) h))
