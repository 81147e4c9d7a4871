-- Bytes as digits, part by part.
use Rattle.std.proofs.Common.{◌≡◌, ℕ, ◌+◌, ◌/◌, ◌%◌, ◌<◌, List, [], ◌∷◌, ◌++◌, length, take, get_or, refl, sym, ap, ◌∙◌, append_assoc}
use Rattle.std.proofs.lemmas.List.{take_more}
use Rattle.line_words.specs.Hex.{hex_digit, hex_text}

-- one text after the other
pub hex_text-append : (a : ℕ) (xs ys : List ℕ) → hex_text a (xs ++ ys) ≡ hex_text a xs ++ hex_text a ys
hex_text-append a [] ys = refl
hex_text-append a (x ∷ xs) ys = ap (λ l. hex_digit a (x / 16) ∷ hex_digit a (x % 16) ∷ l) (hex_text-append a xs ys)

-- the digits of one more byte
pub hex_text-more : (a : ℕ) (xs : List ℕ) (i d high low : ℕ) (before between after : List ℕ) → i < length xs
    → before ≡ hex_text a (take i xs) → between ≡ before ++ high ∷ [] → after ≡ between ++ low ∷ []
    → high ≡ hex_digit a (get_or xs i d / 16) → low ≡ hex_digit a (get_or xs i d % 16) → after ≡ hex_text a (take (i + 1) xs)
hex_text-more a xs i d high low before between after less e f g h l =
    g ∙ ap (λ t. t ++ low ∷ []) (f ∙ ap (λ t. t ++ high ∷ []) e) ∙ append_assoc (hex_text a (take i xs)) (high ∷ []) (low ∷ [])
    ∙ (λ k. hex_text a (take i xs) ++ h k ∷ l k ∷ [])
    ∙ sym (hex_text-append a (take i xs) (get_or xs i d ∷ [])) ∙ ap (hex_text a) (sym (take_more xs i d less))

-- the part that goes out next joins those that are out
pub hex_text-moves : (a : ℕ) (all done rest front back : List ℕ) → all ≡ done ++ rest → rest ≡ front ++ back → all ≡ (done ++ front) ++ back
hex_text-moves a all done rest front back e f = e ∙ ap (λ l. done ++ l) f ∙ sym (append_assoc done front back)

-- the digits of the parts that are out, of the next, and of those behind it
pub hex_text-around : (a : ℕ) (all done front back : List ℕ) → all ≡ (done ++ front) ++ back → hex_text a all ≡ (hex_text a done ++ hex_text a front) ++ hex_text a back
hex_text-around a all done front back e =
    ap (hex_text a) e ∙ hex_text-append a (done ++ front) back ∙ ap (λ l. l ++ hex_text a back) (hex_text-append a done front)
