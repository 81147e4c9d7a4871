-- The bytes of hex digits, one after the other.
use Rattle.std.proofs.Common.{◌≡◌, ℕ, ◌+◌, ◌*◌, ◌<◌, ◌≤◌, List, [], ◌∷◌, ◌++◌, length, take, drop, get_or, refl, sym, ap, ◌∙◌, append_assoc, arith}
use Rattle.std.proofs.Math.ListN.{set}
use Rattle.std.proofs.lemmas.List.{drop_more, length-drop, take_more_set, drop-set-lt}
use Rattle.line_words.specs.Hex.{hex_digit_value, hex_value}

-- the byte of the two digits at a place
abbrev pub byte_at : List ℕ → ℕ → ℕ
byte_at xs at = hex_digit_value (get_or xs (2 * at) 0) * 16 + hex_digit_value (get_or xs (2 * at + 1) 0)

-- the bytes so far, and those of the digits that are left
abbrev pub rest_after : List ℕ → ℕ → List ℕ
rest_after xs at = take at xs ++ hex_value (drop (2 * at) xs)

-- the first byte of what is left
first_byte : (xs : List ℕ) (at : ℕ) → 2 * at + 1 < length xs → hex_value (drop (2 * at) xs) ≡ byte_at xs at ∷ hex_value (drop (2 * (at + 1)) xs)
first_byte xs at h =
    let one : drop (2 * at) xs ≡ get_or xs (2 * at) 0 ∷ drop (2 * at + 1) xs = drop_more xs (2 * at) 0 (omega (arith, h)) in
    let two : drop (2 * at + 1) xs ≡ get_or xs (2 * at + 1) 0 ∷ drop (2 * at + 1 + 1) xs = drop_more xs (2 * at + 1) 0 h in
    let e : 2 * at + 1 + 1 ≡ 2 * (at + 1) = omega arith in
    ap hex_value (one ∙ ap (λ l. get_or xs (2 * at) 0 ∷ l) two) ∙ ap (λ k. byte_at xs at ∷ hex_value (drop k xs)) e

-- one byte more
pub one_more : (xs : List ℕ) (at : ℕ) → 2 * at + 1 < length xs
    → rest_after (set xs at (byte_at xs at)) (at + 1) ≡ rest_after xs at
one_more xs at h =
    let front = take_more_set xs at (byte_at xs at) (omega (arith, h)) in
    let rest = drop-set-lt (2 * (at + 1)) xs at (byte_at xs at) (omega arith) in
    (λ i. front i ++ hex_value (rest i)) ∙ append_assoc (take at xs) (byte_at xs at ∷ []) _ ∙ ap (λ l. take at xs ++ l) (sym (first_byte xs at h))

-- nothing is left
pub none_left : (xs : List ℕ) (at : ℕ) → length xs ≤ 2 * at + 1 → hex_value (drop (2 * at) xs) ≡ []
none_left xs at h = short (drop (2 * at) xs) (omega (arith, h, length-drop (2 * at) xs))
  where
    short : (ys : List ℕ) → length ys ≤ 1 → hex_value ys ≡ []
    short [] s = refl
    short (y ∷ []) s = refl
    short (y ∷ z ∷ ys) s = absurd (omega (arith, s))
