-- What the definitions of numbers say, in the words of their subject.
use Rattle.std.proofs.Common.{◌≡◌, ℕ, ◌+◌, ◌-◌, ◌*◌, ◌^◌, ◌<◌, ◌&&◌, true, List, [], ◌∷◌, length, fold, decimal, leb, refl, sym, ap, ◌∙◌, arith}
use Rattle.std.specs.Char.{is_ascii_digit}
use Rattle.std.specs.List.{list_all}
use Rattle.std.specs.Str.{all_ascii_digits}
use Rattle.std.proofs.lemmas.Bool.{le-leb}
use Rattle.std.proofs.lemmas.Fmt.{digits_value-decimal, digits_decimal, decimal_nonempty, length-decimal-le}
use Rattle.std.proofs.lemmas.Str.Parse.{FoldsDigits, numerals_by_fold, tells_all_ascii_digits}
use Rattle.line_words.specs.Forms.{IsDigits}
use Rattle.line_words.specs.Words.{is_digit, is_number_text, digits_value}

-- the number that digits write after those of n
value_after : ℕ → List ℕ → ℕ
value_after n digits = fold (λ m b. m * 10 + (b - 48)) n digits

value_folds : FoldsDigits value_after
unfolding value_after
value_folds = record { empty = λ n. refl; more = λ n c cs k. refl }

pub decimal_is_read : (n : ℕ) → n < 2 ^ 64 → digits_value (decimal n) ≡ n
unfolding value_after
decimal_is_read n h = digits_value-decimal (numerals_by_fold _ tells_all_ascii_digits value_after value_folds) n h

digits_alike : (ds : List ℕ) → all_ascii_digits ds ≡ list_all is_digit ds
digits_alike [] = refl
digits_alike (c ∷ cs) = ap (λ b. is_ascii_digit c && b) (digits_alike cs)

number_text-of : (ds : List ℕ) → leb 1 (length ds) ≡ true → leb (length ds) 9 ≡ true → list_all is_digit ds ≡ true → is_number_text ds ≡ true
number_text-of ds some few digits = rw (some, few, digits) refl

pub decimal_is_a_number : (n : ℕ) → n < 10 ^ 9 → IsDigits (decimal n) n
decimal_is_a_number n h =
    let wide : n < 2 ^ 64 = omega (arith, h) in
    let digits : list_all is_digit (decimal n) ≡ true =
    sym (digits_alike (decimal n)) ∙ digits_decimal (numerals_by_fold _ tells_all_ascii_digits value_after value_folds) n wide in
    (number_text-of (decimal n) (le-leb 1 _ (decimal_nonempty n wide)) (le-leb _ 9 (length-decimal-le 9 n (omega arith) h wide)) digits, sym (decimal_is_read n wide))

pub leading_zero : (digits : List ℕ) → digits_value (48 ∷ digits) ≡ digits_value digits
leading_zero digits = refl
