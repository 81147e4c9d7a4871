-- What a word stands for in one table behind another, and in a table of something else.
use Rattle.std.proofs.Common.{◌≡◌, ℕ, true, false, List, [], ◌∷◌, ◌++◌, map, Option, Some, None, if◌then◌else◌, bytes_eq, refl, sym, ap, ◌∙◌}
use Rattle.std.specs.Prelude.{option_map}
use Rattle.line_words.specs.Tables.{named}

-- the first of two that is there
abbrev pub first_found : {A : Type 0} → Option A → Option A → Option A
first_found None y = y
first_found (Some x) y = Some x

pub named-append : {A : Type 0} (word : List ℕ) (xs ys : List (List ℕ × A)) → named word (xs ++ ys) ≡ first_found (named word xs) (named word ys)
named-append word [] ys = refl
named-append word (entry ∷ xs) ys =
    elim (bytes_eq entry.0 word) as (λ t. (if t then Some entry.1 else named word (xs ++ ys)) ≡ first_found (if t then Some entry.1 else named word xs) (named word ys)) [
      | true ↦ refl
      | false ↦ named-append word xs ys
    ]

pub named-map : {A B : Type 0} (f : A → B) (word : List ℕ) (xs : List (List ℕ × A)) → named word (map (λ entry. (entry.0, f entry.1)) xs) ≡ option_map f (named word xs)
named-map f word [] = refl
named-map f word (entry ∷ xs) =
    elim (bytes_eq entry.0 word) as (λ t. (if t then Some (f entry.1) else named word (map (λ e. (e.0, f e.1)) xs)) ≡ option_map f (if t then Some entry.1 else named word xs)) [
      | true ↦ refl
      | false ↦ named-map f word xs
    ]

-- where the table in front has the word, and where it has not
pub named-in_front : {A : Type 0} (word : List ℕ) (xs ys : List (List ℕ × A)) (x : A) → Some x ≡ named word xs → Some x ≡ named word (xs ++ ys)
named-in_front word xs ys x is = ap (λ o. first_found o (named word ys)) is ∙ sym (named-append word xs ys)

pub named-behind : {A : Type 0} (word : List ℕ) (xs ys : List (List ℕ × A)) → None ≡ named word xs → named word ys ≡ named word (xs ++ ys)
named-behind word xs ys is = ap (λ o. first_found o (named word ys)) is ∙ sym (named-append word xs ys)
