-- What a word stands for in a table.
use Rattle.std.proofs.Common.{◌≡◌, ℕ, zero, suc, ◌&&◌, Bool, true, false, if◌then◌else◌, List, [], ◌∷◌, Option, Some, None, is_none, Contains, bytes_eq, refl, sym, ap, ◌∙◌, subst, arith}
use Rattle.std.proofs.lemmas.Bool.{and_parts}
use Rattle.std.proofs.lemmas.Slice.Eq.{bytes_eq-Decides}
use Rattle.line_words.specs.Tables.{named}

-- What a word stands for is what the table has beside it.

pub found_is_in : {A : Type 0} (word : List ℕ) (x : A) (entries : List (List ℕ × A)) → named word entries ≡ Some x → Contains entries (word, x)
found_is_in {A} word x [] h = let bad : ◌≡◌ {A = Option A} None (Some x) = h in cc
found_is_in {A} word x (entry ∷ entries) h = by_test (bytes_eq entry.0 word) (bytes_eq-Decides entry.0 word).0 (found_is_in word x entries) h
  where
    by_test : (b : Bool) → (b ≡ true → entry.0 ≡ word) → (named word entries ≡ Some x → Contains entries (word, x))
        → (if b then Some entry.1 else named word entries) ≡ Some x → Contains (entry ∷ entries) (word, x)
    by_test true same later e =
        let here : entry.1 ≡ x = cc in
        (0, omega arith, ap (λ w. (w, entry.1)) (same refl) ∙ ap (λ v. (word, v)) here)
    by_test false same later e = let found = later e in (suc found.0, omega (arith, found.1), found.2)

-- no word stands twice in the table
abbrev pub are_distinct : {A : Type 0} → List (List ℕ × A) → Bool
are_distinct [] = true
are_distinct (entry ∷ entries) = is_none (named entry.0 entries) && are_distinct entries

pub in_is_found : {A : Type 0} (word : List ℕ) (x : A) (entries : List (List ℕ × A)) → are_distinct entries ≡ true → Contains entries (word, x) → named word entries ≡ Some x
in_is_found word x [] distinct (k, less, e) = absurd (omega (arith, less))
in_is_found {A} word x (entry ∷ entries) distinct (zero, less, e) =
    subst (λ (p : List ℕ × A). (if bytes_eq entry.0 p.0 then Some entry.1 else named p.0 entries) ≡ Some p.1) e (rw ((bytes_eq-Decides entry.0 entry.0).1 refl) refl)
in_is_found {A} word x (entry ∷ entries) distinct (suc k, less, e) =
    by_test (bytes_eq entry.0 word) (bytes_eq-Decides entry.0 word).0 (and_parts (is_none (named entry.0 entries)) (are_distinct entries) distinct).0
    (in_is_found word x entries (and_parts (is_none (named entry.0 entries)) (are_distinct entries) distinct).1 (k, omega (arith, less), e))
  where
    by_test : (b : Bool) → (b ≡ true → entry.0 ≡ word) → is_none (named entry.0 entries) ≡ true → named word entries ≡ Some x → (if b then Some entry.1 else named word entries) ≡ Some x
    by_test true same none later =
        let bad : false ≡ true = sym (ap is_none later) ∙ ap (λ w. is_none (named w entries)) (sym (same refl)) ∙ none in
        cc
    by_test false same none later = later
