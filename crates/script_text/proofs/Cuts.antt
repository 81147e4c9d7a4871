-- Lines, from a script that grows at its end: the definition goes from the front, and the bytes come one by one behind.
use Rattle.std.proofs.Common.{◌≡◌, ℕ, ℤ, ◌+◌, ◌-◌, ◌≤◌, true, false, cond, eqb, List, [], ◌∷◌, ◌++◌, length, map, take, get_or, refl, ap, ◌∙◌, arith, inl, inr}
use Rattle.std.proofs.lemmas.List.{map-append, length-append, length-take}
use Rattle.std.proofs.lemmas.Bool.{ne_eqb, cases_lt, cases_eq, cond_both}
use Rattle.std.proofs.lemmas.Bool.Decides.{nat_tests}
use Rattle.std.specs.Str.Lines.{strip_carriage_return}
use Rattle.script_text.specs.Lines.{add_front, cut, whole_lines, last_part, said}
use Rattle.script_text.specs.Held.{said_held, said_last, held_of, pushed}

-- ---- a newline: what was left is a line now

front-newline : (b : ℕ) (lines : List (List ℕ)) (part : List ℕ) → add_front b (lines ++ part ∷ [], []) ≡ ((add_front b (lines, part)).0 ++ (add_front b (lines, part)).1 ∷ [], [])
front-newline b [] part = refl
front-newline b (line ∷ lines) part = refl

cut-newline : (xs : List ℕ) → cut (xs ++ 10 ∷ []) ≡ ((cut xs).0 ++ (cut xs).1 ∷ [], [])
cut-newline [] = refl
cut-newline (b ∷ bs) =
    elim (eqb b 10) as (λ t. cond t ([] ∷ (cut (bs ++ 10 ∷ [])).0, (cut (bs ++ 10 ∷ [])).1) (add_front b (cut (bs ++ 10 ∷ [])))
    ≡ ((cond t ([] ∷ (cut bs).0, (cut bs).1) (add_front b (cut bs))).0 ++ (cond t ([] ∷ (cut bs).0, (cut bs).1) (add_front b (cut bs))).1 ∷ [], [])) [
      | true ↦ ap (λ (p : List (List ℕ) × List ℕ). ([] ∷ p.0, p.1)) (cut-newline bs)
      | false ↦ ap (add_front b) (cut-newline bs) ∙ front-newline b (cut bs).0 (cut bs).1
    ]

pub whole_lines-newline : (xs : List ℕ) → whole_lines (xs ++ 10 ∷ []) ≡ whole_lines xs ++ strip_carriage_return (last_part xs) ∷ []
unfolding whole_lines last_part
whole_lines-newline xs = ap (λ p. map strip_carriage_return p.0) (cut-newline xs) ∙ map-append strip_carriage_return (cut xs).0 ((cut xs).1 ∷ [])

pub last_part-newline : (xs : List ℕ) → last_part (xs ++ 10 ∷ []) ≡ []
unfolding last_part
last_part-newline xs = ap (λ p. p.1) (cut-newline xs)

-- ---- another byte: what is left grows

front-other : (b c : ℕ) (lines : List (List ℕ)) (part : List ℕ) → add_front b (lines, part ++ c ∷ []) ≡ ((add_front b (lines, part)).0, (add_front b (lines, part)).1 ++ c ∷ [])
front-other b c [] part = refl
front-other b c (line ∷ lines) part = refl

cut-other : (xs : List ℕ) (c : ℕ) → eqb c 10 ≡ false → cut (xs ++ c ∷ []) ≡ ((cut xs).0, (cut xs).1 ++ c ∷ [])
cut-other [] c h = rw h refl
cut-other (b ∷ bs) c h =
    elim (eqb b 10) as (λ t. cond t ([] ∷ (cut (bs ++ c ∷ [])).0, (cut (bs ++ c ∷ [])).1) (add_front b (cut (bs ++ c ∷ [])))
    ≡ ((cond t ([] ∷ (cut bs).0, (cut bs).1) (add_front b (cut bs))).0, (cond t ([] ∷ (cut bs).0, (cut bs).1) (add_front b (cut bs))).1 ++ c ∷ [])) [
      | true ↦ ap (λ (p : List (List ℕ) × List ℕ). ([] ∷ p.0, p.1)) (cut-other bs c h)
      | false ↦ ap (add_front b) (cut-other bs c h) ∙ front-other b c (cut bs).0 (cut bs).1
    ]

pub whole_lines-other : (xs : List ℕ) (c : ℕ) → (c ≡ 10 → ⊥) → whole_lines (xs ++ c ∷ []) ≡ whole_lines xs
unfolding whole_lines
whole_lines-other xs c h = ap (λ p. map strip_carriage_return p.0) (cut-other xs c (ne_eqb c 10 h))

pub last_part-other : (xs : List ℕ) (c : ℕ) → (c ≡ 10 → ⊥) → last_part (xs ++ c ∷ []) ≡ last_part xs ++ c ∷ []
unfolding last_part
last_part-other xs c h = ap (λ p. p.1) (cut-other xs c (ne_eqb c 10 h))

-- ---- what is held is enough: of a line that is too long for the buffer no byte is needed

pub pushed-held_of : (part : List ℕ) (b : ℕ) → pushed (held_of part) b ≡ held_of (part ++ b ∷ [])
unfolding held_of
pushed-held_of part b =
    let n : length (part ++ b ∷ []) ≡ length part + 1 = length-append part (b ∷ []) in
    elim (cases_lt (length part) 1025) [
      | inl small ↦ grind (arith, nat_tests)
      | inr large ↦ elim (cases_eq (length part) 1025) [
        | inl same ↦ grind (arith, nat_tests)
        | inr other ↦ grind (arith, nat_tests)
      ]
    ]

length-strip : (part : List ℕ) → length part ≤ length (strip_carriage_return part) + 1
length-strip part = cond_both (eqb (get_or part (length part - 1) 0) 13) (take (length part - 1) part) part (λ l. length part ≤ length l + 1)
    (λ e. omega (arith, length-take (length part - 1) part)) (λ e. omega arith)

pub said_held-held_of : (version : ℤ) (part : List ℕ) → said_held version (held_of part) ≡ said version (strip_carriage_return part)
unfolding held_of said
said_held-held_of version part =
    let n : length part ≤ length (strip_carriage_return part) + 1 = length-strip part in
    grind (arith, nat_tests)

pub said_last-held_of : (version : ℤ) (b : ℕ) (bs : List ℕ) → said_last version (held_of (b ∷ bs)) ≡ said version (b ∷ bs)
unfolding held_of said
said_last-held_of version b bs = grind (arith, nat_tests)
