-- What the definitions of lines say, in the words of their subject.
use Rattle.std.proofs.Common.{◌≡◌, ℕ, true, false, cond, eqb, List, [], ◌∷◌, ◌++◌, length, map, refl, sym, ap, ◌∙◌, arith}
use Rattle.std.specs.List.{slice_split, onto_first}
use Rattle.std.specs.Str.Lines.{lines, lines_of_parts, strip_carriage_return}
use Rattle.std.proofs.lemmas.Bool.{ne_eqb}
use Rattle.script_text.specs.Lines.{add_front, cut, whole_lines, last_part, if_any, lines_of}

front-parts : (b : ℕ) (lines : List (List ℕ)) (part : List ℕ) → onto_first b (lines ++ part ∷ []) ≡ (add_front b (lines, part)).0 ++ (add_front b (lines, part)).1 ∷ []
front-parts b [] part = refl
front-parts b (line ∷ lines) part = refl

parts-cut : (xs : List ℕ) → slice_split (λ b. eqb b 10) xs ≡ (cut xs).0 ++ (cut xs).1 ∷ []
parts-cut [] = refl
parts-cut (b ∷ bs) =
    elim (eqb b 10) as (λ t. cond t ([] ∷ slice_split (λ c. eqb c 10) bs) (onto_first b (slice_split (λ c. eqb c 10) bs))
    ≡ (cond t ([] ∷ (cut bs).0, (cut bs).1) (add_front b (cut bs))).0 ++ (cond t ([] ∷ (cut bs).0, (cut bs).1) (add_front b (cut bs))).1 ∷ []) [
      | true ↦ ap (λ l. [] ∷ l) (parts-cut bs)
      | false ↦ ap (onto_first b) (parts-cut bs) ∙ front-parts b (cut bs).0 (cut bs).1
    ]

lines-parts : (parts : List (List ℕ)) (last : List ℕ) → lines_of_parts (parts ++ last ∷ []) ≡ map strip_carriage_return parts ++ if_any last
lines-parts [] [] = refl
lines-parts [] (b ∷ bs) = ap (λ t. cond t [] ((b ∷ bs) ∷ [])) (ne_eqb (length (b ∷ bs)) 0 (λ e. omega (arith, e)))
lines-parts (part ∷ []) last = ap (λ l. strip_carriage_return part ∷ l) (lines-parts [] last)
lines-parts (part ∷ next ∷ parts) last = ap (λ l. strip_carriage_return part ∷ l) (lines-parts (next ∷ parts) last)

pub lines_are_lines : (script : List ℕ) → lines_of script ≡ lines script
unfolding whole_lines last_part
lines_are_lines script = sym (ap lines_of_parts (parts-cut script) ∙ lines-parts (cut script).0 (cut script).1)
