-- The element of a number, where no two have one number.
use Rattle.std.proofs.Common.{◌≡◌, ℕ, zero, suc, ◌==◌, ◌<◌, if◌then◌else◌, List, [], ◌∷◌, length, get_or, map, inl, inr, refl, sym, ◌∙◌, arith}
use Rattle.std.specs.Prelude.{All, AllPairs}
use Rattle.std.proofs.lemmas.Bool.Decides.{eqb_tells}
use Rattle.std.proofs.lemmas.List.Elements.{All-head, All-tail}
use Rattle.window_list.specs.Lists.{edit}

module _ {T : Type 0} (n : T → ℕ) (f : T → T) (s : ℕ) where
  -- f of an element of this number, and each other as it is
  abbrev pub changed : T → T
  changed x = if n x == s then f x else x

  changes : (x : T) → n x ≡ s → changed x ≡ f x
  changes x e = elim (eqb_tells (n x) s) [
    | inl same ↦ λ i. if same.0 i then f x else x
    | inr differs ↦ absurd (differs.1 e)
  ]

  stays : (x : T) → (n x ≡ s → ⊥) → changed x ≡ x
  stays x apart = elim (eqb_tells (n x) s) [
    | inl same ↦ absurd (apart same.1)
    | inr differs ↦ λ i. if differs.0 i then f x else x
  ]

  all_stay : (xs : List T) → All (λ x. n x ≡ s → ⊥) xs → map changed xs ≡ xs
  all_stay [] h = refl
  all_stay (x ∷ xs) h = λ i. stays x (All-head (λ y. n y ≡ s → ⊥) x xs h) i ∷ all_stay xs (All-tail (λ y. n y ≡ s → ⊥) x xs h) i

  -- to change what stands at the place of a number is to change what has it
  pub edit_by_number : (xs : List T) (i : ℕ) (d : T) → AllPairs (λ x y. n x ≡ n y → ⊥) xs → i < length xs → n (get_or xs i d) ≡ s → edit f i xs ≡ map changed xs
  edit_by_number [] i d apart within e = absurd (omega arith)
  edit_by_number (x ∷ xs) zero d apart within e =
      λ j. sym (changes x e) j ∷ sym (all_stay xs (λ k c low same. apart 0 (suc k) c (omega arith) (omega arith) (e ∙ sym same))) j
  edit_by_number (x ∷ xs) (suc i) d apart within e =
      λ j. sym (stays x (λ same. apart 0 (suc i) d (omega arith) (omega arith) (same ∙ sym e))) j
      ∷ edit_by_number xs i d (λ a b c low high. apart (suc a) (suc b) c (omega arith) (omega arith)) (omega arith) e j
